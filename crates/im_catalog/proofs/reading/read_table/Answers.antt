use Rattle.std.proofs.Common.{MatchOption, true≢false, ◌∙◌, subst, sym}
use Rattle.im_sqlmodel.specs.Tables.{IsTable}
use Rattle.im_catalog.specs.Parts.{HasParts, HasNoParts}
use Rattle.im_catalog.proofs.TableLemmas.{one-table, table-read}
use Rattle.im_catalog.proofs.reading.read_table.Goals as goal

pub returns-else-is_table-clause-none : goal.returns-else-is_table-clause-none
returns-else-is_table-clause-none c = λ e t is called same.
    let name = c.args.name.now in
    let text = c.args.text.now in
    let table = c.in-Some.table in
    let found : HasParts name text table = subst (λ found. MatchOption found (HasNoParts text) (λ table. HasParts name text table)) c.in-Some.is c.in_ok-table.ensures in
    let table_is : IsTable table = subst IsTable (sym (one-table name text table t found (table-read t is) called same)) is in
    true≢false (sym (c.is_table.ensures.1 table_is) ∙ c.if-is_table.false)

pub returns-in-None-clause-none : goal.returns-in-None-clause-none
returns-in-None-clause-none c = λ e t is called same.
    let found : HasNoParts c.args.text.now = subst (λ found. MatchOption found (HasNoParts c.args.text.now) (λ table. HasParts c.args.name.now c.args.text.now table)) c.in-None.is c.in_ok-table.ensures in
    found.none t (table-read t is) same

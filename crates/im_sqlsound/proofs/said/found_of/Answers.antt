use Rattle.std.proofs.Common.{List, Option, MatchOption, refl, subst}
use Rattle.std.specs.List.{AllZip}
use Rattle.im_sqlmodel.specs.Keys.{index_prefix, rows_prefix}
use Rattle.im_sqlmodel.specs.Rows.{IsIndexVersion, IsStoredRow}
use Rattle.im_sqlmodel.specs.declared.rows.StoredRow.{StoredRow}
use Rattle.im_sqlmodel.specs.declared.tables.SqlIndex.{SqlIndex}
use Rattle.im_sqlmodel.specs.declared.tables.Table.{Table}
use Rattle.im_sqlsound.specs.Sounding.{under, NoneAreSaid}
use Rattle.im_sqlsound.proofs.said.found_of.Goals as goal

pub returns-in_default : goal.returns-in_default
returns-in_default c = λ f same is.
    let own = under (index_prefix c.args.table.tid) c.args.shown.now in
    let none = subst (λ (o : Option (List SqlIndex)). MatchOption o (NoneAreSaid (IsIndexVersion c.args.table) own) (AllZip (IsIndexVersion c.args.table) own)) c.in_default.is c.in_ok-indexes.ensures in
    none f.indexes (subst (λ (t : Table). AllZip (IsIndexVersion t) (under (index_prefix t.tid) c.args.shown.now) f.indexes) same is.indexes)

pub returns-in_default-2 : goal.returns-in_default-2
returns-in_default-2 c = λ f same is.
    let own = under (rows_prefix c.args.table.tid) c.args.shown.now in
    let none = subst (λ (o : Option (List StoredRow)). MatchOption o (NoneAreSaid (IsStoredRow c.args.table) own) (AllZip (IsStoredRow c.args.table) own)) c.in_default-2.is c.in_ok-rows.ensures in
    none f.rows (subst (λ (t : Table). AllZip (IsStoredRow t) (under (rows_prefix t.tid) c.args.shown.now) f.rows) same is.rows)

pub returns : goal.returns
returns c =
    let t = c.args.table in
    let indexes_under = under (index_prefix t.tid) c.args.shown.now in
    let rows_under = under (rows_prefix t.tid) c.args.shown.now in (
      refl,
      record {
        table = c.requires.table;
        indexes = subst (λ (o : Option (List SqlIndex)). MatchOption o (NoneAreSaid (IsIndexVersion t) indexes_under) (AllZip (IsIndexVersion t) indexes_under)) c.in-Some.is c.in_ok-indexes.ensures;
        rows = subst (λ (o : Option (List StoredRow)). MatchOption o (NoneAreSaid (IsStoredRow t) rows_under) (AllZip (IsStoredRow t) rows_under)) c.in-Some-2.is c.in_ok-rows.ensures;
      },
    )

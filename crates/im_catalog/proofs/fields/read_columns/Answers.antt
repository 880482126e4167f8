use Rattle.std.proofs.Common.{MatchOption, ◌+◌, subst, sym}
use Rattle.im_sqlmodel.specs.Tables.{column_text}
use Rattle.im_catalog.specs.Fronts.{StandsFirst, NoneStandsFirst, AreMany}
use Rattle.im_catalog.specs.Parts.{IsColumn, columns_text}
use Rattle.im_catalog.proofs.CutLemmas.{many-more, many-none}
use Rattle.im_catalog.proofs.ColumnLemmas.{column-cut}
use Rattle.im_catalog.proofs.fields.read_columns.Goals as goal

pub loop-at-preserved : goal.loop-at-preserved
loop-at-preserved c =
    let text = c.args.text.now in
    let left = c.loop-at.left.now in
    let rest = c.in-Some.rest.now in
    subst (λ columns. StandsFirst (AreMany IsColumn (c.loop-at._at + 1)) columns_text text columns rest) (sym c.in_ok-push.ensures.items)
    (many-more IsColumn column_text text left rest c.loop-at.columns.items c.in-Some.column c.loop-at._at c.loop-at.invariant
    (subst (λ found. MatchOption found (NoneStandsFirst IsColumn column_text left) (λ front. StandsFirst IsColumn column_text left front.0 front.1.now)) c.in-Some.is c.in_ok-column.ensures))

pub returns-in_default : goal.returns-in_default
returns-in_default c =
    let left = c.loop-at.left.now in
    many-none IsColumn column_text column-cut c.args.text.now left c.loop-at.columns.items c.loop-at._at c.args.count c.loop-at-test.true c.loop-at.invariant
    (subst (λ found. MatchOption found (NoneStandsFirst IsColumn column_text left) (λ front. StandsFirst IsColumn column_text left front.0 front.1.now)) c.in_default.is c.in_ok-column.ensures)

use Rattle.std.proofs.Common.{◌<◌, ◌^◌, ◌+◌, [], List, take, sym, subst}
use Rattle.std.specs.List.{AllZip}
use Rattle.im_sqltype.specs.declared.values.Value.{Value}
use Rattle.im_sqlmodel.specs.Rows.{IsRevision}
use Rattle.im_catalog.specs.Numbered.{pairs_of}
use Rattle.im_catalog.specs.Rows.{HasRowText}
use Rattle.im_catalog.specs.declared.histories.Numbered.{Numbered}
use Rattle.im_catalog.proofs.RevisionLemmas.{zip-pairs, zip-all}
use Rattle.im_catalog.proofs.histories.rows_of.Goals as goal

pub loop-one-init : goal.loop-one-init
loop-one-init c = subst (λ (rows : List (List Value)). AllZip (IsRevision c.args.table.now) [] rows) (sym c.in_ok-rows.ensures.items) tt

pub revision_of-requires-clause-number : goal.revision_of-requires-clause-number
revision_of-requires-clause-number c =
    subst (λ (n : Numbered). n.number < 2 ^ 63) (sym c.one-item.is) (c.requires.numbers c.loop-one.one-index c.one-item.result c.loop-one-test.true)

pub revision_of-requires-clause-text : goal.revision_of-requires-clause-text
revision_of-requires-clause-text c =
    subst (λ (n : Numbered). HasRowText c.args.table.now n.version.now.key n.version.now.value) (sym c.one-item.is)
    (c.requires.texts c.loop-one.one-index c.one-item.result c.loop-one-test.true)

pub loop-one-preserved : goal.loop-one-preserved
loop-one-preserved c =
    subst (λ (rows : List (List Value)). AllZip (IsRevision c.args.table.now) (take (c.loop-one.one-index + 1) (pairs_of c.args.numbered.now)) rows) (sym c.in_ok-push.ensures.items)
    (zip-pairs (IsRevision c.args.table.now) c.args.numbered.now c.loop-one.rows.items c.loop-one.one-index c.one-item.result c.in_ok-row.row
    c.loop-one-test.true c.one-item.is c.loop-one.invariant c.in_ok-row.ensures)

pub returns : goal.returns
returns c = zip-all (IsRevision c.args.table.now) c.args.numbered.now c.loop-one.rows.items c.loop-one.one-index c.loop-one-test.false c.loop-one.invariant

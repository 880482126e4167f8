use Rattle.std.proofs.Common.{ap, sym, ◌∙◌, arith, None, Some}
use Rattle.std.specs.List.{last_or}
use Rattle.im_versions.specs.Versions.{is_of}
use Rattle.im_index.proofs.FoundLemmas.{found-nowhere, found-other, found-some}
use Rattle.im_index.proofs.search.last_in.Goals as goal

pub returns-then-end-eq0-clause-last : goal.returns-then-end-eq0-clause-last
returns-then-end-eq0-clause-last g c =
    sym (ap (last_or None) (found-nowhere c.args.key.now c.args.n c.args.run.now c.place-end.result c.requires c.place-end.ensures.within c.place-end.ensures.parted (omega arith)))

pub returns-then-end-eq0-clause-cost : goal.returns-then-end-eq0-clause-cost
returns-then-end-eq0-clause-cost g c = λ b fits. omega (arith, c.place-end.ensures.cost b fits)

pub returns-then-is_of-clause-last : goal.returns-then-is_of-clause-last
returns-then-is_of-clause-last g c =
    let key = c.args.key.now in
    let v = c.index-run-at.result in
    let is = ap (is_of key) (sym c.version-last.ensures) ∙ sym c.is_of.ensures.value ∙ c.if-is_of.true in
    ap Some c.version-last.ensures
    ∙ sym (found-some key c.args.n c.args.run.now c.place-end.result _ v c.place-end.ensures.within c.place-end.ensures.parted (omega arith) c.index-run-at.is is)

pub returns-then-is_of-clause-cost : goal.returns-then-is_of-clause-cost
returns-then-is_of-clause-cost g c = λ b fits. omega (arith, c.place-end.ensures.cost b fits, c.is_of.ensures.cost)

pub returns-clause-last : goal.returns-clause-last
returns-clause-last g c =
    let key = c.args.key.now in
    let run = c.args.run.now in
    let other = ap (is_of key) (sym c.version-last.ensures) ∙ sym c.is_of.ensures.value ∙ c.if-is_of.false in
    sym (ap (last_or None) (found-other key c.args.n run c.place-end.result _ c.index-run-at.result c.requires c.place-end.ensures.within c.place-end.ensures.parted (omega arith) c.index-run-at.is other))

pub returns-clause-cost : goal.returns-clause-cost
returns-clause-cost g c = λ b fits. omega (arith, c.place-end.ensures.cost b fits, c.is_of.ensures.cost)

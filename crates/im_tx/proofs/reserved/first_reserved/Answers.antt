use Rattle.std.proofs.Common.{◌≡◌, ℕ, List, ◌∷◌, arith, subst, ap, ◌∙◌}
use Rattle.std.proofs.lemmas.List.{take_all}
use Rattle.std.proofs.lemmas.List.Elements.{All-more}
use Rattle.std.proofs.lemmas.Bool.{both_ways}
use Rattle.im_draft.specs.Drafts.{AreFree}
use Rattle.im_draft.specs.declared.drafts.Draft.{Draft}
use Rattle.im_tx.proofs.reserved.first_reserved.Goals as goal

pub loop-i-preserved : goal.loop-i-preserved
loop-i-preserved c =
    All-more (λ (d : Draft). (rest : List ℕ) → d.key ≡ 0 ∷ rest → ⊥) c.args.drafts.now c.loop-i.i c.index-drafts-i.result (omega arith)
    c.loop-i.invariant (λ rest e. both_ways c.is_reserved.result c.if-is_reserved.false (c.is_reserved.ensures.1 (rest, ap (λ (d : Draft). d.key) c.index-drafts-i.is ∙ e)))

pub returns-clause-none : goal.returns-clause-none
returns-clause-none c = subst AreFree (take_all c.loop-i.i c.args.drafts.now (omega arith)) c.loop-i.invariant

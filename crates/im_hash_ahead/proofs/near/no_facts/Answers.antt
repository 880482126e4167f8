use Rattle.std.proofs.Common.{List, All, sym, subst}
use Rattle.std.proofs.lemmas.List.Elements.{All-nil, All-push}
use Rattle.im_hash_ahead.specs.Facts.{AreFacts, IsFact}
use Rattle.im_hash_ahead.specs.declared.facts.Fact.{Fact}
use Rattle.im_hash_ahead.proofs.near.no_facts.Goals as goal

pub loop-i-preserved : goal.loop-i-preserved
loop-i-preserved c hash =
    subst (λ (near : List (List Fact)). All (AreFacts hash) near) (sym c.in_ok-push.ensures.items)
    (All-push (AreFacts hash) c.loop-i.near.items c.with_room.result (c.loop-i.invariant hash)
    (subst (AreFacts hash) (sym c.with_room.ensures) (All-nil (IsFact hash))))

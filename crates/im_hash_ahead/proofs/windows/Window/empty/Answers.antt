use Rattle.std.proofs.Common.{sym, subst, List, All}
use Rattle.std.proofs.lemmas.List.Elements.{All-nil}
use Rattle.im_hash_ahead.specs.Facts.{AreFacts, IsFact}
use Rattle.im_hash_ahead.specs.declared.facts.Fact.{Fact}
use Rattle.im_hash_ahead.proofs.windows.Window.empty.Goals as goal

pub returns : goal.returns
returns c hash = record {
  far = subst (AreFacts hash) (sym c.with_room.ensures) (All-nil (IsFact hash));
  near = subst (λ (l : List (List Fact)). All (AreFacts hash) l) (sym c.new.ensures.items) (All-nil (AreFacts hash));
  next = subst (AreFacts hash) (sym c.with_room-2.ensures) (All-nil (IsFact hash));
}

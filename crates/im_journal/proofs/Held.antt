-- What is durable is held, whatever a call of the disk was answered.
use Rattle.std.proofs.Common.{◌≡◌, ℕ, ◌+◌, ◌≤◌, List, [], length, take, drop, sym, ◌∙◌, ap, subst, arith, inl, inr}
use Rattle.std.specs.Prelude.{◌⊎◌, Option, IfSome}
use Rattle.im_digest.specs.Digests.{Hash}
use Rattle.im_disk.specs.Disk.{Files, Images, Told}
use Rattle.im_disk.specs.Moments.{LeavesNow}
use Rattle.im_disk.proofs.Leaving.{if_told}
use Rattle.im_model.specs.declared.transactions.Transaction.{Transaction}
use Rattle.im_format.specs.Batches.{gate_of, spans_of}
use Rattle.im_format.specs.Standing.{Stands, StandsFrom}
use Rattle.im_format.specs.declared.records.Record.{Record}
use Rattle.im_format.specs.declared.spans.Span.{Span}
use Rattle.im_journal.specs.Durable.{HoldsDurable}
use Rattle.im_journal.specs.Holding.{AreFirst}
use Rattle.im_journal.specs.Kept.{IsInBatch, Kept, StandsBy}
use Rattle.im_journal.specs.Phases.{IsGated, IsSealed, IsStaging, ReadsAll}
use Rattle.im_journal.specs.Pieces.{end_of}
use Rattle.im_journal.specs.declared.batches.Step.{Step}
use Rattle.im_journal.specs.declared.batches.Step.TheVariants.{Staging, Staged, Sealed, Gated}
use Rattle.im_journal.specs.declared.ends.Ends.{Ends}
use Rattle.im_journal.proofs.Mids.{at_step, gate_is, gated_at_last}

-- what reads give behind the call that writes pieces
pub put_here : {D : Type 0} (told : D → Option Told) (hash : Hash) (history : List Transaction) (batches : List (List Record)) (rs : List Record) (k now : Kept D) (is : k ≡ now)
    → IsInBatch told hash history batches rs now → now.batch.step ≡ Staging → (ps : List Span) → ps ≡ k.batch.pieces → (b : Option Told)
    → (IfSome (told k.disk) (IsStaging (end_of k.ends) (spans_of batches) (gate_of (length batches)) (take k.batch.written ps) (drop k.batch.written ps)) → IfSome b (ReadsAll (spans_of batches)))
    → IfSome b (ReadsAll (spans_of batches))
put_here {D} told hash history batches rs k now is mid staging ps same b call =
    let m = subst (λ (x : Kept D). IsInBatch told hash history batches rs x) (sym is) mid in
    let at = at_step told hash history batches rs k m Staging (ap (λ (x : Kept D). x.batch.step) is ∙ staging) in
    call (subst (λ (l : List Span). IfSome (told k.disk) (IsStaging (end_of k.ends) (spans_of batches) (gate_of (length batches)) (take k.batch.written l) (drop k.batch.written l))) (sym same) at)

-- and the one that makes them durable
pub seal_here : {D : Type 0} (told : D → Option Told) (hash : Hash) (history : List Transaction) (batches : List (List Record)) (rs : List Record) (k now : Kept D) (is : k ≡ now)
    → IsInBatch told hash history batches rs now → now.batch.step ≡ Staged → (b : Option Told)
    → (IfSome (told k.disk) (IsStaging (end_of k.ends) (spans_of batches) (gate_of (length batches)) k.batch.pieces []) → IfSome b (ReadsAll (spans_of batches)))
    → IfSome b (ReadsAll (spans_of batches))
seal_here {D} told hash history batches rs k now is mid staged b call =
    let m = subst (λ (x : Kept D). IsInBatch told hash history batches rs x) (sym is) mid in
    call (at_step told hash history batches rs k m Staged (ap (λ (x : Kept D). x.batch.step) is ∙ staged))

-- and the one that opens the gate
pub open_here : {D : Type 0} (told : D → Option Told) (hash : Hash) (history : List Transaction) (batches : List (List Record)) (rs : List Record) (k now : Kept D) (is : k ≡ now)
    → IsInBatch told hash history batches rs now → now.batch.step ≡ Sealed → (b : Option Told)
    → (IfSome (told k.disk) (IsSealed (end_of k.ends) (spans_of batches) k.ends.commits k.batch.pieces) → IfSome b (ReadsAll (spans_of batches)))
    → IfSome b (ReadsAll (spans_of batches))
open_here {D} told hash history batches rs k now is mid sealed b call =
    let m = subst (λ (x : Kept D). IsInBatch told hash history batches rs x) (sym is) mid in
    let at = at_step told hash history batches rs k m Sealed (ap (λ (x : Kept D). x.batch.step) is ∙ sealed) in
    call (subst (λ (n : ℕ). IfSome (told k.disk) (IsSealed (end_of k.ends) (spans_of batches) n k.batch.pieces)) (sym (gate_is told hash history batches rs k m)) at)

-- and the one that makes it durable
pub settle_here : {D : Type 0} (told : D → Option Told) (hash : Hash) (history : List Transaction) (batches : List (List Record)) (rs : List Record) (k now : Kept D) (is : k ≡ now)
    → IsInBatch told hash history batches rs now → now.batch.step ≡ Gated → (b : Option Told)
    → (IfSome (told k.disk) (IsGated (end_of k.ends) (spans_of batches) (gate_of (length batches)) k.batch.pieces) → IfSome b (ReadsAll (spans_of batches)))
    → IfSome b (ReadsAll (spans_of batches))
settle_here {D} told hash history batches rs k now is mid gated b call =
    let m = subst (λ (x : Kept D). IsInBatch told hash history batches rs x) (sym is) mid in
    call (at_step told hash history batches rs k m Gated (ap (λ (x : Kept D). x.batch.step) is ∙ gated))

-- an image without the batch, or with it, stands for a front part that holds what is durable
pub from_either : (hash : Hash) (history : List Transaction) (durable count : ℕ) (image : Files) → durable ≤ length history → durable + count ≤ length history
    → Stands hash image (take durable history) ⊎ Stands hash image (take (durable + count) history) → StandsFrom hash durable history image
from_either hash history durable count image placed more (inl h) = record { count = durable; no_fewer = omega arith; no_more = placed; stands = h }
from_either hash history durable count image placed more (inr h) = record { count = durable + count; no_fewer = omega arith; no_more = more; stands = h }

-- a step of a batch that moves neither what is durable nor the ends keeps what is durable
pub held_by : {D : Type 0} (told : D → Option Told) (hash : Hash) (history : List Transaction) (batches : List (List Record)) (rs : List Record) (k now : Kept D) (s : Step)
    → IsInBatch told hash history batches rs k → now.ends ≡ k.ends → now.durable ≡ k.durable → LeavesNow (StandsBy s hash history k.durable (length rs)) (told now.disk)
    → IfSome (told now.disk) (ReadsAll (spans_of batches)) → HoldsDurable told hash history batches now
held_by {D} told hash history batches rs k now s mid ends durable leaves here = record {
  first = subst (λ (n : ℕ). AreFirst hash history batches n now.ends) (sym durable) (subst (λ (e : Ends). AreFirst hash history batches k.durable e) (sym ends) mid.first);
  reads = here;
  images = subst (λ (n : ℕ). LeavesNow (StandsFrom hash n history) (told now.disk)) (sym durable)
      (if_told (λ t. (image : Files) → Images t image → StandsBy s hash history k.durable (length rs) image) (λ t. (image : Files) → Images t image → StandsFrom hash k.durable history image)
      (λ t h image from. from_either hash history k.durable (length rs) image mid.first.placed mid.next.placed (gated_at_last s hash history k.durable (length rs) image (h image from)))
      (told now.disk) leaves);
}

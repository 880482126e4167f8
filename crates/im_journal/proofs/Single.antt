-- One piece of a batch at a time.
use Rattle.std.proofs.Common.{◌≡◌, ℕ, ◌<◌, Bool, true, false, List, length, take, drop, refl, subst, arith, length-append}
use Rattle.std.proofs.lemmas.Bool.{ltb-false}
use Rattle.std.proofs.lemmas.List.{drop_all, take_all}
use Rattle.std.specs.Prelude.{nat_lt, if◌then◌else◌, Option, IfSome, Result}
use Rattle.im_disk.specs.Disk.{Told}
use Rattle.im_disk.specs.declared.disk.DiskError.{DiskError}
use Rattle.im_disk.specs.declared.disk.DiskError.TheVariants as Disk
use Rattle.im_format.specs.declared.records.Record.{Record}
use Rattle.im_format.specs.declared.spans.Span.{Span}
use Rattle.im_journal.specs.Kept.{IsAtStep, Kept, step_behind}
use Rattle.im_journal.specs.Made.{Makes, call_to_put, writes_of}
use Rattle.im_journal.specs.Phases.{IsStaging}
use Rattle.im_journal.specs.Pieces.{log_pieces, pieces_of, value_pieces}
use Rattle.im_journal.specs.declared.batches.Step.TheVariants.{Staging, Staged}
use Rattle.im_journal.specs.declared.errors.JournalError.TheVariants.{DiskFault, Memory}
use Rattle.im_journal.specs.declared.ends.Ends.{Ends}
use Rattle.im_journal.proofs.Making.{answer_of, made_by}

-- with so many pieces written the disk is as far as the step says
pub put_at : (o : Option Told) (ends : ℕ → ℕ) (spans : List Span) (gate : ℕ) (ps : List Span) (written : ℕ) → IfSome o (IsStaging ends spans gate (take written ps) (drop written ps))
    → IsAtStep (step_behind written (length ps)) o ends spans gate ps written
put_at o ends spans gate ps written h = go (nat_lt written (length ps)) refl
  where
    go : (b : Bool) → nat_lt written (length ps) ≡ b → IsAtStep (if b then Staging else Staged) o ends spans gate ps written
    go true is = h
    go false is =
        let past = ltb-false written (length ps) is in
        subst (λ (l : List Span). IfSome o (IsStaging ends spans gate ps l)) (drop_all written ps past)
        (subst (λ (l : List Span). IfSome o (IsStaging ends spans gate l (drop written ps))) (take_all written ps past) h)

-- what the journal's call makes of the disk's
pub one_put : {D T : Type 0} (told : D → Option Told) (k now : Kept D) → k ≡ now → (ps : List Span) → ps ≡ k.batch.pieces → (n : Option Told) (r : Result T DiskError)
    → Makes Disk.Failed Disk.Memory (writes_of (take 1 (drop k.batch.written ps))) (writes_of (take 1 (drop k.batch.written ps))) (told k.disk) n r
    → Makes DiskFault Memory (call_to_put now) (call_to_put now) (told now.disk) n (answer_of r)
one_put {D} {T} told k now is ps same n r m =
    made_by told (λ x. call_to_put x) (λ x. call_to_put x) k now is n r
    (subst (λ (l : List Span). Makes Disk.Failed Disk.Memory (writes_of (take 1 (drop k.batch.written l))) (writes_of (take 1 (drop k.batch.written l))) (told k.disk) n r) same m)

-- a batch has a piece: its records, and its octets behind the gate
pub has_piece : (ends : Ends) (id : ℕ) (rs : List Record) → 0 < length (pieces_of ends id rs)
has_piece ends id rs = omega (arith, length-append (value_pieces ends rs) (log_pieces ends id rs))

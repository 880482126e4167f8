-- Which changing calls of the disk the steps of a batch make.
use Rattle.std.specs.Prelude.{◌≡◌, ◌+◌, ℕ, List, [], ◌∷◌, ◌++◌, length, take, drop, Option, Result, OnOk, IsErrOf}
use Rattle.std.specs.Option.{option_map}
use Rattle.im_disk.specs.Disk.{Told, after}
use Rattle.im_disk.specs.Grown.{after_all}
use Rattle.im_disk.specs.declared.calls.Call.{Call}
use Rattle.im_disk.specs.declared.calls.Call.TheVariants.{Wrote, Tore, Synced, Missed}
use Rattle.im_format.specs.declared.records.Record.{Record}
use Rattle.im_format.specs.declared.spans.Span.{Span}
use Rattle.im_journal.specs.Kept.{Kept}
use Rattle.im_journal.specs.Pieces.{pieces_of}
use Rattle.im_journal.specs.declared.batches.Step.{Step}
use Rattle.im_journal.specs.declared.batches.Step.TheVariants.{Idle, Staging, Staged, Sealed, Gated}

-- one write for each span, in order
abbrev pub writes_of : List Span → List Call
writes_of [] = []
writes_of (span ∷ spans) = Wrote span.file span.at span.octets ∷ writes_of spans

-- what a call is told as where the disk fails at it
abbrev pub failed_call : Call → Call
failed_call (Wrote file at piece) = Tore file at (length piece)
failed_call (Tore file at n) = Tore file at n
failed_call Synced = Missed
failed_call Missed = Missed

-- of these calls those before the ones that are left were made, in order, and no other call
pub record MadeUpTo (calls left : List Call) (before now : Option Told) : Type 0 where
  pub made : List Call
  pub split : calls ≡ made ++ left
  pub told : now ≡ option_map (after_all made) before

-- What a step does that is to make these calls: where it succeeds it makes all of them, in order, and no other. Where
-- memory ran out it made those before the ones that it says are left. Where the disk failed it made a front part,
-- and the next one failed. Of its other errors nothing is said.
pub record Makes {T E : Type 0} (fault memory : E) (calls left : List Call) (before now : Option Told) (result : Result T E) : Type 0 where
  pub ok : OnOk result (now ≡ option_map (after_all calls) before)
  pub failed : IsErrOf result fault
      → (call : Call) × (behind : List Call) × (middle : Option Told) × MadeUpTo calls (call ∷ behind) before middle × (now ≡ option_map (after (failed_call call)) middle)
  pub ran_out : IsErrOf result memory → MadeUpTo calls left before now

-- the spans that staging still writes: those of a batch of the records handed in where none is in progress, else
-- what is left of the batch in progress
abbrev pub spans_to_stage : {D : Type 0} → Step → Kept D → List Record → List Span
spans_to_stage Idle k handed = pieces_of k.ends (k.durable + 1) handed
spans_to_stage Staging k handed = drop k.batch.written k.batch.pieces
spans_to_stage Staged k handed = []
spans_to_stage Sealed k handed = []
spans_to_stage Gated k handed = []

-- the calls of staging: one write for each of them
abbrev pub calls_to_stage : {D : Type 0} → Kept D → List Record → List Call
calls_to_stage k handed = writes_of (spans_to_stage k.batch.step k handed)

-- the call of writing the next piece of the batch in progress: none where all are written
abbrev pub call_to_put : {D : Type 0} → Kept D → List Call
call_to_put k = writes_of (take 1 (drop k.batch.written k.batch.pieces))

-- the calls of sealing at a step: one sync, where it isn't done
abbrev pub calls_to_seal : Step → List Call
calls_to_seal Idle = []
calls_to_seal Staging = []
calls_to_seal Staged = Synced ∷ []
calls_to_seal Sealed = []
calls_to_seal Gated = []

-- those of settling: the write of the octet 01 at the gate, where it isn't done, and then one sync
abbrev pub calls_to_settle : Step → ℕ → List Call
calls_to_settle Idle gate = []
calls_to_settle Staging gate = []
calls_to_settle Staged gate = []
calls_to_settle Sealed gate = Wrote 1 gate (1 ∷ []) ∷ Synced ∷ []
calls_to_settle Gated gate = Synced ∷ []

-- What a journal keeps, and the states that it goes through.
use Rattle.std.specs.Prelude.{◌≡◌, ◌⊎◌, ◌+◌, ℕ, List, [], length, take, drop, nat_lt, if◌then◌else◌, Option, IfSome}
use Rattle.im_digest.specs.Digests.{Hash}
use Rattle.im_disk.specs.Disk.{Files, Told}
use Rattle.im_model.specs.declared.transactions.Transaction.{Transaction}
use Rattle.im_format.specs.Batches.{gate_of, spans_of}
use Rattle.im_format.specs.Standing.{Stands}
use Rattle.im_format.specs.declared.records.Record.{Record}
use Rattle.im_format.specs.declared.spans.Span.{Span}
use Rattle.im_journal.specs.Holding.{AreFirst, AreNext, IsResting}
use Rattle.im_journal.specs.Phases.{IsStaging, IsSealed, IsGated}
use Rattle.im_journal.specs.Pieces.{end_of, ends_after, pieces_of}
use Rattle.im_journal.specs.declared.batches.Step.{Step}
use Rattle.im_journal.specs.declared.batches.Step.TheVariants.{Idle, Staging, Staged, Sealed, Gated}
use Rattle.im_journal.specs.declared.ends.Ends.{Ends}

-- the batch in progress: how far it is, its writes and how many of them are done, where the files end behind
-- it, and how many transactions it has
pub record Batch : Type 0 where
  pub step : Step
  pub pieces : List Span
  pub written : ℕ
  pub ends : Ends
  pub count : ℕ

-- a journal: its disk, where the files end, how many transactions are durable, the batch in progress, and how
-- many calls of the disk have failed
pub record Kept (D : Type 0) : Type 0 where
  pub disk : D
  pub ends : Ends
  pub durable : ℕ
  pub batch : Batch
  pub failures : ℕ

-- how far a batch is of which so many pieces are written, of so many
abbrev pub step_behind : ℕ → ℕ → Step
step_behind written count = if nat_lt written count then Staging else Staged

-- a batch is in progress, and all of it is written but for its gate
abbrev pub HasStaged : Step → Type 0
HasStaged Idle = ⊥
HasStaged Staging = ⊥
HasStaged Staged = Unit {0}
HasStaged Sealed = Unit {0}
HasStaged Gated = Unit {0}

-- and that is durable
abbrev pub HasSealed : Step → Type 0
HasSealed Idle = ⊥
HasSealed Staging = ⊥
HasSealed Staged = ⊥
HasSealed Sealed = Unit {0}
HasSealed Gated = Unit {0}

-- no batch is in progress, and the disk has these batches: the first `durable` of the placed history
pub record IsAtRest {D : Type 0} (told : D → Option Told) (hash : Hash) (history : List Transaction) (batches : List (List Record)) (k : Kept D) : Type 0 where
  pub idle : k.batch.step ≡ Idle
  pub first : AreFirst hash history batches k.durable k.ends
  pub resting : IfSome (told k.disk) (IsResting batches k.ends)

-- how far the disk is with a batch
abbrev pub IsAtStep : Step → Option Told → (ℕ → ℕ) → List Span → ℕ → List Span → ℕ → Type 0
IsAtStep Idle told ends spans gate pieces written = ⊥
IsAtStep Staging told ends spans gate pieces written = IfSome told (IsStaging ends spans gate (take written pieces) (drop written pieces))
IsAtStep Staged told ends spans gate pieces written = IfSome told (IsStaging ends spans gate pieces [])
IsAtStep Sealed told ends spans gate pieces written = IfSome told (IsSealed ends spans gate pieces)
IsAtStep Gated told ends spans gate pieces written = IfSome told (IsGated ends spans gate pieces)

-- a batch of these records is in progress, behind these batches: the first `durable` of the placed history
pub record IsInBatch {D : Type 0} (told : D → Option Told) (hash : Hash) (history : List Transaction) (batches : List (List Record)) (rs : List Record) (k : Kept D) : Type 0 where
  pub first : AreFirst hash history batches k.durable k.ends
  pub next : AreNext hash history batches k.durable rs
  pub pieces : k.batch.pieces ≡ pieces_of k.ends (k.durable + 1) rs
  pub ends : k.batch.ends ≡ ends_after k.ends (k.durable + 1) rs
  pub count : k.batch.count ≡ length rs
  pub at : IsAtStep k.batch.step (told k.disk) (end_of k.ends) (spans_of batches) (gate_of (length batches)) k.batch.pieces k.batch.written

-- a batch of the records rs is in progress, or can be begun with them where they are those handed in
abbrev pub CanStage : {D : Type 0} → (D → Option Told) → Hash → List Transaction → List (List Record) → List Record → List Record → Kept D → Type 0
CanStage told hash history batches rs handed k =
    (IsAtRest told hash history batches k × AreNext hash history batches k.durable rs × (handed ≡ rs)) ⊎ IsInBatch told hash history batches rs k

-- what an image stands for at a step of a batch of so many: the first `durable` of the placed history, or once the
-- gate is written those of the batch too
abbrev pub StandsBy : Step → Hash → List Transaction → ℕ → ℕ → Files → Type 0
StandsBy Idle hash history durable count image = Stands hash image (take durable history)
StandsBy Staging hash history durable count image = Stands hash image (take durable history)
StandsBy Staged hash history durable count image = Stands hash image (take durable history)
StandsBy Sealed hash history durable count image = Stands hash image (take durable history)
StandsBy Gated hash history durable count image =
    Stands hash image (take durable history) ⊎ Stands hash image (take (durable + count) history)

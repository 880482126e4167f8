-- What a wait for durability answers.
use Rattle.std.specs.Prelude.{◌≡◌, ◌<◌, ◌≤◌, ℕ, Result, Ok, Err}
use Rattle.im_journal.specs.declared.errors.JournalError.{JournalError}
use Rattle.im_journal.specs.declared.errors.JournalError.TheVariants as halts
use Rattle.im_table.specs.Known.{KnownPass}
use Rattle.im_store.specs.Loads.{IsLoaded, SawFailures, SawFewer}
use Rattle.im_store.specs.declared.errors.SettleError.{SettleError}
use Rattle.im_store.specs.declared.errors.SettleError.TheVariants.{Beyond, DiskFault, Memory, Stopped}

-- how many failures an answer of the journal tells of its own call
abbrev pub faults_told : {T : Type 0} → Result T JournalError → ℕ
faults_told (Ok u) = 0
faults_told (Err halts.DiskFault) = 1
faults_told (Err (halts.Stopped faults)) = 0
faults_told (Err halts.Memory) = 0

-- why a number isn't durable: a call of the disk failed, which the pass knows, and it knew of none before; or calls had failed; or memory
-- ran out
abbrev pub ExplainsHalt : KnownPass → KnownPass → JournalError → Type 0
ExplainsHalt old new halts.DiskFault = (1 ≤ new.view.least.failed) × (old.view.least.failed ≡ 0)
ExplainsHalt old new (halts.Stopped faults) = SawFailures old new faults
ExplainsHalt old new halts.Memory = Unit {0}

-- the journal had stopped
abbrev pub HasHalted : {T : Type 0} → Result T JournalError → Type 0
HasHalted (Ok u) = ⊥
HasHalted (Err halts.DiskFault) = ⊥
HasHalted (Err (halts.Stopped faults)) = Unit {0}
HasHalted (Err halts.Memory) = ⊥

-- how many failures `settle` told
abbrev pub faults_settling : {T : Type 0} → Result T SettleError → ℕ
faults_settling (Ok u) = 0
faults_settling (Err (Beyond placed)) = 0
faults_settling (Err DiskFault) = 1
faults_settling (Err (Stopped faults)) = 0
faults_settling (Err Memory) = 0

-- no fewer are placed, as loaded in the call
pub record IsWithin (old new : KnownPass) (n : ℕ) : Type 0 where
  pub placed : ℕ
  pub loaded : IsLoaded old.view.looks.placed new.view.looks.placed placed
  pub within : n ≤ placed

-- but fewer were durable, as loaded in the call
pub record IsUnsettled (old new : KnownPass) (n : ℕ) : Type 0 where
  pub within : IsWithin old new n
  pub fewer : SawFewer old new n

-- `settle` answers that calls of the disk had failed before
abbrev pub HasStoppedSettling : {T : Type 0} → Result T SettleError → Type 0
HasStoppedSettling (Ok u) = ⊥
HasStoppedSettling (Err (Beyond placed)) = ⊥
HasStoppedSettling (Err DiskFault) = ⊥
HasStoppedSettling (Err (Stopped faults)) = Unit {0}
HasStoppedSettling (Err Memory) = ⊥

-- what `settle` answers of number n: it is beyond what is placed, as it was loaded in the call, exactly where that is told; on success
-- it is durable; and else fewer were durable, as loaded in the call. Of a call of the disk that failed the pass knows, and it knew of none
-- before; and the journal stops only where such calls had failed
abbrev pub AnswersSettle : {T : Type 0} → KnownPass → KnownPass → ℕ → Result T SettleError → Type 0
AnswersSettle old new n (Ok u) = IsWithin old new n × (n ≤ new.view.least.durable)
AnswersSettle old new n (Err (Beyond placed)) = IsLoaded old.view.looks.placed new.view.looks.placed placed × (placed < n)
AnswersSettle old new n (Err DiskFault) = IsUnsettled old new n × (1 ≤ new.view.least.failed) × (old.view.least.failed ≡ 0)
AnswersSettle old new n (Err (Stopped faults)) = IsUnsettled old new n × SawFailures old new faults
AnswersSettle old new n (Err Memory) = IsUnsettled old new n

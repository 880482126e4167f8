-- A disk that burns through, by what the disk within tells.
use Rattle.std.specs.Prelude.{◌≡◌, ◌<◌, ◌+◌, ◌-◌, ℕ, List, [], ◌∷◌, ◌++◌, All, IsTrue, length, reverse, Option, Result, Ok, Err, OnOk, IsErr, IsErrOf}
use Rattle.std.specs.Option.{option_map}
use Rattle.im_disk.specs.declared.calls.Call.{Call}
use Rattle.im_disk.specs.declared.disk.DiskError.{DiskError}
use Rattle.im_disk.specs.declared.disk.DiskError.TheVariants.{Failed, Memory}
use Rattle.im_disk.specs.Disk.{Told, after}
use Rattle.im_disk.specs.Recorded.{is_failure}

-- the disk within, how many changing calls are still passed on to it, and those that failed here, the first one first
pub record Fused (D : Type 0) : Type 0 where
  pub disk : D
  pub calls_left : ℕ
  pub failed : List Call

-- what a disk tells, with more calls behind its own, the first of them first
abbrev pub with_calls : List Call → Told → Told
with_calls calls t = record { first = t.first; calls = reverse calls ++ t.calls }

-- what such a disk tells, where the disk within does
abbrev pub told_through : {D : Type 0} → (D → Option Told) → Fused D → Option Told
told_through told d = option_map (with_calls d.failed) (told d.disk)

-- how often it has failed, with the disk within
abbrev pub faults_through : {D : Type 0} → (D → ℕ) → Fused D → ℕ
faults_through faults d = faults d.disk + length d.failed

-- the calls that failed here came behind the last one that was passed on, and each of them is a failure
pub record IsOrderly (calls_left : ℕ) (failed : List Call) : Type 0 where
  pub behind : 0 < calls_left → failed ≡ []
  pub failures : All (λ call. IsTrue (is_failure call)) (reverse failed)

-- how many changing calls of a disk an answer stands for: none where memory ran out
abbrev pub used : {T : Type 0} → Result T DiskError → ℕ
used (Ok x) = 1
used (Err Failed) = 1
used (Err Memory) = 0

-- what a changing call tells, by its answer
pub record TellsCall {T : Type 0} (good bad : Call) (before now : Option Told) (result : Result T DiskError) : Type 0 where
  pub ok : OnOk result (now ≡ option_map (after good) before)
  pub failed : IsErrOf result Failed → now ≡ option_map (after bad) before
  pub memory : IsErrOf result Memory → now ≡ before

-- a changing call that was passed on
pub record PassesCall {D T : Type 0} (told : D → Option Told) (good bad : Call) (before now : Fused D) (result : Result T DiskError) : Type 0 where
  pub tells : TellsCall good bad (told before.disk) (told now.disk) result
  pub left : now.calls_left ≡ before.calls_left - used result
  pub none : now.failed ≡ []

-- a changing call that failed here, of which the disk within saw nothing
pub record Burns {D T : Type 0} (bad : Call) (before now : Fused D) (result : Result T DiskError) : Type 0 where
  pub fails : IsErr result
  pub disk : now.disk ≡ before.disk
  pub left : now.calls_left ≡ 0
  pub failed : IsErrOf result Failed → now.failed ≡ before.failed ++ bad ∷ []
  pub memory : IsErrOf result Memory → now.failed ≡ before.failed

-- a call that changes nothing
pub record Keeps {D : Type 0} (told : D → Option Told) (before now : Fused D) : Type 0 where
  pub same : told now.disk ≡ told before.disk
  pub left : now.calls_left ≡ before.calls_left
  pub failed : now.failed ≡ before.failed

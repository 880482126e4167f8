-- A disk in memory, by what it records.
use Rattle.std.specs.Prelude.{◌≡◌, ℕ, ◌+◌, ◌-◌, ◌^◌, ◌==◌, min, Bool, true, false, IsTrue, IsFalse, List, [], ◌∷◌, ◌++◌, length, Result, OnOk, IsErrOf}
use Rattle.std.specs.List.{list_any}
use Rattle.im_disk.specs.declared.calls.Call.{Call}
use Rattle.im_disk.specs.declared.calls.Call.TheVariants.{Wrote, Tore, Synced, Missed}
use Rattle.im_disk.specs.declared.disk.DiskError.{DiskError}
use Rattle.im_disk.specs.declared.disk.DiskError.TheVariants.{Failed, Memory}
use Rattle.im_disk.specs.Disk.{Told}
use Rattle.im_disk.specs.Records.{told_of}

-- the files at first, in order; the changing calls so far, the first one first; the numbers of those that are to fail,
-- counted from 1; how often it has failed
pub record Recorded : Type 0 where
  pub first : List (List ℕ)
  pub calls : List Call
  pub failing : List ℕ
  pub faults : ℕ

-- before any call
abbrev pub unchanged : List (List ℕ) → List ℕ → Recorded
unchanged first failing = record { first = first; calls = []; failing = failing; faults = 0 }

-- what such a disk tells
abbrev pub told_by : Recorded → Told
told_by d = told_of d.first d.calls

-- whether the next changing call is one that is to fail
abbrev pub fails_next : Recorded → Bool
fails_next d = list_any (λ number. number == length d.calls + 1) d.failing

-- with the next changing call to fail, too
abbrev pub failing_next : Recorded → Recorded
failing_next d = record { first = d.first; calls = d.calls; failing = d.failing ++ (length d.calls + 1) ∷ []; faults = d.faults }

-- after one changing call more
abbrev pub with_call : Call → Recorded → Recorded
with_call call d = record { first = d.first; calls = d.calls ++ call ∷ []; failing = d.failing; faults = d.faults }

-- after one that failed, which is counted; the count stands still at its type's end
abbrev pub with_failure : Call → Recorded → Recorded
with_failure call d = record { first = d.first; calls = d.calls ++ call ∷ []; failing = d.failing; faults = min (d.faults + 1) (2 ^ 64 - 1) }

-- what a changing call does: it fails exactly where it is to, unless memory runs out, which leaves all as it was
pub record Changes {T : Type 0} (good bad : Call) (before now : Recorded) (result : Result T DiskError) : Type 0 where
  pub ok : OnOk result (IsFalse (fails_next before) × (now ≡ with_call good before))
  pub failed : IsErrOf result Failed → IsTrue (fails_next before) × (now ≡ with_failure bad before)
  pub memory : IsErrOf result Memory → now ≡ before

-- whether a call failed
abbrev pub is_failure : Call → Bool
is_failure (Wrote file at piece) = false
is_failure (Tore file at n) = true
is_failure Synced = false
is_failure Missed = true

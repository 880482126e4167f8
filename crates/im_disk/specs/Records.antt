-- Records of calls as lists, and those whose writes lay within the files.
use Rattle.std.specs.Prelude.{ℕ, ◌<◌, ◌≤◌, ◌^◌, List, [], ◌∷◌, length, reverse, slice_index_or}
use Rattle.im_disk.specs.Disk.{Files, Told, seen_after}
use Rattle.im_disk.specs.declared.calls.Call.{Call}
use Rattle.im_disk.specs.declared.calls.Call.TheVariants.{Wrote, Tore, Synced, Missed}

-- the content of each file, from a list of them in order; behind the list each is empty
abbrev pub files_of : List (List ℕ) → Files
files_of files k = slice_index_or files k []

-- what is told by the files at first and the changing calls in the order in which they came
abbrev pub told_of : List (List ℕ) → List Call → Told
told_of first calls = record { first = files_of first; calls = reverse calls }

-- a write of a disk's file, from a place below 2^62 and within what reads give after these calls, the last one first
pub record LiesBehind (first : Files) (calls : List Call) (number at : ℕ) : Type 0 where
  pub file : number < 16
  pub within : at ≤ length (seen_after first calls number)
  pub end : at < 2 ^ 62

-- a call that a disk takes after these
abbrev pub FitsBehind : Files → List Call → Call → Type 0
FitsBehind first calls (Wrote file at piece) = LiesBehind first calls file at
FitsBehind first calls (Tore file at n) = LiesBehind first calls file at
FitsBehind first calls Synced = Unit {0}
FitsBehind first calls Missed = Unit {0}

-- each of these calls, the last one first, is one that a disk takes after those before it
abbrev pub AreWithin : Files → List Call → Type 0
AreWithin first [] = Unit {0}
AreWithin first (call ∷ calls) = FitsBehind first calls call × AreWithin first calls

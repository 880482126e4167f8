-- What the changing calls of a disk do to its files, and what a crash may leave.
use Rattle.std.specs.Prelude.{◌≡◌, ◌≢◌, ◌⊎◌, ◌≤◌, ◌+◌, ◌==◌, ℕ, max, List, [], ◌∷◌, ◌++◌, length, take, drop, if◌then◌else◌, Option, IfSome}
use Rattle.im_disk.specs.declared.calls.Call.{Call}
use Rattle.im_disk.specs.declared.calls.Call.TheVariants.{Wrote, Tore, Synced, Missed}

-- the content of each file, by its number
abbrev pub Files : Type 0
Files = ℕ → List ℕ

-- what a disk tells: its files at first, and its changing calls, the last one first
pub record Told : Type 0 where
  pub first : Files
  pub calls : List Call

-- with a piece written over what is there, and past the end
abbrev pub written : List ℕ → ℕ → List ℕ → List ℕ
written old at piece = take at old ++ piece ++ drop (at + length piece) old

-- with other octets in one file
abbrev pub with_file : Files → ℕ → List ℕ → Files
with_file files file octets k = if k == file then octets else files k

-- what reads give after these calls: what was written, whether or not it is durable; a call that failed changes nothing
abbrev pub seen_after : Files → List Call → Files
seen_after first [] = first
seen_after first (Wrote file at piece ∷ calls) = with_file (seen_after first calls) file (written (seen_after first calls file) at piece)
seen_after first (Tore file at n ∷ calls) = seen_after first calls
seen_after first (Synced ∷ calls) = seen_after first calls
seen_after first (Missed ∷ calls) = seen_after first calls

-- after a write of n octets, from a place within the old ones on, that a crash cuts short: any octets in the range and
-- past the old end, the same elsewhere. Where the place lies past their end, a write before it having been cut short, the
-- old ones stay.
pub record Torn (at n : ℕ) (old new : List ℕ) : Type 0 where
  pub before : take at new ≡ take at old
  pub after : drop (at + n) new ≡ drop (at + n) old
  pub no_shorter : length old ≤ length new
  pub no_longer : length new ≤ max (length old) (at + n)

-- a write to one file that a crash cuts short, which leaves the other files
pub record TornFile (file at n : ℕ) (old new : Files) : Type 0 where
  pub torn : Torn at n (old file) (new file)
  pub others : (k : ℕ) → k ≢ file → new k ≡ old k

-- an image that a crash may leave after these calls
abbrev pub IsImage : Files → List Call → Files → Type 0
IsImage first [] image = (k : ℕ) → image k ≡ first k
IsImage first (Wrote file at piece ∷ calls) image = (before : Files) × IsImage first calls before × TornFile file at (length piece) before image
IsImage first (Tore file at n ∷ calls) image = (before : Files) × IsImage first calls before × TornFile file at n before image
IsImage first (Synced ∷ calls) image = (k : ℕ) → image k ≡ seen_after first calls k
IsImage first (Missed ∷ calls) image = IsImage first calls image

-- an image that a crash might have left after at least t of these calls
abbrev pub WasImage : Files → List Call → ℕ → Files → Type 0
WasImage first [] t image = (t ≡ 0) × IsImage first [] image
WasImage first (call ∷ calls) t image = ((t ≤ length (call ∷ calls)) × IsImage first (call ∷ calls) image) ⊎ WasImage first calls t image

-- what reads give now
abbrev pub seen : Told → Files
seen t = seen_after t.first t.calls

-- the images that a crash may leave now
abbrev pub Images : Told → Files → Type 0
Images t = IsImage t.first t.calls

-- those of the moments since a time
abbrev pub ImagesSince : Told → ℕ → Files → Type 0
ImagesSince t = WasImage t.first t.calls

-- the time: the number of its changing calls
abbrev pub time : Told → ℕ
time t = length t.calls

-- one changing call later
abbrev pub after : Call → Told → Told
after call t = record { first = t.first; calls = call ∷ t.calls }

-- that many octets stand in the file at this place, where the disk tells
abbrev pub LiesWithin : Option Told → ℕ → ℕ → ℕ → Type 0
LiesWithin told file at n = IfSome told (λ t. at + n ≤ length (seen t file))

-- What a crash may leave of one file, by the ranges that were written since the last sync that succeeded.
use Rattle.std.specs.Prelude.{◌≡◌, ℕ, ◌+◌, ◌<◌, ◌≤◌, ◌==◌, max, List, [], ◌∷◌, length, slice_index, if◌then◌else◌, Option, Some, None}
use Rattle.std.specs.List.{filter_map}
use Rattle.im_disk.specs.Disk.{Files, seen_after}
use Rattle.im_disk.specs.declared.calls.Call.{Call}
use Rattle.im_disk.specs.declared.calls.Call.TheVariants.{Wrote, Tore, Synced, Missed}
use Rattle.im_image.specs.declared.ranges.WrittenRange.{WrittenRange}

-- the calls since the last sync that succeeded; in a record the last call comes first
abbrev pub since_sync : List Call → List Call
since_sync [] = []
since_sync (Wrote file at piece ∷ calls) = Wrote file at piece ∷ since_sync calls
since_sync (Tore file at n ∷ calls) = Tore file at n ∷ since_sync calls
since_sync (Synced ∷ calls) = []
since_sync (Missed ∷ calls) = Missed ∷ since_sync calls

-- that sync, and the calls before it; none where there was no such sync
abbrev pub until_sync : List Call → List Call
until_sync [] = []
until_sync (Wrote file at piece ∷ calls) = until_sync calls
until_sync (Tore file at n ∷ calls) = until_sync calls
until_sync (Synced ∷ calls) = Synced ∷ calls
until_sync (Missed ∷ calls) = until_sync calls

-- the range of a file that a call wrote; a failed write counts as written
abbrev pub range_of : Call → ℕ → Option WrittenRange
range_of (Wrote number place piece) file = if number == file then Some (record { at = place; count = length piece }) else None
range_of (Tore number place n) file = if number == file then Some (record { at = place; count = n }) else None
range_of Synced file = None
range_of Missed file = None

-- the ranges of a file that these calls wrote
abbrev pub ranges_of : List Call → ℕ → List WrittenRange
ranges_of calls file = filter_map (λ call. range_of call file) calls

-- the place lies in none of the ranges
abbrev pub IsOutside : List WrittenRange → ℕ → Type 0
IsOutside [] place = Unit {0}
IsOutside (range ∷ ranges) place = (range.at ≤ place → range.at + range.count ≤ place) × IsOutside ranges place

-- the furthest end of the ranges, or this one
abbrev pub furthest_end : ℕ → List WrittenRange → ℕ
furthest_end end [] = end
furthest_end end (range ∷ ranges) = max (furthest_end end ranges) (range.at + range.count)

-- what may remain of a file that was durable with these octets, where the ranges were written since: octets in the
-- ranges, and past the old end up to the furthest, are any, the length is any between, and the octets elsewhere stay
pub record MayRemain (durable : List ℕ) (ranges : List WrittenRange) (left : List ℕ) : Type 0 where
  pub no_shorter : length durable ≤ length left
  pub no_longer : length left ≤ furthest_end (length durable) ranges
  pub elsewhere : (place : ℕ) → place < length durable → IsOutside ranges place → slice_index left place ≡ slice_index durable place

-- what may remain of each file of a disk after these calls, the last one first
abbrev pub EachMayRemain : Files → List Call → Files → Type 0
EachMayRemain first calls image = (k : ℕ) → MayRemain (seen_after first (until_sync calls) k) (ranges_of (since_sync calls) k) (image k)

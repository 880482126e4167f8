-- Calls one by one from the last on: what is left of a record when its last call was looked at.
use Rattle.std.proofs.Common.{◌≡◌, ℕ, ◌+◌, ◌<◌, ◌≤◌, List, [], ◌∷◌, ◌++◌, length, drop, reverse, ap, ◌∙◌}
use Rattle.std.proofs.lemmas.List.{reverse-append}
use Rattle.im_disk.specs.declared.calls.Call.{Call}
use Rattle.im_image.specs.Remains.{since_sync, until_sync, IsOutside}
use Rattle.im_image.specs.declared.ranges.WrittenRange.{WrittenRange}

-- the last of a list comes first in the reverse
pub reverse-last : {X : Type 0} (xs rest : List X) (x : X) → xs ≡ rest ++ x ∷ [] → reverse xs ≡ x ∷ reverse rest
reverse-last xs rest x is = ap reverse is ∙ reverse-append rest (x ∷ [])

-- no call of the record behind this front part is a sync that succeeded
pub record Unsynced (calls rest : List Call) : Type 0 where
  pub whole : calls ≡ rest ++ drop (length rest) calls
  pub until : until_sync (reverse calls) ≡ until_sync (reverse rest)
  pub since : since_sync (reverse calls) ≡ reverse (drop (length rest) calls) ++ since_sync (reverse rest)

-- of the octets from a place on so many lie in none of the ranges that were looked at, of which some are left
pub record IsFreeSoFar (ranges left : List WrittenRange) (place room free : ℕ) : Type 0 where
  pub some : 0 < free
  pub most : free ≤ room
  pub all : (k : ℕ) → k < free → IsOutside left (place + k) → IsOutside ranges (place + k)
  pub among : (at : ℕ) → IsOutside ranges at → IsOutside left at

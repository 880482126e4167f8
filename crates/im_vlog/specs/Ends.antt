-- The ends of the four value logs, behind which values are put.
use Rattle.std.specs.Prelude.{◌≡◌, ◌<◌, ◌≤◌, ◌-◌, ◌*◌, ◌^◌, ℕ, List, length, slice_index_or}
use Rattle.im_digest.specs.Digests.{Hash}
use Rattle.im_format.specs.Places.{log_end}
use Rattle.im_format.specs.declared.references.ValueRef.{ValueRef}

-- what is said of a value at a place of a log
abbrev pub reference_of : Hash → List ℕ → ℕ → ℕ → ValueRef
reference_of hash value number place = record { hval = hash value; len = length value; log = number; at = place }

-- the ends of the logs behind these references
pub record AreEnds (ends : List ℕ) (refs : List ValueRef) : Type 0 where
  pub each : (number : ℕ) → number < 4 → slice_index_or ends number 0 ≡ log_end number refs

-- no log ends behind the place where values of transaction id may begin: each transaction before it has at most
-- 1024 values of at most 4096 octets
pub record HaveRoom (id : ℕ) (ends : List ℕ) : Type 0 where
  pub each : (number : ℕ) → number < 4 → slice_index_or ends number 0 ≤ (id - 1) * 2 ^ 22

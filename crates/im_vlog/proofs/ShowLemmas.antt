-- What an error tells of octets that have another digest than their reference.
use Rattle.std.proofs.Common.{◌≡◌, ◌≤◌, ℕ, List, length}
use Rattle.std.specs.Prelude.{Option, IfSome, Result, Ok, Err, IfErr, IsErrOf}
use Rattle.im_digest.specs.Digests.{Hash}
use Rattle.im_disk.specs.Disk.{Told, seen}
use Rattle.im_format.specs.declared.references.ValueRef.{ValueRef}
use Rattle.im_vlog.specs.Showing.{IsCorrupt, IsOther, shown}
use Rattle.im_vlog.specs.declared.showing.ValueError.{ValueError}
use Rattle.im_vlog.specs.declared.showing.ValueError.TheVariants.{DiskFault, Corrupt, Memory}

-- where the reference shows these octets, it tells of a corrupt value
pub other_corrupt : {T : Type 0} (result : Result T ValueError) (hash : Hash) (octets : List ℕ) (ref : ValueRef) (told : Option Told) → IfErr result (IsOther hash octets ref)
    → length octets ≤ ref.len → IfSome told (λ t. octets ≡ shown (seen t) ref) → IfErr result (λ e. IsCorrupt hash told ref e)
other_corrupt (Ok x) hash octets ref told other short is = tt
other_corrupt (Err DiskFault) hash octets ref told other short is = absurd other
other_corrupt (Err (Corrupt want got)) hash octets ref told other short is = (other.0, other.1, (octets, other.2, short, is))
other_corrupt (Err Memory) hash octets ref told other short is = absurd other

-- and of nothing else
pub other_alone : {T : Type 0} (result : Result T ValueError) (hash : Hash) (octets : List ℕ) (ref : ValueRef) → IfErr result (IsOther hash octets ref)
    → (IsErrOf result DiskFault → ⊥) × (IsErrOf result Memory → ⊥)
other_alone (Ok x) hash octets ref other = (λ is. cc, λ is. cc)
other_alone (Err DiskFault) hash octets ref other = absurd other
other_alone (Err (Corrupt want got)) hash octets ref other = (λ is. cc, λ is. cc)
other_alone (Err Memory) hash octets ref other = absurd other

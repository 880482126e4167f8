-- What a reference shows, and why it may not be read.
use Rattle.std.specs.Prelude.{◌≡◌, ◌≢◌, ◌≤◌, ℕ, List, [], length, nat_le, if◌then◌else◌, Option, IfSome, Result, IsErrOf}
use Rattle.im_digest.specs.Digests.{Hash}
use Rattle.im_disk.specs.Disk.{Files, Told, seen}
use Rattle.im_disk.specs.declared.disk.DiskError.{DiskError}
use Rattle.im_disk.specs.declared.disk.DiskError.TheVariants.{Failed, Memory}
use Rattle.im_counts.specs.Counts.{Rose}
use Rattle.im_format.specs.Reading.{value_at}
use Rattle.im_format.specs.declared.references.ValueRef.{ValueRef}
use Rattle.im_vlog.specs.declared.showing.ValueError.{ValueError}
use Rattle.im_vlog.specs.declared.showing.ValueError.TheVariants as Read

-- the octets that a reference shows: those at its place, of value logs 0 to 3 alone
abbrev pub shown : Files → ValueRef → List ℕ
shown image ref = if nat_le ref.log 3 then value_at image ref else []

-- the error that a disk's error is
abbrev pub error_of : DiskError → ValueError
error_of Failed = Read.DiskFault
error_of Memory = Read.Memory

-- a corrupt value: what was read has another digest than the reference
abbrev pub IsCorrupt : Hash → Option Told → ValueRef → ValueError → Type 0
IsCorrupt hash told ref Read.DiskFault = Unit {0}
IsCorrupt hash told ref (Read.Corrupt want got) =
    (want ≡ ref.hval)
    × (got ≢ want)
    × ((octets : List ℕ) × (got ≡ hash octets) × (length octets ≤ ref.len) × IfSome told (λ t. octets ≡ shown (seen t) ref))
IsCorrupt hash told ref Read.Memory = Unit {0}

-- these octets have another digest than the reference
abbrev pub IsOther : Hash → List ℕ → ValueRef → ValueError → Type 0
IsOther hash octets ref Read.DiskFault = ⊥
IsOther hash octets ref (Read.Corrupt want got) = (want ≡ ref.hval) × (got ≢ want) × (got ≡ hash octets)
IsOther hash octets ref Read.Memory = ⊥

-- the disk's count of faults doesn't fall, a fault comes only where it rose, and every other answer leaves it
pub record HasReadCause {T : Type 0} (before now : ℕ) (result : Result T ValueError) : Type 0 where
  pub later : before ≤ now
  pub fault : IsErrOf result Read.DiskFault → Rose before now
  pub others : (IsErrOf result Read.DiskFault → ⊥) → now ≡ before

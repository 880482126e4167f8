-- What a crash at any moment leaves.
use Rattle.std.specs.Prelude.{◌≡◌, ◌⊎◌, ℕ, Option, Some, IfSome}
use Rattle.im_disk.specs.Disk.{Files, Told, Images, ImagesSince}

-- there was a record before, and each image of a moment since some time is one of a moment since that time that there
-- was before, or has P; that the calls of `now` are those of before with more isn't said
pub record Adds (P : Files → Type 0) (before : Option Told) (now : Told) : Type 0 where
  pub was : Told
  pub is : before ≡ Some was
  pub each : (t : ℕ) (image : Files) → ImagesSince now t image → ImagesSince was t image ⊎ P image

-- each image now has P, where the disk tells
abbrev pub LeavesNow : (Files → Type 0) → Option Told → Type 0
LeavesNow P now = IfSome now (λ t. (image : Files) → Images t image → P image)

-- each image of the moments that the record now has behind those of before has P, where the disk tells; that the record
-- only grew is said by the calls of a disk
abbrev pub LeavesOnly : (Files → Type 0) → Option Told → Option Told → Type 0
LeavesOnly P before now = IfSome now (Adds P before)

-- and so has each image now
abbrev pub Leaves : (Files → Type 0) → Option Told → Option Told → Type 0
Leaves P before now = LeavesOnly P before now × LeavesNow P now

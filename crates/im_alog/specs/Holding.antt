-- What the files of a disk hold, in what reads give and in what a crash may leave.
use Rattle.std.specs.Prelude.{◌≡◌, ◌⊎◌, ◌≤◌, ℕ, List, length, All, Option, IfSome}
use Rattle.im_disk.specs.Disk.{Files, Told, Images, seen}
use Rattle.im_format.specs.Spans.{Reads}
use Rattle.im_format.specs.declared.spans.Span.{Span}

-- the image has these spans, each at its place
abbrev pub Holds : List Span → Files → Type 0
Holds spans image = All (Reads image) spans

-- no file is shorter than its end
pub record IsLong (ends : ℕ → ℕ) (t : Told) : Type 0 where
  pub long : (k : ℕ) → ends k ≤ length (seen t k)

-- all that a crash may leave is what reads give
abbrev pub IsDurable : Told → Type 0
IsDurable t = (image : Files) → Images t image → (k : ℕ) → image k ≡ seen t k

-- where the disk told: the image is one that a crash might have left then, or what reads gave
abbrev pub IsOldOrSeen : Option Told → Files → Type 0
IsOldOrSeen before image = IfSome before (λ t. Images t image ⊎ ((k : ℕ) → image k ≡ seen t k))

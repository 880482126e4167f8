-- Octets of a file that lie next to each other, all in some range or all in none.
use Rattle.std.specs.Prelude.{ℕ, ◌+◌, ◌<◌, ◌≤◌, List}
use Rattle.im_image.specs.Remains.{IsOutside}
use Rattle.im_image.specs.declared.ranges.WrittenRange.{WrittenRange}
use Rattle.im_image.specs.declared.ranges.Stretch.{Stretch}
use Rattle.im_image.specs.declared.ranges.Stretch.TheVariants.{Inside, Outside}

-- each octet of a stretch, of at most this many from the place on, lies in some range, or each in none
abbrev pub IsStretch : List WrittenRange → ℕ → ℕ → Stretch → Type 0
IsStretch ranges place room (Inside n) = (0 < n) × (n ≤ room) × ((k : ℕ) → k < n → ¬ IsOutside ranges (place + k))
IsStretch ranges place room (Outside n) = (0 < n) × (n ≤ room) × ((k : ℕ) → k < n → IsOutside ranges (place + k))

-- What a call takes from a source, and what it does to the count of its failures.
use Rattle.std.specs.Prelude.{◌≡◌, ℕ, ◌<◌, ◌≤◌, ◌+◌, List, [], length, take, Option, IfSome, Result, Ok, Err}
use Rattle.std.specs.Io.KnownBytes.{Consumes, Keeps}
use Rattle.im_counts.specs.Counts.{Rose}
use Rattle.im_edge.specs.declared.source.Taken.{Taken}
use Rattle.im_edge.specs.declared.source.Taken.TheVariants.{Took, End, Failed}
use Rattle.im_edge.specs.declared.source.SourceError.{SourceError}
use Rattle.im_edge.specs.declared.source.SourceError.TheVariants.{Memory, Long, Failed as ReadFailed}

-- what a take does to what is left: it takes the octets that it gives, one at least, and none at `End` and `Failed`; into a
-- buffer with room `End` comes only where nothing is left
abbrev pub Takes : Taken → List ℕ → Option (List ℕ) → Option (List ℕ) → Type 0
Takes (Took n) buffer before after = (1 ≤ n) × (n ≤ length buffer) × Consumes before after (take n buffer)
Takes End buffer before after = Keeps before after × (0 < length buffer → IfSome before (λ xs. xs ≡ []))
Takes Failed buffer before after = Keeps before after

-- what a take does to the count: it rises at `Failed` alone, and then by one
abbrev pub TakeCause : Taken → ℕ → ℕ → Type 0
TakeCause (Took n) before now = now ≡ before
TakeCause End before now = now ≡ before
TakeCause Failed before now = (before ≤ now) × Rose before now × (now ≤ before + 1)

-- a front part of what was left is taken, of at most so many octets
abbrev pub TakesAtMost : ℕ → Option (List ℕ) → Option (List ℕ) → Type 0
TakesAtMost most before after = (taken : List ℕ) × (length taken ≤ most) × Consumes before after taken

-- reading that didn't fail left the count as it was
abbrev pub SameUnlessFailed : {T : Type 0} → Result T SourceError → ℕ → ℕ → Type 0
SameUnlessFailed (Ok octets) before now = now ≡ before
SameUnlessFailed (Err Memory) before now = now ≡ before
SameUnlessFailed (Err Long) before now = now ≡ before
SameUnlessFailed (Err ReadFailed) before now = Unit {0}

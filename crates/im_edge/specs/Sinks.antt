-- What a call gives to a sink, and what it does to the count of its failures.
use Rattle.std.specs.Prelude.{◌≡◌, ℕ, ◌<◌, ◌≤◌, ◌+◌, List, length, take, Option}
use Rattle.std.specs.Io.KnownBytes.{Appends, Keeps}
use Rattle.im_counts.specs.Counts.{Rose}
use Rattle.im_edge.specs.declared.sink.Given.{Given}
use Rattle.im_edge.specs.declared.sink.Given.TheVariants.{Gave, Failed}

-- what a give does to what was written: the octets that the sink took are added, at least one of a piece that isn't empty,
-- and none at `Failed`
abbrev pub Gives : Given → List ℕ → Option (List ℕ) → Option (List ℕ) → Type 0
Gives (Gave n) piece before after = (n ≤ length piece) × (0 < length piece → 1 ≤ n) × Appends before after (take n piece)
Gives Failed piece before after = Keeps before after

-- what a give does to the count: it rises at `Failed` alone, and then by one
abbrev pub GiveCause : Given → ℕ → ℕ → Type 0
GiveCause (Gave n) before now = now ≡ before
GiveCause Failed before now = (before ≤ now) × Rose before now × (now ≤ before + 1)

-- some front part of a text is added
abbrev pub AddsPart : List ℕ → Option (List ℕ) → Option (List ℕ) → Type 0
AddsPart text before after = (n : ℕ) × Appends before after (take n text)

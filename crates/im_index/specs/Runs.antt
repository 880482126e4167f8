-- Sorted runs: the versions that they hold, and how long they are.
use Rattle.std.specs.Prelude.{◌≡◌, ℕ, suc, zero, ◌+◌, ◌*◌, ◌^◌, ◌<◌, ◌≤◌, List, [], ◌∷◌, length, map, reverse, nat_lt, if◌then◌else◌}
use Rattle.std.specs.Cmp.Lexicographic.{slice_cmp}
use Rattle.std.specs.List.{AllZip, flat_map}
use Rattle.std.specs.List.Sorted.{IsPermutation, IsSortedByKey, IsStableByKey}
use Rattle.std.specs.Ordering.{nat_cmp}
use Rattle.im_versions.specs.declared.versions.Version.{Version}

-- a run of these versions: they are the same ones, sorted by key, and those of one key stand in the order that
-- they had. Versions of a history come in the order of their numbers, so there it is sorted by key and then by number
pub record IsRunOf (run versions : List Version) : Type 0 where
  pub moved : IsPermutation versions run
  pub sorted : IsSortedByKey (λ (v : Version). v.key) (slice_cmp nat_cmp) run
  pub stable : IsStableByKey (λ (v : Version). v.key) (slice_cmp nat_cmp) versions run

-- runs hold these versions, each once: the versions are cut into parts, one behind the other, and each run is a run
-- of its part. So the versions of a newer run were placed behind all those of an older one
pub record HoldInOrder (runs : List (List Version)) (versions : List Version) : Type 0 where
  pub parts : List (List Version)
  pub each : AllZip IsRunOf runs parts
  pub whole : flat_map (λ (part : List Version). part) parts ≡ versions

-- how many versions runs hold
abbrev pub held : List (List Version) → ℕ
held [] = 0
held (run ∷ runs) = length run + held runs

-- the length of the first run, 0 where there is none
abbrev pub front_length : List (List Version) → ℕ
front_length [] = 0
front_length (run ∷ runs) = length run

-- no run is empty, and none is shorter than twice the one behind it
abbrev pub AreHalving : List (List Version) → Type 0
AreHalving [] = Unit {0}
AreHalving (run ∷ runs) = (0 < length run) × (2 * front_length runs ≤ length run) × AreHalving runs

-- the lengths of runs, the newest first
abbrev pub lengths : List (List Version) → List ℕ
lengths runs = reverse (map length runs)

-- the lengths, the newest first, behind a new run of n versions: while the last run but one is shorter than twice the
-- last, both become one
abbrev pub settled : ℕ → List ℕ → List ℕ
settled n [] = n ∷ []
settled n (m ∷ ms) = if nat_lt m (2 * n) then settled (m + n) ms else n ∷ m ∷ ms

-- the lengths behind a transaction of n versions: where it has none, they stay
abbrev pub taken_in : ℕ → List ℕ → List ℕ
taken_in zero ms = ms
taken_in (suc n) ms = settled (suc n) ms

-- n has at most b binary digits
abbrev pub HasDigits : ℕ → ℕ → Type 0
HasDigits b n = n < 2 ^ b

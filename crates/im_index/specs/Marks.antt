-- Versions in the order of their keys and numbers, and what is searched among them.
use Rattle.std.specs.Prelude.{ℕ, Bool, true, false, List, filter, nat_le}
use Rattle.std.specs.Cmp.Lexicographic.{slice_cmp}
use Rattle.std.specs.Ordering.{nat_cmp, ordering_then}
use Rattle.std.specs.declared.cmp.Ordering.{Ordering}
use Rattle.std.specs.declared.cmp.Ordering.TheVariants.{Less, Equal, Greater}
use Rattle.im_versions.specs.Versions.{is_of}
use Rattle.im_versions.specs.declared.versions.Version.{Version}

-- the order of versions by key, and then by number
abbrev pub numbered : Version → Version → Ordering
numbered a b = ordering_then (slice_cmp nat_cmp a.key b.key) (nat_cmp a.tx b.tx)

-- by a comparison of keys, and where they are one by a test of numbers
abbrev pub upto_by : Ordering → Bool → Bool
upto_by Less within = true
upto_by Equal within = within
upto_by Greater within = false

-- a version stands at most at this key and number
abbrev pub is_upto : List ℕ → ℕ → Version → Bool
is_upto key n version = upto_by (slice_cmp nat_cmp version.key key) (nat_le version.tx n)

-- the versions of a key among these, up to transaction n
abbrev pub found : List ℕ → ℕ → List Version → List Version
found key n versions = filter (is_of key) (filter (λ v. nat_le v.tx n) versions)

-- Octets that stand at a place of a file.
use Rattle.std.specs.Prelude.{◌≡◌, ◌+◌, ◌≤◌, ◌⊎◌, ℕ, List, [], ◌∷◌, length, take, drop}
use Rattle.im_disk.specs.Disk.{Files}
use Rattle.im_format.specs.declared.spans.Span.{Span}

-- the octets of a file from a place on, so many of them, or fewer where it ends before
abbrev pub octets_at : List ℕ → ℕ → ℕ → List ℕ
octets_at file at n = take n (drop at file)

-- the image has these octets at this place
pub record Reads (image : Files) (s : Span) : Type 0 where
  pub reads : octets_at (image s.file) s.at (length s.octets) ≡ s.octets

-- one octet
abbrev pub octet_span : ℕ → ℕ → ℕ → Span
octet_span number place octet = record { file = number; at = place; octets = octet ∷ [] }

-- the span lies outside of n octets at a place of a file
pub record Misses (number place n : ℕ) (s : Span) : Type 0 where
  pub apart : s.file ≡ number → (s.at + length s.octets ≤ place) ⊎ (place + n ≤ s.at)

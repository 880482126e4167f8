-- How many whole subtrees a number of leaves has.
use Rattle.std.specs.Prelude.{ℕ, suc, zero, ◌+◌, ◌/◌}

-- the whole subtrees of n leaves, where n has at most `room` binary digits: n of one leaf, one of two leaves
-- for each pair of these, and so on
unfoldable pub whole_within : ℕ → ℕ → ℕ
whole_within zero n = 0
whole_within (suc room) n = n + whole_within room (n / 2)

-- the number of whole subtrees of n leaves
unfoldable pub whole : ℕ → ℕ
whole n = whole_within n n

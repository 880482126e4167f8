-- What a record begins with, as it is read.
use Rattle.std.specs.Prelude.{ℕ, ◌-◌, ◌∷◌, [], nat_le, List}
use Rattle.im_mtree.specs.Checks.{Check}
use Rattle.im_format.specs.Damages.{numbers, reaches, from_one}
use Rattle.im_format.specs.Reading.{ts_at, bl_at, count_at, number4, number8}
use Rattle.im_format.specs.declared.damages.Damage.{Damage}
use Rattle.im_record.specs.declared.heads.Head.{Head}

-- the head of the record that begins at a place
abbrev pub head_at : List ℕ → ℕ → Head
head_at log at = record { ts = ts_at log at; bl = bl_at log at; count = count_at log at }

-- the checks of BlTxID, at its place
abbrev pub tree_size_checks : List ℕ → ℕ → ℕ → ℕ → List (Check Damage)
tree_size_checks log id bl at =
    reaches log at 8
    ∷ (nat_le bl (number8 log at), numbers 0 at bl (number8 log at))
    ∷ (nat_le (number8 log at) (id - 1), numbers 0 at (id - 1) (number8 log at))
    ∷ []

-- the checks of the entry count, at its place
abbrev pub count_checks : List ℕ → ℕ → List (Check Damage)
count_checks log at = reaches log at 4 ∷ from_one 0 at 1024 (number4 log at)

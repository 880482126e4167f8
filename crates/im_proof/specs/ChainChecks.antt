-- What is checked of linear terms and of a linear advance, each in this order.
use Rattle.std.specs.Prelude.{ℕ, ◌+◌, ◌-◌, List, [], ◌∷◌, ◌++◌, length, drop, reverse, slice_index_or, nat_eq, nat_le, bytes_eq, if◌then◌else◌}
use Rattle.im_digest.specs.Digests.{Hash}
use Rattle.im_model.specs.Paths.{path_length, up}
use Rattle.im_model.specs.Chains.{chain, link_string}
use Rattle.im_mtree.specs.Checks.{Check}
use Rattle.im_proof.specs.declared.faults.DualFault.{DualFault}
use Rattle.im_proof.specs.declared.faults.DualFault.TheVariants.{LinearLength, LinearStart, LinearEnd, AdvanceLength, AdvanceCount, AdvancePathLength, AdvancePathRoot, AdvanceEnd}

-- the first term of a list
abbrev pub first_of : List (List ℕ) → List ℕ
first_of terms = slice_index_or terms 0 []

-- the Alh that the terms lead to, where the first is the Alh of a number and the others are the inner
-- digests of those behind it
abbrev pub end_of_terms : Hash → ℕ → List (List ℕ) → List ℕ
end_of_terms hash from terms = chain hash (first_of terms) from (drop 1 terms)

-- linear terms from one number and Alh to another
abbrev pub linear_checks : Hash → ℕ → ℕ → List ℕ → List ℕ → List (List ℕ) → List (Check DualFault)
linear_checks hash from to start end terms =
    (nat_eq (length terms) (to - from + 1), LinearLength (to - from + 1) (length terms))
    ∷ (bytes_eq (first_of terms) start, LinearStart start (first_of terms))
    ∷ (bytes_eq (end_of_terms hash from terms) end, LinearEnd end (end_of_terms hash from terms))
    ∷ []

-- the number of the terms of an advance from a to e
abbrev pub advance_terms : ℕ → ℕ → ℕ
advance_terms a e = if nat_le e (a + 1) then 0 else e - a

-- the number of its paths: one for each term but the last
abbrev pub advance_paths : ℕ → ℕ → ℕ
advance_paths a e = if nat_le e (a + 1) then 0 else e - a - 1

-- transaction k, with this Alh, is in the tree of a size and a root
abbrev pub path_checks_of : Hash → ℕ → List ℕ → ℕ → List ℕ → List (List ℕ) → List (Check DualFault)
path_checks_of hash size root k alh path =
    (nat_eq (length path) (path_length size (k - 1)), AdvancePathLength k (path_length size (k - 1)) (length path))
    ∷ (bytes_eq (up hash size (k - 1) alh (reverse path)) root, AdvancePathRoot k root (up hash size (k - 1) alh (reverse path)))
    ∷ []

-- so are transaction k and those that the inner digests lead to, but for the last
abbrev pub path_checks_from : Hash → ℕ → List ℕ → ℕ → List ℕ → List (List ℕ) → List (List (List ℕ)) → List (Check DualFault)
path_checks_from hash size root k alh [] paths = []
path_checks_from hash size root k alh (inner ∷ inners) [] = []
path_checks_from hash size root k alh (inner ∷ inners) (path ∷ paths) =
    path_checks_of hash size root k alh path ++ path_checks_from hash size root (k + 1) (hash (link_string (k + 1) alh inner)) inners paths

-- a linear advance from a to e, where e has this Alh
abbrev pub advance_checks : Hash → ℕ → ℕ → ℕ → List ℕ → List ℕ → List (List ℕ) → List (List (List ℕ)) → List (Check DualFault)
advance_checks hash a e size root end terms paths =
    (nat_eq (length terms) (advance_terms a e), AdvanceLength (advance_terms a e) (length terms))
    ∷ (nat_eq (length paths) (advance_paths a e), AdvanceCount (advance_paths a e) (length paths))
    ∷ (if nat_eq (length terms) 0 then []
    else path_checks_from hash size root (a + 1) (first_of terms) (drop 1 terms) paths
    ++ (bytes_eq (end_of_terms hash (a + 1) terms) end, AdvanceEnd end (end_of_terms hash (a + 1) terms)) ∷ [])

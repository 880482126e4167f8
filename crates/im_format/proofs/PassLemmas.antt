-- Checks that all hold, of some checks and then of others.
use Rattle.std.proofs.Common.{List, [], ◌∷◌, ◌++◌}
use Rattle.im_mtree.specs.Checks.{Check}
use Rattle.im_mtree.proofs.CheckLemmas.{AllHold}

pub pass-both : {F : Type 0} → (a b : List (Check F)) → AllHold a → AllHold b → AllHold (a ++ b)
pass-both [] b h k = k
pass-both (check ∷ a) b h k = (h.0, pass-both a b h.1 k)

pub pass-left : {F : Type 0} → (a b : List (Check F)) → AllHold (a ++ b) → AllHold a
pass-left [] b h = tt
pass-left (check ∷ a) b h = (h.0, pass-left a b h.1)

pub pass-right : {F : Type 0} → (a b : List (Check F)) → AllHold (a ++ b) → AllHold b
pass-right [] b h = h
pass-right (check ∷ a) b h = pass-right a b h.1

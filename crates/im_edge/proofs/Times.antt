-- The times that a clock gave in several calls.
use Rattle.std.proofs.Common.{ℤ, List, [], ◌++◌, sym, ap, ◌∙◌, append_assoc, append-nil, Option, Some, None}
use Rattle.im_edge.specs.Clocks.{AddsTimes}

-- the clock wasn't asked
pub times-none : (told : Option (List ℤ)) → AddsTimes told told []
times-none None = tt
times-none (Some times) = sym (append-nil times)

-- it gave some times, and then others
pub times-both : (a b c : Option (List ℤ)) (first next : List ℤ) → AddsTimes a b first → AddsTimes b c next → AddsTimes a c (first ++ next)
times-both a b None first next p q = tt
times-both a None (Some zs) first next p q = absurd q
times-both None (Some ys) (Some zs) first next p q = absurd p
times-both (Some xs) (Some ys) (Some zs) first next p q = q ∙ ap (λ (ts : List ℤ). ts ++ next) p ∙ append_assoc xs first next

-- The last of a list, and what is behind all of it.
use Rattle.std.proofs.Common.{◌≡◌, ◌≤◌, ◌++◌, ◌∷◌, [], List, Some, length, take, slice_get, refl, ap, arith}
use mathlib.Core.List.{IsPrefix}

module _ {A : Type 0} where
  -- the last of a list
  pub get_last : (xs : List A) (x : A) → slice_get (xs ++ x ∷ []) (length xs) ≡ Some x
  get_last [] x = refl
  get_last (y ∷ xs) x = get_last xs x

  -- all before it
  pub take_whole : (xs ys : List A) → take (length xs) (xs ++ ys) ≡ xs
  take_whole [] ys = refl
  take_whole (x ∷ xs) ys = ap (λ (l : List A). x ∷ l) (take_whole xs ys)

  -- a front part that isn't shorter is the list
  pub prefix_whole : (xs ys : List A) → IsPrefix xs ys → length ys ≤ length xs → xs ≡ ys
  prefix_whole [] [] p le = refl
  prefix_whole [] (y ∷ ys) p le = absurd (omega (arith, le))
  prefix_whole (x ∷ xs) [] p le = absurd (cc (p.1))
  prefix_whole (x ∷ xs) (y ∷ ys) p le =
      let head : x ≡ y = cc (p.1) in
      let rest : xs ≡ ys = prefix_whole xs ys (p.0, cc (p.1)) (omega (arith, le)) in
      cc (head, rest)

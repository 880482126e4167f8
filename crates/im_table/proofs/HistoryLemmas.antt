-- Parts of lists of which one begins the other, and the histories that they say.
use Rattle.std.proofs.Common.{◌≡◌, ℕ, ◌+◌, ◌≤◌, List, length, map, take, drop, ap, sym, ◌∙◌, arith}
use Rattle.std.proofs.lemmas.List.{drop-append-le, length-drop, length-map, map-append, take-append-le}
use mathlib.Core.List.{IsPrefix}
use Rattle.im_table.specs.Histories.{history_of}
use Rattle.im_table.specs.declared.items.LogItem.{LogItem}

module _ {A : Type 0} where
  -- they have the same first elements
  pub take_front : (xs ys : List A) (n : ℕ) → IsPrefix xs ys → n ≤ length xs → take n xs ≡ take n ys
  take_front xs ys n p le = sym (take-append-le n xs p.0 le) ∙ ap (λ (l : List A). take n l) p.1

  -- and the same behind these
  pub part_front : (xs ys : List A) (n m : ℕ) → IsPrefix xs ys → n + m ≤ length xs → take m (drop n xs) ≡ take m (drop n ys)
  part_front xs ys n m p le =
      sym (take-append-le m (drop n xs) p.0 (omega (arith, length-drop n xs, le)))
      ∙ ap (λ (l : List A). take m l) (sym (drop-append-le n xs p.0 (omega (arith, le))))
      ∙ ap (λ (l : List A). take m (drop n l)) p.1

  -- and what is made of each
  pub map_front : {B : Type 0} (f : A → B) (xs ys : List A) → IsPrefix xs ys → IsPrefix (map f xs) (map f ys)
  map_front f xs ys p = (map f p.0, sym (map-append f xs p.0) ∙ ap (λ (l : List A). map f l) p.1)

-- the history of a front part begins that of the list
pub history_front : (xs ys : List LogItem) → IsPrefix xs ys → IsPrefix (history_of xs) (history_of ys)
history_front xs ys p = map_front (λ (item : LogItem). item.tx) xs ys p

-- it has a transaction for each item
pub history_length : (xs : List LogItem) → length (history_of xs) ≡ length xs
history_length xs = length-map xs (λ (item : LogItem). item.tx)

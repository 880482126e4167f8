-- The index of a list that goes on.
use Rattle.std.proofs.Common.{◌≡◌, ℕ, zero, suc, ◌+◌, ◌≤◌, List, [], ◌∷◌, ◌++◌, length, take, Some, slice_get, ap, sym, subst, ◌∙◌, arith, length-append}
use Rattle.std.proofs.lemmas.List.{length-take, take-take}
use mathlib.Core.List.{IsPrefix}
use Rattle.im_model.specs.declared.transactions.Transaction.{Transaction}
use Rattle.im_table.specs.Histories.{history_of}
use Rattle.im_table.specs.declared.items.LogItem.{LogItem}
use Rattle.im_table.proofs.FrontLemmas.{get_front}
use Rattle.im_table.proofs.HistoryLemmas.{history_front, history_length, take_front}
use Rattle.im_index.specs.Indexed.{Indexed, IsIndexOf}
use Rattle.im_seated_index.specs.Seats.{HasTaken}

module _ {A : Type 0} where
  -- an element of a list ends its front part with one element more
  take_get : (xs : List A) (n : ℕ) (x : A) → slice_get xs n ≡ Some x → take (n + 1) xs ≡ take n xs ++ x ∷ []
  take_get [] n x h = absurd (cc (h))
  take_get (y ∷ xs) zero x h = let same : y ≡ x = cc (h) in ap (λ (z : A). z ∷ []) same
  take_get (y ∷ xs) (suc n) x h =
      let same : suc (n + 1) ≡ suc n + 1 = omega arith in
      subst (λ (k : ℕ). take k (y ∷ xs) ≡ take (suc n) (y ∷ xs) ++ x ∷ []) same (ap (λ (l : List A). y ∷ l) (take_get xs n x h))

-- no more is taken than there are items
pub taken_within : (xs : List LogItem) (index : Indexed) → HasTaken xs index → index.taken ≤ length xs
taken_within xs index h = omega (arith, h.taken, length-take index.taken (history_of xs), history_length xs)

-- the index of a front part is one of the list
pub taken_front : (xs ys : List LogItem) (index : Indexed) → IsPrefix xs ys → HasTaken xs index → HasTaken ys index
taken_front xs ys index p h =
    let within : index.taken ≤ length (history_of xs) = omega (arith, taken_within xs index h, history_length xs) in
    subst (λ (l : List Transaction). IsIndexOf index l) (take_front (history_of xs) (history_of ys) index.taken (history_front xs ys p) within) h

-- an index with the next transaction has one more
pub taken_count : (before : List LogItem) (tx : Transaction) (old new : Indexed) → HasTaken before old → IsIndexOf new (take old.taken (history_of before) ++ tx ∷ [])
    → new.taken ≡ old.taken + 1
taken_count before tx old new h is = omega (arith, is.taken, length-append (take old.taken (history_of before)) (tx ∷ []), h.taken)

-- and is one of the list
pub taken_more : (before mine all : List LogItem) (tx : Transaction) (old new : Indexed) → HasTaken before old → IsPrefix before all → IsPrefix mine all
    → slice_get (history_of mine) old.taken ≡ Some tx → IsIndexOf new (take old.taken (history_of before) ++ tx ∷ []) → HasTaken all new
taken_more before mine all tx old new h p q at is =
    let n : ℕ = old.taken in
    let first : List Transaction = take n (history_of before) in
    let within : n ≤ length (history_of before) = omega (arith, taken_within before old h, history_length before) in
    let one : new.taken ≡ n + 1 = taken_count before tx old new h is in
    let front : first ≡ take n (history_of all) = take_front (history_of before) (history_of all) n (history_front before all p) within in
    let here : slice_get (history_of all) n ≡ Some tx = get_front (history_of mine) (history_of all) n tx (history_front mine all q) at in
    let seam : first ++ tx ∷ [] ≡ take new.taken (history_of all) =
    ap (λ (l : List Transaction). l ++ tx ∷ []) front ∙ sym (take_get (history_of all) n tx here) ∙ ap (λ (k : ℕ). take k (history_of all)) (sym one) in
    subst (λ (l : List Transaction). IsIndexOf new l) seam is

-- a snapshot of the first of what was taken is one of the list
pub shown_first : (xs : List LogItem) (index : Indexed) (n : ℕ) → n ≤ index.taken → take n (take index.taken (history_of xs)) ≡ take n (history_of xs)
shown_first xs index n le = take-take n index.taken (history_of xs) le

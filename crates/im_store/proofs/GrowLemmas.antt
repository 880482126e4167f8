-- What is linked and indexed.
use Rattle.std.proofs.Common.{◌≡◌, ◌≤◌, ◌<◌, ◌+◌, ◌-◌, [], ◌∷◌, ℕ, zero, suc, List, Some, length, take, drop, slice_get, get_or, min, refl, sym, subst, arith, Result, Ok, Err}
use Rattle.std.specs.Prelude.{IfOk, OnErr}
use Rattle.std.proofs.lemmas.List.{length-drop, length-take-le}
use mathlib.Core.List.{IsPrefix}
use Rattle.im_model.specs.declared.transactions.Transaction.{Transaction}
use Rattle.im_table.specs.Histories.{history_of}
use Rattle.im_table.specs.Known.{KnownPass}
use Rattle.im_table.specs.Passes.{AddsLeaves}
use Rattle.im_table.specs.declared.items.LogItem.{LogItem}
use Rattle.im_table.proofs.HistoryLemmas.{history_front}
use Rattle.im_store.specs.Gains.{Gains, HasStepped}
use Rattle.im_store.specs.Growth.{IsLinked}
use Rattle.im_store.specs.Loads.{SawDurable}
use Rattle.im_table.proofs.FrontLemmas.{get_front}
use Rattle.im_store.proofs.GainLemmas.{gains_before, gains_leaves}

module _ {A : Type 0} where
  -- an element of a list by its place
  pub get_here : (xs : List A) (n : ℕ) (d : A) → n < length xs → slice_get xs n ≡ Some (get_or xs n d)
  get_here [] n d lt = absurd (omega (arith, lt))
  get_here (x ∷ xs) zero d lt = refl
  get_here (x ∷ xs) (suc n) d lt = get_here xs n d (omega (arith, lt))

  -- so many elements from a place on
  pub part_length : (xs : List A) (from to : ℕ) → from ≤ to → to ≤ length xs → length (take (to - from) (drop from xs)) ≡ to - from
  part_length xs from to le within = length-take-le (to - from) (drop from xs) (omega (arith, le, within, length-drop from xs))

-- a transaction of a front part stands in the list
pub next_stands : (xs ys : List LogItem) (n : ℕ) (tx : Transaction) → IsPrefix xs ys → slice_get (history_of xs) n ≡ Some tx → slice_get (history_of ys) n ≡ Some tx
next_stands xs ys n tx p here = get_front (history_of xs) (history_of ys) n tx (history_front xs ys p) here

-- what is linked behind a show of the tree, a load of durable and a show of the book
pub linked_answer : {E : Type 0} (old shown new : KnownPass) (most before durable count grown : ℕ) (r : Result ℕ E) → HasStepped 0 old shown → SawDurable old new durable
    → old.view.least.linked ≤ before → before ≤ durable → count ≡ min (before + most) durable - before
    → IfOk r (λ size. (size ≡ before + count) × (grown ≡ size) × (new.view.least.linked ≡ size)) → IfOk r (λ _. AddsLeaves count shown new)
    → IfOk r (λ size. (b : ℕ) × IsLinked old new most b size × Gains [] (size - b) 0 old new)
linked_answer old shown new most before durable count grown (Err e) follows saw known le is size adds = tt
linked_answer old shown new most before durable count grown (Ok size) follows saw known le is sized adds =
    let result : size ≡ min (before + most) durable = omega (arith, sized.0, is, le) in
    let more : count ≡ size - before = omega (arith, sized.0) in (
      before,
      record { durable = durable; saw = saw; known = known; is = result; grows = omega (arith, result, le); shown = omega (arith, sized.2) },
      subst (λ (k : ℕ). Gains [] k 0 old new) more (gains_before count 0 old shown new follows.gains (gains_leaves count shown new adds)),
    )

-- nothing is linked where memory runs out
pub unlinked_answer : {X E : Type 0} (old shown new : KnownPass) (P : Type 0) (r : Result X E) → HasStepped 0 old shown → OnErr r (P × (new ≡ shown)) → OnErr r (Gains [] 0 0 old new)
unlinked_answer old shown new P (Ok x) follows same = tt
unlinked_answer old shown new P (Err e) follows same = subst (λ (p : KnownPass). Gains [] 0 0 old p) (sym same.1) follows.gains

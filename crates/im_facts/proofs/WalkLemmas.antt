-- The place of a fact in a list that rises, as a search that halves what is left finds it: what is found there, and what
-- the list is with the fact.
use Rattle.std.proofs.Common.{◌≡◌, ◌⊎◌, ◌<◌, ◌≤◌, ◌+◌, ℕ, zero, suc, Bool, true, false, if◌then◌else◌, List, [], ◌∷◌, ◌++◌, length, get_or, take, drop, refl, ap, subst, sym, ◌∙◌, inl, inr, Some, None, arith}
use Rattle.std.specs.List.{find, insert, AllPairs}
use Rattle.std.specs.List.Sorted.{IsPartitionedBy, IsPartitionPoint}
use Rattle.std.proofs.lemmas.Bool.{false_from_ne_true, cases_eq, cases_lt}
use Rattle.std.proofs.lemmas.List.{drop_more, drop_all}
use Rattle.std.proofs.lemmas.List.Recursion.{found_at, found_nowhere}
use Rattle.std.proofs.Math.ListN.{take-append-drop}
use Rattle.im_facts.specs.Facts.{with_fact}
use Rattle.im_facts.proofs.OrderLemmas.{IsOrder}

module _ (X : Type 0) (before beside : X → X → Bool) (order : IsOrder X before beside) where
  -- the facts before a place stand in front
  pub parted : (xs : List X) (h : X) → AllPairs (λ a b. before a b ≡ true) xs → IsPartitionedBy (λ y. before y h) xs
  parted xs h rises i j d le within is = go (cases_eq i j)
    where
      go : (i ≡ j) ⊎ (i ≡ j → ⊥) → before (get_or xs i d) h ≡ true
      go (inl e) = ap (λ (n : ℕ). before (get_or xs n d) h) e ∙ is
      go (inr ne) = order.on (get_or xs i d) (get_or xs j d) h (rises i j d (omega arith) within) is

  -- of these none has the place
  before-beside : (a b : X) → before a b ≡ true → beside a b ≡ false
  before-beside a b e = false_from_ne_true (beside a b) (order.apart a b e)

  -- nor has one behind it
  behind-beside : (a b : X) → before b a ≡ true → beside a b ≡ false
  behind-beside a b e = false_from_ne_true (beside a b) (λ p. order.apart b a e (order.back a b p))

  -- the fact of the place is found
  pub find-there : (xs : List X) (h : X) (i : ℕ) (d : X) → i < length xs → IsPartitionPoint (λ y. before y h ≡ true) (λ y. before y h ≡ false) xs i → beside (get_or xs i d) h ≡ true
      → find (λ k. beside k h) xs ≡ Some (get_or xs i d)
  find-there xs h i d within point is =
      found_at (find (λ k. beside k h)) (λ k. beside k h) Some None refl (λ _ _. refl) xs i d within
      (λ k lt. before-beside (get_or xs k d) h (point.0 k d (omega arith) lt)) is

  -- or none
  pub find-none : (xs : List X) (h : X) (i : ℕ) (d : X) → AllPairs (λ a b. before a b ≡ true) xs → IsPartitionPoint (λ y. before y h ≡ true) (λ y. before y h ≡ false) xs i
      → (i < length xs → beside (get_or xs i d) h ≡ false) → find (λ k. beside k h) xs ≡ None
  find-none xs h i d rises point is =
      found_nowhere (find (λ k. beside k h)) (λ k. beside k h) Some None refl (λ _ _. refl) xs d each
    where
      behind : (k : ℕ) → k < length xs → i < k → beside (get_or xs k d) h ≡ false
      behind k within lt =
          let within-i : i < length xs = omega arith in
          let first : before h (get_or xs i d) ≡ true = order.after (get_or xs i d) h (point.1 i d (omega arith) within-i) (is within-i) in
          behind-beside (get_or xs k d) h (order.on h (get_or xs i d) (get_or xs k d) first (rises i k d lt within))

      far : (k : ℕ) → k < length xs → (k < i) ⊎ (i ≤ k) → beside (get_or xs k d) h ≡ false
      far k within (inl lt) = before-beside (get_or xs k d) h (point.0 k d (omega arith) lt)
      far k within (inr le) = near (cases_eq i k)
        where
          near : (i ≡ k) ⊎ (i ≡ k → ⊥) → beside (get_or xs k d) h ≡ false
          near (inl e) =
              let within-i : i < length xs = omega arith in
              subst (λ (n : ℕ). beside (get_or xs n d) h ≡ false) e (is within-i)
          near (inr ne) = behind k within (omega arith)

      each : (k : ℕ) → k < length xs → beside (get_or xs k d) h ≡ false
      each k within = far k within (cases_lt k i)

  -- a fact is put behind those that are before it
  put-skip : (xs : List X) (i : ℕ) (h : X) → ((k : ℕ) (d : X) → k < i → before (get_or xs k d) h ≡ true) → i ≤ length xs → with_fact before beside xs h ≡ take i xs ++ with_fact before beside (drop i xs) h
  put-skip [] zero h front le = refl
  put-skip [] (suc i) h front le = refl
  put-skip (x ∷ xs) zero h front le = refl
  put-skip (x ∷ xs) (suc i) h front le =
      ap (λ (b : Bool). if b then x ∷ with_fact before beside xs h else (if beside x h then x ∷ xs else h ∷ x ∷ xs)) (front 0 x (omega arith))
      ∙ ap (λ (l : List X). x ∷ l) (put-skip xs i h (λ k d lt. front (suc k) d (omega arith)) (omega arith))

  put-first : (ys : List X) (y h : X) → before y h ≡ false → beside y h ≡ false → with_fact before beside (y ∷ ys) h ≡ h ∷ y ∷ ys
  put-first ys y h p q =
      ap (λ (b : Bool). if b then y ∷ with_fact before beside ys h else (if beside y h then y ∷ ys else h ∷ y ∷ ys)) p
      ∙ ap (λ (b : Bool). if b then y ∷ ys else h ∷ y ∷ ys) q

  put-same : (ys : List X) (y h : X) → before y h ≡ false → beside y h ≡ true → with_fact before beside (y ∷ ys) h ≡ y ∷ ys
  put-same ys y h p q =
      ap (λ (b : Bool). if b then y ∷ with_fact before beside ys h else (if beside y h then y ∷ ys else h ∷ y ∷ ys)) p
      ∙ ap (λ (b : Bool). if b then y ∷ ys else h ∷ y ∷ ys) q

  -- one of a new place is inserted
  pub put-inserts : (xs : List X) (h : X) (i : ℕ) → i ≤ length xs → IsPartitionPoint (λ y. before y h ≡ true) (λ y. before y h ≡ false) xs i → ((d : X) → i < length xs → beside (get_or xs i d) h ≡ false)
      → with_fact before beside xs h ≡ insert xs i h
  put-inserts xs h i le point is =
      put-skip xs i h (λ k d lt. point.0 k d (omega arith) lt) le ∙ ap (λ (l : List X). take i xs ++ l) (go (cases_lt i (length xs)))
    where
      go : (i < length xs) ⊎ (length xs ≤ i) → with_fact before beside (drop i xs) h ≡ h ∷ drop i xs
      go (inl lt) =
          let cut : drop i xs ≡ get_or xs i h ∷ drop (i + 1) xs = drop_more xs i h lt in
          subst (λ (l : List X). with_fact before beside l h ≡ h ∷ l) (sym cut) (put-first (drop (i + 1) xs) (get_or xs i h) h (point.1 i h (omega arith) lt) (is h lt))
      go (inr ge) = subst (λ (l : List X). with_fact before beside l h ≡ h ∷ l) (sym (drop_all i xs ge)) refl

  -- one of a place that is there isn't
  pub put-stays : (xs : List X) (h : X) (i : ℕ) (d : X) → i < length xs → IsPartitionPoint (λ y. before y h ≡ true) (λ y. before y h ≡ false) xs i → beside (get_or xs i d) h ≡ true → with_fact before beside xs h ≡ xs
  put-stays xs h i d lt point is =
      let cut : drop i xs ≡ get_or xs i d ∷ drop (i + 1) xs = drop_more xs i d lt in
      put-skip xs i h (λ k e l. point.0 k e (omega arith) l) (omega arith)
      ∙ ap (λ (l : List X). take i xs ++ l) (subst (λ (l : List X). with_fact before beside l h ≡ l) (sym cut) (put-same (drop (i + 1) xs) (get_or xs i d) h (point.1 i d (omega arith) lt) is))
      ∙ take-append-drop i xs

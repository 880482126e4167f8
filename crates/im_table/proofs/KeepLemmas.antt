-- What keeps the rule: a change of the words and of one view.
use Rattle.std.proofs.Common.{◌≡◌, ◌≢◌, ℕ, ◌+◌, ◌-◌, List, length, set, Bool, true, cond, refl, sym, ap, ◌∙◌, subst, ⊎_elim, arith}
use Rattle.std.specs.Prelude.{slice_index, slice_set}
use mathlib.Core.Option.{some}
use lib.ListN.{get_elem?}
use Rattle.atomic_table.specs.Table.{State, Me, keeps, Allows}
use Rattle.atomic_table.proofs.Lists.{at_set}
use Rattle.im_table.specs.declared.view.View.{View}
use Rattle.im_table.specs.declared.items.LogItem.{LogItem}
use Rattle.im_table.specs.declared.roles.Roles.{Roles}
use Rattle.im_table.specs.Views.{placed_by, spent, zeros}
use Rattle.im_model.specs.Counts.{times}
use Rattle.im_table.specs.Rules.{NoSlot, Marks, AtMost, words_of, Ordered, FitsRule, Tally, journals, indexes, books, trees, weights, leaves, faults, owns, share, whole, HoldsRule}
use Rattle.im_table.proofs.SumLemmas.{sum_set, sum_two}

-- 0 is no more than any word
pub none_less : (m : Marks) → AtMost zeros m
none_less m = record { durable = omega arith; linked = omega arith; indexed = omega arith; failed = omega arith }

-- a spent view has no share of anything
pub none_spent : (t : Tally) → share t spent ≡ 0
none_spent journals = refl
none_spent indexes = refl
none_spent books = refl
none_spent trees = refl
none_spent weights = refl
none_spent leaves = refl
none_spent faults = refl
none_spent (owns n) = refl

-- a view that is the same in all that is counted has the same shares
pub same_shares : (v w : View) → w.roles ≡ v.roles → w.weight ≡ v.weight → w.leaves ≡ v.leaves → w.faults ≡ v.faults → w.own ≡ v.own → (t : Tally) → share t w ≡ share t v
same_shares v w roles weight left failed own journals = ap (λ (r : Roles). cond r.journal 1 0) roles
same_shares v w roles weight left failed own indexes = ap (λ (r : Roles). cond r.index 1 0) roles
same_shares v w roles weight left failed own books = ap (λ (r : Roles). cond r.book 1 0) roles
same_shares v w roles weight left failed own trees = ap (λ (r : Roles). cond r.tree 1 0) roles
same_shares v w roles weight left failed own weights = weight
same_shares v w roles weight left failed own leaves = left
same_shares v w roles weight left failed own faults = failed
same_shares v w roles weight left failed own (owns n) = ap (times n) own

-- words that are the same in all that is counted
pub same_whole : (found : List LogItem) (m n : Marks) → n.log ≡ m.log → n.linked ≡ m.linked → n.failed ≡ m.failed → (t : Tally) → whole found n t ≡ whole found m t
same_whole found m n log linked failed journals = refl
same_whole found m n log linked failed indexes = refl
same_whole found m n log linked failed books = refl
same_whole found m n log linked failed trees = refl
same_whole found m n log linked failed weights = refl
same_whole found m n log linked failed leaves = ap (λ (k : ℕ). k - length found) linked
same_whole found m n log linked failed faults = failed
same_whole found m n log linked failed (owns k) = ap (λ (l : List LogItem). times k (placed_by l)) log

-- a role that is held counts once
pub on : (b : Bool) → b ≡ true → ◌≡◌ {A = ℕ} (cond b 1 0) 1
on b e = ap (λ (c : Bool). cond c 1 0) e

module _ (allows : List LogItem → Type 0) where
  -- each view fits
  abbrev pub Every : Marks → List View → Type 0
  Every m views = (k : ℕ) (v : View) → get_elem? views k ≡ some v → FitsRule allows m v

  -- they fit still where one changes
  pub every_set : (m : Marks) (views : List View) (i : ℕ) (w : View) → ((k : ℕ) (v : View) → k ≢ i → get_elem? views k ≡ some v → FitsRule allows m v) → FitsRule allows m w → Every m (set views i w)
  every_set m views i w others mine k v e =
      ⊎_elim
      (λ (x : (k ≡ i) × (w ≡ v)). subst (λ (y : View). FitsRule allows m y) x.1 mine)
      (λ (x : (k ≢ i) × (get_elem? views k ≡ some v)). others k v x.0 x.1)
      (at_set views i k w v e)

module _ (allows : List LogItem → Type 0) (found : List LogItem) where
  -- one view and the words change
  pub kept : (s : State NoSlot View) (ws : List ℕ) (id : ℕ) (v w : View) (m : Marks) (h : HoldsRule allows found s) → get_elem? s.views id ≡ some v
      → ws ≡ words_of m → Ordered found m
      → ((k : ℕ) (u : View) → k ≢ id → get_elem? s.views k ≡ some u → FitsRule allows m u) → FitsRule allows m w
      → ((t : Tally) → share t w + whole found h.marks t ≡ share t v + whole found m t)
      → HoldsRule allows found (record { words = ws; homes = s.homes; views = set s.views id w })
  kept s ws id v w m h at words ordered others mine moves = record {
    marks = m;
    words = words;
    ordered = ordered;
    fits = every_set allows m s.views id w others mine;
    sums = λ t. omega (arith, sum_set (share t) s.views id v w at, h.sums t, moves t);
  }

  -- a view changes in what is not shared out
  pub kept_same : (s : State NoSlot View) (ws : List ℕ) (id : ℕ) (v w : View) (h : HoldsRule allows found s) → get_elem? s.views id ≡ some v → ws ≡ s.words
      → FitsRule allows h.marks w → ((t : Tally) → share t w ≡ share t v) → HoldsRule allows found (record { words = ws; homes = s.homes; views = set s.views id w })
  kept_same s ws id v w h at same f counts = kept s ws id v w h.marks h at (same ∙ h.words) h.ordered (λ k u _ e. h.fits k u e) f (λ t. omega (arith, counts t))

  -- two views don't share what is there once
  pub alone : (s : State NoSlot View) (h : HoldsRule allows found s) (t : Tally) → whole found h.marks t ≡ 1 → (i j : ℕ) (u v : View) → i ≢ j → get_elem? s.views i ≡ some u → get_elem? s.views j ≡ some v → share t v ≡ 1 → share t u ≡ 1 → ⊥
  alone s h t one i j u v apart e e' a b = omega (arith, sum_two (share t) s.views i j u v spent (none_spent t) apart e e', h.sums t)

  -- a word is as the list and the marks say
  pub word : (s : State NoSlot View) (h : HoldsRule allows found s) (i : ℕ) → slice_index s.words i ≡ slice_index (words_of h.marks) i
  word s h i = ap (λ (ws : List ℕ). slice_index ws i) h.words

  -- a load leaves the words as they were
  pub again : (s : State NoSlot View) (h : HoldsRule allows found s) (i : ℕ) → slice_set (words_of h.marks) i (slice_index (words_of h.marks) i) ≡ words_of h.marks → slice_set s.words i (slice_index s.words i) ≡ s.words
  again s h i e = subst (λ (ws : List ℕ). slice_set ws i (slice_index ws i) ≡ ws) (sym h.words) e

  -- a load, which changes what is not shared out
  pub loaded : (slots id i : ℕ) (me : Me NoSlot View) (look : ℕ → View) (Tells : ℕ → View → Type 0)
      → ((m : Marks) → slice_set (words_of m) i (slice_index (words_of m) i) ≡ words_of m)
      → ((m : Marks) → Ordered found m → FitsRule allows m me.0 → FitsRule allows m (look (slice_index (words_of m) i)) × Tells (slice_index (words_of m) i) (look (slice_index (words_of m) i)))
      → ((t : Tally) (n : ℕ) → share t (look n) ≡ share t me.0)
      → Allows (HoldsRule allows found) slots id me i (λ n. n) (λ n w. Tells n w.0 × (w.1 ≡ me.1))
  loaded slots id i me look Tells same fine counts s h homes at small =
      let n = slice_index s.words i in
      let good = subst (λ (k : ℕ). FitsRule allows h.marks (look k) × Tells k (look k)) (sym (word s h i)) (fine h.marks h.ordered (h.fits id me.0 at)) in (
        look n,
        keeps,
        tt,
        kept_same s (slice_set s.words i n) id me.0 (look n) h at (again s h i (same h.marks)) good.0 (λ t. counts t n),
        (good.1, refl),
      )

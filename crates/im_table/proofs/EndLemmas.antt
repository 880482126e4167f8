-- The first state meets the rule, and what a load tells at the end.
use Rattle.std.proofs.Common.{◌≡◌, ◌≢◌, ℕ, zero, suc, List, [], ◌∷◌, length, true, refl, sym, ap, ◌∙◌, subst, arith}
use Rattle.std.specs.Prelude.{slice_index, slice_set}
use Rattle.std.specs.List.{sum_by, All}
use mathlib.Core.List.{IsPrefix}
use mathlib.Core.Option.{some, some-ne-none, some-injective}
use lib.ListN.{get_elem?}
use Rattle.atomic_table.specs.Table.{Me, keeps, Allows, opening}
use Rattle.im_table.specs.declared.view.View.{View}
use Rattle.im_table.specs.declared.items.LogItem.{LogItem}
use Rattle.im_table.specs.Views.{placed_by, spent, opener}
use Rattle.im_model.specs.Counts.{times}
use Rattle.im_table.specs.Rules.{NoSlot, Marks, Closes, FitsRule, Tally, journals, indexes, books, trees, weights, leaves, faults, owns, share, whole, HoldsRule}
use Rattle.im_table.proofs.FrontLemmas.{prefix_self}
use Rattle.im_table.proofs.NumberLemmas.{numbers_found}
use Rattle.im_table.proofs.SumLemmas.{sum_two, sum_only}
use Rattle.im_table.proofs.KeepLemmas.{none_less, kept_same, word, again}

module _ (allows : List LogItem → Type 0) (found : List LogItem) where
  -- a load by the one who has the whole weight, and the roles of book and tree
  pub closes : (slots id : ℕ) (me : Me NoSlot View) → me.0.roles.book ≡ true → Allows (HoldsRule allows found) slots id me 0 (λ n. n) (λ n w. Closes allows found me.0 n w.0 × (w.1 ≡ me.1))
  closes slots id me book s h homes at small =
      let v = me.0 in
      let n = slice_index s.words 0 in
      let f = h.fits id v at in
      let m = h.marks in
      let all : v.seen ≡ m.log = f.book book in
      let idle : v.weight ≡ 1048576 → (j : ℕ) (u : View) → j ≢ id → get_elem? s.views j ≡ some u → u.weight ≡ 0 = λ heavy j u apart e. omega (arith, sum_two (share weights) s.views j id u v spent refl apart e at, h.sums weights) in (
        v,
        keeps,
        tt,
        kept_same allows found s (slice_set s.words 0 n) id v v h at (again allows found s h 0 refl) f (λ t. refl),
        (
          record {
            view = refl;
            begins = subst (λ (l : List LogItem). IsPrefix found l) (sym all) h.ordered.begins;
            lawful = f.lawful;
            whole = word allows found s h 0 ∙ sym (ap length all);
            owned = λ heavy k.
                let one : sum_by (share (owns k)) s.views ≡ share (owns k) v = sum_only (share (owns k)) s.views id v at (λ j u apart e. ap (times k) ((h.fits j u e).idle (idle heavy j u apart e)).0) in
                sym one ∙ h.sums (owns k) ∙ ap (λ (l : List LogItem). times k (placed_by l)) (sym all);
            leaves = λ heavy tree.
                let one : sum_by (share leaves) s.views ≡ v.leaves = sum_only (share leaves) s.views id v at (λ j u apart e. ((h.fits j u e).idle (idle heavy j u apart e)).1) in
                omega (arith, h.sums leaves, f.tree tree, h.ordered.old);
            faults = λ heavy journal.
                let one : sum_by (share faults) s.views ≡ v.faults = sum_only (share faults) s.views id v at (λ j u apart e. ((h.fits j u e).idle (idle heavy j u apart e)).2) in
                sym one ∙ h.sums faults ∙ sym (f.journal journal).1;
          },
          refl,
        ),
      )

  abbrev start : Marks
  start = record { log = found; durable = length found; linked = length found; indexed = length found; failed = 0 }

  -- the first state
  pub opens : allows found → All (λ (x : LogItem). x.found ≡ true) found → HoldsRule allows found (opening (length found ∷ length found ∷ length found ∷ length found ∷ 0 ∷ []) [] (opener found))
  opens lawful old = record {
    marks = start;
    words = refl;
    ordered = record { begins = prefix_self found; linked = omega arith; indexed = omega arith; durable = omega arith; old = omega arith };
    fits = one;
    sums = counts;
  }
    where
      mine : FitsRule allows start (opener found)
      mine = record {
        seen = prefix_self found;
        told = (found, refl);
        less = none_less start;
        lawful = lawful;
        durable = omega arith;
        linked = omega arith;
        indexed = omega arith;
        failed = omega arith;
        book = λ _. refl;
        journal = λ _. (refl, refl);
        tree = λ _. refl;
        index = λ _. refl;
        idle = λ none. absurd (omega arith);
        within = λ k d lt. absurd (omega arith);
      }

      one : (k : ℕ) (v : View) → get_elem? (opener found ∷ []) k ≡ some v → FitsRule allows start v
      one zero v e = subst (FitsRule allows start) (some-injective _ _ e) mine
      one (suc k) v e = absurd (some-ne-none v (sym e))

      counts : (t : Tally) → sum_by (share t) (opener found ∷ []) ≡ whole found start t
      counts journals = refl
      counts indexes = refl
      counts books = refl
      counts trees = refl
      counts weights = refl
      counts leaves = omega arith
      counts faults = refl
      counts (owns n) = ap (times n) (sym (numbers_found 1 found old))

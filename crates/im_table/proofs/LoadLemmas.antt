-- Each load keeps the rule.
use Rattle.std.proofs.Common.{◌≡◌, ℕ, ◌≤◌, List, length, true, refl, sym, ap, subst, ⊎_elim, arith}
use mathlib.Core.List.{IsPrefix}
use Rattle.atomic_table.specs.Table.{Me, Allows}
use Rattle.im_table.specs.declared.view.View.{View}
use Rattle.im_table.specs.declared.items.LogItem.{LogItem}
use Rattle.im_table.specs.Views.{looked_placed, looked_durable, looked_linked, looked_indexed, looked_failed, untold}
use Rattle.im_table.specs.Rules.{NoSlot, SeesPlaced, Loads, Compares, HoldsRule}
use Rattle.im_table.proofs.FrontLemmas.{prefix_shorter, prefix_length}
use Rattle.im_table.proofs.KeepLemmas.{none_less, loaded, same_shares}

module _ (allows : List LogItem → Type 0) (found : List LogItem) where
  -- of the word placed
  pub sees_placed : (slots id : ℕ) (me : Me NoSlot View) → Allows (HoldsRule allows found) slots id me 0 (λ n. n) (λ n w. SeesPlaced allows me.0 n w.0 × (w.1 ≡ me.1))
  sees_placed slots id me = loaded allows found slots id 0 me (looked_placed me.0) (SeesPlaced allows me.0) (λ m. refl)
      (λ m o f. (
        record { seen = f.seen; told = f.told; less = f.less; lawful = f.lawful; durable = f.durable; linked = f.linked; indexed = f.indexed; failed = f.failed; book = f.book; journal = f.journal; tree = f.tree; index = f.index; idle = f.idle; within = f.within },
        let v = me.0 in
            record {
              view = refl;
              lawful = f.lawful;
              least = prefix_length v.seen m.log f.seen;
              durable = omega (arith, f.durable, o.durable);
              linked = omega (arith, f.linked, o.linked, o.durable);
              indexed = omega (arith, f.indexed, o.indexed, o.durable);
              whole = λ b. sym (ap length (f.book b));
            },
      ))
      (λ t n. same_shares me.0 (looked_placed me.0 n) refl refl refl refl refl t)

  -- of the word durable
  pub sees_durable : (slots id : ℕ) (me : Me NoSlot View) → Allows (HoldsRule allows found) slots id me 1 (λ n. n) (λ n w. ((w.0 ≡ looked_durable me.0 n) × Loads me.0.roles.journal me.0.least.durable n) × (w.1 ≡ me.1))
  sees_durable slots id me = loaded allows found slots id 1 me (looked_durable me.0) (λ n w. (w ≡ looked_durable me.0 n) × Loads me.0.roles.journal me.0.least.durable n) (λ m. refl)
      (λ m o f. (
        record { seen = f.seen; told = f.told; less = f.less; lawful = f.lawful; durable = omega arith; linked = f.linked; indexed = f.indexed; failed = f.failed; book = f.book; journal = λ b. (refl, (f.journal b).1); tree = f.tree; index = f.index; idle = f.idle; within = f.within },
        (refl, record { least = f.durable; exact = λ b. sym (f.journal b).0 }),
      ))
      (λ t n. same_shares me.0 (looked_durable me.0 n) refl refl refl refl refl t)

  -- of the word linked
  pub sees_linked : (slots id : ℕ) (me : Me NoSlot View) → Allows (HoldsRule allows found) slots id me 2 (λ n. n) (λ n w. ((w.0 ≡ looked_linked me.0 n) × Loads me.0.roles.tree me.0.least.linked n) × (w.1 ≡ me.1))
  sees_linked slots id me = loaded allows found slots id 2 me (looked_linked me.0) (λ n w. (w ≡ looked_linked me.0 n) × Loads me.0.roles.tree me.0.least.linked n) (λ m. refl)
      (λ m o f. (
        record { seen = f.seen; told = f.told; less = f.less; lawful = f.lawful; durable = f.durable; linked = omega arith; indexed = f.indexed; failed = f.failed; book = f.book; journal = f.journal; tree = λ b. refl; index = f.index; idle = f.idle; within = f.within },
        (refl, record { least = f.linked; exact = λ b. sym (f.tree b) }),
      ))
      (λ t n. same_shares me.0 (looked_linked me.0 n) refl refl refl refl refl t)

  -- of the word indexed
  pub sees_indexed : (slots id : ℕ) (me : Me NoSlot View) → Allows (HoldsRule allows found) slots id me 3 (λ n. n) (λ n w. ((w.0 ≡ looked_indexed me.0 n) × Loads me.0.roles.index me.0.least.indexed n) × (w.1 ≡ me.1))
  sees_indexed slots id me = loaded allows found slots id 3 me (looked_indexed me.0) (λ n w. (w ≡ looked_indexed me.0 n) × Loads me.0.roles.index me.0.least.indexed n) (λ m. refl)
      (λ m o f. (
        record { seen = f.seen; told = f.told; less = f.less; lawful = f.lawful; durable = f.durable; linked = f.linked; indexed = omega arith; failed = f.failed; book = f.book; journal = f.journal; tree = f.tree; index = λ b. refl; idle = f.idle; within = f.within },
        (refl, record { least = f.indexed; exact = λ b. sym (f.index b) }),
      ))
      (λ t n. same_shares me.0 (looked_indexed me.0 n) refl refl refl refl refl t)

  -- of the word failed
  pub sees_failed : (slots id : ℕ) (me : Me NoSlot View) → Allows (HoldsRule allows found) slots id me 4 (λ n. n) (λ n w. ((w.0 ≡ looked_failed me.0 n) × Loads me.0.roles.journal me.0.least.failed n) × (w.1 ≡ me.1))
  sees_failed slots id me = loaded allows found slots id 4 me (looked_failed me.0) (λ n w. (w ≡ looked_failed me.0 n) × Loads me.0.roles.journal me.0.least.failed n) (λ m. refl)
      (λ m o f. (
        record { seen = f.seen; told = f.told; less = f.less; lawful = f.lawful; durable = f.durable; linked = f.linked; indexed = f.indexed; failed = omega arith; book = f.book; journal = λ b. ((f.journal b).0, refl); tree = f.tree; index = f.index; idle = f.idle; within = f.within },
        (refl, record { least = f.failed; exact = λ b. sym (f.journal b).1 }),
      ))
      (λ t n. same_shares me.0 (looked_failed me.0 n) refl refl refl refl refl t)

  -- the load behind a join
  pub compares : (slots id : ℕ) (me : Me NoSlot View) → Allows (HoldsRule allows found) slots id me 0 (λ n. n) (λ n w. Compares me.0 n w.0 × (w.1 ≡ me.1))
  compares slots id me = loaded allows found slots id 0 me (λ _. untold me.0) (Compares me.0) (λ m. refl)
      (λ m o f. (
        record { seen = f.seen; told = (m.log, refl); less = none_less m; lawful = f.lawful; durable = f.durable; linked = f.linked; indexed = f.indexed; failed = f.failed; book = f.book; journal = f.journal; tree = f.tree; index = f.index; idle = f.idle; within = f.within },
        let v = me.0 in
            record {
              view = refl;
              begins = λ way. ⊎_elim
                  (λ (b : v.roles.book ≡ true). subst (IsPrefix v.told) (sym (f.book b)) f.told)
                  (λ (le : length v.told ≤ length v.seen). prefix_shorter v.told v.seen m.log f.told f.seen le)
                  way;
              durable = λ way. ⊎_elim (λ (b : v.roles.journal ≡ true). omega (arith, (f.journal b).0, f.less.durable)) (λ (le : v.told_least.durable ≤ v.least.durable). le) way;
              linked = λ way. ⊎_elim (λ (b : v.roles.tree ≡ true). omega (arith, f.tree b, f.less.linked)) (λ (le : v.told_least.linked ≤ v.least.linked). le) way;
              indexed = λ way. ⊎_elim (λ (b : v.roles.index ≡ true). omega (arith, f.index b, f.less.indexed)) (λ (le : v.told_least.indexed ≤ v.least.indexed). le) way;
              failed = λ way. ⊎_elim (λ (b : v.roles.journal ≡ true). omega (arith, (f.journal b).1, f.less.failed)) (λ (le : v.told_least.failed ≤ v.least.failed). le) way;
              least = prefix_length v.seen m.log f.seen;
              whole = λ b. sym (ap length (f.book b));
            },
      ))
      (λ t n. same_shares me.0 (untold me.0) refl refl refl refl refl t)

-- A split and a join keep the rule.
use Rattle.std.proofs.Common.{◌≡◌, ◌≢◌, ℕ, ◌+◌, ◌<◌, ◌≤◌, List, [], length, set, true≢false, refl, sym, ◌∙◌, subst, ⊎_elim, arith}
use Rattle.std.proofs.lemmas.List.Elements.{All-append}
use mathlib.Core.List.{IsPrefix}
use mathlib.Core.Option.{some}
use lib.ListN.{get_elem?}
use Rattle.atomic_table.specs.Table.{Splits, Joins}
use Rattle.atomic_table.proofs.Lists.{at_snoc, set_else}
use Rattle.im_table.specs.declared.view.View.{View}
use Rattle.im_table.specs.declared.items.LogItem.{LogItem}
use Rattle.im_table.specs.declared.roles.Roles.{Roles}
use Rattle.im_table.specs.Views.{AreHeld, left_of, right_of, chosen, together, spent}
use Rattle.im_table.specs.Rules.{FitsRule, Tally, journals, indexes, books, trees, weights, leaves, faults, owns, share, whole, HoldsRule}
use Rattle.im_table.proofs.NumberLemmas.{chosen_one, other_one, chosen_length, chosen_whole, role_cut, role_left, role_both, append_nil_left, pick_one, rest_one, pick_whole}
use Rattle.im_model.proofs.CountLemmas.{times_append}
use Rattle.im_table.proofs.SumLemmas.{sum_set, sum_snoc, sum_two}
use Rattle.im_table.proofs.KeepLemmas.{none_less, none_spent, every_set}

module _ (allows : List LogItem → Type 0) (found : List LogItem) where
  -- roles and weights are shared out
  pub cuts : (id : ℕ) (v : View) (roles : Roles) (weight : ℕ) → AreHeld v.roles roles → weight < v.weight → Splits (HoldsRule allows found) id v (left_of roles weight v) (right_of roles weight v)
  cuts id v roles weight may less s h at =
      let l = left_of roles weight v in
      let r = right_of roles weight v in
      let m = h.marks in
      let f = h.fits id v at in
      let views = set s.views id l in
      let right : FitsRule allows m r = record {
        seen = f.seen;
        told = (m.log, refl);
        less = none_less m;
        lawful = f.lawful;
        durable = f.durable;
        linked = f.linked;
        indexed = f.indexed;
        failed = f.failed;
        book = λ b. f.book (may.book b);
        journal = λ b. f.journal (may.journal b);
        tree = λ b. f.tree (may.tree b);
        index = λ b. f.index (may.index b);
        idle = λ _. (refl, refl, refl);
        within = λ k d lt. absurd (omega arith);
      } in
      let left : FitsRule allows m l = record {
        seen = f.seen;
        told = f.told;
        less = f.less;
        lawful = f.lawful;
        durable = f.durable;
        linked = f.linked;
        indexed = f.indexed;
        failed = f.failed;
        book = λ b. f.book (role_left roles.book v.roles.book b);
        journal = λ b. f.journal (role_left roles.journal v.roles.journal b);
        tree = λ b. f.tree (role_left roles.tree v.roles.tree b);
        index = λ b. f.index (role_left roles.index v.roles.index b);
        idle = λ none. absurd (omega arith);
        within = f.within;
      } in record {
        marks = m;
        words = h.words;
        ordered = h.ordered;
        fits = λ k u e. ⊎_elim
            (λ was. every_set allows m s.views id l (λ j y apart e'. h.fits j y e') left k u was)
            (λ (same : r ≡ u). subst (FitsRule allows m) same right)
            (at_snoc views r u k e);
        sums = λ t. omega (arith, sum_set (share t) s.views id v l at, sum_snoc (share t) views r, h.sums t, counts t);
      }
    where
      counts : (t : Tally) → share t (left_of roles weight v) + share t (right_of roles weight v) ≡ share t v
      counts journals = role_cut roles.journal v.roles.journal may.journal
      counts indexes = role_cut roles.index v.roles.index may.index
      counts books = role_cut roles.book v.roles.book may.book
      counts trees = role_cut roles.tree v.roles.tree may.tree
      counts weights = omega arith
      counts leaves = omega arith
      counts faults = omega arith
      counts (owns n) = omega arith

  -- one takes in another
  pub joins : (id : ℕ) (v : View) (other : ℕ) (u : View) → allows [] → Joins (HoldsRule allows found) id v other u (together v u) spent
  joins id v other u none s h at apart there =
      let w = together v u in
      let m = h.marks in
      let views = set s.views id w in
      let away : other ≢ id = λ e. apart e in
      let at' : get_elem? s.views other ≡ some u = sym (set_else s.views id other w away) ∙ there in
      let f = h.fits id v at in
      let g = h.fits other u at' in
      let two = λ (t : Tally). sum_two (share t) s.views id other v u spent (none_spent t) (λ e. apart (sym e)) at at' in
      let long = chosen_length m.log v.roles.book u.roles.book v.seen u.seen f.seen g.seen f.book g.book in
      let both : FitsRule allows m w = record {
        seen = chosen_one (λ (l : List LogItem). IsPrefix l m.log) v.roles.book u.roles.book v.seen u.seen f.seen g.seen;
        told = other_one (λ (l : List LogItem). IsPrefix l m.log) v.roles.book u.roles.book v.seen u.seen f.seen g.seen;
        lawful = chosen_one allows v.roles.book u.roles.book v.seen u.seen f.lawful g.lawful;
        less = record { durable = rest_one (λ (n : ℕ). n ≤ m.durable) v.roles.journal u.roles.journal v.least.durable u.least.durable f.durable g.durable (omega (arith, f.durable)); linked = rest_one (λ (n : ℕ). n ≤ m.linked) v.roles.tree u.roles.tree v.least.linked u.least.linked f.linked g.linked (omega (arith, f.linked)); indexed = rest_one (λ (n : ℕ). n ≤ m.indexed) v.roles.index u.roles.index v.least.indexed u.least.indexed f.indexed g.indexed (omega (arith, f.indexed)); failed = rest_one (λ (n : ℕ). n ≤ m.failed) v.roles.journal u.roles.journal v.least.failed u.least.failed f.failed g.failed (omega (arith, f.failed)) };
        durable = pick_one (λ (n : ℕ). n ≤ m.durable) v.roles.journal u.roles.journal v.least.durable u.least.durable f.durable g.durable (omega (arith, f.durable, g.durable));
        linked = pick_one (λ (n : ℕ). n ≤ m.linked) v.roles.tree u.roles.tree v.least.linked u.least.linked f.linked g.linked (omega (arith, f.linked, g.linked));
        indexed = pick_one (λ (n : ℕ). n ≤ m.indexed) v.roles.index u.roles.index v.least.indexed u.least.indexed f.indexed g.indexed (omega (arith, f.indexed, g.indexed));
        failed = pick_one (λ (n : ℕ). n ≤ m.failed) v.roles.journal u.roles.journal v.least.failed u.least.failed f.failed g.failed (omega (arith, f.failed, g.failed));
        book = chosen_whole m.log v.roles.book u.roles.book v.seen u.seen f.book g.book;
        journal = λ b. (pick_whole m.durable v.roles.journal u.roles.journal v.least.durable u.least.durable (λ e. (f.journal e).0) (λ e. (g.journal e).0) b, pick_whole m.failed v.roles.journal u.roles.journal v.least.failed u.least.failed (λ e. (f.journal e).1) (λ e. (g.journal e).1) b);
        tree = pick_whole m.linked v.roles.tree u.roles.tree v.least.linked u.least.linked f.tree g.tree;
        index = pick_whole m.indexed v.roles.index u.roles.index v.least.indexed u.least.indexed f.index g.index;
        idle = λ z.
            let a = f.idle (omega arith) in
            let b = g.idle (omega arith) in
            (append_nil_left v.own u.own a.0 b.0, omega (arith, a.1, b.1), omega (arith, a.2, b.2));
        within = All-append (λ (n : ℕ). n ≤ length (chosen v.roles.book u.roles.book v.seen u.seen)) v.own u.own (λ k d lt. omega (arith, f.within k d lt, long.0)) (λ k d lt. omega (arith, g.within k d lt, long.1));
      } in
      let gone : FitsRule allows m spent = record {
        seen = (m.log, refl);
        told = (m.log, refl);
        less = none_less m;
        lawful = none;
        durable = omega arith;
        linked = omega arith;
        indexed = omega arith;
        failed = omega arith;
        book = λ b. absurd (true≢false (sym b));
        journal = λ b. absurd (true≢false (sym b));
        tree = λ b. absurd (true≢false (sym b));
        index = λ b. absurd (true≢false (sym b));
        idle = λ _. (refl, refl, refl);
        within = λ k d lt. absurd (omega arith);
      } in record {
        marks = m;
        words = h.words;
        ordered = h.ordered;
        fits = every_set allows m views other spent (λ k y _ e. every_set allows m s.views id w (λ j z _ e'. h.fits j z e') both k y e) gone;
        sums = λ t. omega (arith, sum_set (share t) s.views id v w at, sum_set (share t) views other u spent there, h.sums t, none_spent t, counts t (λ one. omega (arith, two t, h.sums t)));
      }
    where
      counts : (t : Tally) → (whole found h.marks t ≡ 1 → share t v + share t u ≤ 1) → share t (together v u) ≡ share t v + share t u
      counts journals two = role_both v.roles.journal u.roles.journal (two refl)
      counts indexes two = role_both v.roles.index u.roles.index (two refl)
      counts books two = role_both v.roles.book u.roles.book (two refl)
      counts trees two = role_both v.roles.tree u.roles.tree (two refl)
      counts weights two = refl
      counts leaves two = refl
      counts faults two = refl
      counts (owns n) two = times_append n v.own u.own

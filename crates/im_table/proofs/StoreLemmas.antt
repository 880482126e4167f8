-- Each store keeps the rule.
use Rattle.std.proofs.Common.{◌≡◌, ℕ, ◌+◌, ◌<◌, ◌≤◌, List, [], ◌∷◌, ◌++◌, length, true, false, refl, sym, ap, ◌∙◌, arith, length-append}
use Rattle.std.proofs.lemmas.List.{append-nil}
use Rattle.std.proofs.lemmas.List.Elements.{All-push}
use Rattle.std.specs.Prelude.{slice_set}
use Rattle.std.specs.List.{All}
use mathlib.Core.List.{IsPrefix}
use Rattle.atomic_table.specs.Table.{Me, keeps, Allows}
use Rattle.im_table.specs.declared.view.View.{View}
use Rattle.im_table.specs.declared.items.LogItem.{LogItem}
use Rattle.im_table.specs.Views.{added, view_settled, failed_once, linked_to, indexed_to}
use Rattle.im_table.specs.Rules.{NoSlot, Marks, FitsRule, Tally, journals, indexes, books, trees, weights, leaves, faults, owns, share, whole, HoldsRule}
use Rattle.im_table.proofs.FrontLemmas.{prefix_self, prefix_more, prefix_trans, prefix_length}
use Rattle.im_table.proofs.NumberLemmas.{times_new, hit}
use Rattle.im_model.proofs.CountLemmas.{times_append}
use Rattle.im_table.proofs.KeepLemmas.{on, kept, alone, same_shares, same_whole}

module _ (allows : List LogItem → Type 0) where
  -- what the words gain, for those who don't hold the role of a word that changes
  fits_more : (m m' : Marks) (u : View) → FitsRule allows m u → IsPrefix m.log m'.log → m.durable ≤ m'.durable → m.linked ≤ m'.linked → m.indexed ≤ m'.indexed → m.failed ≤ m'.failed
      → (u.roles.book ≡ true → m.log ≡ m'.log) → (u.roles.journal ≡ true → (m.durable ≡ m'.durable) × (m.failed ≡ m'.failed)) → (u.roles.tree ≡ true → m.linked ≡ m'.linked) → (u.roles.index ≡ true → m.indexed ≡ m'.indexed)
      → FitsRule allows m' u
  fits_more m m' u f log d l i k book journal tree index = record {
    seen = prefix_trans u.seen m.log m'.log f.seen log;
    told = prefix_trans u.told m.log m'.log f.told log;
    less = record { durable = omega (arith, f.less.durable); linked = omega (arith, f.less.linked); indexed = omega (arith, f.less.indexed); failed = omega (arith, f.less.failed) };
    lawful = f.lawful;
    durable = omega (arith, f.durable);
    linked = omega (arith, f.linked);
    indexed = omega (arith, f.indexed);
    failed = omega (arith, f.failed);
    book = λ b. f.book b ∙ book b;
    journal = λ b. ((f.journal b).0 ∙ (journal b).0, (f.journal b).1 ∙ (journal b).1);
    tree = λ b. f.tree b ∙ tree b;
    index = λ b. f.index b ∙ index b;
    idle = f.idle;
    within = f.within;
  }

module _ (allows : List LogItem → Type 0) (found : List LogItem) where
  -- of the word durable
  pub settles : (slots id new : ℕ) (me : Me NoSlot View) → me.0.roles.journal ≡ true → me.0.least.durable ≤ new → new ≤ length me.0.seen
      → Allows (HoldsRule allows found) slots id me 1 (λ _. new) (λ _ w. (w.0 ≡ view_settled me.0 new) × (w.1 ≡ me.1))
  settles slots id new me role more within s h homes at small =
      let v = me.0 in
      let w = view_settled v new in
      let f = h.fits id v at in
      let m = h.marks in
      let o = h.ordered in
      let m' : Marks = record m { durable = new } in
      let long = prefix_length v.seen m.log f.seen in
      let exact = f.journal role in (
        w,
        keeps,
        tt,
        kept allows found s (slice_set s.words 1 new) id v w m' h at
            (ap (λ (ws : List ℕ). slice_set ws 1 new) h.words)
            (record { begins = o.begins; linked = omega (arith, o.linked, exact.0); indexed = omega (arith, o.indexed, exact.0); durable = omega arith; old = o.old })
            (λ k u apart e. fits_more allows m m' u (h.fits k u e) (prefix_self m.log) (omega (arith, exact.0)) (omega arith) (omega arith) (omega arith) (λ _. refl) (λ b. absurd (alone allows found s h journals refl k id u v apart e at (on _ role) (on _ b))) (λ _. refl) (λ _. refl))
            (record { seen = f.seen; told = f.told; less = record { durable = omega (arith, f.less.durable, exact.0); linked = f.less.linked; indexed = f.less.indexed; failed = f.less.failed }; lawful = f.lawful; durable = omega arith; linked = f.linked; indexed = f.indexed; failed = f.failed; book = f.book; journal = λ b. (refl, exact.1); tree = f.tree; index = f.index; idle = f.idle; within = f.within })
            (λ t. omega (arith, same_shares v w refl refl refl refl refl t, same_whole found m m' refl refl refl t)),
        (refl, refl),
      )

  -- of the word linked
  pub links : (slots id new : ℕ) (me : Me NoSlot View) → me.0.roles.tree ≡ true → 0 < me.0.weight → me.0.least.linked ≤ new → new ≤ me.0.least.durable
      → Allows (HoldsRule allows found) slots id me 2 (λ _. new) (λ _ w. (w.0 ≡ linked_to me.0 new) × (w.1 ≡ me.1))
  links slots id new me role heavy more within s h homes at small =
      let v = me.0 in
      let w = linked_to v new in
      let f = h.fits id v at in
      let m = h.marks in
      let o = h.ordered in
      let m' : Marks = record m { linked = new } in
      let exact = f.tree role in (
        w,
        keeps,
        tt,
        kept allows found s (slice_set s.words 2 new) id v w m' h at
            (ap (λ (ws : List ℕ). slice_set ws 2 new) h.words)
            (record { begins = o.begins; linked = omega (arith, f.durable); indexed = o.indexed; durable = o.durable; old = omega (arith, o.old) })
            (λ k u apart e. fits_more allows m m' u (h.fits k u e) (prefix_self m.log) (omega arith) (omega (arith, exact)) (omega arith) (omega arith) (λ _. refl) (λ b. (refl, refl)) (λ b. absurd (alone allows found s h trees refl k id u v apart e at (on _ role) (on _ b))) (λ _. refl))
            (record { seen = f.seen; told = f.told; less = record { durable = f.less.durable; linked = omega (arith, f.less.linked, exact); indexed = f.less.indexed; failed = f.less.failed }; lawful = f.lawful; durable = f.durable; linked = omega arith; indexed = f.indexed; failed = f.failed; book = f.book; journal = f.journal; tree = λ b. refl; index = f.index; idle = λ none. absurd (omega arith); within = f.within })
            counts,
        (refl, refl),
      )
    where
      counts : (t : Tally) → share t (linked_to me.0 new) + whole found h.marks t ≡ share t me.0 + whole found (record h.marks { linked = new }) t
      counts journals = refl
      counts indexes = refl
      counts books = refl
      counts trees = refl
      counts weights = refl
      counts leaves = omega (arith, (h.fits id me.0 at).tree role, h.ordered.old)
      counts faults = refl
      counts (owns k) = refl

  -- of the word placed: the law holds of the list with the item, where it holds of the list before
  pub adds : (slots id : ℕ) (me : Me NoSlot View) (x : LogItem) (new : ℕ) → me.0.roles.book ≡ true → 0 < me.0.weight → new ≡ length me.0.seen + 1 → x.found ≡ false → (allows me.0.seen → allows (me.0.seen ++ x ∷ []))
      → Allows (HoldsRule allows found) slots id me 0 (λ _. new) (λ _ w. (w.0 ≡ added me.0 x) × (w.1 ≡ me.1))
  adds slots id me x new role heavy next fresh lawful s h homes at small =
      let v = me.0 in
      let w = added v x in
      let f = h.fits id v at in
      let m = h.marks in
      let o = h.ordered in
      let log = m.log ++ x ∷ [] in
      let m' : Marks = record m { log = log } in
      let all : v.seen ≡ m.log = f.book role in
      let now : v.seen ++ x ∷ [] ≡ log = ap (λ (l : List LogItem). l ++ x ∷ []) all in
      let count : length v.seen ≡ length m.log = ap length all in
      let last : length (v.seen ++ x ∷ []) ≡ length v.seen + 1 = omega (arith, length-append v.seen (x ∷ [])) in
      let stays : All (λ (n : ℕ). n ≤ length (v.seen ++ x ∷ [])) v.own = λ k d lt. omega (arith, f.within k d lt, last) in
      let longer' : length log ≡ new = omega (arith, length-append m.log (x ∷ [])) in (
        w,
        keeps,
        tt,
        kept allows found s (slice_set s.words 0 new) id v w m' h at
            (ap (λ (ws : List ℕ). slice_set ws 0 new) h.words ∙ ap (λ (n : ℕ). n ∷ m.durable ∷ m.linked ∷ m.indexed ∷ m.failed ∷ []) (sym longer'))
            (record { begins = prefix_more found m.log (x ∷ []) o.begins; linked = o.linked; indexed = o.indexed; durable = omega (arith, o.durable); old = o.old })
            (λ k u apart e. fits_more allows m m' u (h.fits k u e) (x ∷ [], refl) (omega arith) (omega arith) (omega arith) (omega arith) (λ b. absurd (alone allows found s h books refl k id u v apart e at (on _ role) (on _ b))) (λ _. (refl, refl)) (λ _. refl) (λ _. refl))
            (record {
              seen = ([], ap (λ (l : List LogItem). l ++ []) now ∙ append-nil log);
              told = prefix_more v.told m.log (x ∷ []) f.told;
              less = record { durable = f.less.durable; linked = f.less.linked; indexed = f.less.indexed; failed = f.less.failed };
              lawful = lawful f.lawful;
              durable = f.durable;
              linked = f.linked;
              indexed = f.indexed;
              failed = f.failed;
              book = λ _. now;
              journal = f.journal;
              tree = f.tree;
              index = f.index;
              idle = λ none. absurd (omega arith);
              within = All-push (λ (n : ℕ). n ≤ length (v.seen ++ x ∷ [])) v.own (length v.seen + 1) stays (omega arith);
            })
            (counts all),
        (refl, refl),
      )
    where
      counts : me.0.seen ≡ h.marks.log → (t : Tally) → share t (added me.0 x) + whole found h.marks t ≡ share t me.0 + whole found (record h.marks { log = h.marks.log ++ x ∷ [] }) t
      counts all journals = refl
      counts all indexes = refl
      counts all books = refl
      counts all trees = refl
      counts all weights = refl
      counts all leaves = refl
      counts all faults = refl
      counts all (owns n) =
          let count : length me.0.seen ≡ length h.marks.log = ap length all in
          let one : hit (1 + length h.marks.log) n ≡ hit (length me.0.seen + 1) n = ap (λ (k : ℕ). hit k n) (omega arith) in
          omega (arith, times_append n me.0.own ((length me.0.seen + 1) ∷ []), times_new n 1 h.marks.log x fresh, one)

  -- of the word failed
  pub fails : (slots id new : ℕ) (me : Me NoSlot View) → me.0.roles.journal ≡ true → 0 < me.0.weight → new ≡ me.0.least.failed + 1
      → Allows (HoldsRule allows found) slots id me 4 (λ _. new) (λ _ w. (w.0 ≡ failed_once me.0) × (w.1 ≡ me.1))
  fails slots id new me role heavy next s h homes at small =
      let v = me.0 in
      let w = failed_once v in
      let f = h.fits id v at in
      let m = h.marks in
      let o = h.ordered in
      let m' : Marks = record m { failed = new } in
      let exact = f.journal role in (
        w,
        keeps,
        tt,
        kept allows found s (slice_set s.words 4 new) id v w m' h at
            (ap (λ (ws : List ℕ). slice_set ws 4 new) h.words)
            (record { begins = o.begins; linked = o.linked; indexed = o.indexed; durable = o.durable; old = o.old })
            (λ k u apart e. fits_more allows m m' u (h.fits k u e) (prefix_self m.log) (omega arith) (omega arith) (omega arith) (omega (arith, exact.1)) (λ _. refl) (λ b. absurd (alone allows found s h journals refl k id u v apart e at (on _ role) (on _ b))) (λ _. refl) (λ _. refl))
            (record { seen = f.seen; told = f.told; less = record { durable = f.less.durable; linked = f.less.linked; indexed = f.less.indexed; failed = omega (arith, f.less.failed, exact.1) }; lawful = f.lawful; durable = f.durable; linked = f.linked; indexed = f.indexed; failed = omega arith; book = f.book; journal = λ b. (exact.0, sym next); tree = f.tree; index = f.index; idle = λ none. absurd (omega arith); within = f.within })
            counts,
        (refl, refl),
      )
    where
      counts : (t : Tally) → share t (failed_once me.0) + whole found h.marks t ≡ share t me.0 + whole found (record h.marks { failed = new }) t
      counts journals = refl
      counts indexes = refl
      counts books = refl
      counts trees = refl
      counts weights = refl
      counts leaves = refl
      counts faults = omega (arith, next, ((h.fits id me.0 at).journal role).1)
      counts (owns k) = refl

  -- of the word indexed
  pub takes : (slots id new : ℕ) (me : Me NoSlot View) → me.0.roles.index ≡ true → me.0.least.indexed ≤ new → new ≤ me.0.least.durable
      → Allows (HoldsRule allows found) slots id me 3 (λ _. new) (λ _ w. (w.0 ≡ indexed_to me.0 new) × (w.1 ≡ me.1))
  takes slots id new me role more within s h homes at small =
      let v = me.0 in
      let w = indexed_to v new in
      let f = h.fits id v at in
      let m = h.marks in
      let o = h.ordered in
      let m' : Marks = record m { indexed = new } in
      let exact = f.index role in (
        w,
        keeps,
        tt,
        kept allows found s (slice_set s.words 3 new) id v w m' h at
            (ap (λ (ws : List ℕ). slice_set ws 3 new) h.words)
            (record { begins = o.begins; linked = o.linked; indexed = omega (arith, f.durable); durable = o.durable; old = o.old })
            (λ k u apart e. fits_more allows m m' u (h.fits k u e) (prefix_self m.log) (omega arith) (omega arith) (omega (arith, exact)) (omega arith) (λ _. refl) (λ b. (refl, refl)) (λ _. refl) (λ b. absurd (alone allows found s h indexes refl k id u v apart e at (on _ role) (on _ b))))
            (record { seen = f.seen; told = f.told; less = record { durable = f.less.durable; linked = f.less.linked; indexed = omega (arith, f.less.indexed, exact); failed = f.less.failed }; lawful = f.lawful; durable = f.durable; linked = f.linked; indexed = omega arith; failed = f.failed; book = f.book; journal = f.journal; tree = f.tree; index = λ b. refl; idle = f.idle; within = f.within })
            (λ t. omega (arith, same_shares v w refl refl refl refl refl t, same_whole found m m' refl refl refl t)),
        (refl, refl),
      )

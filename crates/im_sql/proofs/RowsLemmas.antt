-- The row of a key where a row was put.
use Rattle.std.proofs.Common.{◌≡◌, ◌≢◌, inl, inr, ℕ, Bool, true, false, not, cond, if◌then◌else◌, List, [], ◌∷◌, find, bytes_eq, Option, Some, None, refl, sym, ap, ◌∙◌, subst, MatchOption}
use Rattle.std.proofs.lemmas.Bool.{true≢false, cases_Bool}
use Rattle.std.proofs.lemmas.Slice.Eq.{bytes_eq-Decides}
use Rattle.std.specs.List.{AllByRecursion}
use Rattle.std.specs.Ordering.{is_lt}
use Rattle.std.specs.declared.cmp.Ordering.{Ordering}
use Rattle.im_sqltype.specs.Kinds.{AreOfKinds}
use Rattle.im_sqltype.specs.Orders.{octets_cmp}
use Rattle.im_sqltype.specs.declared.values.Value.{Value}
use Rattle.im_sqlmodel.specs.Sorts.{put_sorted}
use Rattle.im_sqlmodel.specs.Tables.{kinds_of}
use Rattle.im_sqlmodel.specs.Rows.{key_of}
use Rattle.im_sqlmodel.specs.Writes.{stored_at, rows_without, rows_with, all_written, dropped, put_all, row_written}
use Rattle.im_sqlmodel.specs.declared.rows.StoredRow.{StoredRow}
use Rattle.im_sqlmodel.specs.declared.tables.SqlIndex.{SqlIndex}
use Rattle.im_sqlmodel.specs.declared.tables.Table.{Table}
use Rattle.im_sqlmodel.specs.declared.written.Written.{Written}
use Rattle.im_sql.specs.Working.{IsWrittenRow, IsRowOver}
use Rattle.im_sql.specs.Writing.{written_at}
use Rattle.im_sql.proofs.PutLemmas.{either, row-put}

-- ---- an item that is put in order

module _ {A : Type 0} (cmp : A → A → Ordering) (q : A → Bool) where
  -- one that fails a test is looked over
  pub find-past : (x : A) (ys : List A) → q x ≡ false → find q (put_sorted cmp x ys) ≡ find q ys
  find-past x [] h = ap (λ (b : Bool). cond b (Some x) None) h
  find-past x (y ∷ ys) h = elim (is_lt (cmp y x)) as (λ (b : Bool). find q (if b then y ∷ put_sorted cmp x ys else x ∷ y ∷ ys) ≡ find q (y ∷ ys)) [
    | true ↦ ap (λ rest. cond (q y) (Some y) rest) (find-past x ys h)
    | false ↦ ap (λ (b : Bool). cond b (Some x) (find q (y ∷ ys))) h
  ]

  -- one that passes is found where no other does
  pub find-put : (x : A) (ys : List A) → q x ≡ true → AllByRecursion (λ y. q y ≡ false) ys → find q (put_sorted cmp x ys) ≡ Some x
  find-put x [] h all = ap (λ (b : Bool). cond b (Some x) None) h
  find-put x (y ∷ ys) h all = elim (is_lt (cmp y x)) as (λ (b : Bool). find q (if b then y ∷ put_sorted cmp x ys else x ∷ y ∷ ys) ≡ Some x) [
    | true ↦ ap (λ (b : Bool). cond b (Some y) (find q (put_sorted cmp x ys))) all.0 ∙ find-put x ys h all.1
    | false ↦ ap (λ (b : Bool). cond b (Some x) (find q (y ∷ ys))) h
  ]

-- ---- without the row of a key

abbrev pub of_key : Table → List ℕ → StoredRow → Bool
of_key t key s = bytes_eq (key_of t s.row) key

pub none-left : (t : Table) (key : List ℕ) (rows : List StoredRow) → AllByRecursion (λ s. of_key t key s ≡ false) (rows_without t key rows)
none-left t key [] = tt
none-left t key (s ∷ ss) = elim (of_key t key s) as (λ (b : Bool). of_key t key s ≡ b → AllByRecursion (λ (r : StoredRow). of_key t key r ≡ false) (cond (not b) (s ∷ rows_without t key ss) (rows_without t key ss))) [
  | true ↦ λ e. none-left t key ss
  | false ↦ λ e. (e, none-left t key ss)
] refl

others-left : (t : Table) (own key : List ℕ) (rows : List StoredRow) → own ≢ key → find (of_key t key) (rows_without t own rows) ≡ find (of_key t key) rows
others-left t own key [] apart = refl
others-left t own key (s ∷ ss) apart = elim (of_key t own s) as (λ (b : Bool). of_key t own s ≡ b
    → find (of_key t key) (cond (not b) (s ∷ rows_without t own ss) (rows_without t own ss)) ≡ find (of_key t key) (s ∷ ss)) [
      | true ↦ λ e. (
          let mine : key_of t s.row ≡ own = (bytes_eq-Decides (key_of t s.row) own).0 e in
          others-left t own key ss apart ∙ sym (ap (λ (b : Bool). cond b (Some s) (find (of_key t key) ss)) (differs (key_of t s.row) key (λ same. apart (sym mine ∙ same)))))
      | false ↦ λ e. ap (λ rest. cond (of_key t key s) (Some s) rest) (others-left t own key ss apart)
    ] refl
  where
    differs : (a b : List ℕ) → a ≢ b → bytes_eq a b ≡ false
    differs a b other = elim (cases_Bool (bytes_eq a b)) [
      | inl same ↦ absurd (other ((bytes_eq-Decides a b).0 same))
      | inr is ↦ is
    ]

-- ---- with a row

-- the row that was put is that of its key
pub stored-own : (t : Table) (s : StoredRow) (rows : List StoredRow) → stored_at t (rows_with t s rows) (key_of t s.row) ≡ Some s
stored-own t s rows =
    find-put (λ a b. octets_cmp (key_of t a.row) (key_of t b.row)) (of_key t (key_of t s.row)) s (rows_without t (key_of t s.row) rows)
    ((bytes_eq-Decides (key_of t s.row) (key_of t s.row)).1 refl) (none-left t (key_of t s.row) rows)

-- that of each other key is as it was
pub stored-other : (t : Table) (s : StoredRow) (rows : List StoredRow) (key : List ℕ) → bytes_eq (key_of t s.row) key ≡ false → stored_at t (rows_with t s rows) key ≡ stored_at t rows key
stored-other t s rows key other =
    find-past (λ a b. octets_cmp (key_of t a.row) (key_of t b.row)) (of_key t key) s (rows_without t (key_of t s.row) rows) other
    ∙ others-left t (key_of t s.row) key rows (λ same. true≢false (sym ((bytes_eq-Decides (key_of t s.row) key).1 same) ∙ other))

-- ---- over the rows that stood

abbrev pub Over : Table → List StoredRow → List ℕ → Option StoredRow → Option (Option (List ℕ)) → Type 0
Over t stood key found there = MatchOption there (found ≡ stored_at t stood key) (λ value. MatchOption value (found ≡ None) (λ text. IsWrittenRow t text found))

-- what `IsWorking` says of a row's key holds behind a row that is written
pub row-over : (t : Table) (indexes : List SqlIndex) (stood rows : List StoredRow) (written : List Written) (row key : List Value) (there : Option StoredRow) → AreOfKinds (kinds_of t) row
    → IsRowOver t stood written (key_of t key) (stored_at t rows (key_of t key))
    → IsRowOver t stood (put_all (all_written t indexes row) (put_all (dropped t indexes there) written)) (key_of t key)
    (stored_at t (rows_with t (record { row = row; tx = 0 }) rows) (key_of t key))
row-over t indexes stood rows written row key there kinds before =
    let s : StoredRow = record { row = row; tx = 0 } in
    subst (Over t stood (key_of t key) (stored_at t (rows_with t s rows) (key_of t key))) (sym (row-put t indexes row key there written))
    (elim (cases_Bool (bytes_eq (key_of t key) (key_of t row))) [
      | inl own ↦ (
          let same : key_of t key ≡ key_of t row = (bytes_eq-Decides (key_of t key) (key_of t row)).0 own in
          subst (λ (b : Bool). Over t stood (key_of t key) (stored_at t (rows_with t s rows) (key_of t key)) (either b (row_written t row).value (written_at written (key_of t key)))) (sym own)
          (row, kinds, refl, ap (stored_at t (rows_with t s rows)) same ∙ stored-own t s rows))
      | inr other ↦ (
          let turned : bytes_eq (key_of t row) (key_of t key) ≡ false = apart (key_of t row) (key_of t key) other in
          subst (λ (b : Bool). Over t stood (key_of t key) (stored_at t (rows_with t s rows) (key_of t key)) (either b (row_written t row).value (written_at written (key_of t key)))) (sym other)
          (subst (λ (found : Option StoredRow). Over t stood (key_of t key) found (written_at written (key_of t key))) (sym (stored-other t s rows (key_of t key) turned)) before))
    ])
  where
    apart : (a b : List ℕ) → bytes_eq b a ≡ false → bytes_eq a b ≡ false
    apart a b h = elim (cases_Bool (bytes_eq a b)) [
      | inl same ↦ absurd (true≢false (sym ((bytes_eq-Decides b a).1 (sym ((bytes_eq-Decides a b).0 same))) ∙ h))
      | inr is ↦ is
    ]

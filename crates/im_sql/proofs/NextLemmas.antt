-- What a statement's table is behind a row that is written, where no other row has its entry in a unique index.
use Rattle.std.proofs.Common.{◌≡◌, ◌≢◌, ◌<◌, ◌^◌, ◌||◌, ◌&&◌, inl, inr, ℕ, suc, Bool, true, false, not, cond, if◌then◌else◌, List, [], ◌∷◌, ◌++◌, map, filter, find, bytes_eq, is_some, AllPairs, Option, Some, None, MatchOption, refl, sym, ap, ◌∙◌, subst, arith}
use Rattle.std.proofs.lemmas.Bool.{true≢false, cases_Bool}
use Rattle.std.proofs.lemmas.List.Elements.{All-from_recursion, recursion_from_All}
use Rattle.std.proofs.lemmas.List.Kept.{AllPairs-cons}
use Rattle.std.proofs.lemmas.Slice.Eq.{bytes_eq-Decides}
use Rattle.std.specs.List.{AllByRecursion, IsAmong, list_any}
use Rattle.std.specs.Option.{option_map, option_or}
use Rattle.std.specs.Ordering.{is_lt}
use Rattle.std.specs.declared.cmp.Ordering.{Ordering}
use Rattle.im_octet.proofs.Common.{some-is, bytes-other}
use Rattle.im_model.specs.declared.transactions.Transaction.{Transaction}
use Rattle.im_versions.proofs.ListLemmas.{All-among, among-cons, among-first, among-rest}
use Rattle.im_sqltype.specs.Kinds.{AreOfKinds}
use Rattle.im_sqltype.specs.Orders.{octets_cmp}
use Rattle.im_sqltype.specs.Texts.{row_text}
use Rattle.im_sqltype.specs.declared.values.Value.{Value}
use Rattle.im_sqlmodel.specs.Kept.{IsTableOf}
use Rattle.im_sqlmodel.specs.Options.{first_found}
use Rattle.im_sqlmodel.specs.Sorts.{put_sorted}
use Rattle.im_sqlmodel.specs.Tables.{kinds_of}
use Rattle.im_sqlmodel.specs.Rows.{IndexesAre, columns_of, key_of}
use Rattle.im_sqlmodel.specs.Writes.{stored_at, rows_without, rows_with, row_met, entry_number, unique_fault, row_written, entry_written, all_written, deleted, dropped, put_written, put_all}
use Rattle.im_sqlmodel.specs.declared.answers.SqlError.TheVariants as error
use Rattle.im_sqlmodel.specs.declared.rows.StoredRow.{StoredRow}
use Rattle.im_sqlmodel.specs.declared.tables.SqlIndex.{SqlIndex}
use Rattle.im_sqlmodel.specs.declared.tables.Table.{Table}
use Rattle.im_sqlmodel.specs.declared.written.Written.{Written}
use Rattle.im_catalog.proofs.FoundLemmas.{entry-is}
use Rattle.im_plan.proofs.EntryRowLemmas.{one-index, prefix-cut}
use Rattle.im_plan.proofs.ReachLemmas.{entry-parts}
use Rattle.im_sql.specs.Working.{holder, IsWrittenHolder, IsHolderOver, IsWorking}
use Rattle.im_sql.specs.Writing.{written_at}
use Rattle.im_sql.proofs.PutLemmas.{either, put-at}
use Rattle.im_sql.proofs.RowsLemmas.{find-past, find-put, of_key, none-left, row-over}
use Rattle.im_sql.proofs.WorkLemmas.{index-of, unique-value}

-- ---- lists whose items are apart

abbrev pub Apart : {A : Type 0} → (A → A → Type 0) → List A → Type 0
Apart R [] = Unit {0}
Apart R (x ∷ xs) = AllByRecursion (R x) xs × Apart R xs

pub apart-from : {A : Type 0} (R : A → A → Type 0) (xs : List A) → AllPairs R xs → Apart R xs
apart-from R [] h = tt
apart-from R (x ∷ xs) h = (
  recursion_from_All (R x) xs (λ j d l. h 0 (suc j) d (omega arith) (omega (arith, l))),
  apart-from R xs (λ i j d less l. h (suc i) (suc j) d (omega (arith, less)) (omega (arith, l))),
)

pub pairs-from : {A : Type 0} (R : A → A → Type 0) (xs : List A) → Apart R xs → AllPairs R xs
pairs-from R [] h = λ i j d less l. absurd (let no : ⊥ = omega (arith, less, l) in no)
pairs-from R (x ∷ xs) h = AllPairs-cons R x xs (All-from_recursion (R x) xs h.0) (pairs-from R xs h.1)

pub all-put : {A : Type 0} (cmp : A → A → Ordering) (P : A → Type 0) (x : A) (ys : List A) → P x → AllByRecursion P ys → AllByRecursion P (put_sorted cmp x ys)
all-put cmp P x [] p all = (p, tt)
all-put cmp P x (y ∷ ys) p all = elim (is_lt (cmp y x)) as (λ (b : Bool). AllByRecursion P (if b then y ∷ put_sorted cmp x ys else x ∷ y ∷ ys)) [
  | true ↦ (all.0, all-put cmp P x ys p all.1)
  | false ↦ (p, all)
]

put-apart : {A : Type 0} (cmp : A → A → Ordering) (R : A → A → Type 0) → ((a b : A) → R a b → R b a) → (x : A) (ys : List A) → AllByRecursion (R x) ys → Apart R ys → Apart R (put_sorted cmp x ys)
put-apart cmp R turn x [] all h = (tt, tt)
put-apart cmp R turn x (y ∷ ys) all h = elim (is_lt (cmp y x)) as (λ (b : Bool). Apart R (if b then y ∷ put_sorted cmp x ys else x ∷ y ∷ ys)) [
  | true ↦ (all-put cmp (R y) x ys (turn x y all.0) h.0, put-apart cmp R turn x ys all.1 h.1)
  | false ↦ (all, h)
]

pub all-kept : {A : Type 0} (P : A → Type 0) (p : A → Bool) (xs : List A) → AllByRecursion P xs → AllByRecursion P (filter p xs)
all-kept P p [] all = tt
all-kept P p (x ∷ xs) all = elim (p x) as (λ (b : Bool). AllByRecursion P (cond b (x ∷ filter p xs) (filter p xs))) [
  | true ↦ (all.0, all-kept P p xs all.1)
  | false ↦ all-kept P p xs all.1
]

pub kept-apart : {A : Type 0} (R : A → A → Type 0) (p : A → Bool) (xs : List A) → Apart R xs → Apart R (filter p xs)
kept-apart R p [] h = tt
kept-apart R p (x ∷ xs) h = elim (p x) as (λ (b : Bool). Apart R (cond b (x ∷ filter p xs) (filter p xs))) [
  | true ↦ (all-kept (R x) p xs h.0, kept-apart R p xs h.1)
  | false ↦ kept-apart R p xs h.1
]

-- two items that aren't apart are one
pub apart-one : {A : Type 0} (R : A → A → Type 0) → ((a b : A) → R a b → R b a) → (xs : List A) (a b : A) → Apart R xs → IsAmong xs a → IsAmong xs b → (R a b → ⊥) → a ≡ b
apart-one R turn [] a b h m n together = absurd (let no : ⊥ = (let few : m.0 < 0 = m.1.0 in omega (arith, few)) in no)
apart-one {A} R turn (x ∷ xs) a b h m n together = elim (among-cons x xs a m) [
  | inl first ↦ elim (among-cons x xs b n) [
    | inl second ↦ first ∙ sym second
    | inr behind ↦ absurd (together (subst (λ (y : A). R y b) (sym first) (All-among (R x) xs b (All-from_recursion (R x) xs h.0) behind)))
  ]
  | inr ahead ↦ elim (among-cons x xs b n) [
    | inl second ↦ absurd (together (turn b a (subst (λ (y : A). R y a) (sym second) (All-among (R x) xs a (All-from_recursion (R x) xs h.0) ahead))))
    | inr behind ↦ apart-one R turn xs a b h.1 ahead behind together
  ]
]

-- ---- what is found

pub find-none : {A : Type 0} (q : A → Bool) (xs : List A) → find q xs ≡ None → AllByRecursion (λ x. q x ≡ false) xs
find-none q [] e = tt
find-none q (x ∷ xs) e = elim (q x) as (λ (b : Bool). q x ≡ b → cond b (Some x) (find q xs) ≡ None → AllByRecursion (λ y. q y ≡ false) (x ∷ xs)) [
  | true ↦ λ is f. absurd (true≢false (ap (λ o. is_some o) f))
  | false ↦ λ is f. (is, find-none q xs f)
] refl e

pub none-found : {A : Type 0} (q : A → Bool) (xs : List A) → AllByRecursion (λ x. q x ≡ false) xs → find q xs ≡ None
none-found q [] all = refl
none-found q (x ∷ xs) all = ap (λ (b : Bool). cond b (Some x) (find q xs)) all.0 ∙ none-found q xs all.1

pub find-some : {A : Type 0} (q : A → Bool) (xs : List A) (y : A) → find q xs ≡ Some y → IsAmong xs y × (q y ≡ true)
find-some q [] y e = absurd (true≢false (sym (ap (λ o. is_some o) e)))
find-some {A} q (x ∷ xs) y e = elim (q x) as (λ (b : Bool). q x ≡ b → cond b (Some x) (find q xs) ≡ Some y → IsAmong (x ∷ xs) y × (q y ≡ true)) [
  | true ↦ λ is f. (
      let same : x ≡ y = some-is x y f in
      (subst (IsAmong (x ∷ xs)) same (among-first x xs), subst (λ (z : A). q z ≡ true) same is))
  | false ↦ λ is f. (let found = find-some q xs y f in (among-rest x xs y found.0, found.1))
] refl e

-- a filter that keeps what passes
find-kept : {A : Type 0} (p q : A → Bool) (xs : List A) → AllByRecursion (λ x. q x ≡ true → p x ≡ true) xs → find q (filter p xs) ≡ find q xs
find-kept p q [] all = refl
find-kept p q (x ∷ xs) all = elim (p x) as (λ (b : Bool). p x ≡ b → find q (cond b (x ∷ filter p xs) (filter p xs)) ≡ cond (q x) (Some x) (find q xs)) [
  | true ↦ λ is. ap (λ rest. cond (q x) (Some x) rest) (find-kept p q xs all.1)
  | false ↦ λ is. find-kept p q xs all.1 ∙ sym (ap (λ (b : Bool). cond b (Some x) (find q xs)) (fails is))
] refl
  where
    fails : p x ≡ false → q x ≡ false
    fails is = elim (cases_Bool (q x)) [
      | inl passes ↦ absurd (true≢false (sym (all.0 passes) ∙ is))
      | inr not_passes ↦ not_passes
    ]

pub all-of : {A : Type 0} (P : A → Type 0) (xs : List A) → ((x : A) → IsAmong xs x → P x) → AllByRecursion P xs
all-of P [] h = tt
all-of P (x ∷ xs) h = (h x (among-first x xs), all-of P xs (λ y m. h y (among-rest x xs y m)))

-- ---- what several puts write at a key

any-true : {A : Type 0} (p : A → Bool) (js : List A) (i : A) → IsAmong js i → p i ≡ true → list_any p js ≡ true
any-true p [] i m e = absurd (let no : ⊥ = (let few : m.0 < 0 = m.1.0 in omega (arith, few)) in no)
any-true {A} p (j ∷ js) i m e = elim (among-cons j js i m) [
  | inl same ↦ ap (λ (b : Bool). b || list_any p js) (subst (λ (x : A). p x ≡ true) same e)
  | inr rest ↦ ap (λ (b : Bool). p j || b) (any-true p js i rest e) ∙ or-true (p j)
]
  where
    or-true : (b : Bool) → (b || true) ≡ true
    or-true true = refl
    or-true false = refl

pub any-false : {A : Type 0} (p : A → Bool) (js : List A) → AllByRecursion (λ j. p j ≡ false) js → list_any p js ≡ false
any-false p [] all = refl
any-false p (j ∷ js) all = ap (λ (b : Bool). b || list_any p js) all.0 ∙ any-false p js all.1

either-step : (b a : Bool) (v w : Option (List ℕ)) (rest : Option (Option (List ℕ))) → (b ≡ true → v ≡ w) → either a w (either b v rest) ≡ either (b || a) w rest
either-step true true v w rest h = refl
either-step true false v w rest h = ap (λ (x : Option (List ℕ)). Some x) (h refl)
either-step false true v w rest h = refl
either-step false false v w rest h = refl

put-map : (F : SqlIndex → Written) (key : List ℕ) (value : Option (List ℕ)) (js : List SqlIndex) (written : List Written)
    → AllByRecursion (λ j. bytes_eq key (F j).key ≡ true → (F j).value ≡ value) js
    → written_at (put_all (map F js) written) key ≡ either (list_any (λ j. bytes_eq key (F j).key) js) value (written_at written key)
put-map F key value [] written all = refl
put-map F key value (j ∷ js) written all =
    put-map F key value js (put_written (F j) written) all.1
    ∙ ap (either (list_any (λ k. bytes_eq key (F k).key) js) value) (put-at (F j) written key)
    ∙ either-step (bytes_eq key (F j).key) (list_any (λ k. bytes_eq key (F k).key) js) (F j).value value (written_at written key) all.0

-- ---- the entries of one index

-- its numbers fit, and no two indexes have one number
pub record AreNumbered (t : Table) (indexes : List SqlIndex) : Type 0 where
  pub table : t.tid < 2 ^ 32
  pub each : (i : SqlIndex) → IsAmong indexes i → i.iid < 2 ^ 32
  pub single : (i j : SqlIndex) → IsAmong indexes i → IsAmong indexes j → i.iid ≡ j.iid → i ≡ j

abbrev pub key_in : Table → SqlIndex → List Value → List ℕ
key_in t i row = (entry_written t row i).key

-- entries of one key are of one index
same-index : (t : Table) (indexes : List SqlIndex) (i j : SqlIndex) (a b : List Value) → AreNumbered t indexes → IsAmong indexes i → IsAmong indexes j → key_in t i a ≡ key_in t j b → i ≡ j
same-index t indexes i j a b numbered m n e =
    let first = entry-parts t a i in
    let second = entry-parts t b j in
    let cut = prefix-cut i.unique j.unique t.tid i.iid t.tid j.iid (row_text (columns_of a i.columns) ++ first.0) (row_text (columns_of b j.columns) ++ second.0)
    numbered.table (numbered.each i m) numbered.table (numbered.each j n) (sym first.1 ∙ e ∙ second.1) in
    numbered.single i j m n cut.1

-- of all entries of a row just that of this index has such a key, if it has it
pub any-own : (t : Table) (indexes : List SqlIndex) (i : SqlIndex) (row other : List Value) → AreNumbered t indexes → IsAmong indexes i
    → list_any (λ j. bytes_eq (key_in t i other) (key_in t j row)) indexes ≡ bytes_eq (key_in t i other) (key_in t i row)
any-own t indexes i row other numbered m = elim (cases_Bool (bytes_eq (key_in t i other) (key_in t i row))) [
  | inl own ↦ any-true (λ (j : SqlIndex). bytes_eq (key_in t i other) (key_in t j row)) indexes i m own ∙ sym own
  | inr none ↦
      any-false (λ (j : SqlIndex). bytes_eq (key_in t i other) (key_in t j row)) indexes
      (all-of (λ (j : SqlIndex). bytes_eq (key_in t i other) (key_in t j row) ≡ false) indexes (λ j n. others j n none)) ∙ sym none
]
  where
    others : (j : SqlIndex) → IsAmong indexes j → bytes_eq (key_in t i other) (key_in t i row) ≡ false → bytes_eq (key_in t i other) (key_in t j row) ≡ false
    others j n none = elim (cases_Bool (bytes_eq (key_in t i other) (key_in t j row))) [
      | inl same ↦ (
          let e : key_in t i other ≡ key_in t j row = (bytes_eq-Decides (key_in t i other) (key_in t j row)).0 same in
          let one : i ≡ j = same-index t indexes i j other row numbered m n e in
          subst (λ (k : SqlIndex). bytes_eq (key_in t i other) (key_in t k row) ≡ false) one none)
      | inr apart ↦ apart
    ]

values-own : (t : Table) (indexes : List SqlIndex) (i : SqlIndex) (F : SqlIndex → Written) (row other : List Value) → AreNumbered t indexes → IsAmong indexes i
    → ((j : SqlIndex) → (F j).key ≡ key_in t j row) → AllByRecursion (λ j. bytes_eq (key_in t i other) (F j).key ≡ true → (F j).value ≡ (F i).value) indexes
values-own t indexes i F row other numbered m keyed =
    all-of (λ (j : SqlIndex). bytes_eq (key_in t i other) (F j).key ≡ true → (F j).value ≡ (F i).value) indexes
    (λ j n same.
    let e : key_in t i other ≡ key_in t j row = (bytes_eq-Decides (key_in t i other) (F j).key).0 same ∙ keyed j in
    let one : i ≡ j = same-index t indexes i j other row numbered m n e in
    sym (ap (λ (k : SqlIndex). (F k).value) one))

-- an entry's key is no row's
pub entry-no-row : (t : Table) (i : SqlIndex) (row other : List Value) → bytes_eq (key_in t i other) (key_of t row) ≡ false
entry-no-row t i row other = bytes-other (key_in t i other) (key_of t row) (λ e. entry-is 4 (key_of t row) t other i (omega arith) refl (sym e))

-- what is written at an entry's key behind the old row's entries, as deleted
pub at-dropped : (t : Table) (indexes : List SqlIndex) (i : SqlIndex) (old : StoredRow) (other : List Value) (written : List Written) → AreNumbered t indexes → IsAmong indexes i
    → written_at (put_all (dropped t indexes (Some old)) written) (key_in t i other) ≡ either (bytes_eq (key_in t i other) (key_in t i old.row)) None (written_at written (key_in t i other))
at-dropped t indexes i old other written numbered m =
    put-map (λ (j : SqlIndex). deleted (entry_written t old.row j)) (key_in t i other) None indexes written
    (values-own t indexes i (λ (j : SqlIndex). deleted (entry_written t old.row j)) old.row other numbered m (λ j. refl))
    ∙ ap (λ (b : Bool). either b None (written_at written (key_in t i other))) (any-own t indexes i old.row other numbered m)

-- and behind the row and its entries
pub at-written : (t : Table) (indexes : List SqlIndex) (i : SqlIndex) (row other : List Value) (before : List Written) → AreNumbered t indexes → IsAmong indexes i
    → written_at (put_all (all_written t indexes row) before) (key_in t i other)
    ≡ either (bytes_eq (key_in t i other) (key_in t i row)) (entry_written t row i).value (written_at before (key_in t i other))
at-written t indexes i row other before numbered m =
    put-map (entry_written t row) (key_in t i other) (entry_written t row i).value indexes (put_written (row_written t row) before)
    (values-own t indexes i (entry_written t row) row other numbered m (λ j. refl))
    ∙ ap (λ (b : Bool). either b (entry_written t row i).value (written_at (put_written (row_written t row) before) (key_in t i other))) (any-own t indexes i row other numbered m)
    ∙ ap (either (bytes_eq (key_in t i other) (key_in t i row)) (entry_written t row i).value)
    (put-at (row_written t row) before (key_in t i other)
    ∙ ap (λ (b : Bool). either b (row_written t row).value (written_at before (key_in t i other))) (entry-no-row t i row other))

-- ---- the rows behind the row that is written

module _ (t : Table) (indexes : List SqlIndex) (row : List Value) (rows : List StoredRow) where
  abbrev new_row : StoredRow
  new_row = record { row = row; tx = 0 }

  abbrev left : List StoredRow
  left = rows_without t (key_of t row) rows

  abbrev by_key : StoredRow → StoredRow → Ordering
  by_key a b = octets_cmp (key_of t a.row) (key_of t b.row)

  abbrev KeyApart : StoredRow → StoredRow → Type 0
  KeyApart a b = key_of t a.row ≢ key_of t b.row

  abbrev EntryApart : SqlIndex → StoredRow → StoredRow → Type 0
  EntryApart i a b = key_in t i a.row ≢ key_in t i b.row

  pub keys-apart : AllPairs KeyApart rows → AllPairs KeyApart (rows_with t new_row rows)
  keys-apart h =
      pairs-from KeyApart (rows_with t new_row rows)
      (put-apart by_key KeyApart (λ a b apart same. apart (sym same)) new_row left (each left (none-left t (key_of t row) rows))
      (kept-apart KeyApart (λ s. not (bytes_eq (key_of t s.row) (key_of t row))) rows (apart-from KeyApart rows h)))
    where
      each : (ss : List StoredRow) → AllByRecursion (λ s. of_key t (key_of t row) s ≡ false) ss → AllByRecursion (KeyApart new_row) ss
      each [] none = tt
      each (s ∷ ss) none = (λ same. true≢false (sym ((bytes_eq-Decides (key_of t s.row) (key_of t row)).1 (sym same)) ∙ none.0), each ss none.1)

  -- no other row has its entry in this index
  abbrev pub IsFree : SqlIndex → Type 0
  IsFree i = row_met t i row rows ≡ None

  free-left : (i : SqlIndex) → IsFree i → AllByRecursion (EntryApart i new_row) left
  free-left i free = each rows (find-none (λ s. bytes_eq (key_in t i s.row) (key_in t i row) && not (bytes_eq (key_of t s.row) (key_of t row))) rows free)
    where
      and-false : (a b : Bool) → (a && b) ≡ false → b ≡ true → a ≡ false
      and-false true b e is = absurd (true≢false (sym is ∙ e))
      and-false false b e is = refl

      each : (ss : List StoredRow) → AllByRecursion (λ s. (bytes_eq (key_in t i s.row) (key_in t i row) && not (bytes_eq (key_of t s.row) (key_of t row))) ≡ false) ss
          → AllByRecursion (EntryApart i new_row) (rows_without t (key_of t row) ss)
      each [] all = tt
      each (s ∷ ss) all = elim (not (bytes_eq (key_of t s.row) (key_of t row))) as (λ (b : Bool). not (bytes_eq (key_of t s.row) (key_of t row)) ≡ b
          → AllByRecursion (EntryApart i new_row) (cond b (s ∷ rows_without t (key_of t row) ss) (rows_without t (key_of t row) ss))) [
            | true ↦ λ e. (
              (λ same. true≢false (sym ((bytes_eq-Decides (key_in t i s.row) (key_in t i row)).1 (sym same))
                  ∙ and-false (bytes_eq (key_in t i s.row) (key_in t i row)) (not (bytes_eq (key_of t s.row) (key_of t row))) all.0 e)),
              each ss all.1,
            )
            | false ↦ λ e. each ss all.1
          ] refl

  pub entries-apart : (i : SqlIndex) → IsFree i → AllPairs (EntryApart i) rows → AllPairs (EntryApart i) (rows_with t new_row rows)
  entries-apart i free h =
      pairs-from (EntryApart i) (rows_with t new_row rows)
      (put-apart by_key (EntryApart i) (λ a b apart same. apart (sym same)) new_row left (free-left i free)
      (kept-apart (EntryApart i) (λ s. not (bytes_eq (key_of t s.row) (key_of t row))) rows (apart-from (EntryApart i) rows h)))

  -- the row that has an entry's key
  abbrev has_key : SqlIndex → List ℕ → StoredRow → Bool
  has_key i key s = bytes_eq (key_in t i s.row) key

  pub holder-own : (i : SqlIndex) (key : List ℕ) → IsFree i → key ≡ key_in t i row → holder t i key (rows_with t new_row rows) ≡ Some new_row
  holder-own i key free own =
      find-put by_key (has_key i key) new_row left ((bytes_eq-Decides (key_in t i row) key).1 (sym own)) (each left (free-left i free))
    where
      each : (ss : List StoredRow) → AllByRecursion (EntryApart i new_row) ss → AllByRecursion (λ s. has_key i key s ≡ false) ss
      each [] all = tt
      each (s ∷ ss) all = (bytes-other (key_in t i s.row) key (λ same. all.0 (sym own ∙ sym same)), each ss all.1)

  pub holder-past : (i : SqlIndex) (key : List ℕ) → bytes_eq key (key_in t i row) ≡ false → holder t i key (rows_with t new_row rows) ≡ find (has_key i key) left
  holder-past i key other =
      find-past by_key (has_key i key) new_row left (bytes-other (key_in t i row) key (λ same. true≢false (sym ((bytes_eq-Decides key (key_in t i row)).1 (sym same)) ∙ other)))

  -- where no row had its primary key none is left out
  pub left-all : (i : SqlIndex) (key : List ℕ) → stored_at t rows (key_of t row) ≡ None → find (has_key i key) left ≡ holder t i key rows
  left-all i key none =
      find-kept (λ s. not (bytes_eq (key_of t s.row) (key_of t row))) (has_key i key) rows (each rows (find-none (λ s. bytes_eq (key_of t s.row) (key_of t row)) rows none))
    where
      each : (ss : List StoredRow) → AllByRecursion (λ s. bytes_eq (key_of t s.row) (key_of t row) ≡ false) ss
          → AllByRecursion (λ s. has_key i key s ≡ true → not (bytes_eq (key_of t s.row) (key_of t row)) ≡ true) ss
      each [] all = tt
      each (s ∷ ss) all = ((λ passes. ap not all.0), each ss all.1)

  -- the row of the primary key alone is left out
  one-old : (old s : StoredRow) → AllPairs KeyApart rows → stored_at t rows (key_of t row) ≡ Some old → IsAmong rows s → bytes_eq (key_of t s.row) (key_of t row) ≡ true → s ≡ old
  one-old old s apart found m same =
      let is = find-some (λ r. bytes_eq (key_of t r.row) (key_of t row)) rows old found in
      apart-one KeyApart (λ a b h e. h (sym e)) rows s old (apart-from KeyApart rows apart) m is.0
      (λ h. h ((bytes_eq-Decides (key_of t s.row) (key_of t row)).0 same ∙ sym ((bytes_eq-Decides (key_of t old.row) (key_of t row)).0 is.1)))

  pub left-old : (i : SqlIndex) (key : List ℕ) (old : StoredRow) → AllPairs KeyApart rows → stored_at t rows (key_of t row) ≡ Some old → bytes_eq key (key_in t i old.row) ≡ false
      → find (has_key i key) left ≡ holder t i key rows
  left-old i key old apart found other =
      find-kept (λ s. not (bytes_eq (key_of t s.row) (key_of t row))) (has_key i key) rows
      (all-of (λ (s : StoredRow). has_key i key s ≡ true → not (bytes_eq (key_of t s.row) (key_of t row)) ≡ true) rows (λ s m passes. kept s m passes))
    where
      kept : (s : StoredRow) → IsAmong rows s → has_key i key s ≡ true → not (bytes_eq (key_of t s.row) (key_of t row)) ≡ true
      kept s m passes = elim (cases_Bool (bytes_eq (key_of t s.row) (key_of t row))) [
        | inl same ↦ (
            let one : s ≡ old = one-old old s apart found m same in
            let own : key ≡ key_in t i old.row = sym ((bytes_eq-Decides (key_in t i s.row) key).0 passes) ∙ ap (λ (r : StoredRow). key_in t i r.row) one in
            absurd (true≢false (sym ((bytes_eq-Decides key (key_in t i old.row)).1 own) ∙ other)))
        | inr differs ↦ ap not differs
      ]

  pub gone-old : (i : SqlIndex) (key : List ℕ) (old : StoredRow) → AllPairs (EntryApart i) rows → stored_at t rows (key_of t row) ≡ Some old → bytes_eq key (key_in t i old.row) ≡ true
      → find (has_key i key) left ≡ None
  gone-old i key old alone found own =
      none-found (has_key i key) left (each rows (λ s m. m))
    where
      is : IsAmong rows old × (bytes_eq (key_of t old.row) (key_of t row) ≡ true)
      is = find-some (λ r. bytes_eq (key_of t r.row) (key_of t row)) rows old found

      fails : (s : StoredRow) → IsAmong rows s → not (bytes_eq (key_of t s.row) (key_of t row)) ≡ true → has_key i key s ≡ false
      fails s m kept = elim (cases_Bool (has_key i key s)) [
        | inl passes ↦ (
            let same : key_in t i s.row ≡ key_in t i old.row = (bytes_eq-Decides (key_in t i s.row) key).0 passes ∙ (bytes_eq-Decides key (key_in t i old.row)).0 own in
            let one : s ≡ old = apart-one (EntryApart i) (λ a b h e. h (sym e)) rows s old (apart-from (EntryApart i) rows alone) m is.0 (λ h. h same) in
            let mine : bytes_eq (key_of t s.row) (key_of t row) ≡ true = subst (λ (r : StoredRow). bytes_eq (key_of t r.row) (key_of t row) ≡ true) (sym one) is.1 in
            absurd (true≢false (sym kept ∙ ap not mine)))
        | inr differs ↦ differs
      ]

      each : (ss : List StoredRow) → ((s : StoredRow) → IsAmong ss s → IsAmong rows s) → AllByRecursion (λ s. has_key i key s ≡ false) (rows_without t (key_of t row) ss)
      each [] within = tt
      each (s ∷ ss) within = elim (not (bytes_eq (key_of t s.row) (key_of t row))) as (λ (b : Bool). not (bytes_eq (key_of t s.row) (key_of t row)) ≡ b
          → AllByRecursion (λ r. has_key i key r ≡ false) (cond b (s ∷ rows_without t (key_of t row) ss) (rows_without t (key_of t row) ss))) [
            | true ↦ λ e. (fails s (within s (among-first s ss)) e, each ss (λ r m. within r (among-rest s ss r m)))
            | false ↦ λ e. each ss (λ r m. within r (among-rest s ss r m))
          ] refl

-- ---- the holder of a key behind the row that is written

abbrev Over : Table → SqlIndex → List StoredRow → List ℕ → Option StoredRow → Option (Option (List ℕ)) → Type 0
Over t i stood key found there = MatchOption there (found ≡ holder t i key stood) (λ value. MatchOption value (found ≡ None) (λ text. IsWrittenHolder t text found))

over-either : (t : Table) (i : SqlIndex) (stood : List StoredRow) (key : List ℕ) (found : Option StoredRow) (b : Bool) (value : Option (List ℕ)) (rest : Option (Option (List ℕ)))
    → (b ≡ true → Over t i stood key found (Some value)) → (b ≡ false → Over t i stood key found rest) → Over t i stood key found (either b value rest)
over-either t i stood key found true value rest own other = own refl
over-either t i stood key found false value rest own other = other refl

holder-over : (t : Table) (indexes : List SqlIndex) (stood rows : List StoredRow) (written : List Written) (row other : List Value) (there : Option StoredRow) (i : SqlIndex)
    → AreNumbered t indexes → IsAmong indexes i → i.unique ≡ true → IsFree t indexes row rows i → IsWorking t indexes stood written rows → stored_at t rows (key_of t row) ≡ there
    → IsHolderOver t i stood (put_all (all_written t indexes row) (put_all (dropped t indexes there) written)) (key_in t i other) (holder t i (key_in t i other) (rows_with t (record { row = row; tx = 0 }) rows))
holder-over t indexes stood rows written row other there i numbered m unique free working found =
    let key : List ℕ = key_in t i other in
    let held : Option StoredRow = holder t i key (rows_with t (record { row = row; tx = 0 }) rows) in
    let before : List Written = put_all (dropped t indexes there) written in
    subst (Over t i stood key held) (sym (at-written t indexes i row other before numbered m))
    (over-either t i stood key held (bytes_eq key (key_in t i row)) (entry_written t row i).value (written_at before key)
    (λ own.
    subst (λ (value : Option (List ℕ)). Over t i stood key held (Some value)) (sym (unique-value i.unique _ _ (row_text (columns_of row t.key)) unique refl))
    (record { row = row; tx = 0 }, holder-own t indexes row rows i key free ((bytes_eq-Decides key (key_in t i row)).0 own), refl, refl))
    (λ differs. behind there found differs))
  where
    behind : (o : Option StoredRow) → stored_at t rows (key_of t row) ≡ o → bytes_eq (key_in t i other) (key_in t i row) ≡ false
        → Over t i stood (key_in t i other) (holder t i (key_in t i other) (rows_with t (record { row = row; tx = 0 }) rows)) (written_at (put_all (dropped t indexes o) written) (key_in t i other))
    behind None none differs =
        subst (λ (f : Option StoredRow). Over t i stood (key_in t i other) f (written_at written (key_in t i other)))
        (sym (holder-past t indexes row rows i (key_in t i other) differs ∙ left-all t indexes row rows i (key_in t i other) none)) (working.unique i other m unique)
    behind (Some old) is differs =
        subst (Over t i stood (key_in t i other) (holder t i (key_in t i other) (rows_with t (record { row = row; tx = 0 }) rows))) (sym (at-dropped t indexes i old other written numbered m))
        (over-either t i stood (key_in t i other) (holder t i (key_in t i other) (rows_with t (record { row = row; tx = 0 }) rows)) (bytes_eq (key_in t i other) (key_in t i old.row)) None
        (written_at written (key_in t i other))
        (λ own. holder-past t indexes row rows i (key_in t i other) differs ∙ gone-old t indexes row rows i (key_in t i other) old (working.alone i m unique) is own)
        (λ apart. subst (λ (f : Option StoredRow). Over t i stood (key_in t i other) f (written_at written (key_in t i other)))
        (sym (holder-past t indexes row rows i (key_in t i other) differs ∙ left-old t indexes row rows i (key_in t i other) old working.apart is apart)) (working.unique i other m unique)))

-- the table behind a row that is written, where no other row has its entry in a unique index
pub working-next : (t : Table) (indexes : List SqlIndex) (stood rows : List StoredRow) (written : List Written) (row : List Value) → AreNumbered t indexes → AreOfKinds (kinds_of t) row
    → ((i : SqlIndex) → IsAmong indexes i → i.unique ≡ true → row_met t i row rows ≡ None) → IsWorking t indexes stood written rows
    → IsWorking t indexes stood (put_all (all_written t indexes row) (put_all (dropped t indexes (stored_at t rows (key_of t row))) written)) (rows_with t (record { row = row; tx = 0 }) rows)
working-next t indexes stood rows written row numbered kinds free working = record {
  row = λ key. row-over t indexes stood rows written row key (stored_at t rows (key_of t row)) kinds (working.row key);
  unique = λ i other m unique. holder-over t indexes stood rows written row other (stored_at t rows (key_of t row)) i numbered m unique (free i m unique) working refl;
  apart = keys-apart t indexes row rows working.apart;
  alone = λ i m unique. entries-apart t indexes row rows i (free i m unique) (working.alone i m unique);
}

-- ---- where nothing is wrong with a row

pub or-none : {B : Type 0} (o p : Option B) → option_or o p ≡ None → (o ≡ None) × (p ≡ None)
or-none None p e = (refl, e)
or-none (Some b) p e = absurd (true≢false (ap (λ q. is_some q) e))

none-first : {A B : Type 0} (f : A → Option B) (xs : List A) → first_found f xs ≡ None → (x : A) → IsAmong xs x → f x ≡ None
none-first f [] e x m = absurd (let no : ⊥ = (let few : m.0 < 0 = m.1.0 in omega (arith, few)) in no)
none-first {A} {B} f (y ∷ ys) e x m = elim (among-cons y ys x m) [
  | inl same ↦ ap f same ∙ (or-none (f y) (first_found f ys) e).0
  | inr rest ↦ none-first f ys (or-none (f y) (first_found f ys) e).1 x rest
]

pub map-none : {A B : Type 0} (f : A → B) (o : Option A) → option_map f o ≡ None → o ≡ None
map-none f None e = refl
map-none f (Some x) e = absurd (true≢false (ap (λ q. is_some q) e))

if-none : {A : Type 0} (b : Bool) (o : Option A) → b ≡ true → (if b then o else None) ≡ None → o ≡ None
if-none true o given e = e
if-none false o given e = absurd (true≢false (sym given))

-- no unique index has another row of its entry
pub free-from : (history : List Transaction) (t : Table) (indexes : List SqlIndex) (n : ℕ) (row : List Value) (rows : List StoredRow)
    → first_found (unique_fault history t n row rows) indexes ≡ None → (i : SqlIndex) → IsAmong indexes i → i.unique ≡ true → row_met t i row rows ≡ None
free-from history t indexes n row rows none i m unique =
    map-none (λ s. error.Unique n i.iid (entry_number history t i s)) (row_met t i row rows)
    (if-none i.unique (option_map (λ s. error.Unique n i.iid (entry_number history t i s)) (row_met t i row rows)) unique
    (none-first (unique_fault history t n row rows) indexes none i m))

-- the indexes of a table's keys are numbered
pub numbered-of : (history : List Transaction) (t : Table) (indexes : List SqlIndex) → IsTableOf history t → IndexesAre history t indexes → AreNumbered t indexes
numbered-of history t indexes of are = record {
  table = of.0.tid.1;
  each = λ i m. (index-of history t indexes i of are m).1.iid.1;
  single = λ i j m n same. sym (one-index history t i j (index-of history t indexes i of are m) (index-of history t indexes j of are n) same);
}

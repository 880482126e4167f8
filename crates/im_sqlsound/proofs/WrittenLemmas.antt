-- What INSERT, UPSERT and DELETE write: keys of rows and of entries, each once, over the rows that stood.
use Rattle.std.proofs.Common.{position, ◌≡◌, ◌≢◌, ◌+◌, ◌⊎◌, ◌||◌, inl, inr, ℕ, zero, suc, Bool, true, false, not, cond, List, [], ◌∷◌, ◌++◌, map, flat_map, filter, find, bytes_eq, length, get_or, is_some, Option, Some, None, Ok, Err, MatchOption, refl, sym, ap, ◌∙◌, subst, arith}
use Rattle.std.proofs.lemmas.Bool.{true≢false, cases_Bool}
use Rattle.std.proofs.lemmas.List.Elements.{All-from_recursion, recursion_from_All}
use Rattle.std.proofs.lemmas.List.{length-map}
use Rattle.std.proofs.lemmas.Slice.Eq.{bytes_eq-Decides}
use Rattle.std.specs.List.{AllByRecursion, IsAmong, list_any}
use Rattle.im_model.specs.declared.transactions.Transaction.{Transaction}
use Rattle.im_versions.proofs.ListLemmas.{All-among, among-first, among-rest}
use Rattle.im_sqltype.specs.Kinds.{IsOfKind, AreOfKinds, kind_of}
use Rattle.im_sqltype.specs.declared.columns.ColumnType.{ColumnType}
use Rattle.im_sqltype.specs.declared.columns.ColumnType.TheVariants as types
use Rattle.im_sqltype.specs.declared.values.Value.{Value}
use Rattle.im_sqltype.specs.declared.values.Value.TheVariants.{Null, Integer, Boolean, Varchar, Blob}
use Rattle.im_sqlparse.specs.declared.statements.Literal.{Literal}
use Rattle.im_sqlparse.specs.declared.statements.Literal.TheVariants as literal
use Rattle.im_sqlparse.specs.Formed.{IsLiteral, IsLiteralRow}
use Rattle.im_sqlmodel.specs.Conditions.{literal_value, cell_at}
use Rattle.im_sqlmodel.specs.Options.{by_option, first_found}
use Rattle.im_sqlmodel.specs.Tables.{IsTable, IsTableIndex, kinds_of}
use Rattle.im_sqlmodel.specs.Rows.{key_of}
use Rattle.im_sqlmodel.specs.Writes.{value_given, row_given, misfit_of, misfit_error, cell_fault, cells_fault, stored_at, row_met, row_fault, unique_fault, entry_written, all_written, deleted, dropped, put_written, put_all, write_row, write_rows, rows_dropped, Work}
use Rattle.im_sqlmodel.specs.declared.answers.SqlError.{SqlError}
use Rattle.im_sqlmodel.specs.declared.rows.StoredRow.{StoredRow}
use Rattle.im_sqlmodel.specs.declared.tables.Column.{Column}
use Rattle.im_sqlmodel.specs.declared.tables.SqlIndex.{SqlIndex}
use Rattle.im_sqlmodel.specs.declared.tables.Table.{Table}
use Rattle.im_sqlmodel.specs.declared.written.Written.{Written}
use Rattle.im_sql.specs.Ranges.{IsInRange}
use Rattle.im_sql.specs.Working.{holder, IsWrittenRow}
use Rattle.im_sql.specs.Writing.{written_at}
use Rattle.im_plan.proofs.EntryRowLemmas.{bytes-flip}
use Rattle.im_sqlsound.proofs.EntryLemmas.{plain-alone}
use Rattle.im_sqlsound.proofs.GroupLemmas.{all-both}
use Rattle.im_sql.proofs.NextLemmas.{Apart, apart-from, pairs-from, all-kept, kept-apart, none-found, find-some, AreNumbered, key_in, any-false, any-own, entry-no-row, or-none, map-none, free-from}
use Rattle.im_sql.proofs.PutLemmas.{either, put-at}
use Rattle.im_sql.proofs.RowsLemmas.{Over as RowOver}
use Rattle.im_sql.proofs.ShortLemmas.{Below, faultless, put-each, put-rises, work-is}
use Rattle.im_sqlsound.proofs.HeldLemmas.{HeldOver, IsHeld, KeysApart, EntriesApart, IsRewritten, IsRowOfKinds, plain-free, rewritten-next}

-- ---- keys, in rising order

-- the key of a row of the table's kinds, or of such a row's entry
abbrev pub IsKeyOf : Table → List SqlIndex → List ℕ → Type 0
IsKeyOf t indexes key =
    ((row : List Value) × AreOfKinds (kinds_of t) row × (key ≡ key_of t row))
    ⊎ ((i : SqlIndex) × (row : List Value) × IsAmong indexes i × AreOfKinds (kinds_of t) row × (key ≡ key_in t i row))

abbrev pub HasKey : Table → List SqlIndex → Written → Type 0
HasKey t indexes w = IsKeyOf t indexes w.key

abbrev pub AreKeyed : Table → List SqlIndex → List Written → Type 0
AreKeyed t indexes ws = AllByRecursion (HasKey t indexes) ws × Apart Below ws

put-keyed : (t : Table) (indexes : List SqlIndex) (ws written : List Written) → AllByRecursion (HasKey t indexes) ws → AreKeyed t indexes written → AreKeyed t indexes (put_all ws written)
put-keyed t indexes [] written all are = are
put-keyed t indexes (w ∷ ws) written all are = put-keyed t indexes ws (put_written w written) all.1 (put-each (HasKey t indexes) w written all.0 are.0, put-rises w written are.1)

entries-keyed : (t : Table) (indexes js : List SqlIndex) (row : List Value) → AreOfKinds (kinds_of t) row → ((j : SqlIndex) → IsAmong js j → IsAmong indexes j)
    → AllByRecursion (HasKey t indexes) (map (entry_written t row) js)
entries-keyed t indexes [] row kinds within = tt
entries-keyed t indexes (j ∷ js) row kinds within =
    (inr (j, row, within j (among-first j js), kinds, refl), entries-keyed t indexes js row kinds (λ k m. within k (among-rest j js k m)))

written-keyed : (t : Table) (indexes : List SqlIndex) (row : List Value) → AreOfKinds (kinds_of t) row → AllByRecursion (HasKey t indexes) (all_written t indexes row)
written-keyed t indexes row kinds = (inl (row, kinds, refl), entries-keyed t indexes indexes row kinds (λ j m. m))

deleted-keyed : (t : Table) (indexes : List SqlIndex) (ws : List Written) → AllByRecursion (HasKey t indexes) ws → AllByRecursion (HasKey t indexes) (map deleted ws)
deleted-keyed t indexes [] all = tt
deleted-keyed t indexes (w ∷ ws) all = (all.0, deleted-keyed t indexes ws all.1)

dead-keyed : (t : Table) (indexes js : List SqlIndex) (row : List Value) → AreOfKinds (kinds_of t) row → ((j : SqlIndex) → IsAmong js j → IsAmong indexes j)
    → AllByRecursion (HasKey t indexes) (map (λ i. deleted (entry_written t row i)) js)
dead-keyed t indexes [] row kinds within = tt
dead-keyed t indexes (j ∷ js) row kinds within =
    (inr (j, row, within j (among-first j js), kinds, refl), dead-keyed t indexes js row kinds (λ k m. within k (among-rest j js k m)))

dropped-keyed : (t : Table) (indexes : List SqlIndex) (rows : List StoredRow) (key : List ℕ) (there : Option StoredRow) → stored_at t rows key ≡ there → AllByRecursion (IsRowOfKinds t) rows
    → AllByRecursion (HasKey t indexes) (dropped t indexes there)
dropped-keyed t indexes rows key None found all = tt
dropped-keyed t indexes rows key (Some s) found all =
    let here = find-some (λ (r : StoredRow). bytes_eq (key_of t r.row) key) rows s found in
    dead-keyed t indexes indexes s.row (All-among (IsRowOfKinds t) rows s (All-from_recursion (IsRowOfKinds t) rows all) here.0) (λ j m. m)

-- ---- a row without a fault is of the table's kinds

fit-kind : (type : ColumnType) (v : Value) → IsInRange v → misfit_of type v ≡ None → IsOfKind (kind_of type) v
fit-kind type Null r e = tt
fit-kind types.Integer (Integer n) r e = r
fit-kind types.Boolean (Boolean b) r e = tt
fit-kind (types.Varchar n) (Varchar octets) r e = tt
fit-kind (types.Blob n) (Blob octets) r e = tt
fit-kind type v r e = absurd (true≢false (ap (λ o. is_some o) e))

cell-kind : (t : Table) (i at : ℕ) (c : Column) (v : Value) → IsInRange v → cell_fault t i at c v ≡ None → IsOfKind (kind_of c.holds) v
cell-kind t i at c Null r e = tt
cell-kind t i at c (Integer n) r e = fit-kind c.holds (Integer n) r (map-none (misfit_error i c.name) (misfit_of c.holds (Integer n)) e)
cell-kind t i at c (Boolean b) r e = fit-kind c.holds (Boolean b) r (map-none (misfit_error i c.name) (misfit_of c.holds (Boolean b)) e)
cell-kind t i at c (Varchar octets) r e = fit-kind c.holds (Varchar octets) r (map-none (misfit_error i c.name) (misfit_of c.holds (Varchar octets)) e)
cell-kind t i at c (Blob octets) r e = fit-kind c.holds (Blob octets) r (map-none (misfit_error i c.name) (misfit_of c.holds (Blob octets)) e)

cells-kinds : (t : Table) (i at : ℕ) (cs : List Column) (vs : List Value) → length vs ≡ length cs → AllByRecursion IsInRange vs → cells_fault t i at cs vs ≡ None → AreOfKinds (map (λ c. kind_of c.holds) cs) vs
cells-kinds t i at [] [] long all e = tt
cells-kinds t i at [] (v ∷ vs) long all e = absurd (let no : ⊥ = omega (arith, long) in no)
cells-kinds t i at (c ∷ cs) [] long all e = absurd (let no : ⊥ = omega (arith, long) in no)
cells-kinds t i at (c ∷ cs) (v ∷ vs) long all e =
    let parts = or-none (cell_fault t i at c v) (cells_fault t i (at + 1) cs vs) e in
    (cell-kind t i at c v all.0 parts.0, cells-kinds t i (at + 1) cs vs (omega (arith, long)) all.1 parts.1)

-- a row that a statement gives: a value for each column, and integers within their range
abbrev pub IsGiven : Table → List Value → Type 0
IsGiven t row = (length row ≡ length t.columns) × AllByRecursion IsInRange row

literal-range : (l : Literal) → IsLiteral l → IsInRange (literal_value l)
literal-range literal.Null is = tt
literal-range (literal.Boolean b) is = tt
literal-range (literal.Integer n) is = is
literal-range (literal.Text octets) is = tt
literal-range (literal.Blob octets) is = tt

literals-range : (ls : List Literal) → AllByRecursion IsLiteral ls → AllByRecursion IsInRange (map literal_value ls)
literals-range [] all = tt
literals-range (l ∷ ls) all = (literal-range l all.0, literals-range ls all.1)

at-range : (vs : List Value) (k : ℕ) → AllByRecursion IsInRange vs → IsInRange (get_or vs k Null)
at-range [] k all = tt
at-range (v ∷ vs) zero all = all.0
at-range (v ∷ vs) (suc k) all = at-range vs k all.1

cell-range : (vs : List Value) (o : Option ℕ) → AllByRecursion IsInRange vs → IsInRange (cell_at vs o)
cell-range vs None all = tt
cell-range vs (Some k) all = at-range vs k all

cells-range : (names : List (List ℕ)) (vs : List Value) (cs : List Column) → AllByRecursion IsInRange vs → AllByRecursion IsInRange (map (λ (c : Column). value_given names vs c.name) cs)
cells-range names vs [] all = tt
cells-range names vs (c ∷ cs) all = (cell-range vs (position (bytes_eq c.name) names) all, cells-range names vs cs all)

pub rows-given : (t : Table) (names : List (List ℕ)) (rows : List (List Literal)) → AllByRecursion IsLiteralRow rows → AllByRecursion (IsGiven t) (map (row_given t names) rows)
rows-given t names [] all = tt
rows-given t names (row ∷ rows) all = (
  (length-map t.columns (λ (c : Column). value_given names (map literal_value row) c.name), cells-range names (map literal_value row) t.columns (literals-range row (recursion_from_All IsLiteral row all.0.1))),
  rows-given t names rows all.1,
)

-- ---- INSERT and UPSERT

abbrev pub AreTaken : Table → List SqlIndex → List StoredRow → List Written → List StoredRow → Type 0
AreTaken t indexes stood written rows = IsRewritten t indexes stood written rows × AreKeyed t indexes written

module _ (history : List Transaction) (fresh : Bool) (t : Table) (indexes : List SqlIndex) (stood : List StoredRow) (is : IsTable t) (formed : (i : SqlIndex) → IsAmong indexes i → IsTableIndex t i)
    (numbered : AreNumbered t indexes) where
  row-free : (n : ℕ) (row : List Value) (rows : List StoredRow) → first_found (unique_fault history t n row rows) indexes ≡ None → AreOfKinds (kinds_of t) row → AllByRecursion (IsRowOfKinds t) rows
      → (i : SqlIndex) → IsAmong indexes i → row_met t i row rows ≡ None
  row-free n row rows none kinds all i m = elim (cases_Bool i.unique) [
    | inl unique ↦ free-from history t indexes n row rows none i m unique
    | inr plain ↦ plain-free t i row rows is (formed i m) plain kinds all
  ]

  row-taken : (n : ℕ) (row : List Value) (work : Work) → IsGiven t row → row_fault history fresh t indexes n row work.rows ≡ None → AreTaken t indexes stood work.written work.rows
      → AreTaken t indexes stood (write_row t indexes row work).written (write_row t indexes row work).rows
  row-taken n row work given none before =
      let right = faultless history fresh t indexes n row work.rows none in
      let kinds = cells-kinds t n 0 t.columns row given.0 given.1 right.cells in
      let key : List ℕ = key_of t row in (
        rewritten-next t indexes stood work.rows work.written row is formed numbered kinds (row-free n row work.rows right.unique kinds before.0.kinds) before.0,
        put-keyed t indexes (all_written t indexes row) _ (written-keyed t indexes row kinds)
            (put-keyed t indexes (dropped t indexes (stored_at t work.rows key)) work.written (dropped-keyed t indexes work.rows key (stored_at t work.rows key) refl before.0.kinds) before.1),
      )

  pub rows-taken : (n : ℕ) (rows : List (List Value)) (work done : Work) → AllByRecursion (IsGiven t) rows → write_rows history fresh t indexes n rows work ≡ Ok done
      → AreTaken t indexes stood work.written work.rows → AreTaken t indexes stood done.written done.rows
  rows-taken n [] work done given e before = subst (λ (w : Work). AreTaken t indexes stood w.written w.rows) (work-is work done e) before
  rows-taken n (row ∷ rows) work done given e before = elim (row_fault history fresh t indexes n row work.rows) as (λ (o : Option SqlError). row_fault history fresh t indexes n row work.rows ≡ o
      → by_option o (write_rows history fresh t indexes (n + 1) rows (write_row t indexes row work)) (λ fault. Err fault) ≡ Ok done → AreTaken t indexes stood done.written done.rows) [
        | None ↦ λ none f. rows-taken (n + 1) rows (write_row t indexes row work) done given.1 f (row-taken n row work given.0 none before)
        | Some fault ↦ λ some f. absurd (let no : ⊥ = cc in no)
      ] refl e

-- ---- DELETE

-- what is written at a key by several that say one value there
put-list : (key : List ℕ) (value : Option (List ℕ)) (ws written : List Written) → AllByRecursion (λ (w : Written). w.value ≡ value) ws
    → written_at (put_all ws written) key ≡ either (list_any (λ (w : Written). bytes_eq key w.key) ws) value (written_at written key)
put-list key value [] written all = refl
put-list key value (w ∷ ws) written all =
    put-list key value ws (put_written w written) all.1
    ∙ ap (either (list_any (λ (x : Written). bytes_eq key x.key) ws) value) (put-at w written key ∙ ap (λ (v : Option (List ℕ)). either (bytes_eq key w.key) v (written_at written key)) all.0)
    ∙ both (bytes_eq key w.key) (list_any (λ (x : Written). bytes_eq key x.key) ws)
  where
    both : (b a : Bool) → either a value (either b value (written_at written key)) ≡ either (b || a) value (written_at written key)
    both true true = refl
    both true false = refl
    both false true = refl
    both false false = refl

any-both : {A : Type 0} (p : A → Bool) (xs ys : List A) → list_any p (xs ++ ys) ≡ (list_any p xs || list_any p ys)
any-both p [] ys = refl
any-both p (x ∷ xs) ys = ap (λ (b : Bool). p x || b) (any-both p xs ys) ∙ either-way (p x) (list_any p xs) (list_any p ys)
  where
    either-way : (a b c : Bool) → (a || (b || c)) ≡ ((a || b) || c)
    either-way true b c = refl
    either-way false b c = refl

any-flat : {A B : Type 0} (p : B → Bool) (f : A → List B) (h : A → Bool) (xs : List A) → ((x : A) → list_any p (f x) ≡ h x) → list_any p (flat_map f xs) ≡ list_any h xs
any-flat p f h [] each = refl
any-flat p f h (x ∷ xs) each =
    any-both p (f x) (flat_map f xs) ∙ ap (λ (b : Bool). b || list_any p (flat_map f xs)) (each x) ∙ ap (λ (b : Bool). h x || b) (any-flat p f h xs each)

any-weaker : {A : Type 0} (p q : A → Bool) (xs : List A) → AllByRecursion (λ x. p x ≡ true → q x ≡ true) xs → list_any p xs ≡ true → list_any q xs ≡ true
any-weaker p q [] all e = e
any-weaker p q (x ∷ xs) all e = elim (cases_Bool (p x)) [
  | inl passes ↦ ap (λ (b : Bool). b || list_any q xs) (all.0 passes)
  | inr fails ↦ ap (λ (b : Bool). q x || b) (any-weaker p q xs all.1 (ap (λ (b : Bool). b || list_any p xs) (sym fails) ∙ e)) ∙ or-true (q x)
]
  where
    or-true : (b : Bool) → (b || true) ≡ true
    or-true true = refl
    or-true false = refl

-- the one item that passes a test, of a list without those that a second test takes
abbrev Clash : (StoredRow → Bool) → StoredRow → StoredRow → Type 0
Clash h a b = h a ≡ true → h b ≡ true → ⊥

clash-rest : (h : StoredRow → Bool) (x : StoredRow) (xs : List StoredRow) → h x ≡ true → AllByRecursion (Clash h x) xs → AllByRecursion (λ y. h y ≡ false) xs
clash-rest h x [] passes all = tt
clash-rest h x (y ∷ ys) passes all = (fails y (all.0 passes), clash-rest h x ys passes all.1)
  where
    fails : (z : StoredRow) → (h z ≡ true → ⊥) → h z ≡ false
    fails z none = elim (cases_Bool (h z)) [
      | inl passed ↦ absurd (none passed)
      | inr failed ↦ failed
    ]

find-left : (h q : StoredRow → Bool) (xs : List StoredRow) → Apart (Clash h) xs → find h (filter (λ s. not (q s)) xs) ≡ cond (list_any h (filter q xs)) None (find h xs)
find-left h q [] apart = refl
find-left h q (x ∷ xs) apart = elim (cases_Bool (h x)) [
  | inl passes ↦ (
      let rest : AllByRecursion (λ y. h y ≡ false) xs = clash-rest h x xs passes apart.0 in
      elim (q x) as (λ (b : Bool). find h (cond (not b) (x ∷ filter (λ s. not (q s)) xs) (filter (λ s. not (q s)) xs)) ≡ cond (list_any h (cond b (x ∷ filter q xs) (filter q xs))) None (find h (x ∷ xs))) [
        | true ↦
            none-found h (filter (λ s. not (q s)) xs) (all-kept (λ y. h y ≡ false) (λ s. not (q s)) xs rest)
            ∙ sym (ap (λ (b : Bool). cond (b || list_any h (filter q xs)) None (find h (x ∷ xs))) passes)
        | false ↦
            ap (λ (b : Bool). cond b (Some x) (find h (filter (λ s. not (q s)) xs))) passes
            ∙ sym (ap (λ (b : Bool). cond b None (find h (x ∷ xs))) (any-false h (filter q xs) (all-kept (λ y. h y ≡ false) q xs rest))
            ∙ ap (λ (b : Bool). cond b (Some x) (find h xs)) passes)
      ])
  | inr fails ↦
      elim (q x) as (λ (b : Bool). find h (cond (not b) (x ∷ filter (λ s. not (q s)) xs) (filter (λ s. not (q s)) xs)) ≡ cond (list_any h (cond b (x ∷ filter q xs) (filter q xs))) None (find h (x ∷ xs))) [
        | true ↦
            find-left h q xs apart.1
            ∙ (λ i. cond (sym fails i || list_any h (filter q xs)) None (cond (sym fails i) (Some x) (find h xs)))
        | false ↦
            ap (λ (b : Bool). cond b (Some x) (find h (filter (λ s. not (q s)) xs))) fails
            ∙ find-left h q xs apart.1
            ∙ ap (λ (b : Bool). cond (list_any h (filter q xs)) None (cond b (Some x) (find h xs))) (sym fails)
      ]
]

dead-all : (ws : List Written) → AllByRecursion (λ (w : Written). w.value ≡ None) (map deleted ws)
dead-all [] = tt
dead-all (w ∷ ws) = (refl, dead-all ws)

module _ (t : Table) (indexes : List SqlIndex) (q : StoredRow → Bool) (stood : List StoredRow) where
  abbrev gone_of : StoredRow → List Written
  gone_of s = map deleted (all_written t indexes s.row)

  abbrev met : List StoredRow
  met = filter q stood

  abbrev rest : List StoredRow
  rest = filter (λ s. not (q s)) stood

  all-gone : (ss : List StoredRow) → AllByRecursion (λ (w : Written). w.value ≡ None) (flat_map gone_of ss)
  all-gone [] = tt
  all-gone (s ∷ ss) = all-both (λ (w : Written). w.value ≡ None) (gone_of s) (flat_map gone_of ss) (dead-all (all_written t indexes s.row)) (all-gone ss)

  -- at a key that a row's entries have just where the row passes a test
  at-gone : (key : List ℕ) (h : StoredRow → Bool) → ((s : StoredRow) → list_any (λ (w : Written). bytes_eq key w.key) (gone_of s) ≡ h s)
      → written_at (rows_dropped t indexes met) key ≡ either (list_any h met) None None
  at-gone key h each =
      put-list key None (flat_map gone_of met) [] (all-gone met)
      ∙ ap (λ (b : Bool). either b None None) (any-flat (λ (w : Written). bytes_eq key w.key) gone_of h met each)

  any-dead : (key : List ℕ) (ws : List Written) → list_any (λ (w : Written). bytes_eq key w.key) (map deleted ws) ≡ list_any (λ (w : Written). bytes_eq key w.key) ws
  any-dead key [] = refl
  any-dead key (w ∷ ws) = ap (λ (b : Bool). bytes_eq key w.key || b) (any-dead key ws)

  any-entries : (key : List ℕ) (row : List Value) (js : List SqlIndex) → list_any (λ (w : Written). bytes_eq key w.key) (map (entry_written t row) js) ≡ list_any (λ j. bytes_eq key (key_in t j row)) js
  any-entries key row [] = refl
  any-entries key row (j ∷ js) = ap (λ (b : Bool). bytes_eq key (key_in t j row) || b) (any-entries key row js)

  no-entry : (other : List Value) (row : List Value) (js : List SqlIndex) → AllByRecursion (λ j. bytes_eq (key_of t other) (key_in t j row) ≡ false) js
  no-entry other row [] = tt
  no-entry other row (j ∷ js) = (bytes-flip (key_of t other) (key_in t j row) ∙ entry-no-row t j other row, no-entry other row js)

  or-none-right : (a b : Bool) → b ≡ false → (a || b) ≡ a
  or-none-right true b e = refl
  or-none-right false b e = e

  -- a row's key
  row-gone : (key : List Value) (s : StoredRow) → list_any (λ (w : Written). bytes_eq (key_of t key) w.key) (gone_of s) ≡ bytes_eq (key_of t s.row) (key_of t key)
  row-gone key s =
      any-dead (key_of t key) (all_written t indexes s.row)
      ∙ or-none-right (bytes_eq (key_of t key) (key_of t s.row)) (list_any (λ (w : Written). bytes_eq (key_of t key) w.key) (map (entry_written t s.row) indexes))
      (any-entries (key_of t key) s.row indexes ∙ any-false (λ j. bytes_eq (key_of t key) (key_in t j s.row)) indexes (no-entry key s.row indexes))
      ∙ bytes-flip (key_of t key) (key_of t s.row)

  -- an entry's
  entry-gone : (i : SqlIndex) (row : List Value) (s : StoredRow) → AreNumbered t indexes → IsAmong indexes i
      → list_any (λ (w : Written). bytes_eq (key_in t i row) w.key) (gone_of s) ≡ bytes_eq (key_in t i s.row) (key_in t i row)
  entry-gone i row s numbered m =
      any-dead (key_in t i row) (all_written t indexes s.row)
      ∙ (λ j. entry-no-row t i s.row row j || any-entries (key_in t i row) s.row indexes j)
      ∙ any-own t indexes i s.row row numbered m
      ∙ bytes-flip (key_in t i row) (key_in t i s.row)

  over-gone : (b : Bool) (found whole : Option StoredRow) (P : List ℕ → Type 0) → found ≡ cond b None whole → MatchOption (either b None None) (found ≡ whole) (λ value. MatchOption value (found ≡ None) P)
  over-gone true found whole P e = e
  over-gone false found whole P e = e

  gone-true : (b : Bool) → either b None None ≢ None → b ≡ true
  gone-true true some = refl
  gone-true false some = absurd (some refl)

  true-gone : (b : Bool) → b ≡ true → either b None None ≢ None
  true-gone true e none = (let no : ⊥ = cc in no)
  true-gone false e none = true≢false (sym e)

  pub rows-gone : IsTable t → ((i : SqlIndex) → IsAmong indexes i → IsTableIndex t i) → AreNumbered t indexes → IsRewritten t indexes stood [] stood → AreTaken t indexes stood (rows_dropped t indexes met) rest
  rows-gone is formed numbered first = (
    record {
      row = λ key.
          subst (λ (there : Option (Option (List ℕ))). RowOver t stood (key_of t key) (stored_at t rest (key_of t key)) there) (sym (at-gone (key_of t key) (λ s. bytes_eq (key_of t s.row) (key_of t key)) (row-gone key)))
          (over-gone (list_any (λ s. bytes_eq (key_of t s.row) (key_of t key)) met) (stored_at t rest (key_of t key)) (stored_at t stood (key_of t key))
          (λ text. IsWrittenRow t text (stored_at t rest (key_of t key)))
          (find-left (λ s. bytes_eq (key_of t s.row) (key_of t key)) q stood (row-clash (key_of t key) stood (apart-from (KeysApart t) stood first.apart))));
      entry = λ i row m.
          subst (HeldOver t i stood (key_in t i row) (holder t i (key_in t i row) rest)) (sym (at-gone (key_in t i row) (λ s. bytes_eq (key_in t i s.row) (key_in t i row)) (λ s. entry-gone i row s numbered m)))
          (over-gone (list_any (λ s. bytes_eq (key_in t i s.row) (key_in t i row)) met) (holder t i (key_in t i row) rest) (holder t i (key_in t i row) stood)
          (λ text. IsHeld t i text (holder t i (key_in t i row) rest))
          (find-left (λ s. bytes_eq (key_in t i s.row) (key_in t i row)) q stood (entry-clash i (key_in t i row) stood (apart-from (EntriesApart t i) stood (first.alone i m)))));
      apart = pairs-from (KeysApart t) rest (kept-apart (KeysApart t) (λ s. not (q s)) stood (apart-from (KeysApart t) stood first.apart));
      alone = λ i m. pairs-from (EntriesApart t i) rest (kept-apart (EntriesApart t i) (λ s. not (q s)) stood (apart-from (EntriesApart t i) stood (first.alone i m)));
      kinds = all-kept (IsRowOfKinds t) (λ s. not (q s)) stood first.kinds;
      own = λ i row m plain kinds some.
          subst (λ (o : Option (Option (List ℕ))). o ≢ None) (sym (at-gone (key_of t row) (λ s. bytes_eq (key_of t s.row) (key_of t row)) (row-gone row)))
          (true-gone (list_any (λ s. bytes_eq (key_of t s.row) (key_of t row)) met)
          (any-weaker (λ s. bytes_eq (key_in t i s.row) (key_in t i row)) (λ s. bytes_eq (key_of t s.row) (key_of t row)) met
          (same-keys i row is (formed i m) plain kinds met (all-kept (IsRowOfKinds t) q stood first.kinds))
          (gone-true (list_any (λ s. bytes_eq (key_in t i s.row) (key_in t i row)) met)
          (subst (λ (o : Option (Option (List ℕ))). o ≢ None) (at-gone (key_in t i row) (λ s. bytes_eq (key_in t i s.row) (key_in t i row)) (λ s. entry-gone i row s numbered m)) some))));
    },
    put-keyed t indexes (flat_map gone_of met) [] (gone-keyed met (all-kept (IsRowOfKinds t) q stood first.kinds)) (tt, tt),
  )
    where
      row-clash : (key : List ℕ) (ss : List StoredRow) → Apart (KeysApart t) ss → Apart (Clash (λ s. bytes_eq (key_of t s.row) key)) ss
      row-clash key [] h = tt
      row-clash key (s ∷ ss) h = (each ss h.0, row-clash key ss h.1)
        where
          each : (rs : List StoredRow) → AllByRecursion (KeysApart t s) rs → AllByRecursion (Clash (λ r. bytes_eq (key_of t r.row) key) s) rs
          each [] all = tt
          each (r ∷ rs) all = ((λ p o. all.0 ((bytes_eq-Decides (key_of t s.row) key).0 p ∙ sym ((bytes_eq-Decides (key_of t r.row) key).0 o))), each rs all.1)

      entry-clash : (i : SqlIndex) (key : List ℕ) (ss : List StoredRow) → Apart (EntriesApart t i) ss → Apart (Clash (λ s. bytes_eq (key_in t i s.row) key)) ss
      entry-clash i key [] h = tt
      entry-clash i key (s ∷ ss) h = (each ss h.0, entry-clash i key ss h.1)
        where
          each : (rs : List StoredRow) → AllByRecursion (EntriesApart t i s) rs → AllByRecursion (Clash (λ r. bytes_eq (key_in t i r.row) key) s) rs
          each [] all = tt
          each (r ∷ rs) all = ((λ p o. all.0 ((bytes_eq-Decides (key_in t i s.row) key).0 p ∙ sym ((bytes_eq-Decides (key_in t i r.row) key).0 o))), each rs all.1)

      same-keys : (i : SqlIndex) (row : List Value) → IsTable t → IsTableIndex t i → i.unique ≡ false → AreOfKinds (kinds_of t) row → (ss : List StoredRow) → AllByRecursion (IsRowOfKinds t) ss
          → AllByRecursion (λ (s : StoredRow). bytes_eq (key_in t i s.row) (key_in t i row) ≡ true → bytes_eq (key_of t s.row) (key_of t row) ≡ true) ss
      same-keys i row table index plain kinds [] all = tt
      same-keys i row table index plain kinds (s ∷ ss) all = (
        (λ same. (bytes_eq-Decides (key_of t s.row) (key_of t row)).1
            (plain-alone t i s.row row table index plain all.0 kinds ((bytes_eq-Decides (key_in t i s.row) (key_in t i row)).0 same))),
        same-keys i row table index plain kinds ss all.1,
      )

      gone-keyed : (ss : List StoredRow) → AllByRecursion (IsRowOfKinds t) ss → AllByRecursion (HasKey t indexes) (flat_map gone_of ss)
      gone-keyed [] all = tt
      gone-keyed (s ∷ ss) all =
          all-both (HasKey t indexes) (gone_of s) (flat_map gone_of ss) (deleted-keyed t indexes (all_written t indexes s.row) (written-keyed t indexes s.row all.0)) (gone-keyed ss all.1)

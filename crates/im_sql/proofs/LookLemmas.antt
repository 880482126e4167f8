-- What is found of a table while the rows of a statement are taken.
use Rattle.std.proofs.Common.{◌≡◌, ◌≢◌, ◌≤◌, ◌<◌, ◌^◌, ◌&&◌, inl, inr, ℕ, Bool, true, false, not, cond, nat_eq, if◌then◌else◌, List, [], ◌∷◌, ◌++◌, length, drop, filter, find, bytes_eq, Option, Some, None, MatchOption, refl, sym, ap, ap₂, ◌∙◌, subst, arith}
use Rattle.std.proofs.lemmas.Bool.{true≢false, cases_Bool, ne_eqb}
use Rattle.std.proofs.lemmas.List.Elements.{All-from_recursion}
use Rattle.std.proofs.lemmas.Slice.Eq.{bytes_eq-Decides}
use Rattle.std.specs.List.{AllByRecursion, IsAmong}
use Rattle.std.specs.Option.{option_map, option_to_list}
use Rattle.im_octet.proofs.Common.{some-is, bytes-other}
use Rattle.im_model.specs.declared.transactions.Transaction.{Transaction}
use Rattle.im_versions.specs.Versions.{last_version, last_number, version_number, all_versions}
use Rattle.im_versions.specs.declared.versions.Version.{Version}
use Rattle.im_versions.proofs.ListLemmas.{All-among}
use Rattle.im_versions.proofs.VersionLemmas.{last-of-key, last-among-all, versions-within}
use Rattle.im_sqltype.specs.Kinds.{AreOfKinds}
use Rattle.im_sqltype.specs.Texts.{row_text}
use Rattle.im_sqltype.specs.declared.values.Value.{Value}
use Rattle.im_sqlmodel.specs.Keys.{rows_prefix}
use Rattle.im_sqlmodel.specs.Kept.{IsTableOf, IsSqlIndexOf, IsRowOf, IsSqlSound}
use Rattle.im_sqlmodel.specs.Tables.{kinds_of}
use Rattle.im_sqlmodel.specs.Rows.{IsLiveAs, IsStoredRow, IndexesAre, RowsAre, columns_of, key_of}
use Rattle.im_sqlmodel.specs.Writes.{stored_at, entry_written, row_met, entry_number}
use Rattle.im_sqlmodel.specs.declared.rows.StoredRow.{StoredRow}
use Rattle.im_sqlmodel.specs.declared.tables.SqlIndex.{SqlIndex}
use Rattle.im_sqlmodel.specs.declared.tables.Table.{Table}
use Rattle.im_sqlmodel.specs.declared.written.Written.{Written}
use Rattle.im_sqlmodel.proofs.OnceLemmas.{value-live}
use Rattle.im_catalog.specs.Rows.{RowAt}
use Rattle.im_catalog.proofs.FrontLemmas.{row-of-key}
use Rattle.im_catalog.proofs.TableLemmas.{tid-cut}
use Rattle.im_plan.proofs.EntryLemmas.{zip-among}
use Rattle.im_plan.proofs.EntryRowLemmas.{text-same, row-listed, entry-live}
use Rattle.im_plan.proofs.ReachLemmas.{entry-parts}
use Rattle.im_sql.specs.Entries.{IsEntryOfHistory, IsEntryThere, number_met}
use Rattle.im_sql.specs.Working.{holder, IsWrittenRow, IsWrittenHolder, IsWorking}
use Rattle.im_sql.specs.Writing.{written_at}
use Rattle.im_sql.specs.declared.working.Entry.{Entry}
use Rattle.im_sql.proofs.RowsLemmas.{Over, of_key}
use Rattle.im_sql.proofs.NextLemmas.{Apart, apart-from, find-none, none-found, find-some, key_in}
use Rattle.im_sql.proofs.WorkLemmas.{index-of, unique-value}

-- ---- the row of a key

abbrev pub stored : List Value → ℕ → StoredRow
stored row tx = record { row = row; tx = tx }

-- a row of this text stands under the key of a row
abbrev pub IsTextThere : Table → List StoredRow → List Value → List ℕ → List Value → Type 0
IsTextThere t rows row text other =
    AreOfKinds (kinds_of t) other × (key_of t row ≡ key_of t other) × (text ≡ row_text other) × (stored_at t rows (key_of t row) ≡ Some (stored other 0))

module _ (t : Table) (indexes : List SqlIndex) (stood rows : List StoredRow) (written : List Written) (working : IsWorking t indexes stood written rows) where
  -- what is written at the key of a row is the text of a row of that key
  pub text-there : (row : List Value) (text : List ℕ) → written_at written (key_of t row) ≡ Some (Some text) → (other : List Value) × IsTextThere t rows row text other
  text-there row text e =
      let over : IsWrittenRow t text (stored_at t rows (key_of t row)) = subst (Over t stood (key_of t row) (stored_at t rows (key_of t row))) e (working.row row) in
      let found = find-some (of_key t (key_of t row)) rows (stored over.0 0) over.3 in
      (over.0, (over.1, sym ((bytes_eq-Decides (key_of t over.0) (key_of t row)).0 found.1), over.2, over.3))

  -- the row that is read from it is the one that is there
  pub row-told : (row : List Value) (text : List ℕ) (s : StoredRow) → written_at written (key_of t row) ≡ Some (Some text) → s.tx ≡ 0 → AreOfKinds (kinds_of t) s.row → text ≡ row_text s.row
      → Some s ≡ stored_at t rows (key_of t row)
  row-told row text s e zero kinds told =
      let there = text-there row text e in
      let same : s.row ≡ there.0 = text-same t s.row there.0 kinds there.1.0 (sym told ∙ there.1.2) in
      let one : Some s ≡ Some (stored there.0 0) = ap₂ (λ (r : List Value) (n : ℕ). Some (stored r n)) same zero in
      one ∙ sym there.1.3

  -- none is there where it is deleted
  pub none-there : (row : List Value) → written_at written (key_of t row) ≡ Some None → None ≡ stored_at t rows (key_of t row)
  none-there row e = sym (subst (Over t stood (key_of t row) (stored_at t rows (key_of t row))) e (working.row row))

  -- else it is the one that stood
  pub stood-there : (history : List Transaction) (row : List Value) (found : Option StoredRow) → RowsAre history t stood → written_at written (key_of t row) ≡ None → RowAt history t (key_of t row) found
      → found ≡ stored_at t rows (key_of t row)
  stood-there history row found all e at =
      let key : List ℕ = key_of t row in
      let over : stored_at t rows key ≡ stored_at t stood key = subst (Over t stood key (stored_at t rows key)) e (working.row row) in
      let listed : option_to_list found ≡ filter (of_key t key) stood = row-of-key history t key stood found (row_text (columns_of row t.key), refl) all at in
      sym (first-listed found) ∙ ap first_of listed ∙ sym (find-filter (of_key t key) stood) ∙ sym over
    where
      first_of : List StoredRow → Option StoredRow
      first_of [] = None
      first_of (x ∷ xs) = Some x

      first-listed : (o : Option StoredRow) → first_of (option_to_list o) ≡ o
      first-listed None = refl
      first-listed (Some s) = refl

      find-filter : (q : StoredRow → Bool) (xs : List StoredRow) → find q xs ≡ first_of (filter q xs)
      find-filter q [] = refl
      find-filter q (x ∷ xs) = elim (q x) as (λ (b : Bool). cond b (Some x) (find q xs) ≡ first_of (cond b (x ∷ filter q xs) (filter q xs))) [
        | true ↦ refl
        | false ↦ find-filter q xs
      ]

-- ---- the row that has an entry

-- what stands under the key of an entry is that of this row
abbrev pub IsHeldBy : List Transaction → Table → SqlIndex → Option Entry → Option StoredRow → Type 0
IsHeldBy history t i found None = found ≡ None
IsHeldBy history t i found (Some s) =
    (e : Entry) × (found ≡ Some e) × (e.primary ≡ row_text (columns_of s.row t.key)) × (e.tx ≡ entry_number history t i s)

-- a row that stood has a number from 1
pub number-some : (history : List Transaction) (v : Version) → last_version history v.key ≡ Some v → 1 ≤ v.tx
number-some history v last =
    (All-among (λ (w : Version). (1 ≤ w.tx) × (w.tx ≤ length history)) (all_versions history) v (versions-within history) (last-among-all history v.key v last)).0

entry-number : (history : List Transaction) (t : Table) (i : SqlIndex) (s : StoredRow) (key : List ℕ) (v : Version) → 1 ≤ s.tx → key_in t i s.row ≡ key → last_version history key ≡ Some v
    → v.tx ≡ entry_number history t i s
entry-number history t i s key v some same last =
    let positive : nat_eq s.tx 0 ≡ false = ne_eqb s.tx 0 (λ none. omega (arith, none, some)) in
    ap version_number (sym last) ∙ ap (last_number history) (sym same)
    ∙ ap (λ (b : Bool). cond b 0 (last_number history (key_in t i s.row))) (sym positive)

-- ---- in the history

held-some : (history : List Transaction) (t : Table) (i : SqlIndex) (stood : List StoredRow) (key : List ℕ) (s : StoredRow) (found : Option Entry) → IsSqlSound history → IsSqlIndexOf history t i
    → i.unique ≡ true → RowsAre history t stood → IsAmong stood s → key_in t i s.row ≡ key → IsEntryOfHistory history key found → IsHeldBy history t i found (Some s)
held-some history t i stood key s found sound index unique all m same there =
    let stored_by = zip-among (IsStoredRow t) all.0 stood s all.2 m in
    let w : Version = stored_by.0 in
    let alive = All-among (λ (u : Version). (last_version history u.key ≡ Some u) × (u.deleted ≡ false)) all.0 w all.1.live stored_by.1 in
    let row : IsRowOf history t s.row = (index.0, stored_by.2.0.0, (w, ap (last_version history) (sym stored_by.2.0.1) ∙ alive.0, alive.1, stored_by.2.0.2)) in
    let text : List ℕ = row_text (columns_of s.row t.key) in
    let stands : IsLiveAs history key text =
    subst (λ (k : List ℕ). IsLiveAs history k text) same (sound.entries t i s.row text index row (unique-value i.unique _ _ text unique refl)) in
    let low : 1 ≤ w.tx = number-some history w alive.0 in
    let some : 1 ≤ s.tx = subst (λ (n : ℕ). 1 ≤ n) (sym stored_by.2.1) low in
    by-found found there stands some
  where
    by-found : (o : Option Entry) → IsEntryOfHistory history key o → IsLiveAs history key (row_text (columns_of s.row t.key)) → 1 ≤ s.tx → IsHeldBy history t i o (Some s)
    by-found None gone stands some = absurd (true≢false (sym (value-live history key (row_text (columns_of s.row t.key)) stands) ∙ gone))
    by-found (Some e) has stands some =
        let one : stands.0 ≡ has.0 = some-is stands.0 has.0 (sym stands.1 ∙ has.1) in
        (e, refl, has.3 ∙ sym (ap (λ (v : Version). v.value) one) ∙ stands.3, has.4 ∙ entry-number history t i s key has.0 some same has.1)

held-none : (history : List Transaction) (t : Table) (i : SqlIndex) (stood : List StoredRow) (row : List Value) (found : Option Entry) → IsSqlSound history → IsSqlIndexOf history t i
    → RowsAre history t stood → AllByRecursion (λ (s : StoredRow). bytes_eq (key_in t i s.row) (key_in t i row) ≡ false) stood → IsEntryOfHistory history (key_in t i row) found
    → found ≡ None
held-none history t i stood row None sound index all none there = refl
held-none history t i stood row (Some e) sound index all none there =
    let key : List ℕ = key_in t i row in
    let v : Version = there.0 in
    let own : v.key ≡ key = last-of-key history key v there.1 in
    let parts = entry-parts t row i in
    let has = entry-live history t i v (row_text (columns_of row i.columns) ++ parts.0) sound index (own ∙ parts.1) (ap (last_version history) own ∙ there.1) there.2 in
    let is = has.1.row_is in
    let s : StoredRow = stored has.0 is.2.0.tx in
    let mine : is.2.0.key ≡ key_of t has.0 = last-of-key history (key_of t has.0) is.2.0 is.2.1 in
    let listed : IsAmong stood s = row-listed history t stood (key_of t has.0) s all (is.2.0, is.2.1, is.2.2, ((is.1, mine, is.2.3), refl)) in
    let same : key_in t i has.0 ≡ key = sym has.1.key_is ∙ own in
    let differs : bytes_eq (key_in t i has.0) key ≡ false =
    All-among (λ (r : StoredRow). bytes_eq (key_in t i r.row) key ≡ false) stood s (All-from_recursion (λ (r : StoredRow). bytes_eq (key_in t i r.row) key ≡ false) stood none) listed in
    absurd (true≢false (sym ((bytes_eq-Decides (key_in t i has.0) key).1 same) ∙ differs))

held-stood : (history : List Transaction) (t : Table) (i : SqlIndex) (stood : List StoredRow) (row : List Value) (found : Option Entry) → IsSqlSound history → IsSqlIndexOf history t i → i.unique ≡ true
    → RowsAre history t stood → IsEntryOfHistory history (key_in t i row) found → IsHeldBy history t i found (holder t i (key_in t i row) stood)
held-stood history t i stood row found sound index unique all there = by-holder (holder t i (key_in t i row) stood) refl
  where
    by-holder : (o : Option StoredRow) → holder t i (key_in t i row) stood ≡ o → IsHeldBy history t i found o
    by-holder None is =
        held-none history t i stood row found sound index all (find-none (λ s. bytes_eq (key_in t i s.row) (key_in t i row)) stood is) there
    by-holder (Some s) is =
        let here = find-some (λ (r : StoredRow). bytes_eq (key_in t i r.row) (key_in t i row)) stood s is in
        held-some history t i stood (key_in t i row) s found sound index unique all here.0 ((bytes_eq-Decides (key_in t i s.row) (key_in t i row)).0 here.1) there

-- ---- behind what is written

abbrev EntryBy : List Transaction → List ℕ → Option (Option (List ℕ)) → Option Entry → Type 0
EntryBy history key there found =
    MatchOption there (IsEntryOfHistory history key found) (λ value. MatchOption value (found ≡ None) (λ text. found ≡ Some (record { primary = text; tx = 0 })))

abbrev HolderBy : Table → SqlIndex → List StoredRow → List ℕ → Option (Option (List ℕ)) → Option StoredRow → Type 0
HolderBy t i stood key there found = MatchOption there (found ≡ holder t i key stood) (λ value. MatchOption value (found ≡ None) (λ text. IsWrittenHolder t text found))

abbrev written_entry : List ℕ → Entry
written_entry text = record { primary = text; tx = 0 }

held-by : (history : List Transaction) (t : Table) (i : SqlIndex) (stood : List StoredRow) (row : List Value) (there : Option (Option (List ℕ))) (found : Option Entry) (o : Option StoredRow) → IsSqlSound history
    → IsSqlIndexOf history t i → i.unique ≡ true → RowsAre history t stood → EntryBy history (key_in t i row) there found → HolderBy t i stood (key_in t i row) there o → IsHeldBy history t i found o
held-by history t i stood row None found o sound index unique all is held =
    subst (IsHeldBy history t i found) (sym held) (held-stood history t i stood row found sound index unique all is)
held-by history t i stood row (Some None) found o sound index unique all is held = subst (IsHeldBy history t i found) (sym held) is
held-by history t i stood row (Some (Some text)) found o sound index unique all is held =
    subst (IsHeldBy history t i found) (sym held.1)
    (written_entry text, is, held.3, ap (λ (n : ℕ). cond (nat_eq n 0) 0 (last_number history (key_in t i (held.0).row))) (sym held.2))

-- ---- another row that has it

abbrev kept_of : (StoredRow → Bool) → Option StoredRow → Option StoredRow
kept_of p None = None
kept_of p (Some s) = cond (p s) (Some s) None

-- in a unique index one row alone has a key: another test asks of it alone
alone-found : (t : Table) (i : SqlIndex) (key : List ℕ) (p : StoredRow → Bool) (rows : List StoredRow) → Apart (λ (a b : StoredRow). key_in t i a.row ≢ key_in t i b.row) rows
    → find (λ (s : StoredRow). bytes_eq (key_in t i s.row) key && p s) rows ≡ kept_of p (holder t i key rows)
alone-found t i key p [] h = refl
alone-found t i key p (s ∷ ss) h = elim (bytes_eq (key_in t i s.row) key) as (λ (b : Bool). bytes_eq (key_in t i s.row) key ≡ b
    → cond (b && p s) (Some s) (find (λ (r : StoredRow). bytes_eq (key_in t i r.row) key && p r) ss) ≡ kept_of p (cond b (Some s) (holder t i key ss))) [
      | true ↦ λ e. elim (p s) as (λ (c : Bool). cond c (Some s) (find (λ (r : StoredRow). bytes_eq (key_in t i r.row) key && p r) ss) ≡ cond c (Some s) None) [
        | true ↦ refl
        | false ↦ none-found (λ (r : StoredRow). bytes_eq (key_in t i r.row) key && p r) ss (others ss e h.0)
      ]
      | false ↦ λ e. alone-found t i key p ss h.1
    ] refl
  where
    others : (rs : List StoredRow) → bytes_eq (key_in t i s.row) key ≡ true → AllByRecursion (λ (r : StoredRow). key_in t i s.row ≢ key_in t i r.row) rs
        → AllByRecursion (λ (r : StoredRow). (bytes_eq (key_in t i r.row) key && p r) ≡ false) rs
    others [] e all = tt
    others (r ∷ rs) e all = (
      ap (λ (b : Bool). b && p r) (bytes-other (key_in t i r.row) key (λ same. all.0 ((bytes_eq-Decides (key_in t i s.row) key).0 e ∙ sym same))),
      others rs e all.1,
    )

-- two rows of a table have one key where their primary keys have one text
text-test : (t : Table) (a b : List Value) → t.tid < 2 ^ 32 → bytes_eq (key_of t a) (key_of t b) ≡ bytes_eq (row_text (columns_of a t.key)) (row_text (columns_of b t.key))
text-test t a b fits =
    let x : List ℕ = row_text (columns_of a t.key) in
    let y : List ℕ = row_text (columns_of b t.key) in
    elim (cases_Bool (bytes_eq x y)) [
      | inl same ↦ (bytes_eq-Decides (key_of t a) (key_of t b)).1 (ap (λ text. rows_prefix t.tid ++ text) ((bytes_eq-Decides x y).0 same)) ∙ sym same
      | inr other ↦
          bytes-other (key_of t a) (key_of t b)
          (λ e. true≢false (sym ((bytes_eq-Decides x y).1 (tid-cut t.tid t.tid x y fits fits (ap (λ (k : List ℕ). drop 2 k) e)).1) ∙ other))
          ∙ sym other
    ]

both : (history : List Transaction) (t : Table) (i : SqlIndex) (row : List Value) (found : Option Entry) (o : Option StoredRow) → t.tid < 2 ^ 32 → IsHeldBy history t i found o
    → number_met found (Some (row_text (columns_of row t.key))) ≡ option_map (entry_number history t i) (kept_of (λ (s : StoredRow). not (bytes_eq (key_of t s.row) (key_of t row))) o)
both history t i row found None fits held = ap (λ (f : Option Entry). number_met f (Some (row_text (columns_of row t.key)))) held
both history t i row found (Some s) fits held =
    let own : List ℕ = row_text (columns_of row t.key) in
    ap (λ (f : Option Entry). number_met f (Some own)) held.1
    ∙ ap₂ (λ (text : List ℕ) (n : ℕ). if bytes_eq text own then None else Some n) held.2 held.3
    ∙ ap (λ (b : Bool). if b then None else Some (entry_number history t i s)) (sym (text-test t s.row row fits))
    ∙ by-test (bytes_eq (key_of t s.row) (key_of t row))
  where
    by-test : (b : Bool) → (if b then None else Some (entry_number history t i s)) ≡ option_map (entry_number history t i) (cond (not b) (Some s) None)
    by-test true = refl
    by-test false = refl

-- the number of the entry that another row has
pub met-is : (history : List Transaction) (t : Table) (indexes : List SqlIndex) (i : SqlIndex) (stood rows : List StoredRow) (written : List Written) (row : List Value) (found : Option Entry) → IsSqlSound history
    → IsTableOf history t → IndexesAre history t indexes → IsAmong indexes i → i.unique ≡ true → RowsAre history t stood → IsWorking t indexes stood written rows
    → IsEntryThere history written (key_in t i row) found → number_met found (entry_written t row i).value ≡ option_map (entry_number history t i) (row_met t i row rows)
met-is history t indexes i stood rows written row found sound of are m unique all working there =
    let key : List ℕ = key_in t i row in
    let index : IsSqlIndexOf history t i = index-of history t indexes i of are m in
    let held = held-by history t i stood row (written_at written key) found (holder t i key rows) sound index unique all there (working.unique i row m unique) in
    ap (number_met found) (unique-value i.unique _ _ (row_text (columns_of row t.key)) unique refl) ∙ both history t i row found (holder t i key rows) of.0.tid.1 held
    ∙ ap (option_map (entry_number history t i))
    (sym (alone-found t i key (λ (s : StoredRow). not (bytes_eq (key_of t s.row) (key_of t row))) rows
    (apart-from (λ (a b : StoredRow). key_in t i a.row ≢ key_in t i b.row) rows (working.alone i m unique))))

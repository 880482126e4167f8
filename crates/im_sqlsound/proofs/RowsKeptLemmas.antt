-- INSERT, UPSERT and DELETE keep the keys SQL's.
use Rattle.std.proofs.Common.{◌≡◌, ◌≢◌, ◌≤◌, ◌<◌, ◌+◌, ◌-◌, ◌^◌, ◌||◌, inl, inr, ℕ, Bool, true, false, if◌then◌else◌, List, [], ◌∷◌, ◌++◌, map, bytes_eq, length, take, drop, get_or, Option, Some, None, refl, sym, ap, ◌∙◌, subst, length-append, arith}
use Rattle.std.proofs.lemmas.Bool.{true≢false, cases_Bool, cases_lt}
use Rattle.std.proofs.lemmas.List.{take_all}
use Rattle.std.proofs.lemmas.List.Elements.{All-from_recursion}
use Rattle.std.proofs.lemmas.Slice.Eq.{bytes_eq-Decides}
use Rattle.std.specs.List.{AllByRecursion, IsAmong}
use Rattle.im_octet.specs.Fields.{field4}
use Rattle.im_octet.proofs.Common.{bytes-other, some-is}
use Rattle.im_model.specs.declared.transactions.Transaction.{Transaction}
use Rattle.im_versions.specs.Versions.{last_version, last_number, version_number, versions_of, is_written, begins_with}
use Rattle.im_versions.specs.declared.versions.Version.{Version}
use Rattle.im_versions.proofs.ListLemmas.{All-among, last-among}
use Rattle.im_versions.proofs.VersionLemmas.{last-of-key}
use Rattle.im_draft.specs.Drafts.{entry_of}
use Rattle.im_sqltype.specs.Texts.{row_text}
use Rattle.im_sqltype.specs.declared.values.Value.{Value}
use Rattle.im_sqlmodel.specs.Creations.{draft_written}
use Rattle.im_sqlmodel.specs.Keys.{tables_key, table_prefix, table_key, indexes_prefix, index_key, mark_key, rows_prefix}
use Rattle.im_sqlmodel.specs.Kept.{IsTableOf, IsSqlIndexOf, IsRowOf, IsText, IsSqlSound, IsSqlKept}
use Rattle.im_sqlmodel.specs.Rows.{IsLiveAs, CountIs, IndexesAre, RowsAre, columns_of, key_of}
use Rattle.im_sqlmodel.specs.Tables.{table_text, index_text}
use Rattle.im_sqlmodel.specs.Writes.{entry_written, stored_at, is_guarded, marked}
use Rattle.im_sqlmodel.specs.declared.rows.StoredRow.{StoredRow}
use Rattle.im_sqlmodel.specs.declared.tables.SqlIndex.{SqlIndex}
use Rattle.im_sqlmodel.specs.declared.tables.Table.{Table}
use Rattle.im_sqlmodel.specs.declared.written.Written.{Written}
use Rattle.im_sqlmodel.proofs.KeptLemmas.{kept-sound}
use Rattle.im_catalog.proofs.FoundLemmas.{entry-is}
use Rattle.im_catalog.proofs.TableLemmas.{tid-cut}
use Rattle.im_plan.proofs.EntryRowLemmas.{one-index, text-same, entry-live}
use Rattle.im_plan.proofs.ReachLemmas.{entry-parts}
use Rattle.im_sql.specs.Working.{holder}
use Rattle.im_sql.specs.Writing.{written_at}
use Rattle.im_sqlmodel.proofs.CarriedLemmas.{taken-front, push-grows}
use Rattle.im_sqlsound.proofs.EntryLemmas.{same-numbers, row-alone}
use Rattle.im_sql.proofs.NextLemmas.{apart-from, apart-one, key_in, find-some}
use Rattle.im_sql.proofs.PutLemmas.{either, put-at}
use Rattle.im_sql.proofs.RowsLemmas.{Over as RowOver}
use Rattle.im_sql.proofs.WorkLemmas.{index-of}
use Rattle.im_sqlsound.proofs.BehindLemmas.{Once, version_by, last_behind, last-pushed, live-still, live-new, live-by, IsLiveBy}
use Rattle.im_sqlsound.proofs.GuardLemmas.{guarded-same}
use Rattle.im_sqlsound.proofs.HeldLemmas.{value_in, value-told, HeldOver, KeysApart, EntriesApart, IsRewritten, IsRowOfKinds, rewritten-first}
use Rattle.im_sqlsound.proofs.StoodLemmas.{find-told, find-alone, find-other, none-some, second-of, stood-number, stood-row, row-stood, here, iid-at, none-behind}
use Rattle.im_sqlsound.proofs.WrittenLemmas.{IsKeyOf, HasKey}

-- ---- numbers, keys, values

number-by : (k : ℕ) (key : List ℕ) (value : Option (List ℕ)) → (version_by k key value).tx ≡ k
number-by k key None = refl
number-by k key (Some value) = refl

unique-guarded : (t : Table) (row : List Value) (i : SqlIndex) → i.unique ≡ true → is_guarded (key_in t i row) ≡ true
unique-guarded t row i unique = by-test i.unique _ _ unique refl
  where
    by-test : (b : Bool) (x y : Written) → b ≡ true → is_guarded x.key ≡ true → is_guarded (if b then x else y).key ≡ true
    by-test true x y e given = given
    by-test false x y e given = absurd (true≢false (sym e))

unique-text : (t : Table) (row : List Value) (i : SqlIndex) → i.unique ≡ true → value_in t i row ≡ row_text (columns_of row t.key)
unique-text t row i unique = ap (λ (b : Bool). if b then row_text (columns_of row t.key) else []) unique

-- ---- all that is written

module _ (history : List Transaction) (n : ℕ) (kept : IsSqlKept history) (within : n ≤ length history) (tx : Transaction) (t : Table) (indexes : List SqlIndex) (stood rows : List StoredRow)
    (written : List Written) (of : IsTableOf (take n history) t) (are : IndexesAre (take n history) t indexes) (all : RowsAre (take n history) t stood)
    (next : last_number history (index_key t.tid (length indexes + 1)) ≤ n)
    (guards : (key : List ℕ) → is_guarded key ≡ true → written_at written key ≢ None → last_number history key ≤ n)
    (re : IsRewritten t indexes stood written rows) (keyed : AllByRecursion (HasKey t indexes) written) (once : Once (marked t written))
    (writes : tx.entries ≡ map (λ (w : Written). entry_of (draft_written w)) (marked t written)) where
  abbrev front : List Transaction
  front = take n history

  abbrev after : List Transaction
  after = history ++ tx ∷ []

  abbrev ws : List Written
  ws = marked t written

  sound : IsSqlSound history
  sound = kept-sound history kept

  before : IsSqlSound front
  before = kept n within

  -- ---- what was settled

  table-there : (u : Table) → IsTableOf front u → IsTableOf history u
  table-there u is = (is.0, (is.1.0, sound.settled n (table_key u.name) is.1.0 refl is.1.1 is.1.2, is.1.2, is.1.3))

  index-there : (u : Table) (i : SqlIndex) → IsSqlIndexOf front u i → IsSqlIndexOf history u i
  index-there u i is = (table-there u is.0, is.1, (is.2.0, sound.settled n (index_key u.tid i.iid) is.2.0 refl is.2.1 is.2.2, is.2.2, is.2.3))

  own_table : IsTableOf history t
  own_table = table-there t of

  in-index : (i : SqlIndex) → IsAmong indexes i → IsSqlIndexOf history t i
  in-index i m = index-there t i (index-of front t indexes i of are m)

  -- no index was made since
  index-in : (i : SqlIndex) → IsSqlIndexOf history t i → IsAmong indexes i
  index-in i is = elim (cases_lt (length indexes) i.iid) [
    | inl above ↦ absurd (
        let found = sound.gapless t i (length indexes + 1) is (omega arith) (omega (arith, above)) in
        let j : SqlIndex = found.0 in
        let key : index_key t.tid j.iid ≡ index_key t.tid (length indexes + 1) = ap (index_key t.tid) found.2 in
        let last : last_version front (index_key t.tid j.iid) ≡ last_version history (index_key t.tid j.iid) =
        ap (last_version front) key ∙ guarded-same history n (index_key t.tid (length indexes + 1)) next ∙ sym (ap (last_version history) key) in
        none-behind front t indexes before of are j (of, found.1.1, (found.1.2.0, last ∙ found.1.2.1, found.1.2.2, found.1.2.3)) found.2)
    | inr low ↦ (
        let some : 1 ≤ i.iid = is.1.iid.0 in
        let k : ℕ = i.iid - 1 in
        let l : k < length indexes = omega (arith, some, low) in
        let m = here front t indexes before of are k i l in
        let number : (get_or indexes k i).iid ≡ k + 1 = iid-at front t indexes before of are k i l in
        let same : i.iid ≡ (get_or indexes k i).iid = omega (arith, number, some) in
        subst (IsAmong indexes) (one-index history t i (get_or indexes k i) is (in-index (get_or indexes k i) m) same) m)
  ]

  -- ---- what is written at a key

  at-other : (key : List ℕ) → key ≢ mark_key t.tid → written_at ws key ≡ written_at written key
  at-other key other =
      put-at (record { key = mark_key t.tid; value = Some [] }) written key ∙ ap (λ (b : Bool). either b (Some []) (written_at written key)) (bytes-other key (mark_key t.tid) other)

  at-kind : (key : List ℕ) (m : ℕ) → get_or key 1 0 ≡ m → (m ≡ 3 → ⊥) → written_at ws key ≡ written_at written key
  at-kind key m second other = at-other key (λ same. other (sym second ∙ ap (λ (k : List ℕ). get_or k 1 0) same))

  at-row : (u : Table) (row : List Value) → written_at ws (key_of u row) ≡ written_at written (key_of u row)
  at-row u row = at-kind (key_of u row) 4 refl (λ same. (let no : ⊥ = omega (arith, same) in no))

  at-entry : (u : Table) (i : SqlIndex) (row : List Value) → written_at ws (key_in u i row) ≡ written_at written (key_in u i row)
  at-entry u i row = at-other (key_in u i row) (λ same. entry-is 3 (mark_key t.tid) u row i (omega arith) refl (sym same))

  key-form : (key : List ℕ) (value : Option (List ℕ)) → written_at written key ≡ Some value → IsKeyOf t indexes key
  key-form key value e =
      let told = find-told key value written e in
      subst (IsKeyOf t indexes) (sym told.2) (All-among (HasKey t indexes) written told.0 (All-from_recursion (HasKey t indexes) written keyed) told.1)

  form-high : (key : List ℕ) (m : ℕ) → get_or key 1 0 ≡ m → m < 3 → IsKeyOf t indexes key → ⊥
  form-high key m second low (inl is) = (let four : get_or key 1 0 ≡ 4 = ap (λ (k : List ℕ). get_or k 1 0) is.2 in omega (arith, four, second, low))
  form-high key m second low (inr is) = entry-is m key t is.1 is.0 (omega (arith, low)) second is.4

  none-low : (key : List ℕ) (m : ℕ) → get_or key 1 0 ≡ m → m < 3 → written_at ws key ≡ None
  none-low key m second low = at-kind key m second (λ same. (let no : ⊥ = omega (arith, same, low) in no)) ∙ by-written (written_at written key) refl
    where
      by-written : (o : Option (Option (List ℕ))) → written_at written key ≡ o → o ≡ None
      by-written None is = refl
      by-written (Some value) is = absurd (form-high key m second low (key-form key value is))

  abbrev By : List ℕ → List ℕ → Option (Option (List ℕ)) → Type 0
  By key value there = IsLiveBy history tx ws once writes key value there

  live-at : (key value : List ℕ) (there : Option (Option (List ℕ))) → written_at ws key ≡ there → IsLiveAs after key value → By key value there
  live-at key value there e live = subst (By key value) e (live-by history tx ws once writes key value live)

  last-same : (key : List ℕ) → written_at ws key ≡ None → last_version after key ≡ last_version history key
  last-same key none = last-pushed history tx ws once writes key ∙ ap (last_behind (length history + 1) key (last_version history key)) none

  -- ---- tables and indexes

  table-still : (u : Table) → IsTableOf history u → IsTableOf after u
  table-still u is = (is.0, live-still history tx ws once writes (table_key u.name) (table_text u) (none-low (table_key u.name) 1 refl (omega arith)) is.1)

  table-back : (u : Table) → IsTableOf after u → IsTableOf history u
  table-back u is = (is.0, live-at (table_key u.name) (table_text u) None (none-low (table_key u.name) 1 refl (omega arith)) is.1)

  index-still : (u : Table) (i : SqlIndex) → IsSqlIndexOf history u i → IsSqlIndexOf after u i
  index-still u i is = (table-still u is.0, is.1, live-still history tx ws once writes (index_key u.tid i.iid) (index_text i) (none-low (index_key u.tid i.iid) 2 refl (omega arith)) is.2)

  index-back : (u : Table) (i : SqlIndex) → IsSqlIndexOf after u i → IsSqlIndexOf history u i
  index-back u i is = (table-back u is.0, is.1, live-at (index_key u.tid i.iid) (index_text i) None (none-low (index_key u.tid i.iid) 2 refl (omega arith)) is.2)

  -- ---- rows

  row-still : (u : Table) (row : List Value) → written_at written (key_of u row) ≡ None → IsRowOf history u row → IsRowOf after u row
  row-still u row none is = (table-still u is.0, is.1, live-still history tx ws once writes (key_of u row) (row_text row) (at-row u row ∙ none) is.2)

  row-back : (u : Table) (row : List Value) → written_at written (key_of u row) ≡ None → IsRowOf after u row → IsRowOf history u row
  row-back u row none is = (table-back u is.0, is.1, live-at (key_of u row) (row_text row) None (at-row u row ∙ none) is.2)

  -- a row whose key is written is of the table
  form-row : (u : Table) (row : List Value) → u.tid < 2 ^ 32 → IsKeyOf t indexes (key_of u row) → u.tid ≡ t.tid
  form-row u row fits (inl is) = (tid-cut u.tid t.tid _ _ fits of.0.tid.1 (ap (λ (k : List ℕ). drop 2 k) is.2)).0
  form-row u row fits (inr is) = absurd (entry-is 4 (key_of u row) t is.1 is.0 (omega arith) refl is.4)

  own-row : (u : Table) (row : List Value) (value : Option (List ℕ)) → IsTableOf history u → written_at written (key_of u row) ≡ Some value → u ≡ t
  own-row u row value is e = sound.once u t is own_table (form-row u row is.0.tid.1 (key-form (key_of u row) value e))

  -- each row is that of its key, and has its entries
  stored-final : (s : StoredRow) → IsAmong rows s → stored_at t rows (key_of t s.row) ≡ Some s
  stored-final s m =
      find-alone (λ (r : StoredRow). bytes_eq (key_of t r.row) (key_of t s.row)) rows s m ((bytes_eq-Decides (key_of t s.row) (key_of t s.row)).1 refl)
      (λ r q passes. apart-one (KeysApart t) (λ a b h e. h (sym e)) rows r s (apart-from (KeysApart t) rows re.apart) q m (λ h. h ((bytes_eq-Decides (key_of t r.row) (key_of t s.row)).0 passes)))

  held-final : (i : SqlIndex) (s : StoredRow) → IsAmong indexes i → IsAmong rows s → holder t i (key_in t i s.row) rows ≡ Some s
  held-final i s is m =
      find-alone (λ (r : StoredRow). bytes_eq (key_in t i r.row) (key_in t i s.row)) rows s m ((bytes_eq-Decides (key_in t i s.row) (key_in t i s.row)).1 refl)
      (λ r q passes. apart-one (EntriesApart t i) (λ a b h e. h (sym e)) rows r s (apart-from (EntriesApart t i) rows (re.alone i is)) q m
      (λ h. h ((bytes_eq-Decides (key_in t i r.row) (key_in t i s.row)).0 passes)))

  -- one of the statement is written
  new-written : (s : StoredRow) → IsAmong rows s → s.tx ≡ 0 → written_at written (key_of t s.row) ≡ Some (Some (row_text s.row))
  new-written s m new = by-written (written_at written (key_of t s.row)) refl (re.row s.row)
    where
      by-written : (o : Option (Option (List ℕ))) → written_at written (key_of t s.row) ≡ o → RowOver t stood (key_of t s.row) (stored_at t rows (key_of t s.row)) o
          → written_at written (key_of t s.row) ≡ Some (Some (row_text s.row))
      by-written None is over =
          let found = find-some (λ (r : StoredRow). bytes_eq (key_of t r.row) (key_of t s.row)) stood s (sym over ∙ stored-final s m) in
          let some : 1 ≤ s.tx = stood-number front t stood of all s found.0 in
          absurd (let no : ⊥ = omega (arith, some, new) in no)
      by-written (Some None) is over = absurd (none-some s (sym (stored-final s m) ∙ over))
      by-written (Some (Some text)) is over =
          let same : s ≡ record { row = over.0; tx = 0 } = some-is s (record { row = over.0; tx = 0 }) (sym (stored-final s m) ∙ over.3) in
          is ∙ ap (λ (x : List ℕ). Some (Some x)) (over.2 ∙ ap (λ (r : StoredRow). row_text r.row) (sym same))

  -- one that stood isn't
  old-unwritten : (s : StoredRow) → IsAmong rows s → 1 ≤ s.tx → written_at written (key_of t s.row) ≡ None
  old-unwritten s m some = by-written (written_at written (key_of t s.row)) refl (re.row s.row)
    where
      by-written : (o : Option (Option (List ℕ))) → written_at written (key_of t s.row) ≡ o → RowOver t stood (key_of t s.row) (stored_at t rows (key_of t s.row)) o → written_at written (key_of t s.row) ≡ None
      by-written None is over = is
      by-written (Some None) is over = absurd (none-some s (sym (stored-final s m) ∙ over))
      by-written (Some (Some text)) is over =
          let same : s ≡ record { row = over.0; tx = 0 } = some-is s (record { row = over.0; tx = 0 }) (sym (stored-final s m) ∙ over.3) in
          absurd (let none : s.tx ≡ 0 = ap (λ (r : StoredRow). r.tx) same in let no : ⊥ = omega (arith, some, none) in no)

  row-after : (s : StoredRow) → IsAmong rows s → s.tx ≡ 0 → IsRowOf after t s.row
  row-after s m new = (
    table-still t own_table,
    All-among (IsRowOfKinds t) rows s (All-from_recursion (IsRowOfKinds t) rows re.kinds) m,
    live-new history tx ws once writes (key_of t s.row) (row_text s.row) (at-row t s.row ∙ new-written s m new),
  )

  -- a row that stands at a guarded key stood there
  row-front : (row : List Value) → IsRowOf history t row → written_at written (key_of t row) ≢ None → IsRowOf front t row
  row-front row is some = (of, is.1, (is.2.0, guarded-same history n (key_of t row) (guards (key_of t row) refl some) ∙ is.2.1, is.2.2, is.2.3))

  -- ---- texts

  -- where a row is written all its entries are
  clash : (i : SqlIndex) (row : List Value) (value : Option (List ℕ)) → IsSqlIndexOf history t i → IsRowOf history t row → written_at written (key_of t row) ≡ Some value → written_at written (key_in t i row) ≡ None → ⊥
  clash i row value index is some none =
      let m : IsAmong indexes i = index-in i index in
      let there = row-stood front t stood of all row (row-front row is (λ e. none-some value (sym some ∙ e))) in
      let s : StoredRow = there.0 in
      let keys : key_in t i s.row ≡ key_in t i row = ap (key_in t i) there.2 in
      let held = find-other (λ (r : StoredRow). bytes_eq (key_in t i r.row) (key_in t i row)) stood s there.1 ((bytes_eq-Decides (key_in t i s.row) (key_in t i row)).1 keys) in
      let r : StoredRow = held.0 in
      let over : holder t i (key_in t i row) rows ≡ holder t i (key_in t i row) stood = subst (HeldOver t i stood (key_in t i row) (holder t i (key_in t i row) rows)) none (re.entry i row m) in
      let final = find-some (λ (q : StoredRow). bytes_eq (key_in t i q.row) (key_in t i row)) rows r (over ∙ held.1) in
      let unwritten : written_at written (key_of t r.row) ≡ None = old-unwritten r final.0 (stood-number front t stood of all r held.2) in
      let primary : key_of t r.row ≡ key_of t s.row =
      row-alone front t i r.row s.row before (index-of front t indexes i of are m) (stood-row front t stood of all r held.2) (stood-row front t stood of all s there.1)
      ((bytes_eq-Decides (key_in t i r.row) (key_in t i row)).0 held.3 ∙ sym keys) in
      none-some value (sym some ∙ ap (written_at written) (sym (primary ∙ ap (key_of t) there.2)) ∙ unwritten)

  text-old : (key value : List ℕ) → written_at ws key ≡ None → IsText history key value → IsText after key value
  text-old key value none (inl text) = inl text
  text-old key value none (inr (inl text)) = inr (inl text)
  text-old key value none (inr (inr (inl text))) = inr (inr (inl (text.0, text.1, table-still text.0 text.2, text.3, text.4, text.5)))
  text-old key value none (inr (inr (inr (inl text)))) = inr (inr (inr (inl (text.0, table-still text.0 text.1, text.2, text.3))))
  text-old key value none (inr (inr (inr (inr (inl text))))) = inr (inr (inr (inr (inl (text.0, text.1, table-still text.0 text.2, text.3, text.4, text.5)))))
  text-old key value none (inr (inr (inr (inr (inr text))))) =
      inr (inr (inr (inr (inr (text.0, text.1, text.2, index-still text.0 text.1 text.3, row-still text.0 text.2 (by-written (written_at written (key_of text.0 text.2)) refl) text.4, text.5, text.6)))))
    where
      by-written : (o : Option (Option (List ℕ))) → written_at written (key_of text.0 text.2) ≡ o → written_at written (key_of text.0 text.2) ≡ None
      by-written None is = is
      by-written (Some given) is =
          let same : text.0 ≡ t = own-row text.0 text.2 given text.3.0 is in
          let empty : written_at written (key_in text.0 text.1 text.2) ≡ None = sym (at-entry text.0 text.1 text.2) ∙ ap (written_at ws) (sym text.5) ∙ none in
          absurd (clash text.1 text.2 given (subst (λ (u : Table). IsSqlIndexOf history u text.1) same text.3) (subst (λ (u : Table). IsRowOf history u text.2) same text.4)
          (subst (λ (u : Table). written_at written (key_of u text.2) ≡ Some given) same is) (subst (λ (u : Table). written_at written (key_in u text.1 text.2) ≡ None) same empty))

  -- what is written is a row's text, or an entry's
  text-new : (key value text : List ℕ) → written_at written key ≡ Some (Some text) → text ≡ value → IsKeyOf t indexes key → IsText after key value
  text-new key value text e same (inl is) =
      let over = subst (RowOver t stood (key_of t is.0) (stored_at t rows (key_of t is.0))) (ap (written_at written) (sym is.2) ∙ e) (re.row is.0) in
      let found = find-some (λ (r : StoredRow). bytes_eq (key_of t r.row) (key_of t is.0)) rows (record { row = over.0; tx = 0 }) over.3 in
      inr (inr (inr (inr (inl (t, over.0, table-still t own_table, over.1, is.2 ∙ sym ((bytes_eq-Decides (key_of t over.0) (key_of t is.0)).0 found.1), sym same ∙ over.2)))))
  text-new key value text e same (inr is) =
      let over = subst (HeldOver t is.0 stood (key_in t is.0 is.1) (holder t is.0 (key_in t is.0 is.1) rows)) (ap (written_at written) (sym is.4) ∙ e) (re.entry is.0 is.1 is.2) in
      let s : StoredRow = over.0 in
      let found = find-some (λ (r : StoredRow). bytes_eq (key_in t is.0 r.row) (key_in t is.0 is.1)) rows s over.1 in
      inr (inr (inr (inr (inr (
        t,
        is.0,
        s.row,
        index-still t is.0 (in-index is.0 is.2),
        row-after s found.0 over.2,
        is.4 ∙ sym ((bytes_eq-Decides (key_in t is.0 s.row) (key_in t is.0 is.1)).0 found.1),
        ap (λ (x : List ℕ). Some x) (sym same ∙ over.3) ∙ sym (value-told t is.0 s.row),
      )))))

  texts-after : (rest value : List ℕ) → IsLiveAs after (0 ∷ rest) value → IsText after (0 ∷ rest) value
  texts-after rest value live = elim (cases_Bool (bytes_eq (0 ∷ rest) (mark_key t.tid))) [
    | inl marks ↦ (
        let same : 0 ∷ rest ≡ mark_key t.tid = (bytes_eq-Decides (0 ∷ rest) (mark_key t.tid)).0 marks in
        let there : written_at ws (0 ∷ rest) ≡ Some (Some []) =
        put-at (record { key = mark_key t.tid; value = Some [] }) written (0 ∷ rest) ∙ ap (λ (b : Bool). either b (Some []) (written_at written (0 ∷ rest))) marks in
        let text : [] ≡ value = live-at (0 ∷ rest) value (Some (Some [])) there live in
        inr (inr (inr (inl (t, table-still t own_table, same, sym text)))))
    | inr other ↦ by-written (written_at written (0 ∷ rest)) refl
        (at-other (0 ∷ rest) (λ same. true≢false (sym ((bytes_eq-Decides (0 ∷ rest) (mark_key t.tid)).1 same) ∙ other)))
  ]
    where
      by-written : (o : Option (Option (List ℕ))) → written_at written (0 ∷ rest) ≡ o → written_at ws (0 ∷ rest) ≡ written_at written (0 ∷ rest) → IsText after (0 ∷ rest) value
      by-written None is same = text-old (0 ∷ rest) value (same ∙ is) (sound.texts rest value (live-at (0 ∷ rest) value None (same ∙ is) live))
      by-written (Some None) is same = absurd (live-at (0 ∷ rest) value (Some None) (same ∙ is) live)
      by-written (Some (Some text)) is same = text-new (0 ∷ rest) value text is (live-at (0 ∷ rest) value (Some (Some text)) (same ∙ is) live) (key-form (0 ∷ rest) (Some text) is)

  -- ---- marks

  mark-there : IsAmong (versions_of after (mark_key t.tid)) (version_by (length history + 1) (mark_key t.tid) (Some []))
  mark-there =
      let key : List ℕ = mark_key t.tid in
      let there : written_at ws key ≡ Some (Some []) =
      put-at (record { key = key; value = Some [] }) written key ∙ ap (λ (b : Bool). either b (Some []) (written_at written key)) ((bytes_eq-Decides key key).1 refl) in
      last-among (versions_of after key) (version_by (length history + 1) key (Some []))
      (last-pushed history tx ws once writes key ∙ ap (last_behind (length history + 1) key (last_version history key)) there)

  marks-after : (u : Table) (row : List Value) → IsRowOf after u row → (v : Version) × IsAmong (versions_of after (mark_key u.tid)) v × (v.tx ≡ last_number after (key_of u row))
  marks-after u row is = by-written (written_at written (key_of u row)) refl
    where
      by-written : (o : Option (Option (List ℕ))) → written_at written (key_of u row) ≡ o → (v : Version) × IsAmong (versions_of after (mark_key u.tid)) v × (v.tx ≡ last_number after (key_of u row))
      by-written None none =
          let found = sound.marks u row (row-back u row none is) in
          (found.0, push-grows history tx (mark_key u.tid) found.0 found.1, found.2 ∙ ap version_number (sym (last-same (key_of u row) (at-row u row ∙ none))))
      by-written (Some value) some =
          let same : u ≡ t = own-row u row value (table-back u is.0) some in
          let last : last_version after (key_of u row) ≡ Some (version_by (length history + 1) (key_of u row) value) =
          last-pushed history tx ws once writes (key_of u row) ∙ ap (last_behind (length history + 1) (key_of u row) (last_version history (key_of u row))) (at-row u row ∙ some) in (
            version_by (length history + 1) (mark_key t.tid) (Some []),
            subst (λ (w : Table). IsAmong (versions_of after (mark_key w.tid)) (version_by (length history + 1) (mark_key t.tid) (Some []))) (sym same) mark-there,
            sym (ap version_number last ∙ number-by (length history + 1) (key_of u row) value),
          )

  -- ---- entries

  -- a row that isn't written keeps its entries
  no-write : (i : SqlIndex) (row : List Value) → IsSqlIndexOf history t i → IsRowOf history t row → written_at written (key_of t row) ≡ None → written_at written (key_in t i row) ≡ None
  no-write i row index is none = by-written (written_at written (key_in t i row)) refl
    where
      m : IsAmong indexes i
      m = index-in i index

      own_entry : i.unique ≡ true → written_at written (key_in t i row) ≢ None → (s : StoredRow) × IsAmong rows s × (1 ≤ s.tx) × (holder t i (key_in t i row) rows ≡ Some s)
      own_entry unique some =
          let key : List ℕ = key_in t i row in
          let stands = sound.entries t i row (value_in t i row) index is (value-told t i row) in
          let v : Version = stands.0 in
          let last : last_version front key ≡ Some v = guarded-same history n key (guards key (unique-guarded t row i unique) some) ∙ stands.1 in
          let own : v.key ≡ key = last-of-key front key v last in
          let parts = entry-parts t row i in
          let entry = entry-live front t i v (row_text (columns_of row i.columns) ++ parts.0) before (index-of front t indexes i of are m) (own ∙ parts.1) (ap (last_version front) own ∙ last) stands.2 in
          let text : row_text (columns_of entry.0 t.key) ≡ row_text (columns_of row t.key) =
          sym (unique-text t entry.0 i unique) ∙ sym (some-is v.value (value_in t i entry.0) (entry.1.value_is ∙ value-told t i entry.0)) ∙ stands.3 ∙ unique-text t row i unique in
          let there = row-stood front t stood of all entry.0 entry.1.row_is in
          let s : StoredRow = there.0 in
          let primary : key_of t s.row ≡ key_of t row = ap (key_of t) there.2 ∙ ap (λ (x : List ℕ). rows_prefix t.tid ++ x) text in
          let over : stored_at t rows (key_of t s.row) ≡ stored_at t stood (key_of t s.row) =
          subst (RowOver t stood (key_of t s.row) (stored_at t rows (key_of t s.row))) (ap (written_at written) primary ∙ none) (re.row s.row) in
          let first = rewritten-first front t indexes stood before of are all in
          let found : stored_at t stood (key_of t s.row) ≡ Some s =
          find-alone (λ (r : StoredRow). bytes_eq (key_of t r.row) (key_of t s.row)) stood s there.1 ((bytes_eq-Decides (key_of t s.row) (key_of t s.row)).1 refl)
          (λ r q passes. apart-one (KeysApart t) (λ a b h e. h (sym e)) stood r s (apart-from (KeysApart t) stood first.apart) q there.1 (λ h. h ((bytes_eq-Decides (key_of t r.row) (key_of t s.row)).0 passes))) in
          let final = find-some (λ (r : StoredRow). bytes_eq (key_of t r.row) (key_of t s.row)) rows s (over ∙ found) in
          let keys : key_in t i s.row ≡ key = ap (key_in t i) there.2 ∙ sym entry.1.key_is ∙ own in
          (s, final.0, stood-number front t stood of all s there.1, ap (λ (k : List ℕ). holder t i k rows) (sym keys) ∙ held-final i s m final.0)

      by-held : (o : Option (List ℕ)) (s : StoredRow) → 1 ≤ s.tx → holder t i (key_in t i row) rows ≡ Some s → HeldOver t i stood (key_in t i row) (holder t i (key_in t i row) rows) (Some o) → ⊥
      by-held None s some held over = none-some s (sym held ∙ over)
      by-held (Some text) s some held over = (let same : s ≡ over.0 = some-is s over.0 (sym held ∙ over.1) in let none : s.tx ≡ 0 = ap (λ (r : StoredRow). r.tx) same ∙ over.2 in omega (arith, some, none))

      by-written : (o : Option (Option (List ℕ))) → written_at written (key_in t i row) ≡ o → written_at written (key_in t i row) ≡ None
      by-written None e = e
      by-written (Some value) e = absurd (elim (cases_Bool i.unique) [
        | inl unique ↦ (
            let held = own_entry unique (λ f. none-some value (sym e ∙ f)) in
            by-held value held.0 held.2 held.3 (subst (HeldOver t i stood (key_in t i row) (holder t i (key_in t i row) rows)) e (re.entry i row m)))
        | inr plain ↦ re.own i row m plain is.1 (λ f. none-some value (sym e ∙ f)) none
      ])

  -- nor those of another table
  still-entry : (u : Table) (i : SqlIndex) (row : List Value) → IsSqlIndexOf history u i → IsRowOf history u row → written_at written (key_of u row) ≡ None → written_at written (key_in u i row) ≡ None
  still-entry u i row index is none = by-written (written_at written (key_in u i row)) refl
    where
      by-form : IsKeyOf t indexes (key_in u i row) → written_at written (key_in u i row) ≡ None
      by-form (inl form) = absurd (entry-is 4 (key_of t form.0) u row i (omega arith) refl (sym form.2))
      by-form (inr form) =
          let numbers = same-numbers u t i form.0 row form.1 index.0.0 of.0 index.1 (in-index form.0 form.2).1 form.4 in
          let same : u ≡ t = sound.once u t index.0 own_table numbers.0 in
          subst (λ (w : Table). written_at written (key_in w i row) ≡ None) (sym same)
          (no-write i row (subst (λ (w : Table). IsSqlIndexOf history w i) same index) (subst (λ (w : Table). IsRowOf history w row) same is)
          (subst (λ (w : Table). written_at written (key_of w row) ≡ None) same none))

      by-written : (o : Option (Option (List ℕ))) → written_at written (key_in u i row) ≡ o → written_at written (key_in u i row) ≡ None
      by-written None e = e
      by-written (Some value) e = by-form (key-form (key_in u i row) value e)

  -- one that is written has them all
  new-entry : (i : SqlIndex) (row : List Value) (text value : List ℕ) → IsSqlIndexOf history t i → IsRowOf after t row → written_at written (key_of t row) ≡ Some (Some text)
      → (entry_written t row i).value ≡ Some value → IsLiveAs after (key_in t i row) value
  new-entry i row text value index is there given =
      let m : IsAmong indexes i = index-in i index in
      let over = subst (RowOver t stood (key_of t row) (stored_at t rows (key_of t row))) there (re.row row) in
      let said : text ≡ row_text row = live-at (key_of t row) (row_text row) (Some (Some text)) (at-row t row ∙ there) is.2 in
      let own : over.0 ≡ row = text-same t over.0 row over.1 is.1 (sym over.2 ∙ said) in
      let s : StoredRow = record { row = over.0; tx = 0 } in
      let final = find-some (λ (r : StoredRow). bytes_eq (key_of t r.row) (key_of t row)) rows s over.3 in
      let held : holder t i (key_in t i row) rows ≡ Some s = ap (λ (r : List Value). holder t i (key_in t i r) rows) (sym own) ∙ held-final i s m final.0 in
      by-written s (written_at written (key_in t i row)) refl (ap (λ (r : List Value). value_in t i r) own ∙ some-is (value_in t i row) value (sym (value-told t i row) ∙ given)) refl held (re.entry i row m)
    where
      by-written : (s : StoredRow) (o : Option (Option (List ℕ))) → written_at written (key_in t i row) ≡ o → value_in t i s.row ≡ value → s.tx ≡ 0 → holder t i (key_in t i row) rows ≡ Some s
          → HeldOver t i stood (key_in t i row) (holder t i (key_in t i row) rows) o → IsLiveAs after (key_in t i row) value
      by-written s None e same new held o =
          let found = find-some (λ (r : StoredRow). bytes_eq (key_in t i r.row) (key_in t i row)) stood s (sym o ∙ held) in
          let some : 1 ≤ s.tx = stood-number front t stood of all s found.0 in
          absurd (let no : ⊥ = omega (arith, some, new) in no)
      by-written s (Some None) e same new held o = absurd (none-some s (sym held ∙ o))
      by-written s (Some (Some there)) e same new held o =
          let one : s ≡ o.0 = some-is s o.0 (sym held ∙ o.1) in
          let is : there ≡ value = o.3 ∙ ap (λ (r : StoredRow). value_in t i r.row) (sym one) ∙ same in
          subst (IsLiveAs after (key_in t i row)) is (live-new history tx ws once writes (key_in t i row) there (at-entry t i row ∙ e))

  entries-after : (u : Table) (i : SqlIndex) (row : List Value) (value : List ℕ) → IsSqlIndexOf after u i → IsRowOf after u row → (entry_written u row i).value ≡ Some value → IsLiveAs after (key_in u i row) value
  entries-after u i row value index is given = by-written (written_at written (key_of u row)) refl
    where
      back : IsSqlIndexOf history u i
      back = index-back u i index

      by-written : (o : Option (Option (List ℕ))) → written_at written (key_of u row) ≡ o → IsLiveAs after (key_in u i row) value
      by-written None none =
          let old : IsRowOf history u row = row-back u row none is in
          live-still history tx ws once writes (key_in u i row) value (at-entry u i row ∙ still-entry u i row back old none) (sound.entries u i row value back old given)
      by-written (Some None) gone = absurd (live-at (key_of u row) (row_text row) (Some None) (at-row u row ∙ gone) is.2)
      by-written (Some (Some text)) there =
          let same : u ≡ t = own-row u row (Some text) back.0 there in
          subst (λ (w : Table). IsLiveAs after (key_in w i row) value) (sym same)
          (new-entry i row text value (subst (λ (w : Table). IsSqlIndexOf history w i) same back) (subst (λ (w : Table). IsRowOf after w row) same is)
          (subst (λ (w : Table). written_at written (key_of w row) ≡ Some (Some text)) same there) (subst (λ (w : Table). (entry_written w row i).value ≡ Some value) same given))

  -- ---- all together

  counted-after : CountIs history sound.count → CountIs after sound.count
  counted-after (inl none) = inl (ap is_written (last-same tables_key (none-low tables_key 0 refl (omega arith))) ∙ none.0, none.1)
  counted-after (inr some) = inr (some.0, live-still history tx ws once writes tables_key (field4 sound.count) (none-low tables_key 0 refl (omega arith)) some.1)

  settled-after : (k : ℕ) (key : List ℕ) (v : Version) → (begins_with table_prefix key || begins_with indexes_prefix key) ≡ true → last_version (take k after) key ≡ Some v → v.deleted ≡ false
      → last_version after key ≡ Some v
  settled-after k key v begins last alive = elim (cases_lt (length history) k) [
    | inl beyond ↦ (
        let long : length after ≤ k = (let size : length after ≡ length history + 1 = length-append history (tx ∷ []) in omega (arith, size, beyond)) in
        sym (ap (λ (g : List Transaction). last_version g key) (take_all k after long)) ∙ last)
    | inr inside ↦ (
        let old : last_version history key ≡ Some v =
        sound.settled k key v begins (ap (λ (g : List Transaction). last_version g key) (sym (taken-front k history (tx ∷ []) inside)) ∙ last) alive in
        let second = second-of key begins in
        last-same key (none-low key second.0 second.2 second.1) ∙ old)
  ]

  pub rows-sound : IsSqlSound after
  rows-sound = record {
    texts = texts-after;
    count = sound.count;
    counted = counted-after sound.counted;
    numbered = λ u is. sound.numbered u (table-back u is);
    filled = λ tid some few. (let found = sound.filled tid some few in (found.0, table-still found.0 found.1, found.2));
    once = λ u v p q e. sound.once u v (table-back u p) (table-back v q) e;
    gapless = λ u i iid is some few. (let found = sound.gapless u i iid (index-back u i is) some few in (found.0, index-still u found.0 found.1, found.2));
    marks = marks-after;
    entries = entries-after;
    settled = settled-after;
  }

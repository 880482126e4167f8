-- CREATE INDEX keeps the keys SQL's.
use Rattle.std.proofs.Common.{◌≡◌, ◌≢◌, ◌≤◌, ◌<◌, ◌+◌, ◌-◌, ◌^◌, ◌⊎◌, ◌||◌, inl, inr, ℕ, Bool, true, false, cond, List, [], ◌∷◌, ◌++◌, length, take, drop, get_or, map, bytes_eq, Option, Some, None, refl, sym, ap, ◌∙◌, subst, length-append, arith}
use Rattle.std.proofs.lemmas.Bool.{true≢false, cases_Bool, cases_lt}
use Rattle.std.proofs.lemmas.List.{take_all}
use Rattle.std.proofs.lemmas.Slice.Eq.{bytes_eq-Decides}
use Rattle.std.specs.Option.{option_map}
use Rattle.im_octet.specs.Fields.{field4}
use Rattle.im_octet.proofs.Common.{bytes-other}
use Rattle.im_octet.proofs.FieldLemmas.{same-field4}
use Rattle.im_model.specs.declared.transactions.Transaction.{Transaction}
use Rattle.im_versions.specs.Versions.{last_version, last_number, version_number, is_written, begins_with}
use Rattle.im_versions.specs.declared.versions.Version.{Version}
use Rattle.im_draft.specs.Drafts.{entry_of}
use Rattle.im_sqltype.specs.Texts.{row_text}
use Rattle.im_sqltype.specs.declared.values.Value.{Value}
use Rattle.im_sqlmodel.specs.Creations.{draft_written, index_written}
use Rattle.im_sqlmodel.specs.Keys.{tables_key, table_prefix, table_key, indexes_prefix, index_key, mark_key}
use Rattle.im_sqlmodel.specs.Kept.{IsTableOf, IsSqlIndexOf, IsRowOf, IsText, IsSqlSound, IsSqlKept}
use Rattle.im_sqlmodel.specs.Rows.{IsLiveAs, CountIs, IndexesAre, RowsAre, key_of}
use Rattle.im_sqlmodel.specs.Tables.{IsTableIndex, table_text, index_text}
use Rattle.im_sqlmodel.specs.Writes.{entry_written}
use Rattle.im_sqlmodel.specs.declared.tables.SqlIndex.{SqlIndex}
use Rattle.im_sqlmodel.specs.declared.tables.Table.{Table}
use Rattle.im_sqlmodel.specs.declared.written.Written.{Written}
use Rattle.im_sqlmodel.proofs.KeptLemmas.{kept-sound}
use Rattle.im_catalog.proofs.FoundLemmas.{entry-is}
use Rattle.im_catalog.proofs.OneLemmas.{one-index-version}
use Rattle.im_catalog.proofs.TableLemmas.{tid-cut}
use Rattle.im_sql.specs.Writing.{written_at}
use Rattle.im_sqlmodel.proofs.CarriedLemmas.{taken-front, push-grows}
use Rattle.im_sql.proofs.WorkLemmas.{index-of}
use Rattle.im_sqlsound.proofs.BehindLemmas.{Once, last_behind, last-pushed, live-still, live-new, live-by, IsLiveBy}
use Rattle.im_sqlsound.proofs.GuardLemmas.{guarded-same}
use Rattle.im_sqlsound.proofs.StoodLemmas.{among-low, row-stood, here, iid-at, none-behind}

pub indexed-once : (t : Table) (i : SqlIndex) → Once (index_written t i)
indexed-once t i = (tt, tt)

abbrev by_test : SqlIndex → List ℕ → Bool → Option (Option (List ℕ))
by_test i key b = option_map (λ (w : Written). w.value) (cond b (Some (record { key = key; value = Some (index_text i) })) None)

other-key : (t : Table) (i : SqlIndex) (key : List ℕ) → key ≢ index_key t.tid i.iid → written_at (index_written t i) key ≡ None
other-key t i key apart = ap (by_test i (index_key t.tid i.iid)) (bytes-other key (index_key t.tid i.iid) apart)

own-key : (t : Table) (i : SqlIndex) → written_at (index_written t i) (index_key t.tid i.iid) ≡ Some (Some (index_text i))
own-key t i = ap (by_test i (index_key t.tid i.iid)) ((bytes_eq-Decides (index_key t.tid i.iid) (index_key t.tid i.iid)).1 refl)

-- a key of another kind isn't written
kind-key : (t : Table) (i : SqlIndex) (key : List ℕ) (m : ℕ) → get_or key 1 0 ≡ m → (m ≡ 2 → ⊥) → written_at (index_written t i) key ≡ None
kind-key t i key m second other = other-key t i key (λ same. other (sym second ∙ ap (λ (k : List ℕ). get_or k 1 0) same))

module _ (history : List Transaction) (n : ℕ) (kept : IsSqlKept history) (within : n ≤ length history) (tx : Transaction) (t : Table) (indexes : List SqlIndex) (i : SqlIndex)
    (of : IsTableOf (take n history) t) (are : IndexesAre (take n history) t indexes) (none : RowsAre (take n history) t []) (is : IsTableIndex t i) (number : i.iid ≡ length indexes + 1)
    (next : last_number history (index_key t.tid i.iid) ≤ n) (unmarked : last_number history (mark_key t.tid) ≤ n)
    (writes : tx.entries ≡ map (λ (w : Written). entry_of (draft_written w)) (index_written t i)) where
  abbrev front : List Transaction
  front = take n history

  abbrev after : List Transaction
  after = history ++ tx ∷ []

  abbrev ws : List Written
  ws = index_written t i

  abbrev own : List ℕ
  own = index_key t.tid i.iid

  once : Once ws
  once = indexed-once t i

  sound : IsSqlSound history
  sound = kept-sound history kept

  before : IsSqlSound front
  before = kept n within

  table-there : (u : Table) → IsTableOf front u → IsTableOf history u
  table-there u of = (of.0, (of.1.0, sound.settled n (table_key u.name) of.1.0 refl of.1.1 of.1.2, of.1.2, of.1.3))

  own_table : IsTableOf history t
  own_table = table-there t of

  there_of : IsTableOf front t
  there_of = of

  -- ---- nothing stood there

  -- an index of this key is this one's number
  key-cut : (u : Table) (j : SqlIndex) → u.tid < 2 ^ 32 → j.iid < 2 ^ 32 → index_key u.tid j.iid ≡ own → (u.tid ≡ t.tid) × (j.iid ≡ i.iid)
  key-cut u j p q same =
      let cut = tid-cut u.tid t.tid (field4 j.iid) (field4 i.iid) p of.0.tid.1 (ap (λ (k : List ℕ). drop 2 k) same) in
      (cut.0, same-field4 j.iid i.iid q is.iid.1 cut.1)

  no-text : (value : List ℕ) → IsLiveAs front own value → IsText front own value → ⊥
  no-text value live (inl text) = (let two_zero : 2 ≡ 0 = ap (λ (k : List ℕ). get_or k 1 0) text.2 in omega (arith, two_zero))
  no-text value live (inr (inl text)) = (let two_one : 2 ≡ 1 = ap (λ (k : List ℕ). get_or k 1 0) text.2 in omega (arith, two_one))
  no-text value live (inr (inr (inl text))) =
      let j : SqlIndex = text.1 in
      let cut = key-cut text.0 j text.2.0.tid.1 text.3.iid.1 (sym text.4) in
      let same : text.0 ≡ t = before.once text.0 t text.2 of cut.0 in
      let formed : IsTableIndex t j = subst (λ (u : Table). IsTableIndex u j) same text.3 in
      let key : own ≡ index_key t.tid j.iid = ap (index_key t.tid) (sym cut.1) in
      none-behind front t indexes before of are j (of, formed, subst (λ (k : List ℕ). IsLiveAs front k (index_text j)) key (live.0, live.1, live.2, live.3 ∙ text.5)) (cut.1 ∙ number)
  no-text value live (inr (inr (inr (inl text)))) = (let two_three : 2 ≡ 3 = ap (λ (k : List ℕ). get_or k 1 0) text.2 in omega (arith, two_three))
  no-text value live (inr (inr (inr (inr (inl text))))) = (let two_four : 2 ≡ 4 = ap (λ (k : List ℕ). get_or k 1 0) text.4 in omega (arith, two_four))
  no-text value live (inr (inr (inr (inr (inr text))))) = entry-is 2 own text.0 text.2 text.1 (omega arith) refl text.5

  absent : (value : List ℕ) → IsLiveAs history own value → ⊥
  absent value live =
      let there : IsLiveAs front own value = (live.0, guarded-same history n own next ∙ live.1, live.2, live.3) in
      no-text value there (before.texts (drop 1 own) value there)

  -- the table has no row
  no-row : (row : List Value) → IsRowOf history t row → ⊥
  no-row row of_row =
      let mark = sound.marks t row of_row in
      let low : (mark.0).tx ≤ last_number history (mark_key t.tid) = among-low history (mark_key t.tid) mark.0 mark.1 in
      let same : (mark.0).tx ≡ last_number history (key_of t row) = mark.2 in
      let few : last_number history (key_of t row) ≤ n = omega (arith, low, same, unmarked) in
      let found = row-stood front t [] of none row (of, of_row.1, (of_row.2.0, guarded-same history n (key_of t row) few ∙ of_row.2.1, of_row.2.2, of_row.2.3)) in
      (let no : found.1.0 < 0 = found.1.1.0 in omega (arith, no))

  -- ---- what is live

  abbrev By : List ℕ → List ℕ → Option (Option (List ℕ)) → Type 0
  By key value there = IsLiveBy history tx ws once writes key value there

  live-at : (key value : List ℕ) (there : Option (Option (List ℕ))) → written_at ws key ≡ there → IsLiveAs after key value → By key value there
  live-at key value there e live = subst (By key value) e (live-by history tx ws once writes key value live)

  kind-still : (key value : List ℕ) (m : ℕ) → get_or key 1 0 ≡ m → (m ≡ 2 → ⊥) → IsLiveAs history key value → IsLiveAs after key value
  kind-still key value m second other live = live-still history tx ws once writes key value (kind-key t i key m second other) live

  kind-back : (key value : List ℕ) (m : ℕ) → get_or key 1 0 ≡ m → (m ≡ 2 → ⊥) → IsLiveAs after key value → IsLiveAs history key value
  kind-back key value m second other live = live-at key value None (kind-key t i key m second other) live

  last-same : (key : List ℕ) → written_at ws key ≡ None → last_version after key ≡ last_version history key
  last-same key none = last-pushed history tx ws once writes key ∙ ap (last_behind (length history + 1) key (last_version history key)) none

  table-still : (u : Table) → IsTableOf history u → IsTableOf after u
  table-still u of = (of.0, kind-still (table_key u.name) (table_text u) 1 refl (λ e. (let no : ⊥ = omega (arith, e) in no)) of.1)

  table-back : (u : Table) → IsTableOf after u → IsTableOf history u
  table-back u of = (of.0, kind-back (table_key u.name) (table_text u) 1 refl (λ e. (let no : ⊥ = omega (arith, e) in no)) of.1)

  row-still : (u : Table) (row : List Value) → IsRowOf history u row → IsRowOf after u row
  row-still u row of = (table-still u of.0, of.1, kind-still (key_of u row) (row_text row) 4 refl (λ e. (let no : ⊥ = omega (arith, e) in no)) of.2)

  row-back : (u : Table) (row : List Value) → IsRowOf after u row → IsRowOf history u row
  row-back u row of = (table-back u of.0, of.1, kind-back (key_of u row) (row_text row) 4 refl (λ e. (let no : ⊥ = omega (arith, e) in no)) of.2)

  index-still : (u : Table) (j : SqlIndex) → IsSqlIndexOf history u j → IsSqlIndexOf after u j
  index-still u j of = (
    table-still u of.0,
    of.1,
    live-still history tx ws once writes (index_key u.tid j.iid) (index_text j)
        (other-key t i (index_key u.tid j.iid) (λ same. absent (index_text j) (subst (λ (k : List ℕ). IsLiveAs history k (index_text j)) same of.2))) of.2,
  )

  index-new : IsSqlIndexOf after t i
  index-new = (table-still t own_table, is, live-new history tx ws once writes own (index_text i) (own-key t i))

  index-by : (u : Table) (j : SqlIndex) → IsSqlIndexOf after u j → IsSqlIndexOf history u j ⊎ ((u ≡ t) × (j ≡ i))
  index-by u j of = elim (cases_Bool (bytes_eq (index_key u.tid j.iid) own)) [
    | inl same ↦ (
        let key : index_key u.tid j.iid ≡ own = (bytes_eq-Decides (index_key u.tid j.iid) own).0 same in
        let back : IsTableOf history u = table-back u of.0 in
        let cut = key-cut u j back.0.tid.1 of.1.iid.1 key in
        let table : u ≡ t = sound.once u t back own_table cut.0 in
        let text : index_text i ≡ index_text j = live-at own (index_text j) (Some (Some (index_text i))) (own-key t i) (subst (λ (k : List ℕ). IsLiveAs after k (index_text j)) key of.2) in
        let v : Version = record { tx = 0; deleted = false; key = own; value = index_text i } in
        inr (table, one-index-version t own_table.0 v j i (subst (λ (w : Table). IsTableIndex w j) table of.1, ap (index_key t.tid) (sym cut.1), text) (is, refl, refl)))
    | inr other ↦ (
        let unwritten : written_at ws (index_key u.tid j.iid) ≡ None = other-key t i (index_key u.tid j.iid) (λ same. true≢false (sym ((bytes_eq-Decides (index_key u.tid j.iid) own).1 same) ∙ other)) in
        inl (table-back u of.0, of.1, live-at (index_key u.tid j.iid) (index_text j) None unwritten of.2))
  ]

  -- ---- texts

  text-old : (key value : List ℕ) → IsText history key value → IsText after key value
  text-old key value (inl text) = inl text
  text-old key value (inr (inl text)) = inr (inl text)
  text-old key value (inr (inr (inl text))) = inr (inr (inl (text.0, text.1, table-still text.0 text.2, text.3, text.4, text.5)))
  text-old key value (inr (inr (inr (inl text)))) = inr (inr (inr (inl (text.0, table-still text.0 text.1, text.2, text.3))))
  text-old key value (inr (inr (inr (inr (inl text))))) = inr (inr (inr (inr (inl (text.0, text.1, table-still text.0 text.2, text.3, text.4, text.5)))))
  text-old key value (inr (inr (inr (inr (inr text))))) =
      inr (inr (inr (inr (inr (text.0, text.1, text.2, index-still text.0 text.1 text.3, row-still text.0 text.2 text.4, text.5, text.6)))))

  texts-after : (rest value : List ℕ) → IsLiveAs after (0 ∷ rest) value → IsText after (0 ∷ rest) value
  texts-after rest value live = elim (cases_Bool (bytes_eq (0 ∷ rest) own)) [
    | inl same ↦ (
        let key : 0 ∷ rest ≡ own = (bytes_eq-Decides (0 ∷ rest) own).0 same in
        let text : index_text i ≡ value = live-at own value (Some (Some (index_text i))) (own-key t i) (subst (λ (k : List ℕ). IsLiveAs after k value) key live) in
        inr (inr (inl (t, i, table-still t own_table, is, key, sym text))))
    | inr other ↦ (
        let unwritten : written_at ws (0 ∷ rest) ≡ None = other-key t i (0 ∷ rest) (λ same. true≢false (sym ((bytes_eq-Decides (0 ∷ rest) own).1 same) ∙ other)) in
        text-old (0 ∷ rest) value (sound.texts rest value (live-at (0 ∷ rest) value None unwritten live)))
  ]

  -- ---- all together

  gapless-after : (u : Table) (j : SqlIndex) (iid : ℕ) → IsSqlIndexOf after u j → 1 ≤ iid → iid ≤ j.iid → (k : SqlIndex) × IsSqlIndexOf after u k × (k.iid ≡ iid)
  gapless-after u j iid of some few = elim (index-by u j of) [
    | inl old ↦ (let found = sound.gapless u j iid old some few in (found.0, index-still u found.0 found.1, found.2))
    | inr new ↦ subst (λ (w : Table). (k : SqlIndex) × IsSqlIndexOf after w k × (k.iid ≡ iid)) (sym new.0) (of-own (subst (λ (k : SqlIndex). iid ≤ k.iid) new.1 few))
  ]
    where
      of-own : iid ≤ i.iid → (k : SqlIndex) × IsSqlIndexOf after t k × (k.iid ≡ iid)
      of-own low = elim (cases_lt iid i.iid) [
        | inl less ↦ (
            let place : ℕ = iid - 1 in
            let l : place < length indexes = omega (arith, less, number, some) in
            let m = here front t indexes before there_of are place i l in
            let k : SqlIndex = get_or indexes place i in
            let found = index-of front t indexes k there_of are m in
            let there : IsSqlIndexOf history t k = (own_table, found.1, (found.2.0, sound.settled n (index_key t.tid k.iid) found.2.0 refl found.2.1 found.2.2, found.2.2, found.2.3)) in
            let iid_is : k.iid ≡ place + 1 = iid-at front t indexes before there_of are place i l in
            (k, index-still t k there, (let same : k.iid ≡ iid = omega (arith, iid_is, some) in same)))
        | inr most ↦ (i, index-new, (let same : i.iid ≡ iid = omega (arith, most, low) in same))
      ]

  counted-after : CountIs history sound.count → CountIs after sound.count
  counted-after (inl count) = inl (ap is_written (last-same tables_key (kind-key t i tables_key 0 refl (λ e. (let no : ⊥ = omega (arith, e) in no)))) ∙ count.0, count.1)
  counted-after (inr some) = inr (some.0, kind-still tables_key (field4 sound.count) 0 refl (λ e. (let no : ⊥ = omega (arith, e) in no)) some.1)

  entries-after : (u : Table) (j : SqlIndex) (row : List Value) (value : List ℕ) → IsSqlIndexOf after u j → IsRowOf after u row → (entry_written u row j).value ≡ Some value → IsLiveAs after (entry_written u row j).key value
  entries-after u j row value index of_row given = elim (index-by u j index) [
    | inl old ↦ live-still history tx ws once writes (entry_written u row j).key value (other-key t i (entry_written u row j).key (λ same. entry-is 2 own u row j (omega arith) refl (sym same)))
        (sound.entries u j row value old (row-back u row of_row) given)
    | inr new ↦ absurd (no-row row (subst (λ (w : Table). IsRowOf history w row) new.0 (row-back u row of_row)))
  ]

  settled-after : (k : ℕ) (key : List ℕ) (v : Version) → (begins_with table_prefix key || begins_with indexes_prefix key) ≡ true → last_version (take k after) key ≡ Some v → v.deleted ≡ false
      → last_version after key ≡ Some v
  settled-after k key v begins last alive = elim (cases_lt (length history) k) [
    | inl beyond ↦ (
        let long : length after ≤ k = (let size : length after ≡ length history + 1 = length-append history (tx ∷ []) in omega (arith, size, beyond)) in
        sym (ap (λ (g : List Transaction). last_version g key) (take_all k after long)) ∙ last)
    | inr inside ↦ (
        let old : last_version history key ≡ Some v =
        sound.settled k key v begins (ap (λ (g : List Transaction). last_version g key) (sym (taken-front k history (tx ∷ []) inside)) ∙ last) alive in
        last-same key (other-key t i key (λ same. absent v.value (subst (λ (y : List ℕ). IsLiveAs history y v.value) same (v, old, alive, refl)))) ∙ old)
  ]

  pub indexed-sound : IsSqlSound after
  indexed-sound = record {
    texts = texts-after;
    count = sound.count;
    counted = counted-after sound.counted;
    numbered = λ u of. sound.numbered u (table-back u of);
    filled = λ tid some few. (let found = sound.filled tid some few in (found.0, table-still found.0 found.1, found.2));
    once = λ u v p q e. sound.once u v (table-back u p) (table-back v q) e;
    gapless = gapless-after;
    marks = λ u row of_row. (
        let found = sound.marks u row (row-back u row of_row) in
        (found.0, push-grows history tx (mark_key u.tid) found.0 found.1, found.2 ∙ ap version_number (sym (last-same (key_of u row) (kind-key t i (key_of u row) 4 refl (λ e. (let no : ⊥ = omega (arith, e) in no)))))));
    entries = entries-after;
    settled = settled-after;
  }

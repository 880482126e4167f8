-- CREATE TABLE keeps the keys SQL's.
use Rattle.std.proofs.Common.{◌≡◌, ◌≢◌, ◌≤◌, ◌+◌, ◌||◌, ◌⊎◌, inl, inr, ℕ, Bool, true, false, not, cond, if◌then◌else◌, List, [], ◌∷◌, ◌++◌, length, take, drop, get_or, map, bytes_eq, Option, Some, None, refl, sym, ap, ap₂, ◌∙◌, subst, length-append, arith}
use Rattle.std.proofs.lemmas.Bool.{true≢false, cases_Bool, cases_lt}
use Rattle.std.proofs.lemmas.List.{take_all}
use Rattle.std.proofs.lemmas.Slice.Eq.{bytes_eq-Decides}
use Rattle.std.specs.Option.{option_map}
use Rattle.im_octet.specs.Fields.{field4}
use Rattle.im_octet.proofs.Common.{bytes-other}
use Rattle.im_model.specs.declared.transactions.Transaction.{Transaction}
use Rattle.im_versions.specs.Versions.{last_version, version_number, is_live, is_written, begins_with}
use Rattle.im_versions.specs.declared.versions.Version.{Version}
use Rattle.im_draft.specs.Drafts.{entry_of}
use Rattle.im_sqltype.specs.Texts.{row_text}
use Rattle.im_sqltype.specs.declared.values.Value.{Value}
use Rattle.im_sqlmodel.specs.Creations.{draft_written}
use Rattle.im_sqlmodel.specs.Keys.{tables_key, table_prefix, table_key, indexes_prefix, index_key, mark_key}
use Rattle.im_sqlmodel.specs.Kept.{IsTableOf, IsSqlIndexOf, IsRowOf, IsText, IsSqlSound}
use Rattle.im_sqlmodel.specs.Rows.{IsLiveAs, CountIs, TableIs, key_of}
use Rattle.im_sqlmodel.specs.Tables.{IsTable, table_text, index_text}
use Rattle.im_sqlmodel.specs.Writes.{entry_written}
use Rattle.im_sqlmodel.specs.declared.tables.SqlIndex.{SqlIndex}
use Rattle.im_sqlmodel.specs.declared.tables.Table.{Table}
use Rattle.im_sqlmodel.specs.declared.written.Written.{Written}
use Rattle.im_sqlmodel.proofs.OnceLemmas.{value-live, one-count}
use Rattle.im_catalog.specs.Parts.{HasParts}
use Rattle.im_catalog.proofs.FoundLemmas.{entry-is}
use Rattle.im_catalog.proofs.TableLemmas.{one-table, table-read, tid-cut}
use Rattle.im_sqlsound.proofs.BehindLemmas.{written_at, Once, last_behind, last-pushed, live-still, live-new, live-by, IsLiveBy}
use Rattle.im_sql.specs.Writing.{table_entries}
use Rattle.im_sqlmodel.proofs.CarriedLemmas.{taken-front, push-grows}

pub created-once : (t : Table) → Once (table_entries t)
created-once t = (((λ same. (let zero_one : 0 ≡ 1 = ap (λ (k : List ℕ). get_or k 1 0) same in omega (arith, zero_one))), tt), (tt, tt))

abbrev by_tests : Table → Bool → Bool → Option (Option (List ℕ))
by_tests t a b = option_map (λ (w : Written). w.value) (cond a (Some (record { key = tables_key; value = Some (field4 t.tid) })) (cond b (Some (record { key = table_key t.name; value = Some (table_text t) })) None))

other-key : (t : Table) (key : List ℕ) → key ≢ tables_key → key ≢ table_key t.name → written_at (table_entries t) key ≡ None
other-key t key a b = ap₂ (by_tests t) (bytes-other key tables_key a) (bytes-other key (table_key t.name) b)

count-key : (t : Table) → written_at (table_entries t) tables_key ≡ Some (Some (field4 t.tid))
count-key t = ap (λ (a : Bool). by_tests t a (bytes_eq tables_key (table_key t.name))) ((bytes_eq-Decides tables_key tables_key).1 refl)

own-key : (t : Table) → written_at (table_entries t) (table_key t.name) ≡ Some (Some (table_text t))
own-key t =
    ap₂ (by_tests t) (bytes-other (table_key t.name) tables_key (λ same. (let one_zero : 1 ≡ 0 = ap (λ (k : List ℕ). get_or k 1 0) same in omega (arith, one_zero))))
    ((bytes_eq-Decides (table_key t.name) (table_key t.name)).1 refl)

abbrev Writes : Transaction → Table → Type 0
Writes tx t = tx.entries ≡ map (λ (w : Written). entry_of (draft_written w)) (table_entries t)

-- a key behind whose second octet no table and no number of tables stands isn't written
high-key : (t : Table) (key : List ℕ) (n : ℕ) → 2 ≤ n → get_or key 1 0 ≡ n → written_at (table_entries t) key ≡ None
high-key t key n high second =
    other-key t key
    (λ same. (let zero_is : get_or key 1 0 ≡ 0 = ap (λ (k : List ℕ). get_or k 1 0) same in omega (arith, zero_is, second, high)))
    (λ same. (let one_is : get_or key 1 0 ≡ 1 = ap (λ (k : List ℕ). get_or k 1 0) same in omega (arith, one_is, second, high)))

module _ (history : List Transaction) (tx : Transaction) (t : Table) (count : ℕ) (sound : IsSqlSound history) (is : IsTable t) (absent : TableIs history t.name None) (counted : CountIs history count)
    (next : t.tid ≡ count + 1) (writes : Writes tx t) where
  abbrev after : List Transaction
  after = history ++ tx ∷ []

  -- ---- tables

  other-name : (u : Table) → IsTableOf history u → table_key u.name ≢ table_key t.name
  other-name u of same = true≢false (sym (value-live history (table_key u.name) (table_text u) of.1) ∙ ap (is_live history) same ∙ absent)

  pub table-old : (u : Table) → IsTableOf history u → IsTableOf after u
  table-old u of = (
    of.0,
    live-still history tx (table_entries t) (created-once t) writes (table_key u.name) (table_text u)
        (other-key t (table_key u.name) (λ same. (let one_zero : 1 ≡ 0 = ap (λ (k : List ℕ). get_or k 1 0) same in omega (arith, one_zero))) (other-name u of)) of.1,
  )

  pub table-new : IsTableOf after t
  table-new = (is, live-new history tx (table_entries t) (created-once t) writes (table_key t.name) (table_text t) (own-key t))

  pub table-by : (u : Table) → IsTableOf after u → IsTableOf history u ⊎ (u ≡ t)
  table-by u of = elim (cases_Bool (bytes_eq (table_key u.name) (table_key t.name))) [
    | inl same ↦ (
        let key : table_key u.name ≡ table_key t.name = (bytes_eq-Decides (table_key u.name) (table_key t.name)).0 same in
        let live : IsLiveAs after (table_key t.name) (table_text u) = subst (λ (k : List ℕ). IsLiveAs after k (table_text u)) key of.1 in
        let text : table_text t ≡ table_text u =
        subst (λ (there : Option (Option (List ℕ))). IsLiveBy history tx (table_entries t) (created-once t) writes (table_key t.name) (table_text u) there) (own-key t)
        (live-by history tx (table_entries t) (created-once t) writes (table_key t.name) (table_text u) live) in
        let names : u.name ≡ t.name = ap (λ (k : List ℕ). drop 2 k) key in
        let has : HasParts u.name (table_text u) u = record { is = table-read u of.0; named = refl; says = refl } in
        inr (one-table u.name (table_text u) u t has (table-read t is) (sym names) (sym text)))
    | inr other ↦ (
        let none : written_at (table_entries t) (table_key u.name) ≡ None =
        other-key t (table_key u.name) (λ same. (let one_zero : 1 ≡ 0 = ap (λ (k : List ℕ). get_or k 1 0) same in omega (arith, one_zero)))
        (λ same. true≢false (sym ((bytes_eq-Decides (table_key u.name) (table_key t.name)).1 same) ∙ other)) in
        inl (
          of.0,
          subst (λ (there : Option (Option (List ℕ))). IsLiveBy history tx (table_entries t) (created-once t) writes (table_key u.name) (table_text u) there) none
              (live-by history tx (table_entries t) (created-once t) writes (table_key u.name) (table_text u) of.1),
        ))
  ]

  -- ---- keys behind those of tables

  pub high-live : (key value : List ℕ) (n : ℕ) → 2 ≤ n → get_or key 1 0 ≡ n → IsLiveAs after key value → IsLiveAs history key value
  high-live key value n high second live =
      subst (λ (there : Option (Option (List ℕ))). IsLiveBy history tx (table_entries t) (created-once t) writes key value there) (high-key t key n high second)
      (live-by history tx (table_entries t) (created-once t) writes key value live)

  pub high-still : (key value : List ℕ) (n : ℕ) → 2 ≤ n → get_or key 1 0 ≡ n → IsLiveAs history key value → IsLiveAs after key value
  high-still key value n high second live = live-still history tx (table_entries t) (created-once t) writes key value (high-key t key n high second) live

  -- ---- what hangs on a table

  index-old : (u : Table) (i : SqlIndex) → IsSqlIndexOf history u i → IsSqlIndexOf after u i
  index-old u i of = (table-old u of.0, of.1, high-still (index_key u.tid i.iid) (index_text i) 2 (omega arith) refl of.2)

  row-old : (u : Table) (row : List Value) → IsRowOf history u row → IsRowOf after u row
  row-old u row of = (table-old u of.0, of.1, high-still (key_of u row) (row_text row) 4 (omega arith) refl of.2)

  low-tid : (u : Table) → IsTableOf history u → u.tid ≤ count
  low-tid u of = (let same : sound.count ≡ count = one-count history sound.count count sound.counted counted in let low : u.tid ≤ sound.count = (sound.numbered u of).1 in omega (arith, same, low))

  -- nothing stood under the number of the new table
  no-index : (iid : ℕ) (value : List ℕ) → IsText history (index_key t.tid iid) value → ⊥
  no-index iid value (inl text) = (let two_zero : 2 ≡ 0 = ap (λ (k : List ℕ). get_or k 1 0) text.2 in omega (arith, two_zero))
  no-index iid value (inr (inl text)) = (let two_one : 2 ≡ 1 = ap (λ (k : List ℕ). get_or k 1 0) text.2 in omega (arith, two_one))
  no-index iid value (inr (inr (inl text))) =
      let cut = tid-cut t.tid text.0.tid (field4 iid) (field4 text.1.iid) is.tid.1 text.2.0.tid.1 (ap (λ (k : List ℕ). drop 2 k) text.4) in
      let low : text.0.tid ≤ count = low-tid text.0 text.2 in
      let same : t.tid ≡ text.0.tid = cut.0 in
      omega (arith, low, same, next)
  no-index iid value (inr (inr (inr (inl text)))) = (let two_three : 2 ≡ 3 = ap (λ (k : List ℕ). get_or k 1 0) text.2 in omega (arith, two_three))
  no-index iid value (inr (inr (inr (inr (inl text))))) = (let two_four : 2 ≡ 4 = ap (λ (k : List ℕ). get_or k 1 0) text.4 in omega (arith, two_four))
  no-index iid value (inr (inr (inr (inr (inr text))))) = entry-is 2 (index_key t.tid iid) text.0 text.2 text.1 (omega arith) refl text.5

  no-row : (row : List Value) (value : List ℕ) → IsText history (key_of t row) value → ⊥
  no-row row value (inl text) = (let four_zero : 4 ≡ 0 = ap (λ (k : List ℕ). get_or k 1 0) text.2 in omega (arith, four_zero))
  no-row row value (inr (inl text)) = (let four_one : 4 ≡ 1 = ap (λ (k : List ℕ). get_or k 1 0) text.2 in omega (arith, four_one))
  no-row row value (inr (inr (inl text))) = (let four_two : 4 ≡ 2 = ap (λ (k : List ℕ). get_or k 1 0) text.4 in omega (arith, four_two))
  no-row row value (inr (inr (inr (inl text)))) = (let four_three : 4 ≡ 3 = ap (λ (k : List ℕ). get_or k 1 0) text.2 in omega (arith, four_three))
  no-row row value (inr (inr (inr (inr (inl text))))) =
      let cut = tid-cut t.tid text.0.tid _ _ is.tid.1 text.2.0.tid.1 (ap (λ (k : List ℕ). drop 2 k) text.4) in
      let low : text.0.tid ≤ count = low-tid text.0 text.2 in
      let same : t.tid ≡ text.0.tid = cut.0 in
      omega (arith, low, same, next)
  no-row row value (inr (inr (inr (inr (inr text))))) = entry-is 4 (key_of t row) text.0 text.2 text.1 (omega arith) refl text.5

  -- so an index and a row that stand behind it stood before it
  index-by : (u : Table) (i : SqlIndex) → IsSqlIndexOf after u i → IsSqlIndexOf history u i
  index-by u i of = elim (table-by u of.0) [
    | inl old ↦ (old, of.1, high-live (index_key u.tid i.iid) (index_text i) 2 (omega arith) refl of.2)
    | inr new ↦ (
        let live : IsLiveAs history (index_key u.tid i.iid) (index_text i) = high-live (index_key u.tid i.iid) (index_text i) 2 (omega arith) refl of.2 in
        let mine : IsLiveAs history (index_key t.tid i.iid) (index_text i) = subst (λ (w : Table). IsLiveAs history (index_key w.tid i.iid) (index_text i)) new live in
        absurd (no-index i.iid (index_text i) (sound.texts (drop 1 (index_key t.tid i.iid)) (index_text i) mine)))
  ]

  row-by : (u : Table) (row : List Value) → IsRowOf after u row → IsRowOf history u row
  row-by u row of = elim (table-by u of.0) [
    | inl old ↦ (old, of.1, high-live (key_of u row) (row_text row) 4 (omega arith) refl of.2)
    | inr new ↦ (
        let live : IsLiveAs history (key_of u row) (row_text row) = high-live (key_of u row) (row_text row) 4 (omega arith) refl of.2 in
        let mine : IsLiveAs history (key_of t row) (row_text row) = subst (λ (w : Table). IsLiveAs history (key_of w row) (row_text row)) new live in
        absurd (no-row row (row_text row) (sound.texts (drop 1 (key_of t row)) (row_text row) mine)))
  ]

  -- ---- texts

  text-old : (key value : List ℕ) → IsText history key value → IsText after key value
  text-old key value (inl text) = inl text
  text-old key value (inr (inl text)) = inr (inl text)
  text-old key value (inr (inr (inl text))) = inr (inr (inl (text.0, text.1, table-old text.0 text.2, text.3, text.4, text.5)))
  text-old key value (inr (inr (inr (inl text)))) = inr (inr (inr (inl (text.0, table-old text.0 text.1, text.2, text.3))))
  text-old key value (inr (inr (inr (inr (inl text))))) = inr (inr (inr (inr (inl (text.0, text.1, table-old text.0 text.2, text.3, text.4, text.5)))))
  text-old key value (inr (inr (inr (inr (inr text))))) =
      inr (inr (inr (inr (inr (text.0, text.1, text.2, index-old text.0 text.1 text.3, row-old text.0 text.2 text.4, text.5, text.6)))))

  abbrev By : List ℕ → List ℕ → Option (Option (List ℕ)) → Type 0
  By key value there = IsLiveBy history tx (table_entries t) (created-once t) writes key value there

  texts-after : (rest value : List ℕ) → IsLiveAs after (0 ∷ rest) value → IsText after (0 ∷ rest) value
  texts-after rest value live =
      let key : List ℕ = 0 ∷ rest in
      let by : By key value (written_at (table_entries t) key) = live-by history tx (table_entries t) (created-once t) writes key value live in
      elim (cases_Bool (bytes_eq key tables_key)) [
        | inl counts ↦ (
            let same : key ≡ tables_key = (bytes_eq-Decides key tables_key).0 counts in
            let text : field4 t.tid ≡ value = subst (By key value) (ap (written_at (table_entries t)) same ∙ count-key t) by in
            inl (t.tid, is.tid.1, same, sym text))
        | inr differs ↦ elim (cases_Bool (bytes_eq key (table_key t.name))) [
          | inl own ↦ (
              let same : key ≡ table_key t.name = (bytes_eq-Decides key (table_key t.name)).0 own in
              let text : table_text t ≡ value = subst (By key value) (ap (written_at (table_entries t)) same ∙ own-key t) by in
              inr (inl (t, is, same, sym text)))
          | inr other ↦ (
              let none : written_at (table_entries t) key ≡ None =
              other-key t key (λ same. true≢false (sym ((bytes_eq-Decides key tables_key).1 same) ∙ differs)) (λ same. true≢false (sym ((bytes_eq-Decides key (table_key t.name)).1 same) ∙ other)) in
              text-old key value (sound.texts rest value (subst (By key value) none by)))
        ]
      ]

  -- ---- all together

  second-by : (b : Bool) (x y : Written) (m n : ℕ) → 2 ≤ m → 2 ≤ n → get_or x.key 1 0 ≡ m → get_or y.key 1 0 ≡ n → (k : ℕ) × (2 ≤ k) × (get_or (if b then x else y).key 1 0 ≡ k)
  second-by true x y m n p q first second = (m, p, first)
  second-by false x y m n p q first second = (n, q, second)

  entry-second : (u : Table) (row : List Value) (i : SqlIndex) → (k : ℕ) × (2 ≤ k) × (get_or (entry_written u row i).key 1 0 ≡ k)
  entry-second u row i = second-by i.unique _ _ 6 5 (omega arith) (omega arith) refl refl

  once-after : (u v : Table) → IsTableOf after u → IsTableOf after v → u.tid ≡ v.tid → u ≡ v
  once-after u v p q e = elim (table-by u p) [
    | inl a ↦ elim (table-by v q) [
      | inl b ↦ sound.once u v a b e
      | inr b ↦ absurd (let no : ⊥ = (let low : u.tid ≤ count = low-tid u a in let same : v.tid ≡ t.tid = ap (λ (w : Table). w.tid) b in omega (arith, low, same, e, next)) in no)
    ]
    | inr a ↦ elim (table-by v q) [
      | inl b ↦ absurd (let no : ⊥ = (let low : v.tid ≤ count = low-tid v b in let same : u.tid ≡ t.tid = ap (λ (w : Table). w.tid) a in omega (arith, low, same, e, next)) in no)
      | inr b ↦ a ∙ sym b
    ]
  ]

  filled-after : (tid : ℕ) → 1 ≤ tid → tid ≤ t.tid → (u : Table) × IsTableOf after u × (u.tid ≡ tid)
  filled-after tid low high = elim (cases_lt count tid) [
    | inl above ↦ (t, table-new, (let same : t.tid ≡ tid = omega (arith, above, high, next) in same))
    | inr within ↦ (
        let same : sound.count ≡ count = one-count history sound.count count sound.counted counted in
        let found = sound.filled tid low (let few : tid ≤ sound.count = omega (arith, within, same) in few) in
        (found.0, table-old found.0 found.1, found.2))
  ]

  numbered-after : (u : Table) → IsTableOf after u → (1 ≤ u.tid) × (u.tid ≤ t.tid)
  numbered-after u of = elim (table-by u of) [
    | inl old ↦ (let low : u.tid ≤ count = low-tid u old in ((sound.numbered u old).0, (let most : u.tid ≤ t.tid = omega (arith, low, next) in most)))
    | inr new ↦ subst (λ (w : Table). (1 ≤ w.tid) × (w.tid ≤ t.tid)) (sym new) (is.tid.0, (let most : t.tid ≤ t.tid = omega arith in most))
  ]

  last-same : (key : List ℕ) → written_at (table_entries t) key ≡ None → last_version after key ≡ last_version history key
  last-same key none = last-pushed history tx (table_entries t) (created-once t) writes key ∙ ap (last_behind (length history + 1) key (last_version history key)) none

  kept-key : (key : List ℕ) (v : Version) → (begins_with table_prefix key || begins_with indexes_prefix key) ≡ true → last_version history key ≡ Some v → v.deleted ≡ false → written_at (table_entries t) key ≡ None
  kept-key key v begins last alive =
      other-key t key
      (λ same. true≢false (sym begins ∙ ap (λ (k : List ℕ). begins_with table_prefix k || begins_with indexes_prefix k) same))
      (λ same. true≢false (sym (ap is_written (sym (ap (last_version history) same) ∙ last) ∙ ap not alive) ∙ absent))

  settled-after : (n : ℕ) (key : List ℕ) (v : Version) → (begins_with table_prefix key || begins_with indexes_prefix key) ≡ true → last_version (take n after) key ≡ Some v → v.deleted ≡ false
      → last_version after key ≡ Some v
  settled-after n key v begins last alive = elim (cases_lt (length history) n) [
    | inl beyond ↦ (
        let long : length after ≤ n = (let size : length after ≡ length history + 1 = length-append history (tx ∷ []) in omega (arith, size, beyond)) in
        sym (ap (λ (g : List Transaction). last_version g key) (take_all n after long)) ∙ last)
    | inr within ↦ (
        let before : last_version history key ≡ Some v =
        sound.settled n key v begins (ap (λ (g : List Transaction). last_version g key) (sym (taken-front n history (tx ∷ []) within)) ∙ last) alive in
        last-same key (kept-key key v begins before alive) ∙ before)
  ]

  pub created-sound : IsSqlSound after
  created-sound = record {
    texts = texts-after;
    count = t.tid;
    counted = inr (is.tid.1, live-new history tx (table_entries t) (created-once t) writes tables_key (field4 t.tid) (count-key t));
    numbered = numbered-after;
    filled = filled-after;
    once = once-after;
    gapless = λ u i iid of low high. (let found = sound.gapless u i iid (index-by u i of) low high in (found.0, index-old u found.0 found.1, found.2));
    marks = λ u row of. (
        let found = sound.marks u row (row-by u row of) in
        (found.0, push-grows history tx (mark_key u.tid) found.0 found.1, found.2 ∙ ap version_number (sym (last-same (key_of u row) (high-key t (key_of u row) 4 (omega arith) refl)))));
    entries = λ u i row value index of given. (
        let stands = sound.entries u i row value (index-by u i index) (row-by u row of) given in
        let second = entry-second u row i in
        high-still (entry_written u row i).key value second.0 second.1 second.2 stands);
    settled = settled-after;
  }

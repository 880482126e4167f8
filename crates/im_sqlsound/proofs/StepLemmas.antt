-- Keys are SQL's behind a transaction that leaves the catalogue where its own keys say so, as they were before it.
use Rattle.std.proofs.Common.{◌≡◌, ◌≢◌, ◌≤◌, ◌<◌, ◌+◌, ◌⊎◌, ◌||◌, inl, inr, ℕ, Bool, true, false, if◌then◌else◌, List, [], ◌∷◌, ◌++◌, filter, length, take, drop, get_or, Option, Some, None, refl, sym, ap, ◌∙◌, subst, length-append, arith}
use Rattle.std.proofs.lemmas.Bool.{cases_lt, or_cases}
use Rattle.std.proofs.lemmas.List.{append-nil, take_all}
use Rattle.std.specs.List.{IsAmong, last_or}
use Rattle.im_model.specs.declared.transactions.Transaction.{Transaction}
use Rattle.im_versions.specs.Versions.{last_version, last_number, version_number, versions_in, versions_of, is_of, is_written, begins_with}
use Rattle.im_versions.specs.declared.versions.Version.{Version}
use Rattle.im_versions.proofs.ListLemmas.{All-among, among-filter, among-right, last-among}
use Rattle.im_versions.proofs.VersionLemmas.{versions_in-number}
use Rattle.im_sqltype.specs.Texts.{row_text}
use Rattle.im_sqltype.specs.declared.values.Value.{Value}
use Rattle.im_sqlmodel.specs.Keys.{tables_key, table_prefix, table_key, indexes_prefix, index_key, mark_key}
use Rattle.im_sqlmodel.specs.Kept.{IsTableOf, IsSqlIndexOf, IsRowOf, IsText, IsSqlSound}
use Rattle.im_sqlmodel.specs.Rows.{IsLiveAs, CountIs, columns_of, key_of}
use Rattle.im_sqlmodel.specs.Tables.{table_text, index_text}
use Rattle.im_sqlmodel.specs.Writes.{entry_written}
use Rattle.im_sqlmodel.specs.declared.tables.SqlIndex.{SqlIndex}
use Rattle.im_sqlmodel.specs.declared.tables.Table.{Table}
use Rattle.im_sqlmodel.specs.declared.written.Written.{Written}
use Rattle.im_catalog.proofs.FoundLemmas.{begins-is}
use Rattle.im_sqlmodel.proofs.CarriedLemmas.{taken-front, push-grows, versions-pushed}

-- ---- what its own keys say

-- the versions of a key that a transaction has, as number k
abbrev pub news : ℕ → Transaction → List ℕ → List Version
news k tx key = filter (is_of key) (versions_in k tx.entries)

module _ (history : List Transaction) (tx : Transaction) where
  abbrev pub behind : List Transaction
  behind = history ++ tx ∷ []

  -- the transaction has no version of the key
  abbrev pub IsLeft : List ℕ → Type 0
  IsLeft key = news (length history + 1) tx key ≡ []

  -- it has one
  abbrev pub IsNew : List ℕ → Type 0
  IsNew key = news (length history + 1) tx key ≢ []

  pub record IsStep : Type 0 where
    -- no key of the number of tables, of a table or of an index is written
    pub catalogue : (rest : List ℕ) → get_or (0 ∷ rest) 1 0 < 3 → IsLeft (0 ∷ rest)
    pub texts : (rest value : List ℕ) → IsNew (0 ∷ rest) → IsLiveAs behind (0 ∷ rest) value → IsText behind (0 ∷ rest) value
    pub marks : (t : Table) (row : List Value) → IsRowOf behind t row → IsNew (key_of t row) → IsNew (mark_key t.tid)
    -- a row that is written has its entries
    pub entries : (t : Table) (i : SqlIndex) (row : List Value) (value : List ℕ) → IsSqlIndexOf behind t i → IsRowOf behind t row → IsNew (key_of t row) → (entry_written t row i).value ≡ Some value
        → IsLiveAs behind (entry_written t row i).key value
    -- no entry of a row that is left is written, and each of one that is written
    pub still : (t : Table) (i : SqlIndex) (row : List Value) → IsSqlIndexOf history t i → IsRowOf history t row → IsLeft (key_of t row) → IsNew (entry_written t row i).key → ⊥
    pub gone : (t : Table) (i : SqlIndex) (row : List Value) → IsSqlIndexOf history t i → IsRowOf history t row → IsNew (key_of t row) → IsNew (entry_written t row i).key

-- ---- lists

left-or : {A : Type 0} (xs : List A) → (xs ≡ []) ⊎ (xs ≢ [])
left-or [] = inl refl
left-or (x ∷ xs) = inr (λ e. (let no : ⊥ = (let long : length (x ∷ xs) ≡ 0 = ap length e in omega (arith, long)) in no))

-- the last of two lists is that of the second, if it has one
last-behind : (o : Option Version) (xs ys : List Version) → ys ≢ [] → last_or o (xs ++ ys) ≡ last_or None ys
last-behind o [] [] some = absurd (some refl)
last-behind o [] (y ∷ ys) some = refl
last-behind o (x ∷ xs) ys some = last-behind (Some x) xs ys some

some-last : (o : Option Version) (ys : List Version) → ys ≢ [] → (v : Version) × (last_or o ys ≡ Some v)
some-last o [] some = absurd (some refl)
some-last o (y ∷ ys) some = deeper y ys
  where
    deeper : (z : Version) (zs : List Version) → (v : Version) × (last_or (Some z) zs ≡ Some v)
    deeper z [] = (z, refl)
    deeper z (w ∷ ws) = deeper w ws

-- an entry has a value
pub entry-told : (t : Table) (row : List Value) (i : SqlIndex) → (value : List ℕ) × ((entry_written t row i).value ≡ Some value)
entry-told t row i = by-test i.unique _ _ (row_text (columns_of row t.key)) [] refl refl
  where
    by-test : (b : Bool) (x y : Written) (v w : List ℕ) → x.value ≡ Some v → y.value ≡ Some w → (value : List ℕ) × ((if b then x else y).value ≡ Some value)
    by-test true x y v w p q = (v, p)
    by-test false x y v w p q = (w, q)

-- ---- keys that the transaction leaves, and those that it writes

module _ (history : List Transaction) (tx : Transaction) where
  abbrev after : List Transaction
  after = history ++ tx ∷ []

  last-left : (key : List ℕ) → IsLeft history tx key → last_version after key ≡ last_version history key
  last-left key left =
      ap (λ (vs : List Version). last_or None vs)
      (versions-pushed history tx key ∙ ap (λ (vs : List Version). versions_of history key ++ vs) left ∙ append-nil (versions_of history key))

  pub last-new : (key : List ℕ) → IsNew history tx key → (v : Version) × (last_version after key ≡ Some v) × (v.tx ≡ length history + 1) × IsAmong (versions_of after key) v
  last-new key new =
      let own = some-last None (news (length history + 1) tx key) new in
      let v : Version = own.0 in
      let last : last_version after key ≡ Some v =
      ap (λ (vs : List Version). last_or None vs) (versions-pushed history tx key) ∙ last-behind None (versions_of history key) (news (length history + 1) tx key) new ∙ own.1 in
      let among : IsAmong (news (length history + 1) tx key) v = last-among (news (length history + 1) tx key) v own.1 in
      let inside = among-filter (is_of key) (versions_in (length history + 1) tx.entries) v among in (
        v,
        last,
        All-among (λ (w : Version). w.tx ≡ length history + 1) (versions_in (length history + 1) tx.entries) v (versions_in-number (length history + 1) tx.entries) inside.1,
        subst (λ (vs : List Version). IsAmong vs v) (sym (versions-pushed history tx key)) (among-right (versions_of history key) (news (length history + 1) tx key) v among),
      )

  pub live-left : (key value : List ℕ) → IsLeft history tx key → IsLiveAs history key value → IsLiveAs after key value
  live-left key value left is = (is.0, last-left key left ∙ is.1, is.2, is.3)

  pub left-live : (key value : List ℕ) → IsLeft history tx key → IsLiveAs after key value → IsLiveAs history key value
  left-live key value left is = (is.0, sym (last-left key left) ∙ is.1, is.2, is.3)

  pub either : (key : List ℕ) → IsLeft history tx key ⊎ IsNew history tx key
  either key = left-or (news (length history + 1) tx key)

  -- ---- the catalogue is left

  module _ (catalogue : (rest : List ℕ) → get_or (0 ∷ rest) 1 0 < 3 → IsLeft history tx (0 ∷ rest)) where
    table-left : (t : Table) → IsLeft history tx (table_key t.name)
    table-left t = catalogue (drop 1 (table_key t.name)) (omega arith)

    index-left : (t : Table) (i : SqlIndex) → IsLeft history tx (index_key t.tid i.iid)
    index-left t i = catalogue (drop 1 (index_key t.tid i.iid)) (omega arith)

    pub table-still : (t : Table) → IsTableOf history t → IsTableOf after t
    table-still t is = (is.0, live-left (table_key t.name) (table_text t) (table-left t) is.1)

    pub table-back : (t : Table) → IsTableOf after t → IsTableOf history t
    table-back t is = (is.0, left-live (table_key t.name) (table_text t) (table-left t) is.1)

    pub index-still : (t : Table) (i : SqlIndex) → IsSqlIndexOf history t i → IsSqlIndexOf after t i
    index-still t i is = (table-still t is.0, is.1, live-left (index_key t.tid i.iid) (index_text i) (index-left t i) is.2)

    pub index-back : (t : Table) (i : SqlIndex) → IsSqlIndexOf after t i → IsSqlIndexOf history t i
    index-back t i is = (table-back t is.0, is.1, left-live (index_key t.tid i.iid) (index_text i) (index-left t i) is.2)

    row-still : (t : Table) (row : List Value) → IsLeft history tx (key_of t row) → IsRowOf history t row → IsRowOf after t row
    row-still t row left is = (table-still t is.0, is.1, live-left (key_of t row) (row_text row) left is.2)

    row-back : (t : Table) (row : List Value) → IsLeft history tx (key_of t row) → IsRowOf after t row → IsRowOf history t row
    row-back t row left is = (table-back t is.0, is.1, left-live (key_of t row) (row_text row) left is.2)

    count-still : (count : ℕ) → CountIs history count → CountIs after count
    count-still count (inl none) = inl (ap is_written (last-left tables_key (catalogue (0 ∷ []) (omega arith))) ∙ none.0, none.1)
    count-still count (inr some) = inr (some.0, live-left tables_key _ (catalogue (0 ∷ []) (omega arith)) some.1)

    settled-left : (key : List ℕ) → (begins_with table_prefix key || begins_with indexes_prefix key) ≡ true → IsLeft history tx key
    settled-left key begins = elim (or_cases (begins_with table_prefix key) (begins_with indexes_prefix key) begins) [
      | inl table ↦ (let e : key ≡ 0 ∷ 1 ∷ drop 2 key = begins-is table_prefix key table in subst (IsLeft history tx) (sym e) (catalogue (1 ∷ drop 2 key) (omega arith)))
      | inr index ↦ (let e : key ≡ 0 ∷ 2 ∷ drop 2 key = begins-is indexes_prefix key index in subst (IsLeft history tx) (sym e) (catalogue (2 ∷ drop 2 key) (omega arith)))
    ]

    -- ---- behind a step

    module _ (sound : IsSqlSound history) (step : IsStep history tx) where
      entries-after : (t : Table) (i : SqlIndex) (row : List Value) (value : List ℕ) → IsSqlIndexOf after t i → IsRowOf after t row → (entry_written t row i).value ≡ Some value
          → IsLiveAs after (entry_written t row i).key value
      entries-after t i row value index of given = elim (either (key_of t row)) [
        | inr new ↦ step.entries t i row value index of new given
        | inl left ↦ (
            let first : IsSqlIndexOf history t i = index-back t i index in
            let second : IsRowOf history t row = row-back t row left of in
            elim (either (entry_written t row i).key) [
              | inl kept ↦ live-left (entry_written t row i).key value kept (sound.entries t i row value first second given)
              | inr written ↦ absurd (step.still t i row first second left written)
            ])
      ]

      marks-after : (t : Table) (row : List Value) → IsRowOf after t row → (v : Version) × IsAmong (versions_of after (mark_key t.tid)) v × (v.tx ≡ last_number after (key_of t row))
      marks-after t row of = elim (either (key_of t row)) [
        | inl left ↦ (
            let found = sound.marks t row (row-back t row left of) in
            (found.0, push-grows history tx (mark_key t.tid) found.0 found.1, found.2 ∙ ap version_number (sym (last-left (key_of t row) left))))
        | inr new ↦ (
            let mark = last-new (mark_key t.tid) (step.marks t row of new) in
            let own = last-new (key_of t row) new in
            (mark.0, mark.3, mark.2 ∙ sym (ap version_number own.1 ∙ own.2)))
      ]

      entry-still : (key value : List ℕ) (t : Table) (i : SqlIndex) (row : List Value) → IsLeft history tx key → IsSqlIndexOf history t i → IsRowOf history t row
          → key ≡ (entry_written t row i).key → Some value ≡ (entry_written t row i).value → IsText after key value
      entry-still key value t i row left index of e given = elim (either (key_of t row)) [
        | inl kept ↦ inr (inr (inr (inr (inr (t, i, row, index-still t i index, row-still t row kept of, e, given)))))
        | inr new ↦ absurd (step.gone t i row index of new (subst (IsLeft history tx) e left))
      ]

      text-left : (key value : List ℕ) → IsLeft history tx key → IsText history key value → IsText after key value
      text-left key value left (inl text) = inl text
      text-left key value left (inr (inl text)) = inr (inl text)
      text-left key value left (inr (inr (inl text))) = inr (inr (inl (text.0, text.1, table-still text.0 text.2, text.3, text.4, text.5)))
      text-left key value left (inr (inr (inr (inl text)))) = inr (inr (inr (inl (text.0, table-still text.0 text.1, text.2, text.3))))
      text-left key value left (inr (inr (inr (inr (inl text))))) = inr (inr (inr (inr (inl (text.0, text.1, table-still text.0 text.2, text.3, text.4, text.5)))))
      text-left key value left (inr (inr (inr (inr (inr text))))) = entry-still key value text.0 text.1 text.2 left text.3 text.4 text.5 text.6

      texts-after : (rest value : List ℕ) → IsLiveAs after (0 ∷ rest) value → IsText after (0 ∷ rest) value
      texts-after rest value live = elim (either (0 ∷ rest)) [
        | inl left ↦ text-left (0 ∷ rest) value left (sound.texts rest value (left-live (0 ∷ rest) value left live))
        | inr new ↦ step.texts rest value new live
      ]

      settled-after : (k : ℕ) (key : List ℕ) (v : Version) → (begins_with table_prefix key || begins_with indexes_prefix key) ≡ true → last_version (take k after) key ≡ Some v → v.deleted ≡ false
          → last_version after key ≡ Some v
      settled-after k key v begins last alive = elim (cases_lt (length history) k) [
        | inl beyond ↦ (
            let long : length after ≤ k = (let size : length after ≡ length history + 1 = length-append history (tx ∷ []) in omega (arith, size, beyond)) in
            sym (ap (λ (g : List Transaction). last_version g key) (take_all k after long)) ∙ last)
        | inr inside ↦
            last-left key (settled-left key begins)
            ∙ sound.settled k key v begins (ap (λ (g : List Transaction). last_version g key) (sym (taken-front k history (tx ∷ []) inside)) ∙ last) alive
      ]

      pub step-sound : IsSqlSound after
      step-sound = record {
        texts = texts-after;
        count = sound.count;
        counted = count-still sound.count sound.counted;
        numbered = λ t is. sound.numbered t (table-back t is);
        filled = λ tid some few. (let found = sound.filled tid some few in (found.0, table-still found.0 found.1, found.2));
        once = λ t u p q e. sound.once t u (table-back t p) (table-back u q) e;
        gapless = λ t i iid is some few. (let found = sound.gapless t i iid (index-back t i is) some few in (found.0, index-still t found.0 found.1, found.2));
        marks = marks-after;
        entries = entries-after;
        settled = settled-after;
      }

-- What stands under the keys of a table's rows where keys are SQL's.
use Rattle.std.proofs.Common.{◌≡◌, ◌≢◌, ◌<◌, ◌^◌, ℕ, inl, inr, true, false, List, [], ◌∷◌, ◌++◌, length, drop, get_or, Option, Some, None, MatchOption, refl, sym, ap, ◌∙◌, subst, append_assoc, arith}
use Rattle.std.specs.List.{All}
use Rattle.im_octet.specs.Fields.{field4}
use Rattle.im_model.specs.declared.transactions.Transaction.{Transaction}
use Rattle.im_versions.specs.Versions.{last_version, begins_with, IsScan}
use Rattle.im_versions.specs.declared.versions.Version.{Version}
use Rattle.im_versions.proofs.VersionLemmas.{last-of-key}
use Rattle.im_sqltype.specs.Kinds.{AreOfKinds}
use Rattle.im_sqltype.specs.Texts.{row_text}
use Rattle.im_sqltype.specs.declared.kinds.ValueKind.{ValueKind}
use Rattle.im_sqltype.specs.declared.values.Value.{Value}
use Rattle.im_sqltype.proofs.FrontLemmas.{row-front}
use Rattle.im_sqlmodel.specs.Keys.{tables_key, table_key, index_key, mark_key, rows_prefix}
use Rattle.im_sqlmodel.specs.Tables.{kinds_of}
use Rattle.im_sqlmodel.specs.Rows.{IsLiveAs, IsStoredRow, columns_of, key_of}
use Rattle.im_sqlmodel.specs.Kept.{IsTableOf, IsText, IsSqlSound}
use Rattle.im_sqlmodel.specs.declared.rows.StoredRow.{StoredRow}
use Rattle.im_sqlmodel.specs.declared.tables.Table.{Table}
use Rattle.im_catalog.specs.Rows.{RowAt, IsRowsFront, HasRowText}
use Rattle.im_catalog.proofs.FoundLemmas.{second, other-second, entry-is, dead, unwritten, begins-is}
use Rattle.im_catalog.proofs.TableLemmas.{tid-cut}

-- the text under such a key is a row's, where the table of its number is this one
pub row-of-text : (history : List Transaction) (t : Table) (key value rest : List ℕ) → ((u : Table) → IsTableOf history u → u.tid ≡ t.tid → u ≡ t) → t.tid < 2 ^ 32 → key ≡ 0 ∷ 4 ∷ field4 t.tid ++ rest
    → IsText history key value → HasRowText t key value
row-of-text history t key value rest once fits e (inl is) =
    absurd (other-second 4 0 key tables_key (λ same. omega (arith, same)) (second key (0 ∷ 4 ∷ field4 t.tid ++ rest) e) refl is.2)
row-of-text history t key value rest once fits e (inr (inl is)) =
    absurd (other-second 4 1 key (table_key is.0.name) (λ same. omega (arith, same)) (second key (0 ∷ 4 ∷ field4 t.tid ++ rest) e) refl is.2)
row-of-text history t key value rest once fits e (inr (inr (inl is))) =
    absurd (other-second 4 2 key (index_key is.0.tid is.1.iid) (λ same. omega (arith, same)) (second key (0 ∷ 4 ∷ field4 t.tid ++ rest) e) refl is.4)
row-of-text history t key value rest once fits e (inr (inr (inr (inl is)))) =
    absurd (other-second 4 3 key (mark_key is.0.tid) (λ same. omega (arith, same)) (second key (0 ∷ 4 ∷ field4 t.tid ++ rest) e) refl is.2)
row-of-text history t key value rest once fits e (inr (inr (inr (inr (inl is))))) =
    let u : Table = is.0 in
    let row : List Value = is.1 in
    let behind : field4 t.tid ++ rest ≡ field4 u.tid ++ row_text (columns_of row u.key) = ap (λ k. drop 2 k) (sym e ∙ is.4) in
    let tid = tid-cut t.tid u.tid rest (row_text (columns_of row u.key)) fits is.2.0.tid.1 behind in
    let same : u ≡ t = once u is.2 (sym tid.0) in
    (row, subst (λ (w : Table). AreOfKinds (kinds_of w) row) same is.3, subst (λ (w : Table). key ≡ key_of w row) same is.4, is.5)
row-of-text history t key value rest once fits e (inr (inr (inr (inr (inr is))))) =
    absurd (entry-is 4 key is.0 is.2 is.1 (omega arith) (second key (0 ∷ 4 ∷ field4 t.tid ++ rest) e) is.5)

-- a live version under the front of a table's rows is a row
pub row-live : (history : List Transaction) (t : Table) (v : Version) (rest : List ℕ) → IsSqlSound history → IsTableOf history t → v.key ≡ 0 ∷ 4 ∷ field4 t.tid ++ rest
    → last_version history v.key ≡ Some v → v.deleted ≡ false → HasRowText t v.key v.value
row-live history t v rest sound of e last live =
    let value : IsLiveAs history (0 ∷ 4 ∷ field4 t.tid ++ rest) v.value = subst (λ k. IsLiveAs history k v.value) e (v, last, live, refl) in
    row-of-text history t v.key v.value rest (λ u is same. sound.once u t is of same) of.0.tid.1 e (subst (λ k. IsText history k v.value) (sym e) (sound.texts (4 ∷ field4 t.tid ++ rest) v.value value))

-- that of a key
pub row-there : (history : List Transaction) (t : Table) (key : List ℕ) (v : Version) → IsSqlSound history → IsTableOf history t → IsRowsFront t key
    → Some v ≡ last_version history key → v.deleted ≡ false → HasRowText t v.key v.value
row-there history t key v sound of front last live =
    let own : v.key ≡ key = last-of-key history key v (sym last) in
    row-live history t v front.0 sound of (own ∙ front.1) (subst (λ k. last_version history k ≡ Some v) (sym own) (sym last)) live

pub row-found : (history : List Transaction) (t : Table) (key : List ℕ) (v : Version) (found : Option StoredRow) → Some v ≡ last_version history key
    → MatchOption found (v.deleted ≡ true) (λ s. (v.deleted ≡ false) × IsStoredRow t v s) → RowAt history t key found
row-found history t key v None last gone = dead history key v last gone
row-found history t key v (Some s) last says = (v, sym last, says.0, says.1)

pub row-none : (history : List Transaction) (t : Table) (key : List ℕ) → None ≡ last_version history key → RowAt history t key None
row-none history t key none = unwritten history key none

-- those of a scan
begins-rows : (t : Table) (front key : List ℕ) → IsRowsFront t front → begins_with front key ≡ true → IsRowsFront t key
begins-rows t front key is begins = (
  is.0 ++ drop (length front) key,
  begins-is front key begins ∙ ap (λ f. f ++ drop (length front) key) is.1 ∙ append_assoc (rows_prefix t.tid) is.0 (drop (length front) key),
)

pub rows-there : (history : List Transaction) (t : Table) (front : List ℕ) (shown : List Version) → IsSqlSound history → IsTableOf history t → IsRowsFront t front
    → IsScan history front shown → All (λ v. HasRowText t v.key v.value) shown
rows-there history t front shown sound of is scan = λ k d l.
    let v : Version = get_or shown k d in
    let key : IsRowsFront t v.key = begins-rows t front v.key is (scan.begin k d l) in
    row-live history t v key.0 sound of key.1 (scan.live k d l).0 (scan.live k d l).1

-- a row of another key has another text
pub row-apart : (t : Table) (kinds : List ValueKind) (text key own : List ℕ) (row : List Value) → kinds ≡ kinds_of t → AreOfKinds kinds row → text ≡ row_text row → own ≡ key_of t row
    → (own ≡ key → ⊥) → (other : List Value) → AreOfKinds (kinds_of t) other → text ≡ row_text other → key ≢ key_of t other
row-apart t kinds text key own row same is says called apart other is_other says_other key_other =
    let rows : row ≡ other = (row-front (kinds_of t) row other [] [] (subst (λ ks. AreOfKinds ks row) same is) is_other (ap (λ (r : List ℕ). r ++ []) (sym says ∙ says_other))).0 in
    apart (called ∙ ap (key_of t) rows ∙ sym key_other)

pub ruleset rows_apart = (row-apart)

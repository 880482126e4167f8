-- What stands under the catalogue's keys where they are SQL's.
use Rattle.std.proofs.Common.{◌≡◌, ◌≤◌, ◌<◌, ◌^◌, ◌⊎◌, ◌+◌, inl, inr, ℕ, suc, Bool, true, false, not, List, [], ◌∷◌, ◌++◌, length, drop, get_or, Option, Some, None, Result, Ok, Err, IfOk, refl, sym, ap, ◌∙◌, subst, length-append, arith}
use Rattle.std.proofs.lemmas.List.{append-nil}
use Rattle.std.proofs.Math.Seq.{drop-append_seam}
use Rattle.std.proofs.lemmas.Bool.Decides.{Decides-eqb}
use Rattle.std.proofs.lemmas.Slice.Eq.{starts_is}
use Rattle.std.specs.List.{All}
use Rattle.std.specs.Prelude.{◌≢◌, if◌then◌else◌}
use Rattle.im_octet.specs.Fields.{field4}
use Rattle.im_octet.proofs.FieldLemmas.{length-field4, same-field4}
use Rattle.im_model.specs.declared.transactions.Transaction.{Transaction}
use Rattle.im_versions.specs.Versions.{last_version, is_live, is_written, begins_with, IsScan}
use Rattle.im_versions.specs.declared.versions.Version.{Version}
use Rattle.im_sqltype.specs.declared.values.Value.{Value}
use Rattle.im_sqlmodel.specs.Keys.{tables_key, table_key, index_prefix, index_key, mark_key}
use Rattle.im_sqlmodel.specs.Tables.{IsTableIndex, index_text}
use Rattle.im_sqlmodel.specs.Rows.{IsLiveAs, CountIs, TableIs, IsIndexVersion, key_of}
use Rattle.im_sqlmodel.specs.Writes.{entry_written}
use Rattle.im_sqlmodel.specs.Kept.{IsTableOf, IsText, IsSqlSound}
use Rattle.im_sqlmodel.specs.declared.tables.SqlIndex.{SqlIndex}
use Rattle.im_sqlmodel.specs.declared.tables.Table.{Table}
use Rattle.im_sqlmodel.specs.declared.written.Written.{Written}
use Rattle.im_catalog.specs.Found.{HasCountText, SaysCount, HasTableText, SaysTable, HasIndexText}
use Rattle.im_catalog.proofs.CutLemmas.{same-fronts}
use Rattle.im_catalog.proofs.TableLemmas.{tid-cut}

-- what is Ok stays so
pub if-ok : {A E : Type 0} (P Q : A → Type 0) (r : Result A E) → ((x : A) → P x → Q x) → IfOk r P → IfOk r Q
if-ok P Q (Ok x) f p = f x p
if-ok P Q (Err e) f p = tt

-- ---- the second octet of a key says what stands under it

pub second : (key other : List ℕ) → key ≡ other → get_or key 1 0 ≡ get_or other 1 0
second key other e = ap (λ k. get_or k 1 0) e

of-either : (b : Bool) (x y : Written) → get_or x.key 1 0 ≡ 6 → get_or y.key 1 0 ≡ 5
    → (get_or (if b then x else y).key 1 0 ≡ 5) ⊎ (get_or (if b then x else y).key 1 0 ≡ 6)
of-either true x y p q = inr p
of-either false x y p q = inl q

entry-second : (t : Table) (row : List Value) (i : SqlIndex) → (get_or (entry_written t row i).key 1 0 ≡ 5) ⊎ (get_or (entry_written t row i).key 1 0 ≡ 6)
entry-second t row i = of-either i.unique (entry_written t row (record i { unique = true })) (entry_written t row (record i { unique = false })) refl refl

pub entry-is : (n : ℕ) (key : List ℕ) (t : Table) (row : List Value) (i : SqlIndex) → n < 5 → get_or key 1 0 ≡ n → key ≡ (entry_written t row i).key → ⊥
entry-is n key t row i low is e = elim (entry-second t row i) [
  | inl five ↦ (let same : n ≡ 5 = sym is ∙ second key (entry_written t row i).key e ∙ five in omega (arith, same, low))
  | inr six ↦ (let same : n ≡ 6 = sym is ∙ second key (entry_written t row i).key e ∙ six in omega (arith, same, low))
]

pub other-second : (m n : ℕ) (key other : List ℕ) → m ≢ n → get_or key 1 0 ≡ m → get_or other 1 0 ≡ n → key ≡ other → ⊥
other-second m n key other apart p q e = apart (sym p ∙ second key other e ∙ q)

-- ---- the number of tables

count-of-text : (history : List Transaction) (value : List ℕ) → IsText history tables_key value → HasCountText value
count-of-text history value (inl is) = (is.0, is.1, is.3)
count-of-text history value (inr (inl is)) = absurd (other-second 0 1 tables_key (table_key is.0.name) (λ same. omega (arith, same)) refl refl is.2)
count-of-text history value (inr (inr (inl is))) = absurd (other-second 0 2 tables_key (index_key is.0.tid is.1.iid) (λ same. omega (arith, same)) refl refl is.4)
count-of-text history value (inr (inr (inr (inl is)))) = absurd (other-second 0 3 tables_key (mark_key is.0.tid) (λ same. omega (arith, same)) refl refl is.2)
count-of-text history value (inr (inr (inr (inr (inl is))))) = absurd (other-second 0 4 tables_key (key_of is.0 is.1) (λ same. omega (arith, same)) refl refl is.4)
count-of-text history value (inr (inr (inr (inr (inr is))))) = absurd (entry-is 0 tables_key is.0 is.2 is.1 (omega arith) refl is.5)

pub value-found : (history : List Transaction) (key : List ℕ) (v : Version) → Some v ≡ last_version history key → v.deleted ≡ false → IsLiveAs history key v.value
value-found history key v last live = (v, sym last, live, refl)

pub count-there : (history : List Transaction) (v : Version) → IsSqlSound history → Some v ≡ last_version history tables_key → v.deleted ≡ false → HasCountText v.value
count-there history v sound last live =
    count-of-text history v.value (sound.texts (0 ∷ []) v.value (value-found history tables_key v last live))

pub dead : (history : List Transaction) (key : List ℕ) (v : Version) → Some v ≡ last_version history key → v.deleted ≡ true → is_live history key ≡ false
dead history key v last gone = ap is_written (sym last) ∙ ap not gone

pub unwritten : (history : List Transaction) (key : List ℕ) → None ≡ last_version history key → is_live history key ≡ false
unwritten history key none = ap is_written (sym none)

pub count-none : (history : List Transaction) → None ≡ last_version history tables_key → CountIs history 0
count-none history none = inl (unwritten history tables_key none, refl)

pub count-found : (history : List Transaction) (v : Version) (count : ℕ) → Some v ≡ last_version history tables_key → SaysCount v count → CountIs history count
count-found history v count last (inl gone) = inl (dead history tables_key v last gone.0, gone.1)
count-found history v count last (inr live) = inr (live.1, (v, sym last, live.0, live.2))

-- the number is the one that is read
pub count-read : (text rest : List ℕ) (n : ℕ) → HasCountText text → text ≡ field4 n ++ rest → text ≡ field4 n
count-read text rest n has e =
    let same = same-fronts (field4 has.0) (field4 n) [] rest (length-field4 has.0 ∙ sym (length-field4 n)) (append-nil (field4 has.0) ∙ sym has.2 ∙ e) in
    has.2 ∙ same.0

pub count-long : (text : List ℕ) → HasCountText text → length text < 4 → ⊥
count-long text has short = let long : length text ≡ 4 = ap length has.2 ∙ length-field4 has.0 in omega (arith, long, short)

-- ---- tables

table-of-text : (history : List Transaction) (name value : List ℕ) → IsText history (table_key name) value → HasTableText name value
table-of-text history name value (inl is) = absurd (other-second 1 0 (table_key name) tables_key (λ same. omega (arith, same)) refl refl is.2)
table-of-text history name value (inr (inl is)) = (is.0, is.1, ap (λ k. drop 2 k) (sym is.2), is.3)
table-of-text history name value (inr (inr (inl is))) = absurd (other-second 1 2 (table_key name) (index_key is.0.tid is.1.iid) (λ same. omega (arith, same)) refl refl is.4)
table-of-text history name value (inr (inr (inr (inl is)))) = absurd (other-second 1 3 (table_key name) (mark_key is.0.tid) (λ same. omega (arith, same)) refl refl is.2)
table-of-text history name value (inr (inr (inr (inr (inl is))))) = absurd (other-second 1 4 (table_key name) (key_of is.0 is.1) (λ same. omega (arith, same)) refl refl is.4)
table-of-text history name value (inr (inr (inr (inr (inr is))))) = absurd (entry-is 1 (table_key name) is.0 is.2 is.1 (omega arith) refl is.5)

pub table-there : (history : List Transaction) (name : List ℕ) (v : Version) → IsSqlSound history → Some v ≡ last_version history (table_key name) → v.deleted ≡ false → HasTableText name v.value
table-there history name v sound last live =
    table-of-text history name v.value (sound.texts (1 ∷ name) v.value (value-found history (table_key name) v last live))

pub table-none : (history : List Transaction) (name : List ℕ) → None ≡ last_version history (table_key name) → TableIs history name None
table-none history name none = unwritten history (table_key name) none

pub table-found : (history : List Transaction) (name : List ℕ) (v : Version) (found : Option Table) → Some v ≡ last_version history (table_key name) → SaysTable name v found → TableIs history name found
table-found history name v None last gone = dead history (table_key name) v last gone
table-found history name v (Some t) last says = (says.1, says.2, (v, sym last, says.0, says.3))

-- ---- indexes

index-of-text : (history : List Transaction) (t : Table) (v : Version) (rest : List ℕ) → IsSqlSound history → IsTableOf history t → v.key ≡ 0 ∷ 2 ∷ field4 t.tid ++ rest
    → IsText history v.key v.value → HasIndexText t v
index-of-text history t v rest sound of e (inl is) = absurd (other-second 2 0 v.key tables_key (λ same. omega (arith, same)) (second v.key (0 ∷ 2 ∷ field4 t.tid ++ rest) e) refl is.2)
index-of-text history t v rest sound of e (inr (inl is)) =
    absurd (other-second 2 1 v.key (table_key is.0.name) (λ same. omega (arith, same)) (second v.key (0 ∷ 2 ∷ field4 t.tid ++ rest) e) refl is.2)
index-of-text history t v rest sound of e (inr (inr (inl is))) =
    let u : Table = is.0 in
    let i : SqlIndex = is.1 in
    let behind : field4 t.tid ++ rest ≡ field4 u.tid ++ field4 i.iid = ap (λ k. drop 2 k) (sym e ∙ is.4) in
    let tid = tid-cut t.tid u.tid rest (field4 i.iid) of.0.tid.1 is.2.0.tid.1 behind in
    let same : u ≡ t = sound.once u t is.2 of (sym tid.0) in
    (i, subst (λ (w : Table). IsTableIndex w i) same is.3, subst (λ (w : Table). v.key ≡ index_key w.tid i.iid) same is.4, is.5)
index-of-text history t v rest sound of e (inr (inr (inr (inl is)))) =
    absurd (other-second 2 3 v.key (mark_key is.0.tid) (λ same. omega (arith, same)) (second v.key (0 ∷ 2 ∷ field4 t.tid ++ rest) e) refl is.2)
index-of-text history t v rest sound of e (inr (inr (inr (inr (inl is))))) =
    absurd (other-second 2 4 v.key (key_of is.0 is.1) (λ same. omega (arith, same)) (second v.key (0 ∷ 2 ∷ field4 t.tid ++ rest) e) refl is.4)
index-of-text history t v rest sound of e (inr (inr (inr (inr (inr is))))) =
    absurd (entry-is 2 v.key is.0 is.2 is.1 (omega arith) (second v.key (0 ∷ 2 ∷ field4 t.tid ++ rest) e) is.5)

pub begins-is : (prefix key : List ℕ) → begins_with prefix key ≡ true → key ≡ prefix ++ drop (length prefix) key
begins-is prefix key h = (starts_is Decides-eqb key prefix (begins_with prefix key) refl).0 h

index-there : (history : List Transaction) (t : Table) (v : Version) → IsSqlSound history → IsTableOf history t → last_version history v.key ≡ Some v → v.deleted ≡ false
    → begins_with (index_prefix t.tid) v.key ≡ true → HasIndexText t v
index-there history t v sound of last live begins =
    let prefix : List ℕ = index_prefix t.tid in
    let rest : List ℕ = drop (length prefix) v.key in
    let key : v.key ≡ 0 ∷ 2 ∷ field4 t.tid ++ rest = begins-is prefix v.key begins in
    let value : IsLiveAs history (0 ∷ 2 ∷ field4 t.tid ++ rest) v.value = subst (λ k. IsLiveAs history k v.value) key (v, last, live, refl) in
    index-of-text history t v rest sound of key
    (subst (λ k. IsText history k v.value) (sym key) (sound.texts (2 ∷ field4 t.tid ++ rest) v.value value))

pub indexes-there : (history : List Transaction) (t : Table) (shown : List Version) → IsSqlSound history → IsTableOf history t → IsScan history (index_prefix t.tid) shown → All (HasIndexText t) shown
indexes-there history t shown sound of scan = λ k d l.
    index-there history t (get_or shown k d) sound of (scan.live k d l).0 (scan.live k d l).1 (scan.begin k d l)

-- the index that is read is the one that the version is
pub index-said : (t : Table) (v : Version) (i : SqlIndex) (iid : ℕ) (text : List ℕ) → HasIndexText t v → ((tid n : ℕ) → n < 2 ^ 32 → v.key ≡ index_key tid n → iid ≡ n)
    → text ≡ v.value → IsTableIndex t i × (i.iid ≡ iid) × (text ≡ index_text i) → IsIndexVersion t v i
index-said t v i iid text has told lent read =
    let same : i.iid ≡ has.0.iid = read.1 ∙ told t.tid has.0.iid has.1.iid.1 has.2 in
    (read.0, has.2 ∙ ap (index_key t.tid) (sym same), sym lent ∙ read.2)

-- ---- the number in an index's key

pub length-prefix : (tid : ℕ) → length (index_prefix tid) ≡ 6
length-prefix tid = ap (λ n. suc (suc n)) (length-field4 tid)

pub key-long : (key : List ℕ) (tid iid : ℕ) → key ≡ index_key tid iid → 6 ≤ length key
key-long key tid iid e =
    let long : length key ≡ length (index_prefix tid) + length (field4 iid) = ap length e ∙ length-append (index_prefix tid) (field4 iid) in
    omega (arith, long, length-prefix tid)

behind-prefix : (key : List ℕ) (tid iid : ℕ) → key ≡ index_key tid iid → drop 6 key ≡ field4 iid
behind-prefix key tid iid e =
    ap (λ k. drop 6 k) e ∙ ap (λ n. drop n (index_prefix tid ++ field4 iid)) (sym (length-prefix tid)) ∙ drop-append_seam (index_prefix tid) (field4 iid)

pub iid-read : (key : List ℕ) (tid iid n : ℕ) (rest : List ℕ) → iid < 2 ^ 32 → n < 2 ^ 32 → key ≡ index_key tid iid → drop 6 key ≡ field4 n ++ rest → n ≡ iid
iid-read key tid iid n rest p q e read =
    let same = same-fronts (field4 n) (field4 iid) rest [] (length-field4 n ∙ sym (length-field4 iid)) (sym read ∙ behind-prefix key tid iid e ∙ sym (append-nil (field4 iid))) in
    same-field4 n iid q p same.0

pub iid-there : (key : List ℕ) (tid iid : ℕ) → key ≡ index_key tid iid → length (drop 6 key) < 4 → ⊥
iid-there key tid iid e short =
    let long : length (drop 6 key) ≡ 4 = ap length (behind-prefix key tid iid e) ∙ length-field4 iid in
    omega (arith, long, short)

-- The primary key in an entry of an index that isn't unique: behind the columns in its key.
use Rattle.std.proofs.Common.{◌≡◌, ◌≤◌, ◌<◌, ◌+◌, ℕ, zero, suc, Bool, true, false, if◌then◌else◌, List, [], ◌∷◌, ◌++◌, length, drop, get_or, map, Some, None, refl, sym, ap, ◌∙◌, append_assoc, length-append, arith}
use Rattle.std.proofs.lemmas.Bool.{true≢false}
use Rattle.std.proofs.lemmas.List.{length-map}
use Rattle.std.proofs.lemmas.List.Concat.{flat_map-append}
use Rattle.std.proofs.lemmas.List.Elements.{recursion_from_All}
use Rattle.std.proofs.Math.Seq.{drop-append_seam}
use Rattle.std.specs.List.{AllByRecursion}
use Rattle.im_octet.specs.Fields.{field4}
use Rattle.im_octet.proofs.FieldLemmas.{length-field4}
use Rattle.im_versions.specs.declared.versions.Version.{Version}
use Rattle.im_sqltype.specs.Kinds.{AreOfKinds, IsOfKind, kind_of}
use Rattle.im_sqltype.specs.Texts.{value_text, row_text}
use Rattle.im_sqltype.specs.declared.kinds.ValueKind.{ValueKind}
use Rattle.im_sqltype.specs.declared.values.Value.{Value}
use Rattle.im_sqltype.specs.declared.values.Value.TheVariants.{Null}
use Rattle.im_sqltype.proofs.FrontLemmas.{row-front}
use Rattle.im_sqlmodel.specs.Keys.{rows_prefix, plain_prefix}
use Rattle.im_sqlmodel.specs.Tables.{IsTable, IsTableIndex, kinds_of}
use Rattle.im_sqlmodel.specs.Rows.{columns_of}
use Rattle.im_sqlmodel.specs.declared.tables.Column.{Column}
use Rattle.im_sqlmodel.specs.declared.tables.SqlIndex.{SqlIndex}
use Rattle.im_sqlmodel.specs.declared.tables.Table.{Table}
use Rattle.im_sqlmodel.specs.declared.written.Written.{Written}
use Rattle.im_plan.specs.Bounds.{no_table_column}
use Rattle.im_plan.specs.Plans.{IsEntryOfRow, kinds_at, entry_kinds, IsKeyOfEntry, HasPlainKey, IsKeyBehind}

-- ---- kinds

-- the value of a column is of its kind
value-kind : (columns : List Column) (row : List Value) (n : ℕ) → AreOfKinds (map (λ c. kind_of c.holds) columns) row → n < length columns
    → IsOfKind (kind_of (get_or columns n no_table_column).holds) (get_or row n Null)
value-kind [] row n kinds l = absurd (let no : ⊥ = omega (arith, l) in no)
value-kind (c ∷ cs) [] n kinds l = absurd kinds
value-kind (c ∷ cs) (v ∷ vs) zero kinds l = kinds.0
value-kind (c ∷ cs) (v ∷ vs) (suc n) kinds l = value-kind cs vs n kinds.1 (omega (arith, l))

some-kinds : (t : Table) (row : List Value) (numbers : List ℕ) → AreOfKinds (kinds_of t) row → AllByRecursion (λ n. n < length t.columns) numbers → AreOfKinds (kinds_at t numbers) (columns_of row numbers)
some-kinds t row [] kinds below = tt
some-kinds t row (n ∷ ns) kinds below = (value-kind t.columns row n kinds below.0, some-kinds t row ns kinds below.1)

both-kinds : (ks ls : List ValueKind) (vs ws : List Value) → AreOfKinds ks vs → AreOfKinds ls ws → AreOfKinds (ks ++ ls) (vs ++ ws)
both-kinds [] ls [] ws p q = q
both-kinds [] ls (v ∷ vs) ws p q = absurd p
both-kinds (k ∷ ks) ls [] ws p q = absurd p
both-kinds (k ∷ ks) ls (v ∷ vs) ws p q = (p.0, both-kinds ks ls vs ws p.1 q)

-- of an entry: of the index's columns, and then of the primary key's
entry-of-kinds : (t : Table) (i : SqlIndex) (row : List Value) → IsTable t → IsTableIndex t i → AreOfKinds (kinds_of t) row
    → AreOfKinds (entry_kinds t i) (columns_of row i.columns ++ columns_of row t.key)
entry-of-kinds t i row is index kinds =
    both-kinds (kinds_at t i.columns) (kinds_at t t.key) (columns_of row i.columns) (columns_of row t.key)
    (some-kinds t row i.columns kinds (recursion_from_All (λ n. n < length t.columns) i.columns index.columns.each))
    (some-kinds t row t.key kinds (recursion_from_All (λ n. n < length t.columns) t.key is.key.each))

-- ---- texts

row-append : (vs ws : List Value) → row_text (vs ++ ws) ≡ row_text vs ++ row_text ws
row-append vs ws = flat_map-append value_text vs ws

length-plain : (tid iid : ℕ) → length (plain_prefix tid iid) ≡ 10
length-plain tid iid =
    let sum : length (field4 tid ++ field4 iid) ≡ length (field4 tid) + length (field4 iid) = length-append (field4 tid) (field4 iid) in
    omega (arith, sum, length-field4 tid, length-field4 iid)

plain-parts : (b : Bool) (x y : Written) → b ≡ false → (if b then x else y) ≡ y
plain-parts true x y e = absurd (true≢false e)
plain-parts false x y e = refl

unique-parts : (b : Bool) (x y : Written) → b ≡ true → (if b then x else y) ≡ x
unique-parts true x y e = refl
unique-parts false x y e = absurd (true≢false (sym e))

-- ---- the key of a plain entry

pub plain-key : (t : Table) (i : SqlIndex) (v : Version) (row : List Value) → IsTable t → IsTableIndex t i → i.unique ≡ false → IsEntryOfRow t i v row → HasPlainKey i (entry_kinds t i) v.key
plain-key t i v row is index plain entry = (
  plain_prefix t.tid i.iid,
  columns_of row i.columns,
  columns_of row t.key,
  length-plain t.tid i.iid,
  length-map i.columns (λ n. get_or row n Null),
  entry-of-kinds t i row is index entry.0,
  entry.1 ∙ ap (λ (w : Written). w.key) (plain-parts i.unique _ _ plain)
      ∙ append_assoc (plain_prefix t.tid i.iid) (row_text (columns_of row i.columns)) (row_text (columns_of row t.key))
      ∙ ap (λ (s : List ℕ). plain_prefix t.tid i.iid ++ s) (sym (row-append (columns_of row i.columns) (columns_of row t.key))),
)

-- what stands behind the ten octets in front
pub behind-front : (key front : List ℕ) (values : List Value) → length front ≡ 10 → key ≡ front ++ row_text values → drop 10 key ≡ row_text values
behind-front key front values ten e =
    ap (λ (k : List ℕ). drop 10 k) e ∙ ap (λ (n : ℕ). drop n (front ++ row_text values)) (sym ten) ∙ drop-append_seam front (row_text values)

pub key-long : (key front : List ℕ) (values : List Value) → length front ≡ 10 → key ≡ front ++ row_text values → 10 ≤ length key
key-long key front values ten e =
    let long : length key ≡ length front + length (row_text values) = ap length e ∙ length-append front (row_text values) in
    omega (arith, long, ten)

-- the values that are read are those, and behind the columns stand the primary key's
pub values-read : (i : SqlIndex) (kinds : List ValueKind) (key : List ℕ) (read : List Value) (front : List ℕ) (columns primary : List Value) → length front ≡ 10
    → AreOfKinds kinds (columns ++ primary) → key ≡ front ++ row_text (columns ++ primary) → AreOfKinds kinds read → drop 10 key ≡ row_text read → read ≡ columns ++ primary
values-read i kinds key read front columns primary ten are e of text =
    (row-front kinds read (columns ++ primary) [] [] of are
    (ap (λ (r : List ℕ). r ++ []) (sym text ∙ behind-front key front (columns ++ primary) ten e))).0

pub primary-behind : (i : SqlIndex) (kinds : List ValueKind) (key : List ℕ) (read : List Value) → AreOfKinds kinds read → drop 10 key ≡ row_text read
    → (text : List ℕ) → text ≡ row_text (drop (length i.columns) read) → IsKeyBehind i kinds key text
primary-behind i kinds key read of says text is = λ front columns primary ten count are e.
    let same : read ≡ columns ++ primary = values-read i kinds key read front columns primary ten are e of says in
    is ∙ ap (λ (vs : List Value). row_text (drop (length i.columns) vs)) same
    ∙ ap (λ (n : ℕ). row_text (drop n (columns ++ primary))) (sym count)
    ∙ ap row_text (drop-append_seam columns primary)

pub columns-within : (i : SqlIndex) (kinds : List ValueKind) (key : List ℕ) (read : List Value) → HasPlainKey i kinds key → AreOfKinds kinds read → drop 10 key ≡ row_text read
    → length i.columns ≤ length read
columns-within i kinds key read has of says =
    let same : read ≡ has.1 ++ has.2 = values-read i kinds key read has.0 has.1 has.2 has.3 has.5 has.6 of says in
    let long : length read ≡ length has.1 + length has.2 = ap length same ∙ length-append has.1 has.2 in
    let count : length has.1 ≡ length i.columns = has.4 in
    omega (arith, long, count)

-- ---- the key of an entry's row

pub unique-key : (t : Table) (i : SqlIndex) (v : Version) (key : List ℕ) → i.unique ≡ true → key ≡ rows_prefix t.tid ++ v.value → IsKeyOfEntry t i v key
unique-key t i v key unique is = λ row entry.
    let value : Some v.value ≡ Some (row_text (columns_of row t.key)) = entry.2 ∙ ap (λ (w : Written). w.value) (unique-parts i.unique _ _ unique) in
    is ∙ ap (λ (s : List ℕ). rows_prefix t.tid ++ s) (some-same v.value (row_text (columns_of row t.key)) value)
  where
    some-same : (a b : List ℕ) → Some a ≡ Some b → a ≡ b
    some-same a b e = ap (λ o. elim o [ Some z ↦ z | None ↦ a ]) e

pub plain-key-behind : (t : Table) (i : SqlIndex) (v : Version) (key text : List ℕ) → IsTable t → IsTableIndex t i → i.unique ≡ false → IsKeyBehind i (entry_kinds t i) v.key text
    → key ≡ rows_prefix t.tid ++ text → IsKeyOfEntry t i v key
unfolding plain-key
plain-key-behind t i v key text is index plain behind says = λ row entry.
    let has = plain-key t i v row is index plain entry in
    says ∙ ap (λ (s : List ℕ). rows_prefix t.tid ++ s) (behind has.0 has.1 has.2 has.3 has.4 has.5 has.6)

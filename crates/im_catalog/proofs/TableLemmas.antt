-- Tables and indexes by their parts.
use Rattle.std.proofs.Common.{◌≡◌, ◌≢◌, ◌≤◌, ◌<◌, ◌+◌, ◌^◌, ℕ, Bool, true, true≢false, ◌||◌, inl, inr, List, [], ◌∷◌, ◌++◌, length, get_or, refl, sym, ap, ◌∙◌, subst, append_assoc, length-append, eqb, arith}
use Rattle.std.specs.List.{AllByRecursion, list_any}
use Rattle.std.proofs.lemmas.List.{append-nil}
use Rattle.std.proofs.lemmas.List.Elements.{recursion_from_All}
use Rattle.std.proofs.lemmas.Map.Steps.{length-le_from_distinct_below}
use Rattle.std.proofs.lemmas.Map.Made.{IsDistinct-from_AllPairs}
use Rattle.std.proofs.lemmas.Bool.Decides.{Decides-eqb, eqb_tells}
use Rattle.im_octet.specs.Fields.{field2, field4}
use Rattle.im_octet.proofs.FieldLemmas.{length-field4, same-field4}
use Rattle.im_sqlmodel.specs.Tables.{AreColumns, IsTable, column_text, numbers_text, table_text, index_text}
use Rattle.im_sqlmodel.specs.declared.tables.Column.{Column}
use Rattle.im_sqlmodel.specs.declared.tables.SqlIndex.{SqlIndex}
use Rattle.im_sqlmodel.specs.declared.tables.Table.{Table}
use Rattle.im_catalog.specs.Fronts.{StandsFirst, NoneStandsFirst, AreMany}
use Rattle.im_catalog.specs.Parts.{IsFlag, flag_text, FitsFour, FitsTwo, AreColumnNumbers, IsColumn, columns_text, IsReadTable, HasNoNumbers, HasParts, HasNoParts, HasIndexParts, HasNoIndexParts}
use Rattle.im_catalog.proofs.CutLemmas.{Cuts, same-fronts, many-cut}
use Rattle.im_catalog.proofs.PartLemmas.{number-cut, flag-cut}
use Rattle.im_catalog.proofs.ColumnLemmas.{column-cut, list-cut}
use Rattle.im_octet.proofs.Common.{no-octets}

-- ---- the number of a table

pub tid-stands : (n : ℕ) (text rest : List ℕ) → n < 2 ^ 32 → text ≡ field4 n ++ rest → StandsFirst FitsFour field4 text n rest
tid-stands n text rest p e = record { is = p; split = e }

pub tid-none : (text : List ℕ) → length text < 4 → NoneStandsFirst FitsFour field4 text
tid-none text short = record {
  none = λ n rest p e.
      let same : length text ≡ length (field4 n) + length rest = ap length e ∙ length-append (field4 n) rest in
      omega (arith, same, short, length-field4 n);
}

pub tid-cut : Cuts FitsFour field4
tid-cut m n a b p q e =
    let parts = same-fronts (field4 m) (field4 n) a b (length-field4 m ∙ sym (length-field4 n)) e in
    (same-field4 m n p q parts.0, parts.1)

pub ruleset tids = (tid-stands, tid-none)

-- ---- numbers behind which no-octets stands

pub key-is : (text rest numbers : List ℕ) → StandsFirst AreColumnNumbers numbers_text text numbers rest → length rest ≡ 0 → AreColumnNumbers numbers × (text ≡ numbers_text numbers)
key-is text rest numbers stands none = (stands.is, stands.split ∙ ap (λ s. numbers_text numbers ++ s) (no-octets rest none) ∙ append-nil (numbers_text numbers))

pub key-none : (text : List ℕ) → NoneStandsFirst AreColumnNumbers numbers_text text → HasNoNumbers text
key-none text absent = record { none = λ numbers p e. absent.none numbers [] p (e ∙ sym (append-nil (numbers_text numbers))) }

pub key-none_behind : (text rest numbers : List ℕ) → StandsFirst AreColumnNumbers numbers_text text numbers rest → length rest ≢ 0 → HasNoNumbers text
key-none_behind text rest numbers stands more = record {
  none = λ others p e.
      more (ap length (list-cut numbers others rest [] stands.is p (sym stands.split ∙ e ∙ sym (append-nil (numbers_text others)))).1);
}

pub ruleset keys = (key-is, key-none, key-none_behind)

-- ---- tables

-- what is behind a table's number
abbrev behind_text : Table → List ℕ
behind_text t = field2 (length t.columns) ++ (columns_text t.columns ++ numbers_text t.key)

table-parts : (t : Table) → table_text t ≡ field4 t.tid ++ behind_text t
table-parts t =
    append_assoc (field4 t.tid ++ field2 (length t.columns)) (columns_text t.columns) (numbers_text t.key)
    ∙ append_assoc (field4 t.tid) (field2 (length t.columns)) (columns_text t.columns ++ numbers_text t.key)

pub parts-none_without_tid : (text : List ℕ) → NoneStandsFirst FitsFour field4 text → HasNoParts text
parts-none_without_tid text absent = record {
  none = λ t is e. absent.none t.tid (behind_text t) is.tid (e ∙ table-parts t);
}

behind-tid : (text more : List ℕ) (tid : ℕ) (t : Table) → StandsFirst FitsFour field4 text tid more → IsReadTable t → text ≡ table_text t
    → (tid ≡ t.tid) × (more ≡ behind_text t)
behind-tid text more tid t stands is e =
    tid-cut tid t.tid more (behind_text t) stands.is is.tid (sym stands.split ∙ e ∙ table-parts t)

pub parts-none_without_count : (text more : List ℕ) (tid : ℕ) → StandsFirst FitsFour field4 text tid more → NoneStandsFirst FitsTwo field2 more → HasNoParts text
parts-none_without_count text more tid stands absent = record {
  none = λ t is e. absent.none (length t.columns) (columns_text t.columns ++ numbers_text t.key) is.few (behind-tid text more tid t stands is e).1;
}

behind-count : (text more left : List ℕ) (tid count : ℕ) (t : Table) → StandsFirst FitsFour field4 text tid more → StandsFirst FitsTwo field2 more count left → IsReadTable t → text ≡ table_text t
    → (count ≡ length t.columns) × (left ≡ columns_text t.columns ++ numbers_text t.key)
behind-count text more left tid count t stands number is e =
    number-cut count (length t.columns) left (columns_text t.columns ++ numbers_text t.key) number.is is.few (sym number.split ∙ (behind-tid text more tid t stands is e).1)

pub parts-none_without_columns : (text more left : List ℕ) (tid count : ℕ) → StandsFirst FitsFour field4 text tid more → StandsFirst FitsTwo field2 more count left
    → NoneStandsFirst (AreMany IsColumn count) columns_text left → HasNoParts text
parts-none_without_columns text more left tid count stands number absent = record {
  none = λ t is e.
      let front = behind-count text more left tid count t stands number is e in
      absent.none t.columns (numbers_text t.key) (sym front.0, is.columns) front.1;
}

pub parts-none_without_key : (text more left last : List ℕ) (tid count : ℕ) (columns : List Column) → StandsFirst FitsFour field4 text tid more → StandsFirst FitsTwo field2 more count left
    → StandsFirst (AreMany IsColumn count) columns_text left columns last → HasNoNumbers last → HasNoParts text
parts-none_without_key text more left last tid count columns stands number made absent = record {
  none = λ t is e.
      let front = behind-count text more left tid count t stands number is e in
      absent.none t.key is.key
      (many-cut IsColumn column_text count column-cut columns t.columns last (numbers_text t.key) made.is (sym front.0, is.columns) (sym made.split ∙ front.1)).1;
}

pub parts-stand : (text more left last name key : List ℕ) (tid count : ℕ) (columns : List Column) → StandsFirst FitsFour field4 text tid more → StandsFirst FitsTwo field2 more count left
    → StandsFirst (AreMany IsColumn count) columns_text left columns last → AreColumnNumbers key × (last ≡ numbers_text key)
    → HasParts name text (record { tid = tid; name = name; columns = columns; key = key })
parts-stand text more left last name key tid count columns stands number made found = record {
  is = record { tid = stands.is; few = subst (λ n. n < 2 ^ 16) (sym made.is.0) number.is; columns = made.is.1; key = found.0 };
  named = refl;
  says =
      stands.split
      ∙ ap (λ s. field4 tid ++ s) (number.split ∙ (λ i. field2 (sym made.is.0 i) ++ left) ∙ ap (λ s. field2 (length columns) ++ s) (made.split ∙ ap (λ s. columns_text columns ++ s) found.1))
      ∙ sym (table-parts (record { tid = tid; name = name; columns = columns; key = key }));
}

pub ruleset parts = (parts-none_without_tid, parts-none_without_count, parts-none_without_columns, parts-none_without_key, parts-stand)

-- two of one name and one text are one
pub one-table : (name text : List ℕ) (t u : Table) → HasParts name text t → IsReadTable u → u.name ≡ name → text ≡ table_text u → t ≡ u
one-table name text t u has is called e =
    let tid = tid-cut t.tid u.tid (behind_text t) (behind_text u) has.is.tid is.tid (sym (table-parts t) ∙ sym has.says ∙ e ∙ table-parts u) in
    let count = number-cut (length t.columns) (length u.columns) (columns_text t.columns ++ numbers_text t.key) (columns_text u.columns ++ numbers_text u.key) has.is.few is.few tid.1 in
    let columns = many-cut IsColumn column_text (length u.columns) column-cut t.columns u.columns (numbers_text t.key) (numbers_text u.key) (count.0, has.is.columns) (refl, is.columns) count.1 in
    let key = list-cut t.key u.key [] [] has.is.key is.key (append-nil (numbers_text t.key) ∙ columns.1 ∙ sym (append-nil (numbers_text u.key))) in
    let called-same : t.name ≡ u.name = has.named ∙ sym called in
    λ i. record { tid = tid.0 i; name = called-same i; columns = columns.0 i; key = key.0 i }

-- ---- what tables and indexes may be is read

below-any : (count q : ℕ) (ns : List ℕ) → AllByRecursion (λ n. n < count) ns → list_any (eqb q) ns ≡ true → q < count
below-any count q [] all found = absurd (true≢false (sym found))
below-any count q (n ∷ ns) all found = elim (eqb_tells q n) [
  | inl is ↦ (let same : q ≡ n = is.1 in let below : n < count = all.0 in omega (arith, same, below))
  | inr isnt ↦ below-any count q ns all.1 (ap (λ (b : Bool). b || list_any (eqb q) ns) (sym isnt.0) ∙ found)
]

pub few-numbers : (count : ℕ) (numbers : List ℕ) → AreColumns count numbers → length numbers ≤ count
few-numbers count numbers are = length-le_from_distinct_below numbers count (IsDistinct-from_AllPairs Decides-eqb numbers are.distinct) (λ q found. below-any count q numbers (recursion_from_All (λ n. n < count) numbers are.each) found)

pub columns-read : (count : ℕ) (numbers : List ℕ) → count ≤ 64 → AreColumns count numbers → AreColumnNumbers numbers
columns-read count numbers few are = (
  (let short : length numbers ≤ count = few-numbers count numbers are in omega (arith, short, few)),
  λ i d l. (let below : get_or numbers i d < count = are.each i d l in omega (arith, below, few)),
)

pub table-read : (t : Table) → IsTable t → IsReadTable t
table-read t is = record {
  tid = is.tid.1;
  few = (let few : length t.columns ≤ 64 = is.few in omega (arith, few));
  columns = is.columns;
  key = columns-read (length t.columns) t.key is.few is.key;
}

-- ---- indexes

pub index-none_without_flag : (text : List ℕ) → NoneStandsFirst IsFlag flag_text text → HasNoIndexParts text
index-none_without_flag text absent = record { none = λ i p e. absent.none i.unique (numbers_text i.columns) tt e }

pub index-none_without_columns : (text more : List ℕ) (unique : Bool) → StandsFirst IsFlag flag_text text unique more → HasNoNumbers more → HasNoIndexParts text
index-none_without_columns text more unique stands absent = record {
  none = λ i p e. absent.none i.columns p (flag-cut unique i.unique more (numbers_text i.columns) tt tt (sym stands.split ∙ e)).1;
}

pub index-stands : (text more columns : List ℕ) (unique : Bool) (iid : ℕ) → StandsFirst IsFlag flag_text text unique more → AreColumnNumbers columns × (more ≡ numbers_text columns)
    → HasIndexParts iid text (record { iid = iid; unique = unique; columns = columns })
index-stands text more columns unique iid stands found = record {
  columns = found.0;
  numbered = refl;
  says = stands.split ∙ ap (λ s. flag_text unique ++ s) found.1;
}

pub ruleset indexes = (index-none_without_flag, index-none_without_columns, index-stands)

pub one-index : (iid : ℕ) (text : List ℕ) (i j : SqlIndex) → HasIndexParts iid text i → AreColumnNumbers j.columns → j.iid ≡ iid → text ≡ index_text j → i ≡ j
one-index iid text i j has p called e =
    let flag = flag-cut i.unique j.unique (numbers_text i.columns) (numbers_text j.columns) tt tt (sym has.says ∙ e) in
    let columns = list-cut i.columns j.columns [] [] has.columns p (append-nil (numbers_text i.columns) ∙ flag.1 ∙ sym (append-nil (numbers_text j.columns))) in
    let called-same : i.iid ≡ j.iid = has.numbered ∙ sym called in
    λ k. record { iid = called-same k; unique = flag.0 k; columns = columns.0 k }

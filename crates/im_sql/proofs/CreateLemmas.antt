-- A table or an index that a statement makes is one.
use Rattle.std.proofs.Common.{◌≡◌, ◌≢◌, ◌≤◌, ◌<◌, ◌+◌, ◌-◌, ◌^◌, ◌||◌, ℕ, Bool, true, false, not, cond, List, [], ◌∷◌, ◌++◌, length, map, get_or, find, bytes_eq, unwrap_or, position, Option, Some, None, is_some, refl, sym, ap, ap₂, ◌∙◌, subst, arith}
use Rattle.std.proofs.lemmas.Bool.{true≢false, lt-ltb, not-false, or_parts}
use Rattle.std.proofs.lemmas.List.{length-map}
use Rattle.std.proofs.lemmas.List.Elements.{All-from_recursion, recursion_from_All}
use Rattle.std.proofs.lemmas.List.Quantifiers.{position-Some}
use Rattle.std.proofs.lemmas.Slice.Eq.{bytes_eq-Decides}
use Rattle.std.specs.List.{AllByRecursion, list_any, position_or_len}
use Rattle.std.specs.Option.{option_or}
use Rattle.im_sqlparse.specs.Formed.{IsName, IsDeclared, IsDefinition, IsCreateTable, IsCreateIndex}
use Rattle.im_sqlparse.specs.declared.statements.ColumnDefinition.{ColumnDefinition}
use Rattle.im_sqlparse.specs.declared.statements.CreateIndex.{CreateIndex}
use Rattle.im_sqlparse.specs.declared.statements.CreateTable.{CreateTable}
use Rattle.im_sqlparse.specs.declared.statements.DeclaredType.{DeclaredType}
use Rattle.im_sqlparse.specs.declared.statements.DeclaredType.TheVariants as holds
use Rattle.im_sqlmodel.specs.Creations.{twice_behind, twice_fault, column_fault, column_number, names_in, column_of, type_of, table_made, index_made, create_fault}
use Rattle.im_sqlmodel.specs.Tables.{AreColumns, IsTyped, IsTable, IsTableIndex, table_names}
use Rattle.im_sqlmodel.specs.declared.answers.SqlError.TheVariants as error
use Rattle.im_sqlmodel.specs.declared.tables.Column.{Column}
use Rattle.im_sqlmodel.specs.declared.tables.SqlIndex.{SqlIndex}
use Rattle.im_sqlmodel.specs.declared.tables.Table.{Table}
use Rattle.im_sql.proofs.NextLemmas.{Apart, pairs-from, find-none, or-none, map-none}

abbrev Differ : List ℕ → List ℕ → Type 0
Differ a b = a ≢ b

-- ---- names of which none stands twice

any-apart : (name : List ℕ) (names : List (List ℕ)) → list_any (bytes_eq name) names ≡ false → AllByRecursion (λ (other : List ℕ). bytes_eq name other ≡ false) names
any-apart name [] e = tt
any-apart name (x ∷ xs) e = (let parts = or_parts (bytes_eq name x) (list_any (bytes_eq name) xs) e in (parts.0, any-apart name xs parts.1))

-- the last of a list
all-last : (P : List ℕ → Type 0) (xs : List (List ℕ)) (x : List ℕ) → AllByRecursion P (xs ++ x ∷ []) → AllByRecursion P xs × P x
all-last P [] x all = (tt, all.0)
all-last P (y ∷ ys) x all = (let rest = all-last P ys x all.1 in ((all.0, rest.0), rest.1))

if-some : {A : Type 0} (b : Bool) (x : A) (rest : Option A) → cond b (Some x) rest ≡ None → (b ≡ false) × (rest ≡ None)
if-some true x rest e = absurd (true≢false (ap (λ o. is_some o) e))
if-some false x rest e = (refl, e)

-- each name is none of those before it
behind-apart : (before names : List (List ℕ)) → twice_behind before names ≡ None → AllByRecursion (λ (name : List ℕ). AllByRecursion (λ (other : List ℕ). bytes_eq name other ≡ false) before) names × Apart Differ names
behind-apart before [] e = (tt, tt)
behind-apart before (name ∷ names) e =
    let parts = if-some (list_any (bytes_eq name) before) name (twice_behind (before ++ name ∷ []) names) e in
    let rest = behind-apart (before ++ name ∷ []) names parts.1 in
    ((any-apart name before parts.0, fronts names rest.0), (lasts names rest.0, rest.1))
  where
    fronts : (others : List (List ℕ)) → AllByRecursion (λ (n : List ℕ). AllByRecursion (λ (other : List ℕ). bytes_eq n other ≡ false) (before ++ name ∷ [])) others
        → AllByRecursion (λ (n : List ℕ). AllByRecursion (λ (other : List ℕ). bytes_eq n other ≡ false) before) others
    fronts [] all = tt
    fronts (n ∷ ns) all = ((all-last (λ (other : List ℕ). bytes_eq n other ≡ false) before name all.0).0, fronts ns all.1)

    lasts : (others : List (List ℕ)) → AllByRecursion (λ (n : List ℕ). AllByRecursion (λ (other : List ℕ). bytes_eq n other ≡ false) (before ++ name ∷ [])) others → AllByRecursion (Differ name) others
    lasts [] all = tt
    lasts (n ∷ ns) all = (
      (λ same. true≢false (sym ((bytes_eq-Decides n name).1 (sym same)) ∙ (all-last (λ (other : List ℕ). bytes_eq n other ≡ false) before name all.0).1)),
      lasts ns all.1,
    )

pub once-apart : (names : List (List ℕ)) → twice_fault names ≡ None → Apart Differ names
once-apart names e = (behind-apart [] names (map-none error.Twice (twice_behind [] names) e)).1

-- ---- the numbers of names

pub place-below : (p : List ℕ → Bool) (xs : List (List ℕ)) → list_any p xs ≡ true → position_or_len p xs < length xs
place-below p [] e = absurd (true≢false (sym e))
place-below p (x ∷ xs) e = elim (p x) as (λ (b : Bool). (b || list_any p xs) ≡ true → cond (not b) (1 + position_or_len p xs) 0 < length (x ∷ xs)) [
  | true ↦ λ f. omega arith
  | false ↦ λ f. (let less : position_or_len p xs < length xs = place-below p xs f in omega (arith, less))
] e

number-is : (columns : List (List ℕ)) (name : List ℕ) → list_any (bytes_eq name) columns ≡ true
    → (column_number columns name < length columns) × (name ≡ get_or columns (column_number columns name) [])
number-is columns name e =
    let k : ℕ = position_or_len (bytes_eq name) columns in
    let less : k < length columns = place-below (bytes_eq name) columns e in
    let some : position (bytes_eq name) columns ≡ Some k = ap (λ (b : Bool). cond b (Some k) None) (lt-ltb k (length columns) less) in
    let number : k ≡ column_number columns name = sym (ap (λ (o : Option ℕ). unwrap_or o 0) some) in
    let at = position-Some (bytes_eq name) columns k [] some in (
      subst (λ (n : ℕ). n < length columns) number less,
      subst (λ (n : ℕ). name ≡ get_or columns n []) number ((bytes_eq-Decides name (get_or columns k [])).0 at.1),
    )

numbers-each : (columns names : List (List ℕ)) → AllByRecursion (λ (name : List ℕ). list_any (bytes_eq name) columns ≡ true) names → AllByRecursion (λ n. n < length columns) (map (column_number columns) names)
numbers-each columns [] all = tt
numbers-each columns (name ∷ names) all = ((number-is columns name all.0).0, numbers-each columns names all.1)

numbers-apart : (columns names : List (List ℕ)) → AllByRecursion (λ (name : List ℕ). list_any (bytes_eq name) columns ≡ true) names → Apart Differ names
    → Apart (λ (a b : ℕ). a ≢ b) (map (column_number columns) names)
numbers-apart columns [] all h = tt
numbers-apart columns (name ∷ names) all h = (others names all.1 h.0, numbers-apart columns names all.1 h.1)
  where
    others : (ns : List (List ℕ)) → AllByRecursion (λ (n : List ℕ). list_any (bytes_eq n) columns ≡ true) ns → AllByRecursion (Differ name) ns
        → AllByRecursion (λ m. column_number columns name ≢ m) (map (column_number columns) ns)
    others [] found apart = tt
    others (n ∷ ns) found apart = (
      (λ same. apart.0 ((number-is columns name all.0).1 ∙ ap (λ (k : ℕ). get_or columns k []) same ∙ sym (number-is columns n found.0).1)),
      others ns found.1 apart.1,
    )

found-all : (columns names : List (List ℕ)) → column_fault columns names ≡ None → AllByRecursion (λ (name : List ℕ). list_any (bytes_eq name) columns ≡ true) names
found-all columns names e = each names (find-none (λ (name : List ℕ). not (list_any (bytes_eq name) columns)) names (map-none error.NoColumn (find (λ (name : List ℕ). not (list_any (bytes_eq name) columns)) names) e))
  where
    each : (ns : List (List ℕ)) → AllByRecursion (λ (n : List ℕ). not (list_any (bytes_eq n) columns) ≡ false) ns → AllByRecursion (λ (n : List ℕ). list_any (bytes_eq n) columns ≡ true) ns
    each [] all = tt
    each (n ∷ ns) all = (not-false (list_any (bytes_eq n) columns) all.0, each ns all.1)

pub numbers-are : (columns names : List (List ℕ)) → 1 ≤ length names → column_fault columns names ≡ None → twice_fault names ≡ None → AreColumns (length columns) (map (column_number columns) names)
numbers-are columns names some found once = record {
  some = (let same : length (map (column_number columns) names) ≡ length names = length-map names (column_number columns) in omega (arith, same, some));
  each = All-from_recursion (λ n. n < length columns) (map (column_number columns) names) (numbers-each columns names (found-all columns names found));
  distinct = pairs-from (λ (a b : ℕ). a ≢ b) (map (column_number columns) names) (numbers-apart columns names (found-all columns names found) (once-apart names once));
}

-- ---- a table

typed : (d : DeclaredType) → IsDeclared d → IsTyped (type_of d)
typed holds.Integer is = tt
typed holds.Boolean is = tt
typed (holds.Varchar n) is = is
typed (holds.Blob n) is = is

columns-typed : (definitions : List ColumnDefinition) → AllByRecursion IsDefinition definitions → AllByRecursion (λ (c : Column). IsName c.name × IsTyped c.holds) (map column_of definitions)
columns-typed [] all = tt
columns-typed (d ∷ ds) all = ((all.0.0, typed d.holds all.0.1), columns-typed ds all.1)

columns-apart : (definitions : List ColumnDefinition) → Apart Differ (names_in definitions) → Apart (λ (a b : Column). a.name ≢ b.name) (map column_of definitions)
columns-apart [] h = tt
columns-apart (d ∷ ds) h = (others ds h.0, columns-apart ds h.1)
  where
    others : (es : List ColumnDefinition) → AllByRecursion (Differ d.name) (names_in es) → AllByRecursion (λ (c : Column). d.name ≢ c.name) (map column_of es)
    others [] all = tt
    others (e ∷ es) all = (all.0, others es all.1)

pub table-made : (count : ℕ) (c : CreateTable) → count < 2 ^ 32 - 1 → IsCreateTable c → create_fault c ≡ None → IsTable (table_made count c)
table-made count c low is right =
    let first = or-none (twice_fault (names_in c.columns)) (option_or (column_fault (names_in c.columns) c.key) (twice_fault c.key)) right in
    let second = or-none (column_fault (names_in c.columns) c.key) (twice_fault c.key) first.1 in
    let long : length (map column_of c.columns) ≡ length c.columns = length-map c.columns column_of in
    let names : length (names_in c.columns) ≡ length c.columns = length-map c.columns (λ (d : ColumnDefinition). d.name) in
    let some : 1 ≤ length c.columns = is.some in
    let few : length c.columns ≤ 64 = is.few in
    let numbers = numbers-are (names_in c.columns) c.key is.key.0 second.0 second.1 in
    record {
      tid = (omega arith, omega (arith, low));
      name = is.table;
      some = omega (arith, long, some);
      few = omega (arith, long, few);
      columns = All-from_recursion (λ (x : Column). IsName x.name × IsTyped x.holds) (map column_of c.columns) (columns-typed c.columns (recursion_from_All IsDefinition c.columns is.columns));
      distinct = pairs-from (λ (a b : Column). a.name ≢ b.name) (map column_of c.columns) (columns-apart c.columns (once-apart (names_in c.columns) first.0));
      key = subst (λ (n : ℕ). AreColumns n (map (column_number (names_in c.columns)) c.key)) (names ∙ sym long) numbers;
    }

-- ---- an index

abbrev index_of : ℕ → Bool → List ℕ → SqlIndex
index_of count unique numbers = record { iid = count + 1; unique = unique; columns = numbers }

-- it is made of the numbers of its names
pub index-is : (count : ℕ) (t : Table) (c : CreateIndex) (columns names : List (List ℕ)) (numbers : List ℕ) → columns ≡ table_names t → names ≡ c.columns → numbers ≡ map (column_number columns) names
    → index_of count c.unique numbers ≡ index_made count t c
index-is count t c columns names numbers p q e = ap (index_of count c.unique) (e ∙ ap₂ (λ (cs ns : List (List ℕ)). map (column_number cs) ns) p q)

pub index-made : (count : ℕ) (t : Table) (c : CreateIndex) → count < 2 ^ 32 - 1 → IsCreateIndex c → option_or (column_fault (table_names t) c.columns) (twice_fault c.columns) ≡ None
    → IsTableIndex t (index_made count t c)
index-made count t c low is right =
    let parts = or-none (column_fault (table_names t) c.columns) (twice_fault c.columns) right in
    let long : length (table_names t) ≡ length t.columns = length-map t.columns (λ (x : Column). x.name) in
    record {
      iid = (omega arith, omega (arith, low));
      columns = subst (λ (n : ℕ). AreColumns n (map (column_number (table_names t)) c.columns)) long (numbers-are (table_names t) c.columns is.columns.0 parts.0 parts.1);
    }

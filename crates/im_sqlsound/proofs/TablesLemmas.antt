-- Tables that live keys say, one by one and all together.
use Rattle.std.proofs.Common.{◌≡◌, ℕ, List, [], ◌∷◌, drop, refl, sym, ap, ◌∙◌}
use Rattle.std.proofs.lemmas.List.Elements.{All-from_recursion, recursion_from_All}
use Rattle.std.specs.List.{AllByRecursion, AllZip}
use Rattle.im_versions.specs.declared.versions.Version.{Version}
use Rattle.im_sqlmodel.specs.Tables.{table_text}
use Rattle.im_sqlmodel.specs.declared.tables.Table.{Table}
use Rattle.im_catalog.specs.Parts.{HasParts}
use Rattle.im_catalog.proofs.TableLemmas.{one-table, table-read}
use Rattle.im_sqlsound.specs.Sounding.{kind_shown, IsTableVersion, IsFound, IsFoundBy, AreFound}
use Rattle.im_sqlsound.specs.declared.found.TableFound.{TableFound}

-- a version says one table
pub one-version : (v : Version) (t u : Table) → IsTableVersion v t → IsTableVersion v u → t ≡ u
one-version v t u a b =
    let names : u.name ≡ t.name = ap (λ (k : List ℕ). drop 2 k) (sym b.1 ∙ a.1) in
    let has : HasParts t.name (table_text t) t = record { is = table-read t a.0; named = refl; says = refl } in
    one-table t.name (table_text t) t u has (table-read u b.0) names (sym a.2 ∙ b.2)

all-zip : {A B : Type 0} (P : B → Type 0) (R : A → B → Type 0) (xs : List A) (ys : List B) → AllZip (λ x y. R x y × P y) xs ys → AllByRecursion P ys
all-zip P R [] [] zip = tt
all-zip P R [] (y ∷ ys) zip = absurd zip
all-zip P R (x ∷ xs) [] zip = absurd zip
all-zip P R (x ∷ xs) (y ∷ ys) zip = (zip.0.1, all-zip P R xs ys zip.1)

zip-first : {A B : Type 0} (P : B → Type 0) (R : A → B → Type 0) (xs : List A) (ys : List B) → AllZip (λ x y. R x y × P y) xs ys → AllZip R xs ys
zip-first P R [] [] zip = tt
zip-first P R [] (y ∷ ys) zip = absurd zip
zip-first P R (x ∷ xs) [] zip = absurd zip
zip-first P R (x ∷ xs) (y ∷ ys) zip = (zip.0.0, zip-first P R xs ys zip.1)

zip-both : {A B : Type 0} (P : B → Type 0) (R : A → B → Type 0) (xs : List A) (ys : List B) → AllZip R xs ys → AllByRecursion P ys → AllZip (λ x y. R x y × P y) xs ys
zip-both P R [] [] zip all = tt
zip-both P R [] (y ∷ ys) zip all = absurd zip
zip-both P R (x ∷ xs) [] zip all = absurd zip
zip-both P R (x ∷ xs) (y ∷ ys) zip all = ((zip.0, all.0), zip-both P R xs ys zip.1 all.1)

abbrev says : Version → TableFound → Type 0
says v f = IsTableVersion v f.table

pub found-whole : (shown : List Version) (fs : List TableFound) → AllZip (IsFoundBy shown) (kind_shown 1 shown) fs → AreFound shown fs
found-whole shown fs zip = record {
  tables = zip-first (IsFound shown) says (kind_shown 1 shown) fs zip;
  each = All-from_recursion (IsFound shown) fs (all-zip (IsFound shown) says (kind_shown 1 shown) fs zip);
}

pub found-zip : (shown : List Version) (fs : List TableFound) → AreFound shown fs → AllZip (IsFoundBy shown) (kind_shown 1 shown) fs
found-zip shown fs found = zip-both (IsFound shown) says (kind_shown 1 shown) fs found.tables (recursion_from_All (IsFound shown) fs found.each)

-- Names have no LF, nor what is told of them.
use Rattle.std.proofs.Common.{ℕ, Bool, true, false, if◌then◌else◌, List, [], ◌∷◌, ◌++◌, Option, Some, None, Result, Ok, Err, inl, inr, refl, subst, sym, bytes_eq}
use Rattle.std.proofs.lemmas.List.Sums.{list_all-from_AllPass}
use Rattle.std.specs.List.{AllByRecursion, find, list_any}
use Rattle.std.specs.Option.{option_or}
use Rattle.std.specs.Prelude.{⊤, option_map}
use Rattle.im_text.specs.Cuts.{Lacks}
use Rattle.im_text.proofs.CutLemmas.{Lacks-of}
use Rattle.im_sqlparse.specs.Formed.{is_name_octet, IsName, IsColumnName}
use Rattle.im_sqlmodel.specs.Options.{by_option, first_found, ok_then}
use Rattle.im_sqlmodel.specs.Creations.{twice_behind}
use Rattle.im_sqlmodel.specs.declared.answers.SqlError.{SqlError}
use Rattle.im_sqlmodel.specs.declared.answers.SqlError.TheVariants as error
use Rattle.im_sqlreply.proofs.TextLemmas.{NameLacks}

pub name-lacks : (name : List ℕ) → IsName name → Lacks 10 name
name-lacks name is = Lacks-of is_name_octet 10 name refl (list_all-from_AllPass is_name_octet name is.letters)

pub column-lacks : (rev : Bool) (name : List ℕ) → IsColumnName rev name → Lacks 10 name
column-lacks true name (inl is) = name-lacks name is
column-lacks true name (inr is) = subst (Lacks 10) (sym is) refl
column-lacks false name is = name-lacks name is

-- the name that is told, if something is wrong
abbrev pub FaultLacks : Option SqlError → Type 0
FaultLacks None = ⊤
FaultLacks (Some fault) = NameLacks fault

abbrev pub AnswerLacks : {A : Type 0} → Result A SqlError → Type 0
AnswerLacks (Ok out) = ⊤
AnswerLacks (Err fault) = NameLacks fault

-- ---- what is first found wrong

pub either-way : {A : Type 0} (P : A → Type 0) (test : Bool) (x y : A) → P x → P y → P (if test then x else y)
either-way P true x y p q = p
either-way P false x y p q = q

pub or-lacks : (a b : Option SqlError) → FaultLacks a → FaultLacks b → FaultLacks (option_or a b)
or-lacks None b x y = y
or-lacks (Some fault) b x y = x

pub map-lacks : {A : Type 0} (f : A → SqlError) (o : Option A) → ((x : A) → NameLacks (f x)) → FaultLacks (option_map f o)
map-lacks f None each = tt
map-lacks f (Some x) each = each x

pub first-lacks : {A : Type 0} (P : A → Type 0) (f : A → Option SqlError) (xs : List A) → ((x : A) → P x → FaultLacks (f x)) → AllByRecursion P xs → FaultLacks (first_found f xs)
first-lacks P f [] each all = tt
first-lacks P f (x ∷ xs) each all = or-lacks (f x) (first_found f xs) (each x all.0) (first-lacks P f xs each all.1)

pub always : {A : Type 0} (xs : List A) → AllByRecursion (λ x. ⊤) xs
always [] = tt
always (x ∷ xs) = (tt, always xs)

pub find-lacks : (test : List ℕ → Bool) (names : List (List ℕ)) → AllByRecursion IsName names → FaultLacks (option_map error.NoColumn (find test names))
find-lacks test [] all = tt
find-lacks test (name ∷ names) all =
    either-way (λ o. FaultLacks (option_map error.NoColumn o)) (test name) (Some name) (find test names) (name-lacks name all.0) (find-lacks test names all.1)

pub twice-lacks : (before names : List (List ℕ)) → AllByRecursion IsName names → FaultLacks (option_map error.Twice (twice_behind before names))
twice-lacks before [] all = tt
twice-lacks before (name ∷ names) all =
    either-way (λ o. FaultLacks (option_map error.Twice o)) (list_any (bytes_eq name) before) (Some name) (twice_behind (before ++ name ∷ []) names)
    (name-lacks name all.0) (twice-lacks (before ++ name ∷ []) names all.1)

-- ---- answers

pub answer-or : {A : Type 0} (o : Option SqlError) (none : Result A SqlError) → FaultLacks o → AnswerLacks none → AnswerLacks (by_option o none (λ fault. Err fault))
answer-or None none x y = y
answer-or (Some fault) none x y = x

pub then-lacks : {A B : Type 0} (r : Result A SqlError) (f : A → Result B SqlError) → AnswerLacks r → ((x : A) → AnswerLacks (f x)) → AnswerLacks (ok_then r f)
then-lacks (Ok x) f lack each = each x
then-lacks (Err fault) f lack each = lack

-- The keys of a row that meets a condition begin as the way to it does.
use Rattle.std.proofs.Common.{◌≡◌, ◌≢◌, ◌<◌, ◌+◌, ℕ, zero, suc, Bool, true, false, not, cond, List, [], ◌∷◌, ◌++◌, length, map, get_or, AllPairs, bytes_eq, nat_lt, Option, Some, None, refl, sym, ap, ◌∙◌, append_assoc, arith}
use Rattle.std.proofs.lemmas.Bool.{lt-ltb}
use Rattle.std.proofs.lemmas.List.{append-nil, length-map}
use Rattle.std.proofs.lemmas.Slice.Eq.{bytes_eq-Decides}
use Rattle.std.specs.List.{AllByRecursion, position_or_len}
use Rattle.im_octet.proofs.Common.{bytes-other}
use Rattle.im_sqltype.specs.Texts.{value_text, row_text}
use Rattle.im_sqltype.specs.declared.values.Value.{Value}
use Rattle.im_sqltype.specs.declared.values.Value.TheVariants.{Null}
use Rattle.im_sqlparse.specs.declared.statements.Condition.{Condition}
use Rattle.im_sqlmodel.specs.Conditions.{named_of, scope_of, value_named, cell_at, place_of}
use Rattle.im_sqlmodel.specs.Options.{by_option}
use Rattle.im_sqlmodel.specs.Rows.{columns_of}
use Rattle.im_sqlmodel.specs.declared.tables.Column.{Column}
use Rattle.im_sqlmodel.specs.declared.tables.Nameable.{Nameable}
use Rattle.im_sqlmodel.specs.declared.tables.Table.{Table}
use Rattle.im_plan.specs.Bounds.{bound, no_table_column, name_at, leading}
use Rattle.im_plan.proofs.BoundLemmas.{AreMet, bound-value}

-- ---- the place of a column by its name

same-name : (name : List ℕ) → bytes_eq name name ≡ true
same-name name = (bytes_eq-Decides name name).1 refl

place-of-column : (columns : List Column) (k : ℕ) (d : Column) → AllPairs (λ a b. a.name ≢ b.name) columns → k < length columns
    → position_or_len (λ (m : Nameable). bytes_eq m.name (get_or columns k d).name) (map named_of columns) ≡ k
place-of-column [] k d apart l = absurd (let no : ⊥ = omega (arith, l) in no)
place-of-column (c ∷ cs) zero d apart l =
    ap (λ (b : Bool). cond (not b) (1 + (position_or_len (λ (m : Nameable). bytes_eq m.name c.name) (map named_of cs))) 0) (same-name c.name)
place-of-column (c ∷ cs) (suc k) d apart l =
    ap (λ (b : Bool). cond (not b) (1 + (position_or_len (λ (m : Nameable). bytes_eq m.name (get_or cs k d).name) (map named_of cs))) 0)
    (bytes-other c.name (get_or cs k d).name (apart 0 (suc k) d (omega arith) l))
    ∙ ap (λ n. 1 + n) (place-of-column cs k d (λ i j e less m. apart (suc i) (suc j) e (omega (arith, less)) (omega (arith, m))) (omega (arith, l)))
    ∙ omega arith

-- the value of a column by its name is that of its number
pub value-of-column : (t : Table) (row : List Value) (n : ℕ) → AllPairs (λ a b. a.name ≢ b.name) t.columns → n < length t.columns
    → value_named (scope_of t false) row (name_at t n) ≡ get_or row n Null
value-of-column t row n apart l =
    let named : List Nameable = map named_of t.columns in
    let place : position_or_len (λ (m : Nameable). bytes_eq m.name (name_at t n)) named ≡ n = place-of-column t.columns n no_table_column apart l in
    let within : nat_lt n (length named) ≡ true = lt-ltb n (length named) (let same : length named ≡ length t.columns = length-map t.columns named_of in omega (arith, same, l)) in
    let found : place_of named (name_at t n) ≡ Some n =
    ap (λ k. cond (nat_lt k (length named)) (Some k) None) place ∙ ap (λ (b : Bool). cond b (Some n) None) within in
    ap (λ (scope : List Nameable). value_named scope row (name_at t n)) (append-nil named) ∙ ap (cell_at row) found

-- ---- the texts of leading columns

-- what stands behind the texts of the bound ones
abbrev pub Behind : List Condition → Table → List Value → List ℕ → Type 0
Behind cs t row numbers = (rest : List ℕ) × (row_text (columns_of row numbers) ≡ row_text (leading cs t numbers) ++ rest)

bound-next : (t : Table) (row : List Value) (cs : List Condition) (n : ℕ) (ns : List ℕ) (found : Option Value) → bound cs (name_at t n) ≡ found
    → ((v : Value) → found ≡ Some v → get_or row n Null ≡ v) → Behind cs t row ns
    → (rest : List ℕ) × (row_text (columns_of row (n ∷ ns)) ≡ row_text (by_option found [] (λ v. v ∷ leading cs t ns)) ++ rest)
bound-next t row cs n ns None e same behind = (row_text (columns_of row (n ∷ ns)), refl)
bound-next t row cs n ns (Some v) e same behind = (
  behind.0,
  ap (λ (w : Value). value_text w ++ row_text (columns_of row ns)) (same v refl) ∙ ap (λ s. value_text v ++ s) behind.1
      ∙ sym (append_assoc (value_text v) (row_text (leading cs t ns)) behind.0),
)

pub leading-behind : (t : Table) (row : List Value) (cs : List Condition) (numbers : List ℕ) → AllPairs (λ a b. a.name ≢ b.name) t.columns
    → AllByRecursion (λ n. n < length t.columns) numbers → AreMet (scope_of t false) row cs → Behind cs t row numbers
leading-behind t row cs [] apart below met = ([], refl)
leading-behind t row cs (n ∷ ns) apart below met =
    bound-next t row cs n ns (bound cs (name_at t n)) refl
    (λ v e. sym (value-of-column t row n apart below.0) ∙ bound-value (scope_of t false) row cs (name_at t n) v met e)
    (leading-behind t row cs ns apart below.1 met)

-- where all are bound nothing stands behind them
all-next : (t : Table) (row : List Value) (cs : List Condition) (n : ℕ) (ns : List ℕ) (found : Option Value) → ((v : Value) → found ≡ Some v → get_or row n Null ≡ v)
    → length (by_option found [] (λ v. v ∷ leading cs t ns)) ≡ length (n ∷ ns) → (length (leading cs t ns) ≡ length ns → columns_of row ns ≡ leading cs t ns)
    → columns_of row (n ∷ ns) ≡ by_option found [] (λ v. v ∷ leading cs t ns)
all-next t row cs n ns None same long behind = absurd (let no : ⊥ = omega (arith, long) in no)
all-next t row cs n ns (Some v) same long behind =
    ap (λ (w : Value). w ∷ columns_of row ns) (same v refl) ∙ ap (λ (ws : List Value). v ∷ ws) (behind (let shorter : length (leading cs t ns) ≡ length ns = omega (arith, long) in shorter))

pub leading-all : (t : Table) (row : List Value) (cs : List Condition) (numbers : List ℕ) → AllPairs (λ a b. a.name ≢ b.name) t.columns
    → AllByRecursion (λ n. n < length t.columns) numbers → AreMet (scope_of t false) row cs → length (leading cs t numbers) ≡ length numbers
    → columns_of row numbers ≡ leading cs t numbers
leading-all t row cs [] apart below met long = refl
leading-all t row cs (n ∷ ns) apart below met long =
    all-next t row cs n ns (bound cs (name_at t n))
    (λ v e. sym (value-of-column t row n apart below.0) ∙ bound-value (scope_of t false) row cs (name_at t n) v met e)
    long (leading-all t row cs ns apart below.1 met)

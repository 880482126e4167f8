-- Values that fit their columns, and the first fault of a row.
use Rattle.std.proofs.Common.{◌≡◌, ◌<◌, ◌+◌, inl, inr, ℕ, suc, List, [], ◌∷◌, length, map, drop, get_or, Option, None, sym, ap, ◌∙◌, subst, arith}
use Rattle.std.proofs.lemmas.Bool.{cases_lt}
use Rattle.std.proofs.lemmas.List.{at_drop_more}
use Rattle.std.specs.Option.{option_or}
use Rattle.im_sqltype.specs.Kinds.{IsOfKind, AreOfKinds, FitsColumn, kind_of}
use Rattle.im_sqltype.specs.declared.columns.ColumnType.{ColumnType}
use Rattle.im_sqltype.specs.declared.columns.ColumnType.TheVariants as types
use Rattle.im_sqltype.specs.declared.values.Value.{Value}
use Rattle.im_sqltype.specs.declared.values.Value.TheVariants.{Null, Integer, Boolean, Varchar, Blob}
use Rattle.im_sqlmodel.specs.Writes.{cell_fault, cells_fault}
use Rattle.im_sqlmodel.specs.declared.answers.SqlError.{SqlError}
use Rattle.im_sqlmodel.specs.declared.tables.Column.{Column}
use Rattle.im_sqlmodel.specs.declared.tables.Table.{Table}
use Rattle.im_plan.proofs.BestLemmas.{at-any}

-- a value that fits is of the column's kind
kind-of-fit : (type : ColumnType) (v : Value) → FitsColumn type v → IsOfKind (kind_of type) v
kind-of-fit type Null h = tt
kind-of-fit types.Integer (Integer n) h = h
kind-of-fit types.Integer (Boolean b) h = absurd h
kind-of-fit types.Integer (Varchar o) h = absurd h
kind-of-fit types.Integer (Blob o) h = absurd h
kind-of-fit types.Boolean (Integer n) h = absurd h
kind-of-fit types.Boolean (Boolean b) h = tt
kind-of-fit types.Boolean (Varchar o) h = absurd h
kind-of-fit types.Boolean (Blob o) h = absurd h
kind-of-fit (types.Varchar most) (Integer n) h = absurd h
kind-of-fit (types.Varchar most) (Boolean b) h = absurd h
kind-of-fit (types.Varchar most) (Varchar o) h = tt
kind-of-fit (types.Varchar most) (Blob o) h = absurd h
kind-of-fit (types.Blob most) (Integer n) h = absurd h
kind-of-fit (types.Blob most) (Boolean b) h = absurd h
kind-of-fit (types.Blob most) (Varchar o) h = absurd h
kind-of-fit (types.Blob most) (Blob o) h = tt

-- each value of a row fits its column, up to a place
abbrev pub FitBelow : List Column → List Value → ℕ → Type 0
FitBelow columns row at = (k : ℕ) (d : Column) (e : Value) → k < at → FitsColumn (get_or columns k d).holds (get_or row k e)

pub kinds-of-fit : (columns : List Column) (row : List Value) → length row ≡ length columns → FitBelow columns row (length columns) → AreOfKinds (map (λ (c : Column). kind_of c.holds) columns) row
kinds-of-fit [] [] same h = tt
kinds-of-fit [] (v ∷ vs) same h = absurd (let no : ⊥ = omega (arith, same) in no)
kinds-of-fit (c ∷ cs) [] same h = absurd (let no : ⊥ = omega (arith, same) in no)
kinds-of-fit (c ∷ cs) (v ∷ vs) same h = (
  kind-of-fit c.holds v (h 0 c v (omega arith)),
  kinds-of-fit cs vs (omega (arith, same)) (λ k d e l. h (suc k) d e (omega (arith, l))),
)

-- one column more
pub fits-more : (columns : List Column) (row : List Value) (at : ℕ) (c : Column) (v : Value) → at < length columns → at < length row → c ≡ get_or columns at c → v ≡ get_or row at v → FitsColumn c.holds v
    → FitBelow columns row at → FitBelow columns row (at + 1)
fits-more columns row at c v l m p q fits below k d e less = elim (cases_lt k at) [
  | inl before ↦ below k d e before
  | inr past ↦ (
      let same : at ≡ k = omega (arith, less, past) in
      let column : c ≡ get_or columns k d = p ∙ at-any columns at c d l ∙ ap (λ (n : ℕ). get_or columns n d) same in
      let value : v ≡ get_or row k e = q ∙ at-any row at v e m ∙ ap (λ (n : ℕ). get_or row n e) same in
      subst (λ (x : Value). FitsColumn (get_or columns k d).holds x) value (subst (λ (x : Column). FitsColumn x.holds v) column fits))
]

-- ---- the values of a row, one by one

-- past a value with which nothing is wrong
pub cells-past : (t : Table) (i at : ℕ) (columns : List Column) (row : List Value) (c : Column) (v : Value) → at < length columns → at < length row → c ≡ get_or columns at c → v ≡ get_or row at v
    → cell_fault t i at c v ≡ None → cells_fault t i (at + 1) (drop (at + 1) columns) (drop (at + 1) row) ≡ cells_fault t i at (drop at columns) (drop at row)
cells-past t i at columns row c v l m p q none =
    sym (at_drop_more (λ (cs : List Column). cells_fault t i at cs (drop at row)) columns at c l
    ∙ at_drop_more (λ (vs : List Value). cells_fault t i at (get_or columns at c ∷ drop (at + 1) columns) vs) row at v m
    ∙ ap (λ (o : Option SqlError). option_or o (cells_fault t i (at + 1) (drop (at + 1) columns) (drop (at + 1) row)))
    (sym (λ j. cell_fault t i at (p j) (q j)) ∙ none))

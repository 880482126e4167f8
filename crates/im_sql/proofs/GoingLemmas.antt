-- Rows are taken one by one: what is left of the definition's work is the whole of it.
use Rattle.std.proofs.Common.{◌≡◌, ◌+◌, ℕ, Bool, true, false, List, [], ◌∷◌, Option, Some, None, Err, refl, sym, ap, ◌∙◌, subst, if◌then◌else◌}
use Rattle.std.specs.Option.{option_map, option_or}
use Rattle.im_model.specs.declared.transactions.Transaction.{Transaction}
use Rattle.im_sqltype.specs.Kinds.{AreOfKinds}
use Rattle.im_sqltype.specs.declared.values.Value.{Value}
use Rattle.im_sqlmodel.specs.Kept.{IsTableOf}
use Rattle.im_sqlmodel.specs.Options.{by_option, first_found}
use Rattle.im_sqlmodel.specs.Tables.{kinds_of}
use Rattle.im_sqlmodel.specs.Rows.{IndexesAre, key_of}
use Rattle.im_sqlmodel.specs.Writes.{Work, write_row, write_rows, row_fault, cells_fault, key_fault, length_fault, duplicate_fault, unique_fault, all_written, dropped, put_all, stored_at, rows_with, row_met, entry_number}
use Rattle.im_sqlmodel.specs.declared.answers.SqlError.{SqlError}
use Rattle.im_sqlmodel.specs.declared.answers.SqlError.TheVariants as error
use Rattle.im_sqlmodel.specs.declared.rows.StoredRow.{StoredRow}
use Rattle.im_sqlmodel.specs.declared.tables.SqlIndex.{SqlIndex}
use Rattle.im_sqlmodel.specs.declared.tables.Table.{Table}
use Rattle.im_sqlmodel.specs.declared.written.Written.{Written}
use Rattle.im_sql.specs.Working.{IsWorking, IsTaken, written_of}
use Rattle.im_sql.proofs.AnswerLemmas.{taken_all, taken_fault}
use Rattle.im_sql.proofs.NextLemmas.{numbered-of, free-from, working-next}
use Rattle.im_sql.proofs.ShortLemmas.{faultless}

abbrev pub work_of : List StoredRow → List Written → Work
work_of rows written = record { rows = rows; written = written }

-- so many rows were taken, and these are left
abbrev pub IsGoing : List Transaction → Bool → Table → List SqlIndex → List (List Value) → ℕ → List (List Value) → List StoredRow → List Written → Type 0
IsGoing history fresh t indexes all i left stood written =
    (rows : List StoredRow) × IsWorking t indexes stood written rows
    × (write_rows history fresh t indexes i left (work_of rows written) ≡ write_rows history fresh t indexes 0 all (work_of stood []))

module _ (history : List Transaction) (fresh : Bool) (t : Table) (indexes : List SqlIndex) (all : List (List Value)) (stood : List StoredRow) where
  pub going-next : (i : ℕ) (row : List Value) (left : List (List Value)) (written after : List Written) → (going : IsGoing history fresh t indexes all i (row ∷ left) stood written)
      → IsTaken history fresh t indexes i row stood (work_of going.0 written) after None → IsGoing history fresh t indexes all (i + 1) left stood after
  going-next i row left written after going taken =
      let next : Work = write_row t indexes row (work_of going.0 written) in (
        next.rows,
        taken.2,
        ap (λ (w : List Written). write_rows history fresh t indexes (i + 1) left (work_of next.rows w)) taken.1
            ∙ sym (ap (λ (o : Option SqlError). by_option o (write_rows history fresh t indexes (i + 1) left next) (λ fault. Err fault)) taken.0)
            ∙ going.2,
      )

  pub going-fault : (i : ℕ) (row : List Value) (left : List (List Value)) (written after : List Written) (fault : SqlError) → (going : IsGoing history fresh t indexes all i (row ∷ left) stood written)
      → IsTaken history fresh t indexes i row stood (work_of going.0 written) after (Some fault) → taken_fault fault ≡ written_of (write_rows history fresh t indexes 0 all (work_of stood []))
  going-fault i row left written after fault going taken =
      ap written_of
      (sym (ap (λ (o : Option SqlError). by_option o (write_rows history fresh t indexes (i + 1) left (write_row t indexes row (work_of going.0 written))) (λ f. Err f)) taken) ∙ going.2)

  pub going-end : (i : ℕ) (written : List Written) → IsGoing history fresh t indexes all i [] stood written → taken_all written ≡ written_of (write_rows history fresh t indexes 0 all (work_of stood []))
  going-end i written going = ap written_of going.2

-- ---- one row

-- a row with which nothing is wrong is written as the definition writes it
pub taken-none : (history : List Transaction) (fresh : Bool) (t : Table) (indexes : List SqlIndex) (i : ℕ) (row : List Value) (stood rows : List StoredRow) (written after : List Written) → IsTableOf history t
    → IndexesAre history t indexes → AreOfKinds (kinds_of t) row → IsWorking t indexes stood written rows → row_fault history fresh t indexes i row rows ≡ None
    → after ≡ put_all (all_written t indexes row) (put_all (dropped t indexes (stored_at t rows (key_of t row))) written) → IsTaken history fresh t indexes i row stood (work_of rows written) after None
taken-none history fresh t indexes i row stood rows written after of are kinds working none e =
    let free = free-from history t indexes i row rows (faultless history fresh t indexes i row rows none).unique in (
      none,
      e,
      subst (λ (w : List Written). IsWorking t indexes stood w (rows_with t (record { row = row; tx = 0 }) rows)) (sym e)
          (working-next t indexes stood rows written row (numbered-of history t indexes of are) kinds free working),
    )

-- ---- what is wrong with a row, by its parts

module _ (history : List Transaction) (fresh : Bool) (t : Table) (indexes : List SqlIndex) (i : ℕ) (row : List Value) (rows : List StoredRow) where
  abbrev told : Option SqlError → Option SqlError → Option SqlError → Option SqlError → Option SqlError → Option SqlError
  told a b c d e = option_or a (option_or b (option_or c (option_or d e)))

  pub fault-cells : (fault : SqlError) → Some fault ≡ cells_fault t i 0 t.columns row → row_fault history fresh t indexes i row rows ≡ Some fault
  fault-cells fault e =
      sym (ap (λ (o : Option SqlError). told o (key_fault t indexes i row) (length_fault i row) (duplicate_fault fresh t i row rows) (first_found (unique_fault history t i row rows) indexes)) e)

  pub fault-lengths : (fault : SqlError) → None ≡ cells_fault t i 0 t.columns row → Some fault ≡ option_or (key_fault t indexes i row) (length_fault i row)
      → row_fault history fresh t indexes i row rows ≡ Some fault
  fault-lengths fault a e =
      sym (ap (λ (o : Option SqlError). option_or o (option_or (key_fault t indexes i row) (option_or (length_fault i row) (option_or (duplicate_fault fresh t i row rows) (first_found (unique_fault history t i row rows) indexes))))) a)
      ∙ or-through (key_fault t indexes i row) (length_fault i row) _ fault (sym e)
    where
      or-through : (p q rest : Option SqlError) (f : SqlError) → option_or p q ≡ Some f → option_or p (option_or q rest) ≡ Some f
      or-through None (Some x) rest f e = e
      or-through None None rest f e = absurd (let no : ⊥ = cc in no)
      or-through (Some x) q rest f e = e

  pub fault-rest : None ≡ cells_fault t i 0 t.columns row → None ≡ option_or (key_fault t indexes i row) (length_fault i row)
      → row_fault history fresh t indexes i row rows ≡ option_or (duplicate_fault fresh t i row rows) (first_found (unique_fault history t i row rows) indexes)
  fault-rest a b =
      sym (ap (λ (o : Option SqlError). option_or o (option_or (key_fault t indexes i row) (option_or (length_fault i row) (option_or (duplicate_fault fresh t i row rows) (first_found (unique_fault history t i row rows) indexes))))) a)
      ∙ or-past (key_fault t indexes i row) (length_fault i row) _ (sym b)
    where
      or-past : (p q rest : Option SqlError) → option_or p q ≡ None → option_or p (option_or q rest) ≡ rest
      or-past None None rest e = refl
      or-past None (Some x) rest e = absurd (let no : ⊥ = cc in no)
      or-past (Some x) q rest e = absurd (let no : ⊥ = cc in no)

-- ---- one index

met-none : {A B C : Type 0} (f : A → B) (g : A → C) (b : Bool) (o : Option A) → None ≡ (if b then option_map f o else None) → (if b then option_map g o else None) ≡ None
met-none f g true None e = refl
met-none f g true (Some x) e = absurd (let no : ⊥ = cc in no)
met-none f g false o e = refl

met-some : {A B C : Type 0} (f : A → B) (g : B → C) (b : Bool) (o : Option A) (y : B) → Some y ≡ (if b then option_map f o else None) → (if b then option_map (λ x. g (f x)) o else None) ≡ Some (g y)
met-some f g true None y e = absurd (let no : ⊥ = cc in no)
met-some {A} {B} {C} f g true (Some x) y e = (let same : f x ≡ y = cc in ap (λ (z : B). Some (g z)) same)
met-some f g false o y e = absurd (let no : ⊥ = cc in no)

module _ (history : List Transaction) (t : Table) (n : ℕ) (row : List Value) (rows : List StoredRow) (i : SqlIndex) where
  pub unique-none : None ≡ (if i.unique then option_map (entry_number history t i) (row_met t i row rows) else None) → unique_fault history t n row rows i ≡ None
  unique-none e = met-none (entry_number history t i) (λ s. error.Unique n i.iid (entry_number history t i s)) i.unique (row_met t i row rows) e

  pub unique-some : (tx : ℕ) → Some tx ≡ (if i.unique then option_map (entry_number history t i) (row_met t i row rows) else None) → unique_fault history t n row rows i ≡ Some (error.Unique n i.iid tx)
  unique-some tx e = met-some (entry_number history t i) (λ (m : ℕ). error.Unique n i.iid m) i.unique (row_met t i row rows) tx e

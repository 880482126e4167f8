-- What is told of a condition that is read has no LF.
use Rattle.std.proofs.Common.{ℕ, zero, suc, Bool, List, Option, Some, None, inl, inr}
use Rattle.std.proofs.lemmas.List.Elements.{recursion_from_All}
use Rattle.std.specs.Prelude.{is_none}
use Rattle.im_sqlparse.specs.declared.statements.Operand.{Operand}
use Rattle.im_sqlparse.specs.declared.statements.Operand.TheVariants as operand
use Rattle.im_sqlparse.specs.declared.statements.Condition.{Condition, out-Condition}
use Rattle.im_sqlparse.specs.declared.statements.Condition.TheOpen.{Condition-F}
use Rattle.im_sqlparse.specs.Conditions.{most_depth}
use Rattle.im_sqlparse.specs.Formed.{Level, IsColumnName, IsOperand, IsComparisonAt, IsConjunctionAt, IsConjunction, IsDisjunctionAt, IsDisjunction, IsOpenedAt, IsFactor, IsFilter}
use Rattle.im_sqlmodel.specs.Conditions.{most_levels, name_fault, operand_fault, operand_kind, kinds_differ, place_of, fault_at_level, fault_to, filter_fault}
use Rattle.im_sqlmodel.specs.declared.answers.SqlError.{SqlError}
use Rattle.im_sqlmodel.specs.declared.answers.SqlError.TheVariants as error
use Rattle.im_sqlmodel.specs.declared.tables.Nameable.{Nameable}
use Rattle.im_sqlreply.proofs.NameLemmas.{FaultLacks, column-lacks, either-way, first-lacks, or-lacks}

pub named-lacks : (rev : Bool) (scope : List Nameable) (name : List ℕ) → IsColumnName rev name → FaultLacks (name_fault scope name)
named-lacks rev scope name is = either-way FaultLacks (is_none (place_of scope name)) (Some (error.NoColumn name)) None (column-lacks rev name is) tt

operand-lacks : (rev : Bool) (scope : List Nameable) (side : Operand) → IsOperand rev side → FaultLacks (operand_fault scope side)
operand-lacks rev scope (operand.Column name) is = named-lacks rev scope name is
operand-lacks rev scope (operand.Literal found) is = tt

comparison-lacks : (inner : Condition → Option SqlError) (rev : Bool) (scope : List Nameable) (l : Level) → IsComparisonAt rev l → FaultLacks (fault_at_level inner scope l)
comparison-lacks inner rev scope (Condition-F.Compare left o at right) is =
    or-lacks _ _ (operand-lacks rev scope left is.0)
    (or-lacks _ _ (operand-lacks rev scope right is.1)
    (either-way FaultLacks (kinds_differ (operand_kind scope left) (operand_kind scope right)) (Some (error.Compare at)) None tt tt))
comparison-lacks inner rev scope (Condition-F.Nullness name negated) is = named-lacks rev scope name is
comparison-lacks inner rev scope (Condition-F.Any cs) is = absurd is
comparison-lacks inner rev scope (Condition-F.All cs) is = absurd is
comparison-lacks inner rev scope (Condition-F.Not c) is = absurd is

-- of one level, where it holds of what stands in it
conjunction-at : (inner : Condition → Option SqlError) (scope : List Nameable) (P : Condition → Type 0) (l : Level) → ((c : Condition) → P c → FaultLacks (inner c))
    → IsConjunctionAt P l → FaultLacks (fault_at_level inner scope l)
conjunction-at inner scope P (Condition-F.All cs) each is = first-lacks P inner cs each (recursion_from_All P cs is.1)
conjunction-at inner scope P (Condition-F.Any cs) each is = absurd is
conjunction-at inner scope P (Condition-F.Not c) each is = absurd is
conjunction-at inner scope P (Condition-F.Compare left o at right) each is = absurd is
conjunction-at inner scope P (Condition-F.Nullness name negated) each is = absurd is

disjunction-at : (inner : Condition → Option SqlError) (scope : List Nameable) (P : Condition → Type 0) (l : Level) → ((c : Condition) → IsConjunction P c → FaultLacks (inner c))
    → IsDisjunctionAt P l → FaultLacks (fault_at_level inner scope l)
disjunction-at inner scope P (Condition-F.Any cs) each is = first-lacks (IsConjunction P) inner cs each (recursion_from_All (IsConjunction P) cs is.1)
disjunction-at inner scope P (Condition-F.All cs) each is = absurd is
disjunction-at inner scope P (Condition-F.Not c) each is = absurd is
disjunction-at inner scope P (Condition-F.Compare left o at right) each is = absurd is
disjunction-at inner scope P (Condition-F.Nullness name negated) each is = absurd is

opened-at : (inner : Condition → Option SqlError) (scope : List Nameable) (P : Condition → Type 0) (l : Level) → ((c : Condition) → P c → FaultLacks (inner c))
    → ((c : Condition) → IsConjunction P c → FaultLacks (inner c)) → IsOpenedAt P l → FaultLacks (fault_at_level inner scope l)
opened-at inner scope P (Condition-F.Not c) one each is = one c is
opened-at inner scope P (Condition-F.Any cs) one each is = disjunction-at inner scope P (Condition-F.Any cs) each is
opened-at inner scope P (Condition-F.All cs) one each is = absurd is
opened-at inner scope P (Condition-F.Compare left o at right) one each is = absurd is
opened-at inner scope P (Condition-F.Nullness name negated) one each is = absurd is

-- by so many levels
mutual
  factor-lacks : (n : ℕ) (rev : Bool) (depth : ℕ) (scope : List Nameable) (c : Condition) → IsFactor rev depth c → FaultLacks (fault_to n scope c)
  factor-lacks zero rev depth scope c is = tt
  factor-lacks (suc n) rev zero scope c is = comparison-lacks (fault_to n scope) rev scope (out-Condition c) is
  factor-lacks (suc n) rev (suc depth) scope c (inl is) = comparison-lacks (fault_to n scope) rev scope (out-Condition c) is
  factor-lacks (suc n) rev (suc depth) scope c (inr is) =
      opened-at (fault_to n scope) scope (IsFactor rev depth) (out-Condition c) (factor-lacks n rev depth scope) (conjunction-lacks n rev depth scope) is

  conjunction-lacks : (n : ℕ) (rev : Bool) (depth : ℕ) (scope : List Nameable) (c : Condition) → IsConjunction (IsFactor rev depth) c → FaultLacks (fault_to n scope c)
  conjunction-lacks zero rev depth scope c is = tt
  conjunction-lacks (suc n) rev depth scope c is = conjunction-at (fault_to n scope) scope (IsFactor rev depth) (out-Condition c) (factor-lacks n rev depth scope) is

disjunction-lacks : (n : ℕ) (rev : Bool) (depth : ℕ) (scope : List Nameable) (c : Condition) → IsDisjunction (IsFactor rev depth) c → FaultLacks (fault_to n scope c)
disjunction-lacks zero rev depth scope c is = tt
disjunction-lacks (suc n) rev depth scope c is = disjunction-at (fault_to n scope) scope (IsFactor rev depth) (out-Condition c) (conjunction-lacks n rev depth scope) is

pub filter-lacks : (rev : Bool) (scope : List Nameable) (filter : Option Condition) → IsFilter rev filter → FaultLacks (filter_fault scope filter)
filter-lacks rev scope None is = tt
filter-lacks rev scope (Some c) is = disjunction-lacks most_levels rev most_depth scope c is

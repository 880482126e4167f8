-- With more levels than it has nothing changes of a condition.
use Rattle.std.proofs.Common.{◌≡◌, ◌≤◌, ◌+◌, ◌*◌, ℕ, zero, suc, Bool, not, ◌&&◌, ◌||◌, List, [], ◌∷◌, Some, refl, sym, ap, ◌∙◌, subst, ⊎_elim, arith}
use Rattle.std.proofs.lemmas.List.Elements.{recursion_from_All}
use Rattle.std.specs.Prelude.{⊤}
use Rattle.std.specs.List.{AllByRecursion, list_any, list_all}
use Rattle.std.specs.Option.{option_or}
use Rattle.im_sqltype.specs.declared.values.Value.{Value}
use Rattle.im_sqlparse.specs.declared.statements.Condition.{Condition, out-Condition}
use Rattle.im_sqlparse.specs.declared.statements.Condition.TheOpen.{Condition-F}
use Rattle.im_sqlparse.specs.Conditions.{most_depth}
use Rattle.im_sqlparse.specs.Formed.{Level, IsComparisonAt, IsConjunctionAt, IsConjunction, IsDisjunctionAt, IsDisjunction, IsOpenedAt, IsOpened, IsFactor, IsFilter}
use Rattle.im_sqlmodel.specs.Options.{first_found}
use Rattle.im_sqlmodel.specs.Conditions.{most_levels, fault_at_level, fault_to, meets_at, meets_to}
use Rattle.im_sqlmodel.specs.declared.tables.Nameable.{Nameable}

-- from so many levels on its faults are the same, and the rows that meet it
pub record Settles (n : ℕ) (c : Condition) : Type 0 where
  pub faults : (m : ℕ) (scope : List Nameable) → n ≤ m → fault_to m scope c ≡ fault_to n scope c
  pub rows : (m : ℕ) (scope : List Nameable) (row : List Value) → n ≤ m → meets_to m scope row c ≡ meets_to n scope row c

later : (n k : ℕ) (c : Condition) → n ≤ k → Settles n c → Settles k c
later n k c more s = record {
  faults = λ m scope h. s.faults m scope (omega (arith, more, h)) ∙ sym (s.faults k scope more);
  rows = λ m scope row h. s.rows m scope row (omega (arith, more, h)) ∙ sym (s.rows k scope row more);
}

-- ---- lists

same_first : (n m : ℕ) (scope : List Nameable) (cs : List Condition) → n ≤ m → AllByRecursion (Settles n) cs
    → first_found (fault_to m scope) cs ≡ first_found (fault_to n scope) cs
same_first n m scope [] h all = refl
same_first n m scope (c ∷ cs) h all =
    ap (λ f. option_or f (first_found (fault_to m scope) cs)) (all.0.faults m scope h)
    ∙ ap (option_or (fault_to n scope c)) (same_first n m scope cs h all.1)

same_any : (n m : ℕ) (scope : List Nameable) (row : List Value) (cs : List Condition) → n ≤ m → AllByRecursion (Settles n) cs
    → list_any (meets_to m scope row) cs ≡ list_any (meets_to n scope row) cs
same_any n m scope row [] h all = refl
same_any n m scope row (c ∷ cs) h all =
    ap (λ (b : Bool). b || list_any (meets_to m scope row) cs) (all.0.rows m scope row h)
    ∙ ap (λ (b : Bool). meets_to n scope row c || b) (same_any n m scope row cs h all.1)

same_all : (n m : ℕ) (scope : List Nameable) (row : List Value) (cs : List Condition) → n ≤ m → AllByRecursion (Settles n) cs
    → list_all (meets_to m scope row) cs ≡ list_all (meets_to n scope row) cs
same_all n m scope row [] h all = refl
same_all n m scope row (c ∷ cs) h all =
    ap (λ (b : Bool). b && list_all (meets_to m scope row) cs) (all.0.rows m scope row h)
    ∙ ap (λ (b : Bool). meets_to n scope row c && b) (same_all n m scope row cs h all.1)

-- each of a list settles where what holds of each says so
each : (P : Condition → Type 0) (n : ℕ) (cs : List Condition) → ((c : Condition) → P c → Settles n c) → AllByRecursion P cs → AllByRecursion (Settles n) cs
each P n [] f all = tt
each P n (c ∷ cs) f all = (f c all.0, each P n cs f all.1)

-- ---- one level more, where all that stand in it settle

-- a level at which conditions stand that settle
abbrev SettlesAt : ℕ → Level → Type 0
SettlesAt n (Condition-F.Any cs) = AllByRecursion (Settles n) cs
SettlesAt n (Condition-F.All cs) = AllByRecursion (Settles n) cs
SettlesAt n (Condition-F.Not c) = Settles n c
SettlesAt n other = ⊤

level-faults : (n m : ℕ) (scope : List Nameable) (l : Level) → n ≤ m → SettlesAt n l → fault_at_level (fault_to m scope) scope l ≡ fault_at_level (fault_to n scope) scope l
level-faults n m scope (Condition-F.Any cs) h all = same_first n m scope cs h all
level-faults n m scope (Condition-F.All cs) h all = same_first n m scope cs h all
level-faults n m scope (Condition-F.Not c) h s = s.faults m scope h
level-faults n m scope (Condition-F.Compare left o at right) h s = refl
level-faults n m scope (Condition-F.Nullness name negated) h s = refl

level-rows : (n m : ℕ) (scope : List Nameable) (row : List Value) (l : Level) → n ≤ m → SettlesAt n l
    → meets_at (meets_to m scope row) scope row l ≡ meets_at (meets_to n scope row) scope row l
level-rows n m scope row (Condition-F.Any cs) h all = same_any n m scope row cs h all
level-rows n m scope row (Condition-F.All cs) h all = same_all n m scope row cs h all
level-rows n m scope row (Condition-F.Not c) h s = ap not (s.rows m scope row h)
level-rows n m scope row (Condition-F.Compare left o at right) h s = refl
level-rows n m scope row (Condition-F.Nullness name negated) h s = refl

more-faults : (n : ℕ) (c : Condition) → SettlesAt n (out-Condition c) → (m : ℕ) (scope : List Nameable) → suc n ≤ m → fault_to m scope c ≡ fault_to (suc n) scope c
more-faults n c s zero scope h = absurd (let no : ⊥ = omega (arith, h) in no)
more-faults n c s (suc m) scope h = level-faults n m scope (out-Condition c) (let l : n ≤ m = omega (arith, h) in l) s

more-rows : (n : ℕ) (c : Condition) → SettlesAt n (out-Condition c) → (m : ℕ) (scope : List Nameable) (row : List Value) → suc n ≤ m
    → meets_to m scope row c ≡ meets_to (suc n) scope row c
more-rows n c s zero scope row h = absurd (let no : ⊥ = omega (arith, h) in no)
more-rows n c s (suc m) scope row h = level-rows n m scope row (out-Condition c) (let l : n ≤ m = omega (arith, h) in l) s

more_settles : (n : ℕ) (c : Condition) → SettlesAt n (out-Condition c) → Settles (suc n) c
more_settles n c s = record { faults = more-faults n c s; rows = more-rows n c s }

-- ---- conditions that are read

comparison_settles : (rev : Bool) (l : Level) → IsComparisonAt rev l → SettlesAt 0 l
comparison_settles rev (Condition-F.Compare left o at right) is = tt
comparison_settles rev (Condition-F.Nullness name negated) is = tt
comparison_settles rev (Condition-F.Any cs) is = absurd is
comparison_settles rev (Condition-F.All cs) is = absurd is
comparison_settles rev (Condition-F.Not c) is = absurd is

conjunction_at : (P : Condition → Type 0) (n : ℕ) (l : Level) → ((d : Condition) → P d → Settles n d) → IsConjunctionAt P l → SettlesAt n l
conjunction_at P n (Condition-F.All cs) f is = each P n cs f (recursion_from_All P cs is.1)
conjunction_at P n (Condition-F.Any cs) f is = absurd is
conjunction_at P n (Condition-F.Not c) f is = absurd is
conjunction_at P n (Condition-F.Compare left o at right) f is = absurd is
conjunction_at P n (Condition-F.Nullness name negated) f is = absurd is

conjunction_settles : (P : Condition → Type 0) (n : ℕ) (c : Condition) → ((d : Condition) → P d → Settles n d) → IsConjunction P c → Settles (suc n) c
conjunction_settles P n c f is = more_settles n c (conjunction_at P n (out-Condition c) f is)

disjunction_at : (P : Condition → Type 0) (n : ℕ) (l : Level) → ((d : Condition) → P d → Settles n d) → IsDisjunctionAt P l → SettlesAt (suc n) l
disjunction_at P n (Condition-F.Any cs) f is =
    each (IsConjunction P) (suc n) cs (λ d. conjunction_settles P n d f) (recursion_from_All (IsConjunction P) cs is.1)
disjunction_at P n (Condition-F.All cs) f is = absurd is
disjunction_at P n (Condition-F.Not c) f is = absurd is
disjunction_at P n (Condition-F.Compare left o at right) f is = absurd is
disjunction_at P n (Condition-F.Nullness name negated) f is = absurd is

disjunction_settles : (P : Condition → Type 0) (n : ℕ) (c : Condition) → ((d : Condition) → P d → Settles n d) → IsDisjunction P c → Settles (suc (suc n)) c
disjunction_settles P n c f is = more_settles (suc n) c (disjunction_at P n (out-Condition c) f is)

opened_at : (P : Condition → Type 0) (n : ℕ) (l : Level) → ((d : Condition) → P d → Settles n d) → IsOpenedAt P l → SettlesAt (suc n) l
opened_at P n (Condition-F.Not c) f is = later n (suc n) c (omega arith) (f c is)
opened_at P n (Condition-F.Any cs) f is = disjunction_at P n (Condition-F.Any cs) f is
opened_at P n (Condition-F.All cs) f is = absurd is
opened_at P n (Condition-F.Compare left o at right) f is = absurd is
opened_at P n (Condition-F.Nullness name negated) f is = absurd is

opened_settles : (P : Condition → Type 0) (n : ℕ) (c : Condition) → ((d : Condition) → P d → Settles n d) → IsOpened P c → Settles (suc (suc n)) c
opened_settles P n c f is = more_settles (suc n) c (opened_at P n (out-Condition c) f is)

-- the levels of a factor of a depth
levels_at : ℕ → ℕ
levels_at zero = 1
levels_at (suc depth) = suc (suc (levels_at depth))

one_at_least : (depth : ℕ) → 1 ≤ levels_at depth
unfolding levels_at
one_at_least zero = omega arith
one_at_least (suc depth) = omega (arith, one_at_least depth)

levels_counted : (depth : ℕ) → levels_at depth ≡ 2 * depth + 1
unfolding levels_at
levels_counted zero = refl
levels_counted (suc depth) = omega (arith, levels_counted depth)

factor_settles : (rev : Bool) (depth : ℕ) (c : Condition) → IsFactor rev depth c → Settles (levels_at depth) c
unfolding levels_at
factor_settles rev zero c is = more_settles 0 c (comparison_settles rev (out-Condition c) is)
factor_settles rev (suc depth) c is =
    ⊎_elim (λ plain. later 1 (levels_at (suc depth)) c (one_at_least (suc depth)) (more_settles 0 c (comparison_settles rev (out-Condition c) plain)))
    (λ opened. opened_settles (IsFactor rev depth) (levels_at depth) c (factor_settles rev depth) opened) is

pub filter_settles : (rev : Bool) (c : Condition) → IsFilter rev (Some c) → Settles most_levels c
filter_settles rev c is =
    let count : suc (suc (levels_at 64)) ≡ 131 = omega (arith, levels_counted 64) in
    subst (λ n. Settles n c) count (disjunction_settles (IsFactor rev most_depth) (levels_at most_depth) c (factor_settles rev most_depth) is)

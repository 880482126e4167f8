-- The index with the most leading columns bound.
use Rattle.std.proofs.Common.{◌≡◌, ◌≤◌, ◌<◌, ◌+◌, ℕ, zero, suc, false, List, [], ◌∷◌, length, take, get_or, All, Option, Some, None, MatchOption, sym, ap, ◌∙◌, subst, arith}
use Rattle.std.proofs.lemmas.List.{take_all}
use Rattle.std.proofs.lemmas.List.Elements.{All-more, All-weaker}
use Rattle.std.specs.List.{IsAmong}
use Rattle.std.specs.Option.{IfSome, IfNone}
use Rattle.im_model.specs.declared.transactions.Transaction.{Transaction}
use Rattle.im_versions.specs.Versions.{last_version}
use Rattle.im_versions.specs.declared.versions.Version.{Version}
use Rattle.im_versions.proofs.ListLemmas.{All-among, among-first, among-rest}
use Rattle.im_sqlparse.specs.declared.statements.Condition.{Condition}
use Rattle.im_sqlmodel.specs.Rows.{IndexesAre, IsIndexVersion}
use Rattle.im_sqlmodel.specs.Kept.{IsTableOf, IsSqlIndexOf}
use Rattle.im_sqlmodel.specs.declared.tables.SqlIndex.{SqlIndex}
use Rattle.im_sqlmodel.specs.declared.tables.Table.{Table}
use Rattle.im_plan.specs.Bounds.{leading}
use Rattle.im_plan.specs.Plans.{no_index, index_at}
use Rattle.im_plan.proofs.EntryLemmas.{zip-among}

-- what stands in a list doesn't depend on what is taken behind its end
pub at-any : {A : Type 0} (xs : List A) (i : ℕ) (d e : A) → i < length xs → get_or xs i d ≡ get_or xs i e
at-any [] i d e l = absurd (let no : ⊥ = omega (arith, l) in no)
at-any (x ∷ xs) zero d e l = λ i. x
at-any (x ∷ xs) (suc i) d e l = at-any xs i d e (omega (arith, l))

pub index-is : (indexes : List SqlIndex) (at : ℕ) (index : SqlIndex) → at < length indexes → index ≡ get_or indexes at index → index ≡ index_at indexes at
index-is indexes at index l is = is ∙ at-any indexes at index no_index l

pub ruleset picked = (index-is)

-- it is one of the table's
among-at : (indexes : List SqlIndex) (at : ℕ) (d : SqlIndex) → at < length indexes → IsAmong indexes (get_or indexes at d)
among-at [] at d l = absurd (let no : ⊥ = omega (arith, l) in no)
among-at (i ∷ is) zero d l = among-first i is
among-at (i ∷ is) (suc at) d l = among-rest i is (get_or is at d) (among-at is at d (omega (arith, l)))

pub index-of : (history : List Transaction) (t : Table) (indexes : List SqlIndex) (at : ℕ) (index : SqlIndex) → IsTableOf history t → IndexesAre history t indexes → at < length indexes
    → index ≡ get_or indexes at index → IsSqlIndexOf history t index
index-of history t indexes at index of are l is =
    let found = zip-among (IsIndexVersion t) are.0 indexes index are.2 (subst (IsAmong indexes) (sym is) (among-at indexes at index l)) in
    let v : Version = found.0 in
    let alive = All-among (λ (w : Version). (last_version history w.key ≡ Some w) × (w.deleted ≡ false)) are.0 v are.1.live found.1 in
    (of, found.2.0, (v, ap (last_version history) (sym found.2.1) ∙ alive.0, alive.1, found.2.2))

module _ (cs : List Condition) (t : Table) where
  abbrev pub bound_of : SqlIndex → ℕ
  bound_of i = length (leading cs t i.columns)

  abbrev pub Best : List SqlIndex → ℕ → ℕ → ℕ → Option ℕ → Type 0
  Best indexes least at most best =
      All (λ i. bound_of i ≤ most) (take at indexes)
      × MatchOption best (most ≡ least)
      (λ b. (b < at) × (least < most) × (most ≡ bound_of (index_at indexes b)) × All (λ i. bound_of i < most) (take b indexes))

  least-below : (indexes : List SqlIndex) (least at most : ℕ) (best : Option ℕ) → Best indexes least at most best → least ≤ most
  least-below indexes least at most None h = (let same : most ≡ least = h.1 in omega (arith, same))
  least-below indexes least at most (Some b) h = (let below : least < most = h.1.1 in omega (arith, below))

  pub best-more : (indexes : List SqlIndex) (least at most count : ℕ) (best : Option ℕ) (index : SqlIndex) → at < length indexes → index ≡ get_or indexes at index → count ≡ bound_of index
      → most < count → Best indexes least at most best → Best indexes least (at + 1) count (Some at)
  best-more indexes least at most count best index l is counted more h =
      let low : least ≤ most = least-below indexes least at most best h in
      let own : index ≡ index_at indexes at = index-is indexes at index l is in
      let count_at : count ≡ bound_of (index_at indexes at) = counted ∙ ap bound_of own in (
        All-more (λ (i : SqlIndex). bound_of i ≤ count) indexes at index l
            (All-weaker (λ (i : SqlIndex). bound_of i ≤ most) (λ i. bound_of i ≤ count) (λ i few. (let small : bound_of i ≤ most = few in omega (arith, small, more))) (take at indexes) h.0)
            (let same : count ≡ bound_of (get_or indexes at index) = counted ∙ ap bound_of is in omega (arith, same)),
        (
          (let next : at < at + 1 = omega arith in next),
          (let below : least < count = omega (arith, low, more) in below),
          count_at,
          All-weaker (λ (i : SqlIndex). bound_of i ≤ most) (λ i. bound_of i < count) (λ i few. (let small : bound_of i ≤ most = few in omega (arith, small, more))) (take at indexes) h.0,
        ),
      )

  pub best-same : (indexes : List SqlIndex) (least at most count : ℕ) (best : Option ℕ) (index : SqlIndex) → at < length indexes → index ≡ get_or indexes at index → count ≡ bound_of index
      → count ≤ most → Best indexes least at most best → Best indexes least (at + 1) most best
  best-same indexes least at most count best index l is counted few h = (
    All-more (λ (i : SqlIndex). bound_of i ≤ most) indexes at index l h.0
        (let same : count ≡ bound_of (get_or indexes at index) = counted ∙ ap bound_of is in omega (arith, same, few)),
    behind best h.1,
  )
    where
      behind : (o : Option ℕ)
          → MatchOption o (most ≡ least) (λ b. (b < at) × (least < most) × (most ≡ bound_of (index_at indexes b)) × All (λ i. bound_of i < most) (take b indexes))
          → MatchOption o (most ≡ least) (λ b. (b < at + 1) × (least < most) × (most ≡ bound_of (index_at indexes b)) × All (λ i. bound_of i < most) (take b indexes))
      behind None h = h
      behind (Some b) h = ((let next : b < at + 1 = (let before : b < at = h.0 in omega (arith, before)) in next), h.1, h.2, h.3)

  pub best-most : (indexes : List SqlIndex) (least at most : ℕ) (best : ℕ) → length indexes ≤ at → Best indexes least at most (Some best)
      → All (λ i. bound_of i ≤ bound_of (index_at indexes best)) indexes
  best-most indexes least at most best past h =
      subst (λ (n : ℕ). All (λ i. bound_of i ≤ n) indexes) h.1.2
      (subst (All (λ i. bound_of i ≤ most)) (take_all at indexes past) h.0)

  pub best-none : (indexes : List SqlIndex) (least at most : ℕ) → length indexes ≤ at → Best indexes least at most None → All (λ i. bound_of i ≤ least) indexes
  best-none indexes least at most past h =
      subst (λ (n : ℕ). All (λ i. bound_of i ≤ n) indexes) h.1
      (subst (All (λ i. bound_of i ≤ most)) (take_all at indexes past) h.0)

  pub best-if-some : (indexes : List SqlIndex) (least at most : ℕ) (best : Option ℕ) → length indexes ≤ at → Best indexes least at most best
      → IfSome best (λ b. All (λ i. bound_of i ≤ bound_of (index_at indexes b)) indexes)
  best-if-some indexes least at most None past h = tt
  best-if-some indexes least at most (Some b) past h = best-most indexes least at most b past h

  pub first-if-some : (indexes : List SqlIndex) (least at most : ℕ) (best : Option ℕ) → Best indexes least at most best
      → IfSome best (λ b. All (λ i. bound_of i < bound_of (index_at indexes b)) (take b indexes))
  first-if-some indexes least at most None h = tt
  first-if-some indexes least at most (Some b) h = subst (λ (n : ℕ). All (λ i. bound_of i < n) (take b indexes)) h.1.2 h.1.3

  pub best-if-none : (indexes : List SqlIndex) (least at most : ℕ) (best : Option ℕ) → length indexes ≤ at → Best indexes least at most best → IfNone best (All (λ i. bound_of i ≤ least) indexes)
  best-if-none indexes least at most None past h = best-none indexes least at most past h
  best-if-none indexes least at most (Some b) past h = tt

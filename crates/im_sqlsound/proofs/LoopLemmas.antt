-- The transactions that have versions of SQL's keys, one after the other: what is known behind those of the first versions.
use Rattle.std.proofs.Common.{◌≡◌, ◌≢◌, ◌≤◌, ◌<◌, ◌+◌, ◌-◌, inl, inr, ℕ, List, [], ◌∷◌, length, take, get_or, sym, ap, ◌∙◌, subst, arith}
use Rattle.std.proofs.lemmas.Bool.{cases_lt, cases_order}
use Rattle.im_model.specs.declared.transactions.Transaction.{Transaction}
use Rattle.im_versions.specs.declared.versions.Version.{Version}
use Rattle.im_versions.specs.Changes.{AreChanges}
use Rattle.im_sqlmodel.specs.Sorts.{sorted}
use Rattle.im_sqlmodel.specs.Kept.{IsSqlSound, IsSqlKept, IsFirstUnsound}
use Rattle.im_sqlmodel.proofs.KeptLemmas.{nothing_kept}
use Rattle.im_catalog.proofs.ThereLemmas.{no_version}
use Rattle.im_plan.proofs.BestLemmas.{at-any}
use Rattle.im_sqlsound.specs.Sounding.{AreByNumber}
use Rattle.im_sqlsound.proofs.TurnLemmas.{IsQuiet, by_tx, changes-sorted, quiet-sound, quiet-between, all-within, upto-changes, sound-next, kept-whole, first-unsound}

-- The keys are SQL's behind each transaction up to k; the versions before a place have numbers up to k, and those from it on above.
pub record IsUpto (history : List Transaction) (all : List Version) (at k : ℕ) : Type 0 where
  pub sound : (j : ℕ) → j ≤ k → IsSqlSound (take j history)
  pub low : (j : ℕ) (d : Version) → j < at → (get_or all j d).tx ≤ k
  pub high : (j : ℕ) (d : Version) → at ≤ j → j < length all → k < (get_or all j d).tx

-- those from a place up to another are all of one transaction, and no other is
pub record IsGroup (all : List Version) (at end tx : ℕ) : Type 0 where
  pub after : at < end
  pub within : end ≤ length all
  pub same : (j : ℕ) (d : Version) → at ≤ j → j < end → (get_or all j d).tx ≡ tx
  pub next : (d : Version) → end < length all → (get_or all end d).tx ≢ tx

-- as the place behind a transaction's versions is found
pub group-of : (all : List Version) (at end : ℕ) (v : Version) → at < length all → v ≡ get_or all at v → at < end → end ≤ length all
    → ((j : ℕ) (d : Version) → at ≤ j → j < end → (get_or all j d).tx ≡ (get_or all at d).tx) → ((d : Version) → end < length all → (get_or all end d).tx ≢ (get_or all at d).tx)
    → IsGroup all at end v.tx
group-of all at end v l is after within same next =
    let own : (d : Version) → (get_or all at d).tx ≡ v.tx = (λ d. ap (λ (w : Version). w.tx) (at-any all at d v l ∙ sym is)) in
    record {
      after = after;
      within = within;
      same = λ j d a less. same j d a less ∙ own d;
      next = λ d less e. next d less (e ∙ sym (own d));
    }

-- the changes of a view, sorted
pub by-sorted : (history : List Transaction) (found taken all : List Version) → AreChanges history (0 ∷ []) found → taken ≡ found → all ≡ sorted by_tx taken → AreByNumber history all
by-sorted history found taken all are same is = subst (AreByNumber history) (sym (is ∙ ap (sorted by_tx) same)) (changes-sorted history found are)

-- before the first
pub upto-first : (history : List Transaction) (n : ℕ) (all : List Version) → n ≤ length history → AreByNumber (take n history) all → IsUpto history all 0 0
upto-first history n all within by = record {
  sound = λ j low. (let zero : 0 ≡ j = omega (arith, low) in subst (λ (i : ℕ). IsSqlSound (take i history)) zero (nothing_kept 0 (omega arith)));
  low = λ j d less. absurd (let no : ⊥ = omega (arith, less) in no);
  high = λ j d a l. (let first = (all-within history n within all by (get_or all j d) (j, (l, at-any all j d (get_or all j d) l))).0 in omega (arith, first));
}

-- behind the last
pub upto-last : (history : List Transaction) (n at k : ℕ) (all : List Version) → n ≤ length history → AreByNumber (take n history) all → IsUpto history all at k → length all ≤ at → IsSqlKept (take n history)
upto-last history n at k all within by upto ended =
    kept-whole history k n within
    (quiet-between history n within all by at k n (omega arith) upto.low (λ j d a l. absurd (let no : ⊥ = omega (arith, ended, a, l) in no))) upto.sound

module _ (history : List Transaction) (n : ℕ) (within : n ≤ length history) (all : List Version) (by : AreByNumber (take n history) all)
    (at end k tx : ℕ) (upto : IsUpto history all at k) (group : IsGroup all at end tx) where
  abbrev pub m : ℕ
  m = tx - 1

  inside : at < length all
  inside = (let a : at < end = group.after in let b : end ≤ length all = group.within in omega (arith, a, b))

  own : (d : Version) → (get_or all at d).tx ≡ tx
  own d = group.same at d (omega arith) group.after

  pub numbers-m : (1 ≤ tx) × (tx ≤ n)
  numbers-m =
      let v : Version = get_or all at no_version in
      let is = all-within history n within all by v (at, (inside, at-any all at no_version v inside)) in
      (subst (λ (t : ℕ). 1 ≤ t) (own no_version) is.0, subst (λ (t : ℕ). t ≤ n) (own no_version) is.1)

  -- the number is one more
  pub one : tx ≡ m + 1
  one = (let some : 1 ≤ tx = numbers-m.0 in omega (arith, some))

  above : k < tx
  above = subst (λ (t : ℕ). k < t) (own no_version) (upto.high at no_version (omega arith) inside)

  -- by rising numbers
  from-own : (j : ℕ) (d : Version) → at ≤ j → j < length all → tx ≤ (get_or all j d).tx
  from-own j d a l = elim (cases_order at j) [
    | inl same ↦ (let e : (get_or all j d).tx ≡ tx = ap (λ (i : ℕ). (get_or all i d).tx) (sym same) ∙ own d in omega (arith, e))
    | inr (inl less) ↦ subst (λ (t : ℕ). t ≤ (get_or all j d).tx) (own d) (by.1 at j d less l)
    | inr (inr more) ↦ absurd (let no : ⊥ = omega (arith, a, more) in no)
  ]

  low-first : (j : ℕ) (d : Version) → j < end → j < length all → (get_or all j d).tx ≤ tx
  low-first j d less l = elim (cases_lt j at) [
    | inl first ↦ (let few : (get_or all j d).tx ≤ k = upto.low j d first in let most : k < tx = above in omega (arith, few, most))
    | inr later ↦ (let e : (get_or all j d).tx ≡ tx = group.same j d later less in omega (arith, e))
  ]

  above-end : (d : Version) → end < length all → tx < (get_or all end d).tx
  above-end d l =
      let after : at < end = group.after in
      let least : tx ≤ (get_or all end d).tx = from-own end d (omega (arith, after)) l in
      elim (cases_order tx (get_or all end d).tx) [
        | inl same ↦ absurd (group.next d l (sym same))
        | inr (inl less) ↦ less
        | inr (inr more) ↦ absurd (let no : ⊥ = omega (arith, least, more) in no)
      ]

  high-rest : (j : ℕ) (d : Version) → end ≤ j → j < length all → tx < (get_or all j d).tx
  high-rest j d a l = elim (cases_order end j) [
    | inl same ↦ subst (λ (i : ℕ). tx < (get_or all i d).tx) same (above-end d (let few : end < length all = omega (arith, same, l) in few))
    | inr (inl less) ↦ (
        let first : tx < (get_or all end d).tx = above-end d (omega (arith, less, l)) in
        let more : (get_or all end d).tx ≤ (get_or all j d).tx = by.1 end j d less l in
        omega (arith, first, more))
    | inr (inr more) ↦ absurd (let no : ⊥ = omega (arith, a, more) in no)
  ]

  quiet : IsQuiet history k m
  quiet =
      let most : tx ≤ n = numbers-m.1 in
      let some : 1 ≤ tx = numbers-m.0 in
      quiet-between history n within all by at k m (omega (arith, most)) upto.low (λ j d a l. (let least : tx ≤ (get_or all j d).tx = from-own j d a l in omega (arith, least, some)))

  pub within-m : m < length history
  within-m = (let most : tx ≤ n = numbers-m.1 in let some : 1 ≤ tx = numbers-m.0 in omega (arith, most, some, within))

  low-k : k ≤ m
  low-k = (let more : k < tx = above in omega (arith, more))

  -- what is known as the transaction is judged
  pub sound-m : IsSqlSound (take m history)
  sound-m = (let l : m < length history = within-m in quiet-sound history k m low-k (omega (arith, l)) quiet (upto.sound k (omega arith)))

  pub changes-m : AreByNumber (take tx history) (take end all)
  changes-m = upto-changes history n within all by tx end numbers-m.1 low-first high-rest

  -- behind it, where they are SQL's still
  pub upto-next : IsSqlSound (take tx history) → IsUpto history all end (m + 1)
  upto-next sound = record {
    sound = sound-next history k m within-m quiet upto.sound (subst (λ (t : ℕ). IsSqlSound (take t history)) one sound);
    low = λ j d less. (
        let few : end ≤ length all = group.within in
        let most : (get_or all j d).tx ≤ tx = low-first j d less (omega (arith, less, few)) in
        let e : tx ≡ m + 1 = one in
        omega (arith, most, e));
    high = λ j d a l. (let more : tx < (get_or all j d).tx = high-rest j d a l in let e : tx ≡ m + 1 = one in omega (arith, more, e));
  }

  -- else it is the first
  pub first-m : (IsSqlSound (take tx history) → ⊥) → IsFirstUnsound (take n history) tx
  first-m unsound = (let most : tx ≤ n = numbers-m.1 in let some : 1 ≤ tx = numbers-m.0 in
      subst (IsFirstUnsound (take n history)) (sym one) (first-unsound history k m n within (omega (arith, most, some)) quiet upto.sound
      (λ is. unsound (subst (λ (t : ℕ). IsSqlSound (take t history)) (sym one) is))))

-- Versions counted by their keys.
use Rattle.std.specs.Str.{bytes_eq}
use Rattle.std.proofs.Common.{◌≡◌, ◌≤◌, ◌<◌, ◌+◌, ℕ, Bool, true, false, cond, not, List, [], ◌∷◌, ◌++◌, filter, inl, inr, Option, Some, unwrap_or, refl, sym, ap, ◌∙◌, subst, append_assoc, arith}
use Rattle.std.proofs.lemmas.Bool.{cases_Bool}
use Rattle.std.proofs.lemmas.List.{append-nil}
use Rattle.std.proofs.lemmas.List.Elements.{filter-append}
use Rattle.std.proofs.lemmas.List.Sums.{sum_by-append, sum_by-cons, sum_by_push}
use Rattle.std.proofs.lemmas.Slice.Eq.{bytes_eq-Decides}
use Rattle.std.specs.List.{count_by, AllByRecursion}
use Rattle.im_versions.specs.Versions.{is_of}
use Rattle.im_versions.specs.declared.versions.Version.{Version}
use Rattle.im_sqltype.specs.Orders.{octets_cmp}
use Rattle.im_sqlmodel.specs.Rows.{numbered}
use Rattle.im_sqlmodel.specs.Sorts.{sorted}
use Rattle.im_sqlmodel.proofs.SortLemmas.{sorted-all}
use Rattle.im_catalog.specs.Numbered.{pairs_of, Counted, counted_in, number_of, Counts}
use Rattle.im_catalog.specs.declared.histories.Numbered.{Numbered}

abbrev pub unit_of : Bool → ℕ
unit_of b = cond b 1 0

count-push : {A : Type 0} (p : A → Bool) (xs : List A) (x : A) → count_by p (xs ++ x ∷ []) ≡ count_by p xs + unit_of (p x)
count-push p xs x = sum_by_push (λ y. unit_of (p y)) xs x

-- the next version has the next number
pub numbered-push : (before vs : List Version) (v : Version) → numbered before (vs ++ v ∷ []) ≡ numbered before vs ++ (count_by (is_of v.key) (before ++ vs) + 1, v) ∷ []
numbered-push before [] v = ap (λ (b : List Version). (count_by (is_of v.key) b + 1, v) ∷ []) (sym (append-nil before))
numbered-push before (w ∷ vs) v =
    ap (λ (ps : List (ℕ × Version)). (count_by (is_of w.key) before + 1, w) ∷ ps)
    (numbered-push (before ++ w ∷ []) vs v
    ∙ ap (λ (b : List Version). numbered (before ++ w ∷ []) vs ++ (count_by (is_of v.key) b + 1, v) ∷ []) (append_assoc before (w ∷ []) vs))

-- no number is above the count of the versions of its key
numbers-from : (before vs : List Version) → AllByRecursion (λ (p : ℕ × Version). p.0 ≤ count_by (is_of p.1.key) (before ++ vs)) (numbered before vs)
numbers-from before [] = tt
numbers-from before (v ∷ vs) = (
  (let sum : count_by (is_of v.key) (before ++ v ∷ vs) ≡ count_by (is_of v.key) before + count_by (is_of v.key) (v ∷ vs) = sum_by-append (λ w. unit_of (is_of v.key w)) before (v ∷ vs) in
      let first : count_by (is_of v.key) (v ∷ vs) ≡ unit_of (is_of v.key v) + count_by (is_of v.key) vs = sum_by-cons (λ w. unit_of (is_of v.key w)) v vs in
      let own : unit_of (is_of v.key v) ≡ 1 = ap unit_of ((bytes_eq-Decides v.key v.key).1 refl) in
      omega (arith, sum, first, own)),
  subst (λ (ws : List Version). AllByRecursion (λ (p : ℕ × Version). p.0 ≤ count_by (is_of p.1.key) ws) (numbered (before ++ v ∷ []) vs)) (append_assoc before (v ∷ []) vs) (numbers-from (before ++ v ∷ []) vs),
)

fit-each : (vs : List Version) (most : ℕ) → ((key : List ℕ) → count_by (is_of key) vs < most) → (ps : List (ℕ × Version))
    → AllByRecursion (λ (p : ℕ × Version). p.0 ≤ count_by (is_of p.1.key) vs) ps → AllByRecursion (λ (p : ℕ × Version). p.0 < most) ps
fit-each vs most few [] all = tt
fit-each vs most few (p ∷ ps) all = (
  (let low : p.0 ≤ count_by (is_of p.1.key) vs = all.0 in let high : count_by (is_of p.1.key) vs < most = few p.1.key in omega (arith, low, high)),
  fit-each vs most few ps all.1,
)

fit-kept : (q : ℕ × Version → Bool) (most : ℕ) (ps : List (ℕ × Version)) → AllByRecursion (λ (p : ℕ × Version). p.0 < most) ps → AllByRecursion (λ (p : ℕ × Version). p.0 < most) (filter q ps)
fit-kept q most [] all = tt
fit-kept q most (p ∷ ps) all = elim (q p) as (λ (b : Bool). AllByRecursion (λ (r : ℕ × Version). r.0 < most) (cond b (p ∷ filter q ps) (filter q ps))) [
  | true ↦ (all.0, fit-kept q most ps all.1)
  | false ↦ fit-kept q most ps all.1
]

-- and so of those that are no deletions, sorted by key
pub numbers-fit : (vs : List Version) (most : ℕ) → ((key : List ℕ) → count_by (is_of key) vs < most)
    → AllByRecursion (λ (p : ℕ × Version). p.0 < most) (sorted (λ a b. octets_cmp a.1.key b.1.key) (filter (λ p. not p.1.deleted) (numbered [] vs)))
numbers-fit vs most few =
    sorted-all (λ (a b : ℕ × Version). octets_cmp a.1.key b.1.key) (λ (p : ℕ × Version). p.0 < most) (filter (λ p. not p.1.deleted) (numbered [] vs))
    (fit-kept (λ p. not p.1.deleted) most (numbered [] vs) (fit-each vs most few (numbered [] vs) (numbers-from [] vs)))

-- ---- a map that counts

abbrev pub HasCounted : List Version → Counted → Type 0
HasCounted versions numbers = (key : List ℕ) → number_of numbers key ≡ count_by (is_of key) versions

pub counted-put : (versions : List Version) (v : Version) (old new : Counted) (number : ℕ) → HasCounted versions old → number ≡ number_of old v.key + 1 → Counts old new v.key number
    → HasCounted (versions ++ v ∷ []) new
counted-put versions v old new number has is puts key = elim (cases_Bool (bytes_eq v.key key)) [
  | inl same ↦ (
      let own : v.key ≡ key = (bytes_eq-Decides v.key key).0 same in
      ap (λ (o : Option ℕ). unwrap_or o 0) (puts key ∙ ap (λ (b : Bool). cond b (Some number) (counted_in old key)) same)
      ∙ is ∙ ap (λ k. number_of old k + 1) own ∙ ap (λ n. n + 1) (has key)
      ∙ sym (count-push (is_of key) versions v ∙ ap (λ (b : Bool). count_by (is_of key) versions + unit_of b) same))
  | inr other ↦ (
      let none : count_by (is_of key) (versions ++ v ∷ []) ≡ count_by (is_of key) versions + 0 =
      count-push (is_of key) versions v ∙ ap (λ (b : Bool). count_by (is_of key) versions + unit_of b) other in
      let kept : number_of new key ≡ number_of old key = ap (λ (o : Option ℕ). unwrap_or o 0) (puts key ∙ ap (λ (b : Bool). cond b (Some number) (counted_in old key)) other) in
      omega (arith, kept, has key, none))
]

-- ---- those that are no deletions

abbrev is_kept : ℕ × Version → Bool
is_kept p = not p.1.deleted

-- one more version, with its number
pub live-put : (vs : List Version) (v : Version) (live more : List Numbered) (number : ℕ) → number ≡ count_by (is_of v.key) vs + 1
    → pairs_of more ≡ pairs_of live ++ filter is_kept ((number, v) ∷ [])
    → pairs_of live ≡ filter is_kept (numbered [] vs) → pairs_of more ≡ filter is_kept (numbered [] (vs ++ v ∷ []))
live-put vs v live more number is put so =
    put
    ∙ ap (λ (ps : List (ℕ × Version)). ps ++ filter is_kept ((number, v) ∷ [])) so
    ∙ ap (λ (n : ℕ). filter is_kept (numbered [] vs) ++ filter is_kept ((n, v) ∷ [])) is
    ∙ sym (filter-append is_kept (numbered [] vs) ((count_by (is_of v.key) vs + 1, v) ∷ []))
    ∙ ap (filter is_kept) (sym (numbered-push [] vs v))

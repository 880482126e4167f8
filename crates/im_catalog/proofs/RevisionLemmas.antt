-- Versions with their numbers, sorted by key, and the rows that they are.
use Rattle.std.proofs.Common.{◌≡◌, ◌≤◌, ◌<◌, ◌+◌, ◌^◌, ℕ, zero, suc, not, List, [], ◌∷◌, ◌++◌, length, take, map, filter, get_or, sym, ap, subst, arith}
use Rattle.std.proofs.lemmas.List.{length-map, take_all}
use Rattle.std.proofs.lemmas.List.Elements.{All-from_recursion}
use Rattle.std.specs.List.{All, AllByRecursion, AllZip, count_by}
use Rattle.im_versions.specs.Versions.{is_of}
use Rattle.im_versions.specs.declared.versions.Version.{Version}
use Rattle.im_sqltype.specs.Orders.{octets_cmp}
use Rattle.im_sqltype.specs.declared.values.Value.{Value}
use Rattle.im_sqlmodel.specs.Rows.{numbered}
use Rattle.im_sqlmodel.specs.Sorts.{sorted}
use Rattle.im_sqlmodel.specs.declared.tables.Table.{Table}
use Rattle.im_catalog.specs.Numbered.{pair_of, pairs_of}
use Rattle.im_catalog.specs.Rows.{HasRowText, IsRowIfLive}
use Rattle.im_catalog.specs.declared.histories.Numbered.{Numbered}
use Rattle.im_catalog.proofs.HistoryLemmas.{IsNumberedRow, numbered-rows}
use Rattle.im_catalog.proofs.NumberLemmas.{numbers-fit}
use Rattle.im_catalog.proofs.ZipLemmas.{zip-more}

-- those of versions that are no deletions, by rising key
abbrev pub in_order : List Version → List (ℕ × Version)
in_order vs = sorted (λ a b. octets_cmp a.1.key b.1.key) (filter (λ p. not p.1.deleted) (numbered [] vs))

map-all : {A B : Type 0} (P : B → Type 0) (f : A → B) (xs : List A) → AllByRecursion P (map f xs) → AllByRecursion (λ x. P (f x)) xs
map-all P f [] all = tt
map-all P f (x ∷ xs) all = (all.0, map-all P f xs all.1)

pub numbers-of : (vs : List Version) (items : List Numbered) → ((key : List ℕ) → count_by (is_of key) vs < 2 ^ 63) → pairs_of items ≡ in_order vs → All (λ n. n.number < 2 ^ 63) items
numbers-of vs items few same =
    All-from_recursion (λ (n : Numbered). n.number < 2 ^ 63) items
    (map-all (λ (p : ℕ × Version). p.0 < 2 ^ 63) pair_of items (subst (AllByRecursion (λ (p : ℕ × Version). p.0 < 2 ^ 63)) (sym same) (numbers-fit vs (2 ^ 63) few)))

pub texts-of : (t : Table) (vs : List Version) (items : List Numbered) → All (IsRowIfLive t) vs → pairs_of items ≡ in_order vs → All (λ n. HasRowText t n.version.now.key n.version.now.value) items
texts-of t vs items all same = λ k d l.
    let each = All-from_recursion (λ (n : Numbered). IsNumberedRow t (pair_of n)) items
    (map-all (IsNumberedRow t) pair_of items (subst (AllByRecursion (IsNumberedRow t)) (sym same) (numbered-rows t vs all))) in
    let row = each k d l in
    (row.0, row.1.0, row.1.1, row.1.2)

pair-at : (items : List Numbered) (i : ℕ) (r : Numbered) → i < length items → r ≡ get_or items i r → pair_of r ≡ get_or (pairs_of items) i (pair_of r)
pair-at [] i r l e = absurd (let no : ⊥ = omega (arith, l) in no)
pair-at (x ∷ xs) zero r l e = ap pair_of e
pair-at (x ∷ xs) (suc i) r l e = pair-at xs i r (omega (arith, l)) e

pub zip-pairs : (R : ℕ × Version → List Value → Type 0) (items : List Numbered) (rows : List (List Value)) (i : ℕ) (r : Numbered) (row : List Value) → i < length items → r ≡ get_or items i r
    → AllZip R (take i (pairs_of items)) rows → R (pair_of r) row → AllZip R (take (i + 1) (pairs_of items)) (rows ++ row ∷ [])
zip-pairs R items rows i r row l e zip here =
    zip-more R (pairs_of items) rows i (pair_of r) row
    (let long : length (pairs_of items) ≡ length items = length-map items pair_of in omega (arith, l, long)) (pair-at items i r l e) zip here

pub zip-all : (R : ℕ × Version → List Value → Type 0) (items : List Numbered) (rows : List (List Value)) (i : ℕ) → length items ≤ i
    → AllZip R (take i (pairs_of items)) rows → AllZip R (pairs_of items) rows
zip-all R items rows i past zip =
    subst (λ (ps : List (ℕ × Version)). AllZip R ps rows)
    (take_all i (pairs_of items) (let long : length (pairs_of items) ≡ length items = length-map items pair_of in omega (arith, past, long))) zip

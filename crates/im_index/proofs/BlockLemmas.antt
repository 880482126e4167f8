-- The versions of one key in a sorted list stand beside each other, in the order of their numbers.
use Rattle.std.proofs.Common.{◌≡◌, ◌<◌, ◌≤◌, ◌+◌, ◌-◌, ℕ, true, false, List, length, get_or, take, drop, arith, ap, sym, subst, ◌∙◌, inl, inr}
use Rattle.std.proofs.lemmas.Bool.{cases_lt, le-leb}
use Rattle.std.proofs.lemmas.List.{get_or-drop, get_or-take, get_or_read, length-drop, length-take-le}
use Rattle.std.proofs.lemmas.Slice.Eq.{bytes_eq-Decides}
use Rattle.std.specs.List.{All, AllWithin, filter}
use Rattle.std.specs.List.Sorted.{IsPartitionPoint, IsPartitionedBy, IsSorted}
use Rattle.std.specs.Ordering.{is_lt}
use Rattle.im_versions.specs.Versions.{begins_with, is_of}
use Rattle.im_versions.specs.declared.versions.Version.{Version}
use Rattle.im_versions.proofs.ListLemmas.{filter-all}
use Rattle.im_index.specs.Marks.{is_upto, numbered}
use Rattle.im_index.proofs.FoundLemmas.{between-key, upto-number, upto-same}
use Rattle.im_index.proofs.NewestLemmas.{is_within}
use Rattle.im_index.proofs.OrderLemmas.{no-lower, upto-parted}

-- the first version is one of this key
abbrev pub BeginsOwn : List ℕ → List Version → Type 0
BeginsOwn key versions = (d : Version) → is_of key (get_or versions 0 d) ≡ true

-- all before this place are
abbrev pub AreOwn : List ℕ → List Version → ℕ → Type 0
AreOwn key versions i = AllWithin (λ (v : Version). is_of key v ≡ true) versions 0 i

-- what stands between the first one and one of the same key is of that key
pub between-own : (key : List ℕ) (versions : List Version) (i j : ℕ) (d : Version) → IsSorted numbered versions → BeginsOwn key versions
    → i ≤ j → j < length versions → is_of key (get_or versions j d) ≡ true → is_of key (get_or versions i d) ≡ true
between-own key versions i j d sorted first order within last =
    let v : Version = get_or versions 0 d in
    let w : Version = get_or versions i d in
    let x : Version = get_or versions j d in
    let low : is_lt (numbered w v) ≡ false = no-lower versions 0 i d sorted (omega arith) (omega arith) in
    let here : is_upto key x.tx x ≡ true = upto-same key x.tx x ((bytes_eq-Decides x.key key).0 last) (le-leb x.tx x.tx (omega arith)) in
    let up : is_upto key x.tx w ≡ true = upto-parted key x.tx versions sorted i j d order within here in
    (bytes_eq-Decides w.key key).1 (between-key key x.tx v w low up ((bytes_eq-Decides v.key key).0 (first d)))

-- so all before it are
pub own-up : (key : List ℕ) (versions : List Version) (at more : ℕ) (v : Version) → IsSorted numbered versions → BeginsOwn key versions
    → at < length versions → v ≡ get_or versions at v → is_of key v ≡ true → more ≡ at + 1 → AreOwn key versions more
own-up key versions at more v sorted first within is own next k d low less =
    between-own key versions k at d sorted first (omega arith) within
    (subst (λ (w : Version). is_of key w ≡ true) (get_or_read versions at v within is d) own)

-- an item of a part of a list
pub part-at : {X : Type 0} (xs : List X) (from count k : ℕ) (d : X) → from + count ≤ length xs → k < count
    → get_or (take count (drop from xs)) k d ≡ get_or xs (from + k) d
part-at xs from count k d within less = get_or-take count (drop from xs) k d less ∙ get_or-drop from xs k d

-- how long a part is
pub part-length : {X : Type 0} (xs : List X) (from count : ℕ) → from + count ≤ length xs → length (take count (drop from xs)) ≡ count
part-length xs from count within = length-take-le count (drop from xs) (omega (arith, length-drop from xs))

-- a part of a sorted list is sorted
pub part-sorted : (versions : List Version) (from count : ℕ) → from + count ≤ length versions → IsSorted numbered versions
    → IsSorted numbered (take count (drop from versions))
part-sorted versions from count within sorted k d low less =
    let inside : k + 1 < count = omega (arith, part-length versions from count within) in
    let next : from + (k + 1) ≡ from + k + 1 = omega arith in
    ap (λ (v : Version). is_lt (numbered v (get_or (take count (drop from versions)) k d))) (part-at versions from count (k + 1) d within inside)
    ∙ ap (λ (v : Version). is_lt (numbered (get_or versions (from + (k + 1)) d) v)) (part-at versions from count k d within (omega arith))
    ∙ ap (λ (m : ℕ). is_lt (numbered (get_or versions m d) (get_or versions (from + k) d))) next
    ∙ sorted (from + k) d (omega arith) (omega arith)

-- a part is parted by the key of the list's first version
pub own-parted : (key : List ℕ) (versions : List Version) (from count : ℕ) → from + count ≤ length versions → IsSorted numbered versions
    → BeginsOwn key versions → IsPartitionedBy (is_of key) (take count (drop from versions))
own-parted key versions from count within sorted first i j d order less own =
    let inside : j < count = omega (arith, part-length versions from count within) in
    subst (λ (v : Version). is_of key v ≡ true) (sym (part-at versions from count i d within (omega arith)))
    (between-own key versions (from + i) (from + j) d sorted first (omega arith) (omega arith)
    (subst (λ (v : Version). is_of key v ≡ true) (part-at versions from count j d within inside) own))

-- where the key ends in a part of the list
abbrev pub EndsOwn : List ℕ → List Version → ℕ → Type 0
EndsOwn key versions i = IsPartitionPoint (λ (v : Version). is_of key v ≡ true) (λ (v : Version). is_of key v ≡ false) versions i

-- all before that are of it
pub block-own : (key : List ℕ) (versions : List Version) (from count i : ℕ) → from + count ≤ length versions → AreOwn key versions from → i ≤ count
    → EndsOwn key (take count (drop from versions)) i → AreOwn key versions (from + i)
block-own key versions from count i within own few point k d low less = elim (cases_lt k from) [
  | inl front ↦ own k d low front
  | inr behind ↦ (
      let j : ℕ = k - from in
      let same : from + j ≡ k = omega arith in
      subst (λ (m : ℕ). is_of key (get_or versions m d) ≡ true) same
      (subst (λ (v : Version). is_of key v ≡ true) (part-at versions from count j d within (omega arith)) (point.0 j d (omega arith) (omega arith))))
]

-- and the next one isn't
pub block-other : (key : List ℕ) (versions : List Version) (from count to i : ℕ) → from + count ≡ to → to ≤ length versions → i ≤ count
    → ((d : Version) → to < length versions → is_of key (get_or versions to d) ≡ false)
    → EndsOwn key (take count (drop from versions)) i → (d : Version) → from + i < length versions → is_of key (get_or versions (from + i) d) ≡ false
block-other key versions from count to i end within few other point d inside = elim (cases_lt i count) [
  | inl less ↦ (
      subst (λ (v : Version). is_of key v ≡ false) (part-at versions from count i d (omega arith) less)
      (point.1 i d (omega arith) (omega (arith, part-length versions from count (omega arith)))))
  | inr all ↦ (
      let same : to ≡ from + i = omega arith in
      subst (λ (m : ℕ). is_of key (get_or versions m d) ≡ false) same (other d (omega arith)))
]

-- a block is parted by numbers
pub block-parted : (key : List ℕ) (n : ℕ) (block : List Version) → IsSorted numbered block → All (λ (v : Version). is_of key v ≡ true) block
    → IsPartitionedBy (is_within n) block
block-parted key n block sorted own i j d order less within =
    let v : Version = get_or block i d in
    let w : Version = get_or block j d in
    let first : v.key ≡ key = (bytes_eq-Decides v.key key).0 (own i d (omega arith)) in
    let last : w.key ≡ key = (bytes_eq-Decides w.key key).0 (own j d less) in
    upto-number key n v first (upto-parted key n block sorted i j d order less (upto-same key n w last within))

-- where the last one is within n, all are
pub block-whole : (key : List ℕ) (n last : ℕ) (block : List Version) (v : Version) → IsSorted numbered block
    → All (λ (v : Version). is_of key v ≡ true) block → length block ≡ last + 1 → v ≡ get_or block last v → is_within n v ≡ true
    → block ≡ filter (is_within n) block
block-whole key n last block v sorted own size is within =
    sym (filter-all (is_within n) block (λ k d less.
    block-parted key n block sorted own k last d (omega arith) (omega arith)
    (subst (λ (w : Version). is_within n w ≡ true) (get_or_read block last v (omega arith) is d) within)))

-- what stands behind a place begins with the key there
pub part-first : (versions : List Version) (at count : ℕ) (v : Version) (key : List ℕ) → at + count ≤ length versions → 0 < count
    → v ≡ get_or versions at v → key ≡ v.key → BeginsOwn key (take count (drop at versions))
part-first versions at count v key within some is same d =
    let place : at + 0 ≡ at = omega arith in
    let here : get_or (take count (drop at versions)) 0 d ≡ v =
    part-at versions at count 0 d within some ∙ ap (λ (m : ℕ). get_or versions m d) place ∙ sym (get_or_read versions at v (omega arith) is d) in
    subst (λ (w : Version). is_of key w ≡ true) (sym here) ((bytes_eq-Decides v.key key).1 (sym same))

-- a block in front of what stands there is of it
pub part-own : (key : List ℕ) (versions : List Version) (at long count short : ℕ) → at + long ≤ length versions → count ≤ long → short ≡ count
    → AreOwn key (take long (drop at versions)) count → All (λ (v : Version). is_of key v ≡ true) (take short (drop at versions))
part-own key versions at long count short within few same own k d less =
    let inside : k < short = omega (arith, part-length versions at short (omega arith)) in
    subst (λ (v : Version). is_of key v ≡ true)
    (part-at versions at long k d within (omega arith) ∙ sym (part-at versions at short k d (omega arith) inside))
    (own k d (omega arith) (omega arith))

-- where its key begins with a prefix, each of the block does
pub begun-up : (prefix key : List ℕ) (versions : List Version) (at long count : ℕ) (v : Version) → at + long ≤ length versions → count ≤ long
    → key ≡ v.key → begins_with prefix v.key ≡ true → AllWithin (λ (w : Version). begins_with prefix w.key ≡ true) versions 0 at
    → AreOwn key (take long (drop at versions)) count → AllWithin (λ (w : Version). begins_with prefix w.key ≡ true) versions 0 (at + count)
begun-up prefix key versions at long count v within few same begins front own k d low less = elim (cases_lt k at) [
  | inl before ↦ front k d low before
  | inr behind ↦ (
      let j : ℕ = k - at in
      let place : at + j ≡ k = omega arith in
      let w : Version = get_or (take long (drop at versions)) j d in
      let mine : w.key ≡ v.key = (bytes_eq-Decides w.key key).0 (own j d (omega arith) (omega arith)) ∙ same in
      let here : w ≡ get_or versions k d = part-at versions at long j d within (omega arith) ∙ ap (λ (m : ℕ). get_or versions m d) place in
      subst (λ (x : Version). begins_with prefix x.key ≡ true) here (subst (λ (t : List ℕ). begins_with prefix t ≡ true) (sym mine) begins))
]

-- The strings of a path, the root's node last.
use Rattle.std.proofs.Common.{◌≡◌, ◌<◌, ◌≤◌, ℕ, ◌-◌, List, [], ◌∷◌, ◌++◌, reverse, length, arith, ap, sym, ◌∙◌}
use Rattle.im_digest.specs.Digests.{Hash}
use Rattle.im_model.specs.Trees.{leaf_string, node_string, split_of}
use Rattle.im_model.specs.Paths.{up, up_string, up_strings}
use Rattle.im_model.proofs.Reversed.{reverse-last, reverse-nothing}
use Rattle.im_model.proofs.Steps.{up-left, up-right, ups-leaf, ups-left, ups-right}
use Rattle.im_hashed.specs.Added.{AddsStrings}
use Rattle.im_hashed.proofs.AddLemmas.{adds-as, adds-then, adds-swapped}

-- the path has no term
pub path-none : (hash : Hash) (n i : ℕ) (digest : List ℕ) (path a b : List (List ℕ)) → length path ≡ 0 → AddsStrings a b (leaf_string digest ∷ []) → AddsStrings a b (up_strings hash n i digest (reverse path))
path-none hash n i digest path a b none h =
    adds-as a b (leaf_string digest ∷ []) (up_strings hash n i digest (reverse path))
    (sym (ap (λ ps. up_strings hash n i digest ps) (reverse-nothing path none) ∙ ups-leaf hash n i digest)) h

-- the leaf is left of the split
pub path-left : (hash : Hash) (n i k : ℕ) (digest left term : List ℕ) (path front a b c : List (List ℕ)) → path ≡ front ++ term ∷ [] → k ≡ split_of n → i < k
    → left ≡ up hash k i digest (reverse front) → AddsStrings a b (up_strings hash k i digest (reverse front)) → AddsStrings b c (node_string left term ∷ [])
    → AddsStrings a c (up_strings hash n i digest (reverse path))
path-left hash n i k digest left term path front a b c cut same side is below top =
    let lower : List (List ℕ) = up_strings hash k i digest (reverse front) in
    let at : up_string hash n i digest (term ∷ reverse front) ≡ node_string left term =
    up-left hash n i digest term (reverse front) (omega arith) ∙ ap (λ j. node_string (up hash j i digest (reverse front)) term) (sym same) ∙ ap (λ (x : List ℕ). node_string x term) (sym is) in
    let all : up_strings hash n i digest (reverse path) ≡ node_string left term ∷ lower =
    ap (λ ps. up_strings hash n i digest ps) (reverse-last path front term cut) ∙ ups-left hash n i digest term (reverse front) (omega arith)
    ∙ ap (λ (x : List ℕ). x ∷ up_strings hash (split_of n) i digest (reverse front)) at ∙ ap (λ j. node_string left term ∷ up_strings hash j i digest (reverse front)) (sym same) in
    adds-as a c (node_string left term ∷ lower) (up_strings hash n i digest (reverse path)) (sym all)
    (adds-swapped a c lower (node_string left term ∷ []) (adds-then a b c lower (node_string left term ∷ []) below top))

-- the leaf is right of it
pub path-right : (hash : Hash) (n i k : ℕ) (digest right term : List ℕ) (path front a b c : List (List ℕ)) → path ≡ front ++ term ∷ [] → k ≡ split_of n → k ≤ i
    → right ≡ up hash (n - k) (i - k) digest (reverse front) → AddsStrings a b (up_strings hash (n - k) (i - k) digest (reverse front)) → AddsStrings b c (node_string term right ∷ [])
    → AddsStrings a c (up_strings hash n i digest (reverse path))
path-right hash n i k digest right term path front a b c cut same side is below top =
    let lower : List (List ℕ) = up_strings hash (n - k) (i - k) digest (reverse front) in
    let at : up_string hash n i digest (term ∷ reverse front) ≡ node_string term right =
    up-right hash n i digest term (reverse front) (omega arith) ∙ ap (λ j. node_string term (up hash (n - j) (i - j) digest (reverse front))) (sym same) ∙ ap (λ (x : List ℕ). node_string term x) (sym is) in
    let all : up_strings hash n i digest (reverse path) ≡ node_string term right ∷ lower =
    ap (λ ps. up_strings hash n i digest ps) (reverse-last path front term cut) ∙ ups-right hash n i digest term (reverse front) (omega arith)
    ∙ ap (λ (x : List ℕ). x ∷ up_strings hash (n - split_of n) (i - split_of n) digest (reverse front)) at
    ∙ ap (λ j. node_string term right ∷ up_strings hash (n - j) (i - j) digest (reverse front)) (sym same) in
    adds-as a c (node_string term right ∷ lower) (up_strings hash n i digest (reverse path)) (sym all)
    (adds-swapped a c lower (node_string term right ∷ []) (adds-then a b c lower (node_string term right ∷ []) below top))

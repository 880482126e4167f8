-- The strings of a consistency list, the root's nodes last.
use Rattle.std.proofs.Common.{◌≡◌, ◌<◌, ◌≤◌, ℕ, ◌-◌, List, [], ◌∷◌, ◌++◌, length, reverse, arith, ap, sym, ◌∙◌}
use Rattle.im_digest.specs.Digests.{Hash}
use Rattle.im_model.specs.Trees.{node_string, split_of}
use Rattle.im_model.specs.Growth.{older, newer, grow_strings}
use Rattle.im_model.proofs.Reversed.{reverse-last, reverse-nothing}
use Rattle.im_model.proofs.Steps.{grows-first, grows-left, grows-right}
use Rattle.im_hashed.specs.Added.{AddsStrings}
use Rattle.im_hashed.proofs.AddLemmas.{adds-as, adds-none, adds-then, adds-swapped}

-- the list has no term behind the first
pub grows-none : (hash : Hash) (m n : ℕ) (first : List ℕ) (terms a : List (List ℕ)) → length terms ≡ 0 → AddsStrings a a (grow_strings hash m n first (reverse terms))
grows-none hash m n first terms a none =
    adds-as a a [] (grow_strings hash m n first (reverse terms))
    (sym (ap (λ ts. grow_strings hash m n first ts) (reverse-nothing terms none) ∙ grows-first hash m n first)) (adds-none a)

-- the older size is in the left part
pub grows-beside : (hash : Hash) (m n k : ℕ) (first term root : List ℕ) (terms front a b c : List (List ℕ)) → terms ≡ front ++ term ∷ [] → k ≡ split_of n → m ≤ k
    → root ≡ newer hash m k first (reverse front) → AddsStrings a b (grow_strings hash m k first (reverse front)) → AddsStrings b c (node_string root term ∷ [])
    → AddsStrings a c (grow_strings hash m n first (reverse terms))
grows-beside hash m n k first term root terms front a b c cut same side is below top =
    let lower : List (List ℕ) = grow_strings hash m k first (reverse front) in
    let all : grow_strings hash m n first (reverse terms) ≡ node_string root term ∷ lower =
    ap (λ ts. grow_strings hash m n first ts) (reverse-last terms front term cut) ∙ grows-left hash m n first term (reverse front) (omega arith)
    ∙ ap (λ j. node_string (newer hash m j first (reverse front)) term ∷ grow_strings hash m j first (reverse front)) (sym same)
    ∙ ap (λ (x : List ℕ). node_string x term ∷ lower) (sym is) in
    adds-as a c (node_string root term ∷ lower) (grow_strings hash m n first (reverse terms)) (sym all)
    (adds-swapped a c lower (node_string root term ∷ []) (adds-then a b c lower (node_string root term ∷ []) below top))

-- it reaches into the right part
pub grows-below : (hash : Hash) (m n k : ℕ) (first term o w : List ℕ) (terms front a b c : List (List ℕ)) → terms ≡ front ++ term ∷ [] → k ≡ split_of n → k < m
    → o ≡ older hash (m - k) (n - k) first (reverse front) → w ≡ newer hash (m - k) (n - k) first (reverse front)
    → AddsStrings a b (grow_strings hash (m - k) (n - k) first (reverse front)) → AddsStrings b c (node_string term o ∷ node_string term w ∷ [])
    → AddsStrings a c (grow_strings hash m n first (reverse terms))
grows-below hash m n k first term o w terms front a b c cut same side old new below top =
    let lower : List (List ℕ) = grow_strings hash (m - k) (n - k) first (reverse front) in
    let all : grow_strings hash m n first (reverse terms) ≡ node_string term o ∷ node_string term w ∷ lower =
    ap (λ ts. grow_strings hash m n first ts) (reverse-last terms front term cut) ∙ grows-right hash m n first term (reverse front) (omega arith)
    ∙ ap (λ j. node_string term (older hash (m - j) (n - j) first (reverse front)) ∷ node_string term (newer hash (m - j) (n - j) first (reverse front))
    ∷ grow_strings hash (m - j) (n - j) first (reverse front)) (sym same)
    ∙ ap (λ (x : List ℕ). node_string term x ∷ node_string term (newer hash (m - k) (n - k) first (reverse front)) ∷ lower) (sym old)
    ∙ ap (λ (x : List ℕ). node_string term o ∷ node_string term x ∷ lower) (sym new) in
    adds-as a c (node_string term o ∷ node_string term w ∷ lower) (grow_strings hash m n first (reverse terms)) (sym all)
    (adds-swapped a c lower (node_string term o ∷ node_string term w ∷ []) (adds-then a b c lower (node_string term o ∷ node_string term w ∷ []) below top))

-- Lists as a proof holds them, their last term first.
use Rattle.std.proofs.Common.{◌≡◌, ◌<◌, ◌≤◌, length, ℕ, ◌-◌, List, [], ◌∷◌, ◌++◌, reverse, ap, subst, ◌∙◌, sym}
use Rattle.std.proofs.lemmas.List.{nil_from_length, reverse-append}
use Rattle.im_digest.specs.Digests.{Hash}
use Rattle.im_model.specs.Trees.{leaf, node, split_of}
use Rattle.im_model.specs.Paths.{up}
use Rattle.im_model.specs.Growth.{older, newer}
use Rattle.im_model.proofs.Steps.{up-left, up-right, up-leaf, older-first, newer-first, older-left, older-right, newer-left, newer-right}

-- the last term comes first
pub reverse-last : (list front : List (List ℕ)) (last : List ℕ) → list ≡ front ++ last ∷ [] → reverse list ≡ last ∷ reverse front
reverse-last list front last e = ap (λ l. reverse l) e ∙ reverse-append front (last ∷ [])

-- no term stays no term
pub reverse-nothing : (list : List (List ℕ)) → length list ≡ 0 → reverse list ≡ []
reverse-nothing list e = ap (λ l. reverse l) (nil_from_length list e)

-- the empty path leads to the leaf
pub up-nothing : (hash : Hash) (n i : ℕ) (digest : List ℕ) (list : List (List ℕ)) → length list ≡ 0 → up hash n i digest (reverse list) ≡ leaf hash digest
up-nothing hash n i digest list e = ap (λ l. up hash n i digest l) (reverse-nothing list e) ∙ ap hash (up-leaf hash n i digest)

-- below the split the last term is the right part
pub up-last-left : (hash : Hash) (n i : ℕ) (digest : List ℕ) (list front : List (List ℕ)) (last : List ℕ) (k : ℕ) → list ≡ front ++ last ∷ [] → k ≡ split_of n → i < k
    → up hash n i digest (reverse list) ≡ node hash (up hash k i digest (reverse front)) last
up-last-left hash n i digest list front last k e same side =
    ap (λ l. up hash n i digest l) (reverse-last list front last e)
    ∙ subst (λ j. i < j → up hash n i digest (last ∷ reverse front) ≡ node hash (up hash j i digest (reverse front)) last) (sym same)
    (λ h. ap hash (up-left hash n i digest last (reverse front) h)) side

-- from the split on the last term is the left part
pub up-last-right : (hash : Hash) (n i : ℕ) (digest : List ℕ) (list front : List (List ℕ)) (last : List ℕ) (k : ℕ) → list ≡ front ++ last ∷ [] → k ≡ split_of n → k ≤ i
    → up hash n i digest (reverse list) ≡ node hash last (up hash (n - k) (i - k) digest (reverse front))
up-last-right hash n i digest list front last k e same side =
    ap (λ l. up hash n i digest l) (reverse-last list front last e)
    ∙ subst (λ j. j ≤ i → up hash n i digest (last ∷ reverse front) ≡ node hash last (up hash (n - j) (i - j) digest (reverse front))) (sym same)
    (λ h. ap hash (up-right hash n i digest last (reverse front) h)) side

-- the first term alone is the older root
pub older-nothing : (hash : Hash) (m n : ℕ) (first : List ℕ) (list : List (List ℕ)) → length list ≡ 0 → older hash m n first (reverse list) ≡ first
older-nothing hash m n first list e = ap (λ l. older hash m n first l) (reverse-nothing list e) ∙ older-first hash m n first

-- the first term alone is the newer root
pub newer-nothing : (hash : Hash) (m n : ℕ) (first : List ℕ) (list : List (List ℕ)) → length list ≡ 0 → newer hash m n first (reverse list) ≡ first
newer-nothing hash m n first list e = ap (λ l. newer hash m n first l) (reverse-nothing list e) ∙ newer-first hash m n first

-- an older size up to the split has its root in the left part
pub older-last-left : (hash : Hash) (m n : ℕ) (first : List ℕ) (list front : List (List ℕ)) (last : List ℕ) (k : ℕ) → list ≡ front ++ last ∷ [] → k ≡ split_of n → m ≤ k
    → older hash m n first (reverse list) ≡ older hash m k first (reverse front)
older-last-left hash m n first list front last k e same side =
    ap (λ l. older hash m n first l) (reverse-last list front last e)
    ∙ subst (λ j. m ≤ j → older hash m n first (last ∷ reverse front) ≡ older hash m j first (reverse front)) (sym same)
    (λ h. older-left hash m n first last (reverse front) h) side

-- an older size past the split has the whole left part
pub older-last-right : (hash : Hash) (m n : ℕ) (first : List ℕ) (list front : List (List ℕ)) (last : List ℕ) (k : ℕ) → list ≡ front ++ last ∷ [] → k ≡ split_of n → k < m
    → older hash m n first (reverse list) ≡ node hash last (older hash (m - k) (n - k) first (reverse front))
older-last-right hash m n first list front last k e same side =
    ap (λ l. older hash m n first l) (reverse-last list front last e)
    ∙ subst (λ j. j < m → older hash m n first (last ∷ reverse front) ≡ node hash last (older hash (m - j) (n - j) first (reverse front))) (sym same)
    (λ h. older-right hash m n first last (reverse front) h) side

-- for an older size up to the split the last term is the right part
pub newer-last-left : (hash : Hash) (m n : ℕ) (first : List ℕ) (list front : List (List ℕ)) (last : List ℕ) (k : ℕ) → list ≡ front ++ last ∷ [] → k ≡ split_of n → m ≤ k
    → newer hash m n first (reverse list) ≡ node hash (newer hash m k first (reverse front)) last
newer-last-left hash m n first list front last k e same side =
    ap (λ l. newer hash m n first l) (reverse-last list front last e)
    ∙ subst (λ j. m ≤ j → newer hash m n first (last ∷ reverse front) ≡ node hash (newer hash m j first (reverse front)) last) (sym same)
    (λ h. newer-left hash m n first last (reverse front) h) side

-- for an older size past the split the last term is the left part
pub newer-last-right : (hash : Hash) (m n : ℕ) (first : List ℕ) (list front : List (List ℕ)) (last : List ℕ) (k : ℕ) → list ≡ front ++ last ∷ [] → k ≡ split_of n → k < m
    → newer hash m n first (reverse list) ≡ node hash last (newer hash (m - k) (n - k) first (reverse front))
newer-last-right hash m n first list front last k e same side =
    ap (λ l. newer hash m n first l) (reverse-last list front last e)
    ∙ subst (λ j. j < m → newer hash m n first (last ∷ reverse front) ≡ node hash last (newer hash (m - j) (n - j) first (reverse front))) (sym same)
    (λ h. newer-right hash m n first last (reverse front) h) side

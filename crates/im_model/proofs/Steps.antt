-- One step of each recursion over a path, a consistency list or a chain.
use Rattle.std.proofs.Common.{◌≡◌, ◌<◌, ◌≤◌, ℕ, ◌+◌, ◌-◌, List, [], ◌∷◌, refl, ap, if◌then◌else◌}
use Rattle.std.proofs.lemmas.Bool.{lt-ltb, le-ltb, le-leb, lt-leb}
use Rattle.im_digest.specs.Digests.{Hash}
use Rattle.im_model.specs.Trees.{leaf_string, node_string, split_of}
use Rattle.im_model.specs.Paths.{up_string, up_strings}
use Rattle.im_model.specs.Growth.{older, newer, grow_strings}
use Rattle.im_model.specs.Chains.{link_string, chain_strings}

-- the empty path leads to the leaf
pub up-leaf : (hash : Hash) (n i : ℕ) (digest : List ℕ) → up_string hash n i digest [] ≡ leaf_string digest
unfolding up_string
up-leaf hash n i digest = refl

-- below the split the term is the right part
pub up-left : (hash : Hash) (n i : ℕ) (digest term : List ℕ) (rest : List (List ℕ)) → i < split_of n
    → up_string hash n i digest (term ∷ rest) ≡ node_string (hash (up_string hash (split_of n) i digest rest)) term
unfolding up_string
up-left hash n i digest term rest h =
    ap (λ b. if b then node_string (hash (up_string hash (split_of n) i digest rest)) term
    else node_string term (hash (up_string hash (n - split_of n) (i - split_of n) digest rest))) (lt-ltb i (split_of n) h)

-- from the split on the term is the left part
pub up-right : (hash : Hash) (n i : ℕ) (digest term : List ℕ) (rest : List (List ℕ)) → split_of n ≤ i
    → up_string hash n i digest (term ∷ rest) ≡ node_string term (hash (up_string hash (n - split_of n) (i - split_of n) digest rest))
unfolding up_string
up-right hash n i digest term rest h =
    ap (λ b. if b then node_string (hash (up_string hash (split_of n) i digest rest)) term
    else node_string term (hash (up_string hash (n - split_of n) (i - split_of n) digest rest))) (le-ltb i (split_of n) h)

-- the empty path hashes the leaf alone
pub ups-leaf : (hash : Hash) (n i : ℕ) (digest : List ℕ) → up_strings hash n i digest [] ≡ leaf_string digest ∷ []
unfolding up_strings
ups-leaf hash n i digest = refl

-- below the split a path goes on in the left part
pub ups-left : (hash : Hash) (n i : ℕ) (digest term : List ℕ) (rest : List (List ℕ)) → i < split_of n
    → up_strings hash n i digest (term ∷ rest) ≡ up_string hash n i digest (term ∷ rest) ∷ up_strings hash (split_of n) i digest rest
unfolding up_strings
ups-left hash n i digest term rest h =
    ap (λ b. up_string hash n i digest (term ∷ rest) ∷ (if b then up_strings hash (split_of n) i digest rest
    else up_strings hash (n - split_of n) (i - split_of n) digest rest)) (lt-ltb i (split_of n) h)

-- from the split on a path goes on in the right part
pub ups-right : (hash : Hash) (n i : ℕ) (digest term : List ℕ) (rest : List (List ℕ)) → split_of n ≤ i
    → up_strings hash n i digest (term ∷ rest) ≡ up_string hash n i digest (term ∷ rest) ∷ up_strings hash (n - split_of n) (i - split_of n) digest rest
unfolding up_strings
ups-right hash n i digest term rest h =
    ap (λ b. up_string hash n i digest (term ∷ rest) ∷ (if b then up_strings hash (split_of n) i digest rest
    else up_strings hash (n - split_of n) (i - split_of n) digest rest)) (le-ltb i (split_of n) h)

-- the first term alone is the older root
pub older-first : (hash : Hash) (m n : ℕ) (first : List ℕ) → older hash m n first [] ≡ first
unfolding older
older-first hash m n first = refl

-- an older size up to the split has its root in the left part
pub older-left : (hash : Hash) (m n : ℕ) (first term : List ℕ) (rest : List (List ℕ)) → m ≤ split_of n
    → older hash m n first (term ∷ rest) ≡ older hash m (split_of n) first rest
unfolding older
older-left hash m n first term rest h =
    ap (λ b. if b then older hash m (split_of n) first rest
    else hash (node_string term (older hash (m - split_of n) (n - split_of n) first rest))) (le-leb m (split_of n) h)

-- an older size past the split has the whole left part
pub older-right : (hash : Hash) (m n : ℕ) (first term : List ℕ) (rest : List (List ℕ)) → split_of n < m
    → older hash m n first (term ∷ rest) ≡ hash (node_string term (older hash (m - split_of n) (n - split_of n) first rest))
unfolding older
older-right hash m n first term rest h =
    ap (λ b. if b then older hash m (split_of n) first rest
    else hash (node_string term (older hash (m - split_of n) (n - split_of n) first rest))) (lt-leb m (split_of n) h)

-- the first term alone is the newer root
pub newer-first : (hash : Hash) (m n : ℕ) (first : List ℕ) → newer hash m n first [] ≡ first
unfolding newer
newer-first hash m n first = refl

-- for an older size up to the split the term is the right part
pub newer-left : (hash : Hash) (m n : ℕ) (first term : List ℕ) (rest : List (List ℕ)) → m ≤ split_of n
    → newer hash m n first (term ∷ rest) ≡ hash (node_string (newer hash m (split_of n) first rest) term)
unfolding newer
newer-left hash m n first term rest h =
    ap (λ b. if b then hash (node_string (newer hash m (split_of n) first rest) term)
    else hash (node_string term (newer hash (m - split_of n) (n - split_of n) first rest))) (le-leb m (split_of n) h)

-- for an older size past the split the term is the left part
pub newer-right : (hash : Hash) (m n : ℕ) (first term : List ℕ) (rest : List (List ℕ)) → split_of n < m
    → newer hash m n first (term ∷ rest) ≡ hash (node_string term (newer hash (m - split_of n) (n - split_of n) first rest))
unfolding newer
newer-right hash m n first term rest h =
    ap (λ b. if b then hash (node_string (newer hash m (split_of n) first rest) term)
    else hash (node_string term (newer hash (m - split_of n) (n - split_of n) first rest))) (lt-leb m (split_of n) h)

-- the first term alone is not hashed
pub grows-first : (hash : Hash) (m n : ℕ) (first : List ℕ) → grow_strings hash m n first [] ≡ []
unfolding grow_strings
grows-first hash m n first = refl

-- up to the split only the newer root is a node
pub grows-left : (hash : Hash) (m n : ℕ) (first term : List ℕ) (rest : List (List ℕ)) → m ≤ split_of n
    → grow_strings hash m n first (term ∷ rest) ≡ node_string (newer hash m (split_of n) first rest) term ∷ grow_strings hash m (split_of n) first rest
unfolding grow_strings
grows-left hash m n first term rest h =
    ap (λ b. if b then node_string (newer hash m (split_of n) first rest) term ∷ grow_strings hash m (split_of n) first rest
    else node_string term (older hash (m - split_of n) (n - split_of n) first rest)
    ∷ node_string term (newer hash (m - split_of n) (n - split_of n) first rest)
    ∷ grow_strings hash (m - split_of n) (n - split_of n) first rest) (le-leb m (split_of n) h)

-- past the split both roots are nodes
pub grows-right : (hash : Hash) (m n : ℕ) (first term : List ℕ) (rest : List (List ℕ)) → split_of n < m
    → grow_strings hash m n first (term ∷ rest) ≡ node_string term (older hash (m - split_of n) (n - split_of n) first rest)
    ∷ node_string term (newer hash (m - split_of n) (n - split_of n) first rest)
    ∷ grow_strings hash (m - split_of n) (n - split_of n) first rest
unfolding grow_strings
grows-right hash m n first term rest h =
    ap (λ b. if b then node_string (newer hash m (split_of n) first rest) term ∷ grow_strings hash m (split_of n) first rest
    else node_string term (older hash (m - split_of n) (n - split_of n) first rest)
    ∷ node_string term (newer hash (m - split_of n) (n - split_of n) first rest)
    ∷ grow_strings hash (m - split_of n) (n - split_of n) first rest) (lt-leb m (split_of n) h)

-- a chain of no links hashes nothing
pub links-none : (hash : Hash) (alh : List ℕ) (k : ℕ) → chain_strings hash alh k [] ≡ []
unfolding chain_strings
links-none hash alh k = refl

-- a chain hashes its first link, and goes on from its digest
pub links-more : (hash : Hash) (alh : List ℕ) (k : ℕ) (inner : List ℕ) (rest : List (List ℕ))
    → chain_strings hash alh k (inner ∷ rest) ≡ link_string (k + 1) alh inner ∷ chain_strings hash (hash (link_string (k + 1) alh inner)) (k + 1) rest
unfolding chain_strings
links-more hash alh k inner rest = refl

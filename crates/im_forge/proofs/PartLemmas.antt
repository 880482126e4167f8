-- The turns of a walk along two paths of one leaf number, from the leaves up.
use Rattle.std.proofs.Common.{◌≡◌, ◌≢◌, ◌<◌, ◌≤◌, length, ℕ, ◌-◌, List, [], ◌∷◌, ◌++◌, drop, reverse, refl, arith, ap, subst, ◌∙◌, sym, Contains, inl, inr}
use Rattle.std.proofs.lemmas.List.Elements.{All-head, All-tail, Contains-append_left, Contains-append_right}
use Rattle.im_digest.specs.Digests.{Hash, GivesDigests}
use Rattle.im_model.specs.Trees.{leaf, leaf_string, node_string, split_of}
use Rattle.im_model.specs.Paths.{IsPath, up_string, up_strings}
use Rattle.im_model.proofs.Steps.{up-leaf, ups-leaf}
use Rattle.im_model.proofs.Reversed.{reverse-last}
use Rattle.im_pairs.specs.Pairs.{AreAmong, IsPair}
use Rattle.im_pairs.proofs.PairLemmas.{node_parts, AreAmong-both, IsPair-more}
use Rattle.im_pairs.proofs.UpLemmas.{AtLeft, AtRight, at-node, top-among}
use Rattle.im_forge.specs.Parted.{ArePaths, IsParted, IsOver}
use Rattle.im_forge.specs.declared.parts.Parted.{Parted}

-- equal strings for a pair's
at-strings : (hash : Hash) (x y s t : List ℕ) (strings : List (List ℕ)) → x ≡ s → y ≡ t → IsPair hash s t strings → IsPair hash x y strings
at-strings hash x y s t strings p q pair =
    subst (λ (u : List ℕ). IsPair hash u y strings) (sym p) (subst (λ (u : List ℕ). IsPair hash s u strings) (sym q) pair)

-- the leaves of two paths of no term
pub parted-leaves : (hash : Hash) (n i : ℕ) (digest digest2 : List ℕ) (path path2 : List (List ℕ)) → length path ≡ 0 → ArePaths n i digest digest2 path path2
    → IsParted hash n i digest digest2 path path2 (record { ours = leaf hash digest; theirs = leaf hash digest2; x = leaf_string digest; y = leaf_string digest2 })
parted-leaves hash n i digest digest2 [] [] none a =
    let one : List (List ℕ) = up_strings hash n i digest [] in
    let two : List (List ℕ) = up_strings hash n i digest2 [] in
    record {
      ours = ap hash (sym (up-leaf hash n i digest));
      theirs = ap hash (sym (up-leaf hash n i digest2));
      pair = λ e. record {
        unequal = λ s. a.unequal (ap (λ s. drop 1 s) s);
        same = ap hash (sym (up-leaf hash n i digest)) ∙ e ∙ ap hash (up-leaf hash n i digest2);
        left = Contains-append_left one two (leaf_string digest) (subst (λ xs. Contains xs (leaf_string digest)) (sym (ups-leaf hash n i digest)) (0, omega arith, refl));
        right = Contains-append_right one two (leaf_string digest2) (subst (λ xs. Contains xs (leaf_string digest2)) (sym (ups-leaf hash n i digest2)) (0, omega arith, refl));
      };
    }
parted-leaves hash n i digest digest2 [] (term ∷ rest) none a = absurd (let one : n ≡ 1 = a.long in let many : 1 < n = a.long2.0 in omega arith)
parted-leaves hash n i digest digest2 (term ∷ rest) path2 none a = absurd (omega arith)

-- the nodes over what was parted, given what their strings are
over-parted : (hash : Hash) (n i : ℕ) (digest digest2 : List ℕ) (path path2 : List (List ℕ)) (a b c d : List ℕ) (q p : Parted) (ss ts : List (List ℕ))
    → node_string a b ≡ up_string hash n i digest path → node_string c d ≡ up_string hash n i digest2 path2
    → (q.ours ≢ q.theirs → node_string a b ≢ node_string c d) → (q.ours ≡ q.theirs → IsPair hash q.x q.y (ss ++ ts))
    → AreAmong ss (up_strings hash n i digest path) → AreAmong ts (up_strings hash n i digest2 path2) → IsOver hash a b c d q p
    → IsParted hash n i digest digest2 path path2 p
over-parted hash n i digest digest2 path path2 a b c d q p ss ts whole whole2 apart below among among2 o =
    let one : List (List ℕ) = up_strings hash n i digest path in
    let two : List (List ℕ) = up_strings hash n i digest2 path2 in
    record {
      ours = o.ours ∙ ap hash whole;
      theirs = o.theirs ∙ ap hash whole2;
      pair = λ e. elim o.strings [
        | inl same ↦ at-strings hash p.x p.y q.x q.y (one ++ two) same.1 same.2
            (IsPair-more hash q.x q.y (ss ++ ts) (one ++ two) (AreAmong-both ss ts one two among among2) (below same.0))
        | inr differ ↦ at-strings hash p.x p.y (node_string a b) (node_string c d) (one ++ two) differ.1 differ.2 (record {
          unequal = apart differ.0;
          same = ap hash whole ∙ e ∙ ap hash (sym whole2);
          left = Contains-append_left one two (node_string a b) (subst (λ (u : List ℕ). Contains one u) (sym whole) (top-among hash n i digest path one (λ x m. m)));
          right = Contains-append_right one two (node_string c d) (subst (λ (u : List ℕ). Contains two u) (sym whole2) (top-among hash n i digest2 path2 two (λ x m. m)));
        })
      ];
    }

-- a path at the node next to the root, where the leaf is left
left-of : (hash : Hash) (n i k : ℕ) (digest term : List ℕ) (rest : List (List ℕ)) → IsPath n i (term ∷ rest) → k ≡ split_of n → i < k
    → AtLeft hash k i digest term rest (up_string hash n i digest (term ∷ rest)) (up_strings hash n i digest (term ∷ rest))
left-of hash n i k digest term rest long same side =
    elim (at-node hash n i digest term rest (up_strings hash n i digest (term ∷ rest)) k (sym same) long (λ x m. m)) [
      | inl l ↦ l
      | inr r ↦ absurd (let other : k ≤ i = r.side in omega arith)
    ]

-- and where it is right
right-of : (hash : Hash) (n i k : ℕ) (digest term : List ℕ) (rest : List (List ℕ)) → IsPath n i (term ∷ rest) → k ≡ split_of n → k ≤ i
    → AtRight hash n k i digest term rest (up_string hash n i digest (term ∷ rest)) (up_strings hash n i digest (term ∷ rest))
right-of hash n i k digest term rest long same side =
    elim (at-node hash n i digest term rest (up_strings hash n i digest (term ∷ rest)) k (sym same) long (λ x m. m)) [
      | inl l ↦ absurd (let other : i < k = l.side in omega arith)
      | inr r ↦ r
    ]

-- the paths in the left part
paths-left : (hash : Hash) (n i k : ℕ) (digest digest2 term term2 : List ℕ) (rest rest2 : List (List ℕ)) → ArePaths n i digest digest2 (term ∷ rest) (term2 ∷ rest2) → k ≡ split_of n → i < k
    → ArePaths k i digest digest2 rest rest2
paths-left hash n i k digest digest2 term term2 rest rest2 a same side = record {
  within = side;
  long = (left-of hash n i k digest term rest a.long same side).long;
  long2 = (left-of hash n i k digest2 term2 rest2 a.long2 same side).long;
  digests = All-tail (λ u. length u ≡ 32) term rest a.digests;
  digests2 = All-tail (λ u. length u ≡ 32) term2 rest2 a.digests2;
  unequal = a.unequal;
  size = a.size;
  size2 = a.size2;
}

-- and in the right part
paths-right : (hash : Hash) (n i k : ℕ) (digest digest2 term term2 : List ℕ) (rest rest2 : List (List ℕ)) → ArePaths n i digest digest2 (term ∷ rest) (term2 ∷ rest2) → k ≡ split_of n → k ≤ i
    → ArePaths (n - k) (i - k) digest digest2 rest rest2
paths-right hash n i k digest digest2 term term2 rest rest2 a same side = record {
  within = (let within : i < n = a.within in omega arith);
  long = (right-of hash n i k digest term rest a.long same side).long;
  long2 = (right-of hash n i k digest2 term2 rest2 a.long2 same side).long;
  digests = All-tail (λ u. length u ≡ 32) term rest a.digests;
  digests2 = All-tail (λ u. length u ≡ 32) term2 rest2 a.digests2;
  unequal = a.unequal;
  size = a.size;
  size2 = a.size2;
}

-- the paths of the part that the leaf is in, of paths as they are cut at their last terms
pub cut-left : (hash : Hash) (n i k : ℕ) (digest digest2 : List ℕ) (path path2 front front2 : List (List ℕ)) (term term2 : List ℕ)
    → path ≡ front ++ term ∷ [] → path2 ≡ front2 ++ term2 ∷ [] → ArePaths n i digest digest2 (reverse path) (reverse path2) → k ≡ split_of n → i < k
    → ArePaths k i digest digest2 (reverse front) (reverse front2)
cut-left hash n i k digest digest2 path path2 front front2 term term2 cut cut2 a same side =
    paths-left hash n i k digest digest2 term term2 (reverse front) (reverse front2)
    (subst (λ qs. ArePaths n i digest digest2 (term ∷ reverse front) qs) (reverse-last path2 front2 term2 cut2)
    (subst (λ ps. ArePaths n i digest digest2 ps (reverse path2)) (reverse-last path front term cut) a)) same side

pub cut-right : (hash : Hash) (n i k : ℕ) (digest digest2 : List ℕ) (path path2 front front2 : List (List ℕ)) (term term2 : List ℕ)
    → path ≡ front ++ term ∷ [] → path2 ≡ front2 ++ term2 ∷ [] → ArePaths n i digest digest2 (reverse path) (reverse path2) → k ≡ split_of n → k ≤ i
    → ArePaths (n - k) (i - k) digest digest2 (reverse front) (reverse front2)
cut-right hash n i k digest digest2 path path2 front front2 term term2 cut cut2 a same side =
    paths-right hash n i k digest digest2 term term2 (reverse front) (reverse front2)
    (subst (λ qs. ArePaths n i digest digest2 (term ∷ reverse front) qs) (reverse-last path2 front2 term2 cut2)
    (subst (λ ps. ArePaths n i digest digest2 ps (reverse path2)) (reverse-last path front term cut) a)) same side

-- the turn to the left
parted-left : (hash : Hash) → GivesDigests hash → (n i k : ℕ) (digest digest2 term term2 : List ℕ) (rest rest2 : List (List ℕ)) (q p : Parted)
    → ArePaths n i digest digest2 (term ∷ rest) (term2 ∷ rest2) → k ≡ split_of n → i < k → IsParted hash k i digest digest2 rest rest2 q → IsOver hash q.ours term q.theirs term2 q p
    → IsParted hash n i digest digest2 (term ∷ rest) (term2 ∷ rest2) p
parted-left hash size n i k digest digest2 term term2 rest rest2 q p a same side below o =
    let at = left-of hash n i k digest term rest a.long same side in
    let at2 = left-of hash n i k digest2 term2 rest2 a.long2 same side in
    over-parted hash n i digest digest2 (term ∷ rest) (term2 ∷ rest2) q.ours term q.theirs term2 q p (up_strings hash k i digest rest) (up_strings hash k i digest2 rest2)
    (ap (λ s. node_string s term) below.ours ∙ sym at.is) (ap (λ s. node_string s term2) below.theirs ∙ sym at2.is)
    (λ differ e. differ (node_parts q.ours term q.theirs term2 (ap length below.ours ∙ size _) (ap length below.theirs ∙ size _) e).0)
    (λ one. below.pair (sym below.ours ∙ one ∙ below.theirs)) at.among at2.among o

-- the turn to the right
parted-right : (hash : Hash) (n i k : ℕ) (digest digest2 term term2 : List ℕ) (rest rest2 : List (List ℕ)) (q p : Parted)
    → ArePaths n i digest digest2 (term ∷ rest) (term2 ∷ rest2) → k ≡ split_of n → k ≤ i → IsParted hash (n - k) (i - k) digest digest2 rest rest2 q → IsOver hash term q.ours term2 q.theirs q p
    → IsParted hash n i digest digest2 (term ∷ rest) (term2 ∷ rest2) p
parted-right hash n i k digest digest2 term term2 rest rest2 q p a same side below o =
    let at = right-of hash n i k digest term rest a.long same side in
    let at2 = right-of hash n i k digest2 term2 rest2 a.long2 same side in
    over-parted hash n i digest digest2 (term ∷ rest) (term2 ∷ rest2) term q.ours term2 q.theirs q p (up_strings hash (n - k) (i - k) digest rest) (up_strings hash (n - k) (i - k) digest2 rest2)
    (ap (λ s. node_string term s) below.ours ∙ sym at.is) (ap (λ s. node_string term2 s) below.theirs ∙ sym at2.is)
    (λ differ e. differ (node_parts term q.ours term2 q.theirs (All-head (λ u. length u ≡ 32) term rest a.digests) (All-head (λ u. length u ≡ 32) term2 rest2 a.digests2) e).1)
    (λ one. below.pair (sym below.ours ∙ one ∙ below.theirs)) at.among at2.among o

-- both of paths as they are cut at their last terms
pub parted-cut_left : (hash : Hash) → GivesDigests hash → (n i k : ℕ) (digest digest2 : List ℕ) (path path2 front front2 : List (List ℕ)) (term term2 : List ℕ) (q p : Parted)
    → path ≡ front ++ term ∷ [] → path2 ≡ front2 ++ term2 ∷ [] → ArePaths n i digest digest2 (reverse path) (reverse path2) → k ≡ split_of n → i < k
    → IsParted hash k i digest digest2 (reverse front) (reverse front2) q → IsOver hash q.ours term q.theirs term2 q p
    → IsParted hash n i digest digest2 (reverse path) (reverse path2) p
parted-cut_left hash size n i k digest digest2 path path2 front front2 term term2 q p cut cut2 a same side below o =
    let one : reverse path ≡ term ∷ reverse front = reverse-last path front term cut in
    let two : reverse path2 ≡ term2 ∷ reverse front2 = reverse-last path2 front2 term2 cut2 in
    subst (λ ps. IsParted hash n i digest digest2 ps (reverse path2) p) (sym one) (subst (λ qs. IsParted hash n i digest digest2 (term ∷ reverse front) qs p) (sym two)
    (parted-left hash size n i k digest digest2 term term2 (reverse front) (reverse front2) q p
    (subst (λ qs. ArePaths n i digest digest2 (term ∷ reverse front) qs) two (subst (λ ps. ArePaths n i digest digest2 ps (reverse path2)) one a)) same side below o))

pub parted-cut_right : (hash : Hash) (n i k : ℕ) (digest digest2 : List ℕ) (path path2 front front2 : List (List ℕ)) (term term2 : List ℕ) (q p : Parted)
    → path ≡ front ++ term ∷ [] → path2 ≡ front2 ++ term2 ∷ [] → ArePaths n i digest digest2 (reverse path) (reverse path2) → k ≡ split_of n → k ≤ i
    → IsParted hash (n - k) (i - k) digest digest2 (reverse front) (reverse front2) q → IsOver hash term q.ours term2 q.theirs q p
    → IsParted hash n i digest digest2 (reverse path) (reverse path2) p
parted-cut_right hash n i k digest digest2 path path2 front front2 term term2 q p cut cut2 a same side below o =
    let one : reverse path ≡ term ∷ reverse front = reverse-last path front term cut in
    let two : reverse path2 ≡ term2 ∷ reverse front2 = reverse-last path2 front2 term2 cut2 in
    subst (λ ps. IsParted hash n i digest digest2 ps (reverse path2) p) (sym one) (subst (λ qs. IsParted hash n i digest digest2 (term ∷ reverse front) qs p) (sym two)
    (parted-right hash n i k digest digest2 term term2 (reverse front) (reverse front2) q p
    (subst (λ qs. ArePaths n i digest digest2 (term ∷ reverse front) qs) two (subst (λ ps. ArePaths n i digest digest2 ps (reverse path2)) one a)) same side below o))

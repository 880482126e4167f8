-- Chains: equally long ones with one end, and one after another.
use Rattle.std.proofs.Common.{◌≡◌, ◌⊎◌, length, ℕ, suc, ◌+◌, ◌<◌, List, [], ◌∷◌, ◌++◌, refl, arith, ap, subst, ◌∙◌, sym, inl, inr, length-append}
use Rattle.im_octet.specs.Fields.{field8}
use Rattle.im_digest.specs.Digests.{Hash, GivesDigests}
use Rattle.im_model.specs.Chains.{link_string, chain, chain_strings}
use Rattle.im_pairs.specs.Pairs.{HasPair, AreAmong}
use Rattle.im_pairs.proofs.PairLemmas.{three, same_or_pair, AreAmong-head, AreAmong-tail, AreAmong-cons}
use Rattle.im_carried.specs.Opened.{Links}

-- the string of the first step of a chain
abbrev pub link : List ℕ → ℕ → List ℕ → List ℕ
link a k x = link_string (k + 1) a x

-- two equally long chains with one end begin with one Alh, or there is a pair
pub same_start : (hash : Hash) → GivesDigests hash → (k : ℕ) (a c : List ℕ) (xs ys : List (List ℕ)) (strings : List (List ℕ))
    → length xs ≡ length ys → length a ≡ 32 → length c ≡ 32 → chain hash a k xs ≡ chain hash c k ys
    → AreAmong (chain_strings hash a k xs) strings → AreAmong (chain_strings hash c k ys) strings → (a ≡ c) ⊎ HasPair hash strings
unfolding chain_strings
same_start hash size k a c [] [] strings n la lc e p q = inl e
same_start hash size k a c [] (y ∷ ys) strings n la lc e p q = absurd (omega arith)
same_start hash size k a c (x ∷ xs) [] strings n la lc e p q = absurd (omega arith)
same_start hash size k a c (x ∷ xs) (y ∷ ys) strings n la lc e p q =
    elim (same_start hash size (k + 1) (hash (link a k x)) (hash (link c k y)) xs ys strings (omega arith) (size _) (size _) e
    (AreAmong-tail (link a k x) (chain_strings hash (hash (link a k x)) (k + 1) xs) strings p) (AreAmong-tail (link c k y) (chain_strings hash (hash (link c k y)) (k + 1) ys) strings q)) [
      | inl same ↦ elim (same_or_pair hash (link a k x) (link c k y) strings same
          (AreAmong-head (link a k x) (chain_strings hash (hash (link a k x)) (k + 1) xs) strings p) (AreAmong-head (link c k y) (chain_strings hash (hash (link c k y)) (k + 1) ys) strings q)) [
            | inl whole ↦ inl (three (field8 (k + 1)) a x (field8 (k + 1)) c y refl (la ∙ sym lc) whole).1
            | inr pair ↦ inr pair
          ]
      | inr pair ↦ inr pair
    ]

-- a chain over joined inner digests
chain-joined : (hash : Hash) (a : List ℕ) (k : ℕ) (xs ys : List (List ℕ)) → chain hash a k (xs ++ ys) ≡ chain hash (chain hash a k xs) (k + length xs) ys
chain-joined hash a k [] ys = ap (λ j. chain hash a j ys) (let same : k ≡ k + 0 = omega arith in same)
chain-joined hash a k (x ∷ xs) ys = chain-joined hash (hash (link a k x)) (k + 1) xs ys
    ∙ ap (λ j. chain hash (chain hash (hash (link a k x)) (k + 1) xs) j ys) (let same : k + 1 + length xs ≡ k + suc (length xs) = omega arith in same)

-- and the strings that it hashes
strings-joined : (hash : Hash) (a : List ℕ) (k : ℕ) (xs ys : List (List ℕ)) (strings : List (List ℕ)) → AreAmong (chain_strings hash a k xs) strings → AreAmong (chain_strings hash (chain hash a k xs) (k + length xs) ys) strings
    → AreAmong (chain_strings hash a k (xs ++ ys)) strings
unfolding chain_strings
strings-joined hash a k [] ys strings p q = subst (λ j. AreAmong (chain_strings hash a j ys) strings) (let same : k + 0 ≡ k = omega arith in same) q
strings-joined hash a k (x ∷ xs) ys strings p q =
    let rest : List (List ℕ) = chain_strings hash (hash (link a k x)) (k + 1) xs in
    let far : AreAmong (chain_strings hash (chain hash (hash (link a k x)) (k + 1) xs) (k + 1 + length xs) ys) strings =
    subst (λ j. AreAmong (chain_strings hash (chain hash (hash (link a k x)) (k + 1) xs) j ys) strings) (let same : k + suc (length xs) ≡ k + 1 + length xs = omega arith in same) q in
    AreAmong-cons (link a k x) (chain_strings hash (hash (link a k x)) (k + 1) (xs ++ ys)) strings (AreAmong-head (link a k x) rest strings p)
    (strings-joined hash (hash (link a k x)) (k + 1) xs ys strings (AreAmong-tail (link a k x) rest strings p) far)

-- one chain after another
pub Links-joined : (hash : Hash) (a b c : List ℕ) (t m n : ℕ) (strings : List (List ℕ)) → Links hash a t m b strings → Links hash b m n c strings → Links hash a t n c strings
Links-joined hash a b c t m n strings l r =
    let sizes : length (l.inners ++ r.inners) ≡ length l.inners + length r.inners = length-append l.inners r.inners in
    let first : t + length l.inners ≡ m = l.long in
    let second : m + length r.inners ≡ n = r.long in
    let begins : chain hash b m r.inners ≡ chain hash (chain hash a t l.inners) (t + length l.inners) r.inners =
    ap (λ d. chain hash d m r.inners) (sym l.ends) ∙ ap (λ j. chain hash (chain hash a t l.inners) j r.inners) (sym l.long) in
    record {
      inners = l.inners ++ r.inners;
      long = omega arith;
      ends = chain-joined hash a t l.inners r.inners ∙ sym begins ∙ r.ends;
      among = strings-joined hash a t l.inners r.inners strings l.among
          (subst (λ j. AreAmong (chain_strings hash (chain hash a t l.inners) j r.inners) strings) (sym l.long)
          (subst (λ (d : List ℕ). AreAmong (chain_strings hash d m r.inners) strings) (sym l.ends) r.among));
    }

-- a chain from a number to itself
pub Links-nothing : (hash : Hash) (a b : List ℕ) (t : ℕ) (strings : List (List ℕ)) → Links hash a t t b strings → a ≡ b
Links-nothing hash a b t strings l = nothing l.inners l.long l.ends
  where
    nothing : (xs : List (List ℕ)) → t + length xs ≡ t → chain hash a t xs ≡ b → a ≡ b
    nothing [] n e = e
    nothing (x ∷ xs) n e = absurd (omega arith)

-- and the other way round
pub Links-empty : (hash : Hash) (a b : List ℕ) (t : ℕ) (strings : List (List ℕ)) → a ≡ b → Links hash a t t b strings
unfolding chain_strings
Links-empty hash a b t strings e = record { inners = []; long = omega arith; ends = e; among = λ x c. absurd (let none : c.0 < 0 = c.1 in omega arith) }

-- two chains to one end begin with one Alh, or there is a pair
pub same_source : (hash : Hash) → GivesDigests hash → (a c e : List ℕ) (t n : ℕ) (strings : List (List ℕ)) → length a ≡ 32 → length c ≡ 32
    → Links hash a t n e strings → Links hash c t n e strings → (a ≡ c) ⊎ HasPair hash strings
same_source hash size a c e t n strings la lc l r =
    same_start hash size t a c l.inners r.inners strings (let p = l.long in let q = r.long in omega arith) la lc (l.ends ∙ sym r.ends) l.among r.among

-- A path at its node next to the root, and two paths of one leaf that give one root.
use Rattle.std.proofs.Common.{◌≡◌, ◌⊎◌, ◌<◌, ◌≤◌, ℕ, ◌-◌, List, [], ◌∷◌, drop, refl, arith, ap, subst, ◌∙◌, sym, Contains, inl, inr, length}
use Rattle.std.proofs.lemmas.List.Elements.{All-head, All-tail}
use Rattle.im_digest.specs.Digests.{Hash, GivesDigests}
use Rattle.im_model.specs.Trees.{leaf_string, node_string, split_of}
use Rattle.im_model.specs.Paths.{IsPath, up_string, up, up_strings}
use Rattle.im_model.proofs.Steps.{up-leaf, up-left, up-right, ups-left, ups-right}
use Rattle.im_pairs.specs.Pairs.{AreDigests, HasPair, AreAmong}
use Rattle.im_pairs.specs.Leads.{Leads}
use Rattle.im_pairs.proofs.PairLemmas.{same_or_pair, same_node, AreAmong-head, AreAmong-tail}

-- what is known of a path at the node next to the root, where its tree splits at k and the leaf is left
pub record AtLeft (hash : Hash) (k i : ℕ) (digest term : List ℕ) (path : List (List ℕ)) (whole : List ℕ) (strings : List (List ℕ)) : Type 0 where
  pub side : i < k
  pub long : IsPath k i path
  pub is : whole ≡ node_string (up hash k i digest path) term
  pub among : AreAmong (up_strings hash k i digest path) strings

-- and where the leaf is right
pub record AtRight (hash : Hash) (n k i : ℕ) (digest term : List ℕ) (path : List (List ℕ)) (whole : List ℕ) (strings : List (List ℕ)) : Type 0 where
  pub side : k ≤ i
  pub long : IsPath (n - k) (i - k) path
  pub is : whole ≡ node_string term (up hash (n - k) (i - k) digest path)
  pub among : AreAmong (up_strings hash (n - k) (i - k) digest path) strings

-- one of both is known of it
pub at-node : (hash : Hash) (n i : ℕ) (digest term : List ℕ) (path : List (List ℕ)) (strings : List (List ℕ)) (k : ℕ) → split_of n ≡ k → IsPath n i (term ∷ path) → AreAmong (up_strings hash n i digest (term ∷ path)) strings
    → AtLeft hash k i digest term path (up_string hash n i digest (term ∷ path)) strings ⊎ AtRight hash n k i digest term path (up_string hash n i digest (term ∷ path)) strings
at-node hash n i digest term path strings k same p a =
    subst (λ j. AtLeft hash j i digest term path (up_string hash n i digest (term ∷ path)) strings ⊎ AtRight hash n j i digest term path (up_string hash n i digest (term ∷ path)) strings) same
    (elim p.1 [
      | inl l ↦ inl (record {
        side = l.0;
        long = l.1;
        is = up-left hash n i digest term path l.0;
        among = AreAmong-tail (up_string hash n i digest (term ∷ path)) (up_strings hash (split_of n) i digest path) strings (subst (λ xs. AreAmong xs strings) (ups-left hash n i digest term path l.0) a);
      })
      | inr r ↦ inr (record {
        side = r.0;
        long = r.1;
        is = up-right hash n i digest term path r.0;
        among = AreAmong-tail (up_string hash n i digest (term ∷ path)) (up_strings hash (n - split_of n) (i - split_of n) digest path) strings (subst (λ xs. AreAmong xs strings) (ups-right hash n i digest term path r.0) a);
      })
    ])

-- the string at the top of a path is hashed
pub top-among : (hash : Hash) (n i : ℕ) (digest : List ℕ) (path : List (List ℕ)) (strings : List (List ℕ)) → AreAmong (up_strings hash n i digest path) strings → Contains strings (up_string hash n i digest path)
unfolding up_string up_strings
top-among hash n i digest [] strings a = AreAmong-head (leaf_string digest) [] strings a
top-among hash n i digest (term ∷ rest) strings a = a (up_string hash n i digest (term ∷ rest)) (0, omega arith, refl)

-- equal lists by their first terms and the others
cons-same : (a b : List ℕ) (xs ys : List (List ℕ)) → a ≡ b → xs ≡ ys → a ∷ xs ≡ b ∷ ys
cons-same a b xs ys p q = ap (λ (s : List ℕ). s ∷ xs) p ∙ ap (λ l. b ∷ l) q

-- two paths of one leaf number that give one root have equal leaves and equal terms, or there is a pair
pub same_up : (hash : Hash) → GivesDigests hash → (n i : ℕ) (digest other : List ℕ) (ps qs : List (List ℕ)) (strings : List (List ℕ))
    → IsPath n i ps → IsPath n i qs → AreDigests ps → AreDigests qs → up hash n i digest ps ≡ up hash n i other qs
    → AreAmong (up_strings hash n i digest ps) strings → AreAmong (up_strings hash n i other qs) strings → ((digest ≡ other) × (ps ≡ qs)) ⊎ HasPair hash strings
same_up hash size n i digest other [] [] strings p q dp dq e a b =
    elim (same_or_pair hash (up_string hash n i digest []) (up_string hash n i other []) strings e (top-among hash n i digest [] strings a) (top-among hash n i other [] strings b)) [
      | inl same ↦ inl (ap (λ s. drop 1 s) (sym (up-leaf hash n i digest) ∙ same ∙ up-leaf hash n i other), refl)
      | inr pair ↦ inr pair
    ]
same_up hash size n i digest other [] (there ∷ qs) strings p q dp dq e a b = absurd (let one : n ≡ 1 = p in let many : 1 < n = q.0 in omega arith)
same_up hash size n i digest other (here ∷ ps) [] strings p q dp dq e a b = absurd (let one : n ≡ 1 = q in let many : 1 < n = p.0 in omega arith)
same_up hash size n i digest other (here ∷ ps) (there ∷ qs) strings p q dp dq e a b =
    let x = top-among hash n i digest (here ∷ ps) strings a in
    let y = top-among hash n i other (there ∷ qs) strings b in
    let ds : AreDigests ps = All-tail (λ u. length u ≡ 32) here ps dp in
    let es : AreDigests qs = All-tail (λ u. length u ≡ 32) there qs dq in
    elim (at-node hash n i digest here ps strings (split_of n) refl p a) [
      | inl l ↦ elim (at-node hash n i other there qs strings (split_of n) refl q b) [
        | inl k ↦ elim (same_node hash (up hash (split_of n) i digest ps) here (up hash (split_of n) i other qs) there strings (size _) (size _)
            (ap hash (sym l.is) ∙ e ∙ ap hash k.is) (subst (λ (s : List ℕ). Contains strings s) l.is x) (subst (λ (s : List ℕ). Contains strings s) k.is y)) [
              | inl same ↦ elim (same_up hash size (split_of n) i digest other ps qs strings l.long k.long ds es same.0 l.among k.among) [
                | inl below ↦ inl (below.0, cons-same here there ps qs same.1 below.1)
                | inr pair ↦ inr pair
              ]
              | inr pair ↦ inr pair
            ]
        | inr k ↦ absurd (let u = l.side in let v = k.side in omega arith)
      ]
      | inr r ↦ elim (at-node hash n i other there qs strings (split_of n) refl q b) [
        | inl k ↦ absurd (let u = r.side in let v = k.side in omega arith)
        | inr k ↦ elim (same_node hash here (up hash (n - split_of n) (i - split_of n) digest ps) there (up hash (n - split_of n) (i - split_of n) other qs) strings (All-head (λ u. length u ≡ 32) here ps dp) (All-head (λ u. length u ≡ 32) there qs dq)
            (ap hash (sym r.is) ∙ e ∙ ap hash k.is) (subst (λ (s : List ℕ). Contains strings s) r.is x) (subst (λ (s : List ℕ). Contains strings s) k.is y)) [
              | inl same ↦ elim (same_up hash size (n - split_of n) (i - split_of n) digest other ps qs strings r.long k.long ds es same.1 r.among k.among) [
                | inl below ↦ inl (below.0, cons-same here there ps qs same.0 below.1)
                | inr pair ↦ inr pair
              ]
              | inr pair ↦ inr pair
            ]
      ]
    ]

-- the same of two paths that lead to one root
pub same_lead : (hash : Hash) → GivesDigests hash → (n i : ℕ) (digest other : List ℕ) (ps qs : List (List ℕ)) (root : List ℕ) (strings : List (List ℕ))
    → Leads hash n i digest ps root strings → Leads hash n i other qs root strings → ((digest ≡ other) × (ps ≡ qs)) ⊎ HasPair hash strings
same_lead hash size n i digest other ps qs root strings l r =
    same_up hash size n i digest other ps qs strings l.long r.long l.digests r.digests (l.gives ∙ sym r.gives) l.among r.among

-- more strings keep a path
pub Leads-more : (hash : Hash) (n i : ℕ) (digest : List ℕ) (path : List (List ℕ)) (root : List ℕ) (ss ts : List (List ℕ)) → AreAmong ss ts
    → Leads hash n i digest path root ss → Leads hash n i digest path root ts
Leads-more hash n i digest path root ss ts m l = record { within = l.within; long = l.long; digests = l.digests; gives = l.gives; among = λ x c. m x (l.among x c) }

-- What two compared strings tell of the things that they are hashed for.
use Rattle.std.proofs.Common.{◌≡◌, length, ℕ, List, [], ◌∷◌, ◌++◌, refl, arith, ap, subst, ◌∙◌, sym, Contains}
use Rattle.im_digest.specs.Digests.{Hash}
use Rattle.im_model.specs.Trees.{node_string}
use Rattle.im_model.specs.Headers.{inner_string, alh_string, alh, header_strings}
use Rattle.im_model.specs.declared.headers.Header.{Header}
use Rattle.im_pairs.specs.Ranges.{HeaderFits}
use Rattle.im_pairs.proofs.PairLemmas.{node_parts}
use Rattle.im_pairs.proofs.HeaderLemmas.{alh-parts, header-read}
use Rattle.im_forge.specs.Same.{IsSame, IsCompared}
use Rattle.im_forge.specs.declared.same.Same.{Same}
use Rattle.im_forge.specs.declared.same.Same.TheVariants.{Equal, Pair}

-- two unequal strings x and y that are s and t
pub told-pair : (hash : Hash) (Holds : Type 0) (s t x y a b : List ℕ) (strings : List (List ℕ)) → x ≡ s → y ≡ t → (Holds → s ≡ t) → hash s ≡ hash t → Contains strings s → Contains strings t
    → IsCompared x y (Pair a b) → IsSame Holds hash strings (Pair a b)
told-pair hash Holds s t x y a b strings p q one same on on2 told =
    let left : a ≡ s = told.1 ∙ p in
    let right : b ≡ t = told.2 ∙ q in (
      λ holds. told.0 (p ∙ one holds ∙ sym q),
      record {
        unequal = λ e. told.0 (sym told.1 ∙ e ∙ told.2);
        same = ap hash left ∙ same ∙ ap hash (sym right);
        left = subst (λ (u : List ℕ). Contains strings u) (sym left) on;
        right = subst (λ (u : List ℕ). Contains strings u) (sym right) on2;
      },
    )

-- two strings x and y that are s and t, where equal ones are of equal things
pub told-same : (hash : Hash) (Holds : Type 0) (s t x y : List ℕ) (strings : List (List ℕ)) (same : Same) → x ≡ s → y ≡ t → (Holds → s ≡ t) → (s ≡ t → Holds) → hash s ≡ hash t → Contains strings s → Contains strings t
    → IsCompared x y same → IsSame Holds hash strings same
told-same hash Holds s t x y strings Equal p q one back e on on2 told = back (sym p ∙ told ∙ q)
told-same hash Holds s t x y strings (Pair a b) p q one back e on on2 told = told-pair hash Holds s t x y a b strings p q one e on on2 told

-- of two nodes
pub same-nodes : (hash : Hash) (left right left2 right2 x y : List ℕ) (same : Same) → length left ≡ 32 → length left2 ≡ 32
    → hash (node_string left right) ≡ hash (node_string left2 right2) → x ≡ node_string left right → y ≡ node_string left2 right2 → IsCompared x y same
    → IsSame ((left ≡ left2) × (right ≡ right2)) hash (node_string left right ∷ node_string left2 right2 ∷ []) same
same-nodes hash left right left2 right2 x y same long long2 e p q told =
    told-same hash ((left ≡ left2) × (right ≡ right2)) (node_string left right) (node_string left2 right2) x y (node_string left right ∷ node_string left2 right2 ∷ []) same p q
    (λ both. ap (λ s. node_string s right) both.0 ∙ ap (λ s. node_string left2 s) both.1)
    (λ whole. node_parts left right left2 right2 long long2 whole) e (0, omega arith, refl) (1, omega arith, refl) told

-- the strings of two headers, among those of both
alh-left : (hash : Hash) (h k : Header) → Contains (header_strings hash h ++ header_strings hash k) (alh_string hash h)
alh-left hash h k = (0, omega arith, refl)

alh-right : (hash : Hash) (h k : Header) → Contains (header_strings hash h ++ header_strings hash k) (alh_string hash k)
alh-right hash h k = (2, omega arith, refl)

inner-left : (hash : Hash) (h k : Header) → Contains (header_strings hash h ++ header_strings hash k) (inner_string h)
inner-left hash h k = (1, omega arith, refl)

inner-right : (hash : Hash) (h k : Header) → Contains (header_strings hash h ++ header_strings hash k) (inner_string k)
inner-right hash h k = (3, omega arith, refl)

-- of two headers, by the strings of their Alh
pub pair-of_alh : (hash : Hash) (h k : Header) (x y a b : List ℕ) → alh hash h ≡ alh hash k → x ≡ alh_string hash h → y ≡ alh_string hash k → IsCompared x y (Pair a b)
    → IsSame (h ≡ k) hash (header_strings hash h ++ header_strings hash k) (Pair a b)
pair-of_alh hash h k x y a b e p q told =
    told-pair hash (h ≡ k) (alh_string hash h) (alh_string hash k) x y a b (header_strings hash h ++ header_strings hash k) p q
    (λ same. ap (λ (j : Header). alh_string hash j) same) e (alh-left hash h k) (alh-right hash h k) told

-- and by their inner strings, where those of their Alh are equal
pub same-inner : (hash : Hash) (h k : Header) (x y s t : List ℕ) (same : Same) → HeaderFits h → HeaderFits k → x ≡ alh_string hash h → y ≡ alh_string hash k → x ≡ y
    → s ≡ inner_string h → t ≡ inner_string k → IsCompared s t same
    → IsSame (h ≡ k) hash (header_strings hash h ++ header_strings hash k) same
same-inner hash h k x y s t same f g p q e u v told =
    let outer : alh_string hash h ≡ alh_string hash k = sym p ∙ e ∙ q in
    told-same hash (h ≡ k) (inner_string h) (inner_string k) s t (header_strings hash h ++ header_strings hash k) same u v
    (λ one. ap (λ (j : Header). inner_string j) one)
    (λ inside. header-read hash h k f g outer inside)
    (alh-parts hash h k f g outer).inside (inner-left hash h k) (inner-right hash h k) told

-- Of the texts of octets: their order, and what stands at their front.
use Rattle.std.proofs.Common.{◌≡◌, ◌≢◌, ℕ, zero, suc, List, [], ◌∷◌, ◌++◌, refl, sym, ap, ◌∙◌, subst, arith, drop, get_or, length}
use Rattle.std.proofs.lemmas.List.{append_assoc, append-nil}
use Rattle.std.proofs.lemmas.Grind.{flat_map-append}
use Rattle.std.specs.List.{flat_map}
use Rattle.std.specs.declared.cmp.Ordering.{Ordering}
use Rattle.std.specs.declared.cmp.Ordering.TheVariants.{Less, Greater}
use Rattle.std.specs.Ordering.{ordering_then, nat_cmp}
use Rattle.std.specs.Cmp.{nat_cmp_is}
use Rattle.im_sqltype.specs.Orders.{octets_cmp}
use Rattle.im_sqltype.specs.Reading.{HasNoOctets}
use Rattle.im_sqltype.specs.Texts.{octet_text, octets_text}
use Rattle.im_sqltype.proofs.OrderLemmas.{then_assoc}

zero_below : (n : ℕ) (o : Ordering) → Less ≡ ordering_then (nat_cmp 0 (suc n)) o
zero_below n o = ap (λ r. ordering_then r o) (nat_cmp_is 0 (suc n) Less (omega arith))

above_zero : (n : ℕ) (o : Ordering) → Greater ≡ ordering_then (nat_cmp (suc n) 0) o
above_zero n o = ap (λ r. ordering_then r o) (nat_cmp_is (suc n) 0 Greater (omega arith))

pub octets_text-order : (x y a b : List ℕ) → octets_cmp (octets_text x ++ a) (octets_text y ++ b) ≡ ordering_then (octets_cmp x y) (octets_cmp a b)
unfolding octets_text
octets_text-order [] [] a b = refl
octets_text-order [] (zero ∷ y) a b = refl
octets_text-order [] (suc n ∷ y) a b = sym (zero_below n _)
octets_text-order (zero ∷ x) [] a b = refl
octets_text-order (zero ∷ x) (zero ∷ y) a b = octets_text-order x y a b
octets_text-order (zero ∷ x) (suc n ∷ y) a b = sym (zero_below n _) ∙ ap (λ o. ordering_then o (octets_cmp a b)) (zero_below n (octets_cmp x y))
octets_text-order (suc m ∷ x) [] a b = sym (above_zero m _)
octets_text-order (suc m ∷ x) (zero ∷ y) a b = sym (above_zero m _) ∙ ap (λ o. ordering_then o (octets_cmp a b)) (above_zero m (octets_cmp x y))
octets_text-order (suc m ∷ x) (suc n ∷ y) a b =
    ap (ordering_then (nat_cmp (suc m) (suc n))) (octets_text-order x y a b)
    ∙ then_assoc (nat_cmp (suc m) (suc n)) (octets_cmp x y) (octets_cmp a b)

pub octet_text-positive : (n : ℕ) → n ≢ 0 → octet_text n ≡ n ∷ []
octet_text-positive zero h = absurd (h refl)
octet_text-positive (suc n) h = refl

-- no octets have their text where nothing stands
in_empty : (octets rest : List ℕ) → [] ≡ octets_text octets ++ rest → ⊥
unfolding octets_text
in_empty [] rest e = cc
in_empty (zero ∷ x) rest e = cc
in_empty (suc n ∷ x) rest e = cc

in_zero : (octets rest : List ℕ) → 0 ∷ [] ≡ octets_text octets ++ rest → ⊥
unfolding octets_text
in_zero [] rest e = let behind : [] ≡ 0 ∷ rest = ap (drop 1) e in cc
in_zero (zero ∷ x) rest e = let behind : 1 ≡ 255 = ap (λ s. get_or s 1 1) e in omega (arith, behind)
in_zero (suc n ∷ x) rest e = let here : 0 ≡ suc n = ap (λ s. get_or s 0 0) e in omega (arith, here)

-- nor where 00 has neither 00 nor ff behind it
in_broken : (n : ℕ) (more : List ℕ) → n ≢ 0 → n ≢ 255 → (octets rest : List ℕ) → 0 ∷ n ∷ more ≡ octets_text octets ++ rest → ⊥
unfolding octets_text
in_broken n more h k [] rest e = h (ap (λ s. get_or s 1 0) e)
in_broken n more h k (zero ∷ x) rest e = k (ap (λ s. get_or s 1 0) e)
in_broken n more h k (suc m ∷ x) rest e = let here : 0 ≡ suc m = ap (λ s. get_or s 0 0) e in omega (arith, here)

pub none_in_empty : (text : List ℕ) → length text ≡ 0 → HasNoOctets text
none_in_empty [] h = record { none = in_empty }
none_in_empty (x ∷ text) h = absurd (let no : ⊥ = omega (arith, h) in no)

pub none_in_zero : (text behind : List ℕ) (n : ℕ) → text ≡ n ∷ behind → n ≡ 0 → length behind ≡ 0 → HasNoOctets text
none_in_zero text [] n e z h = subst HasNoOctets (sym (e ∙ ap (λ k. k ∷ []) z)) (record { none = in_zero })
none_in_zero text (x ∷ behind) n e z h = absurd (let no : ⊥ = omega (arith, h) in no)

pub none_in_broken : (text behind rest : List ℕ) (n m : ℕ) → text ≡ n ∷ behind → n ≡ 0 → behind ≡ m ∷ rest → m ≢ 0 → m ≢ 255 → HasNoOctets text
none_in_broken text behind rest n m e z f h k =
    subst HasNoOctets (sym (e ∙ (λ i. z i ∷ f i))) (record { none = in_broken m rest h k })

-- what is behind the first octets of a text is the text of the others
pub peeled : (xs octets left rest : List ℕ) → flat_map octet_text xs ++ left ≡ octets_text octets ++ rest → (others : List ℕ) × (left ≡ octets_text others ++ rest)
unfolding octets_text
peeled [] octets left rest e = (octets, e)
peeled (zero ∷ xs) [] left rest e = let here : 255 ≡ 0 = ap (λ s. get_or s 1 0) e in absurd (let no : ⊥ = omega (arith, here) in no)
peeled (zero ∷ xs) (zero ∷ octets) left rest e = peeled xs octets left rest (ap (drop 2) e)
peeled (zero ∷ xs) (suc n ∷ octets) left rest e = let here : 0 ≡ suc n = ap (λ s. get_or s 0 0) e in absurd (let no : ⊥ = omega (arith, here) in no)
peeled (suc m ∷ xs) [] left rest e = let here : suc m ≡ 0 = ap (λ s. get_or s 0 0) e in absurd (let no : ⊥ = omega (arith, here) in no)
peeled (suc m ∷ xs) (zero ∷ octets) left rest e = let here : suc m ≡ 0 = ap (λ s. get_or s 0 0) e in absurd (let no : ⊥ = omega (arith, here) in no)
peeled (suc m ∷ xs) (suc n ∷ octets) left rest e = peeled xs octets left rest (ap (drop 1) e)

-- where nothing stands behind the first octets, no octets have their text at the front
pub none_behind : (text xs left : List ℕ) → text ≡ flat_map octet_text xs ++ left → HasNoOctets left → HasNoOctets text
none_behind text xs left e none = record {
  none = λ octets rest f. let behind = peeled xs octets left rest (sym e ∙ f) in none.none behind.0 rest behind.1;
}

-- one octet more
pub one_more : (text xs left rest : List ℕ) (x : ℕ) → text ≡ flat_map octet_text xs ++ left → left ≡ octet_text x ++ rest → text ≡ flat_map octet_text (xs ++ x ∷ []) ++ rest
one_more text xs left rest x e f =
    e ∙ ap (λ s. flat_map octet_text xs ++ s) f ∙ sym (append_assoc (flat_map octet_text xs) (octet_text x) rest)
    ∙ ap (λ s. s ++ rest) (ap (λ s. flat_map octet_text xs ++ s) (sym (append-nil (octet_text x))) ∙ sym (flat_map-append octet_text xs (x ∷ [])))

-- and the end
pub at_end : (text xs left rest : List ℕ) → text ≡ flat_map octet_text xs ++ left → left ≡ 0 ∷ 0 ∷ rest → text ≡ octets_text xs ++ rest
unfolding octets_text
at_end text xs left rest e f =
    e ∙ ap (λ s. flat_map octet_text xs ++ s) f ∙ sym (append_assoc (flat_map octet_text xs) (0 ∷ 0 ∷ []) rest)

pub ruleset octet_text_of = (octet_text-positive)

pub ruleset fronts = (octet_text-positive, none_in_empty, none_in_zero)

pub ruleset octets_so_far = (one_more)

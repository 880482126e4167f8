-- The places of digests that are looked up one after the other.
use Rattle.std.specs.BTreeMap.{BTreeMap, IsEmpty}
use Rattle.std.specs.Borrow.{Bor}
use Rattle.std.specs.Map.{update}
use Rattle.std.specs.Str.{bytes_eq}
use Rattle.std.proofs.Common.{◌≡◌, ◌≢◌, inl, inr, ◌<◌, ◌≤◌, ◌+◌, ℕ, List, [], length, map, get_or, arith, refl, sym, ◌∙◌, ap, subst, Option, Some, None, Contains}
use Rattle.std.specs.Prelude.{IfSome}
use Rattle.std.proofs.lemmas.List.{get_or_default, get_or-map, length-map}
use Rattle.std.proofs.lemmas.Bool.{cases_lt}
use Rattle.im_octet.proofs.Common.{some-is}
use Rattle.im_digest.specs.Digests.{Hash}
use Rattle.im_pairs.specs.Pairs.{IsPair, HasPair}
use Rattle.im_octet.proofs.PlaceLemmas.{put-cases}
use Rattle.im_octet.specs.Places.{place_in}
use Rattle.im_hashed.specs.Places.{string_at}

-- a look-up gives, for the digest of each of the first n strings, the place of an equal one, and for no other digest any
pub record ArePlaces (hash : Hash) (strings : List (List ℕ)) (n : ℕ) (find : List ℕ → Option ℕ) : Type 0 where
  pub found : (digest : List ℕ) (i : ℕ) → find digest ≡ Some i → (i < n) × (hash (string_at strings i) ≡ digest)
  pub known : (i : ℕ) → i < n → (k : ℕ) × (find (hash (string_at strings i)) ≡ Some k) × (string_at strings k ≡ string_at strings i)

-- no place at first
places-none : (hash : Hash) (strings : List (List ℕ)) (find : List ℕ → Option ℕ) → ((digest : List ℕ) → find digest ≡ None) → ArePlaces hash strings 0 find
places-none hash strings find none = record {
  found = λ digest i e. absurd (let odd : None ≡ Some i = sym (none digest) ∙ e in cc);
  known = λ i less. absurd (omega arith);
}

-- none in an empty map
pub places-empty : (hash : Hash) (strings : List (List ℕ)) (places : BTreeMap (Bor (List ℕ)) ℕ) → IsEmpty places → ArePlaces hash strings 0 (place_in places)
places-empty hash strings places empty = places-none hash strings (place_in places) (λ digest. rw empty refl)

-- where the digest of string n stood at the place of an equal one, or nowhere
known-suc : (hash : Hash) (strings : List (List ℕ)) (n : ℕ) (put : List ℕ) (find next : List ℕ → Option ℕ) → put ≡ hash (string_at strings n)
    → IfSome (find put) (λ i. string_at strings i ≡ string_at strings n)
    → ((digest : List ℕ) → next digest ≡ update bytes_eq find put (Some n) digest)
    → ArePlaces hash strings n find → (i : ℕ) → i < n → (k : ℕ) × (next (hash (string_at strings i)) ≡ Some k) × (string_at strings k ≡ string_at strings i)
known-suc hash strings n put find next is equal steps places i less =
    let digest : List ℕ = hash (string_at strings i) in
    let before = places.known i less in
    elim (put-cases find put digest n) [
      | inl here ↦ (
          let stood : find put ≡ Some before.0 = ap find here.0 ∙ before.1 in
          let one : string_at strings before.0 ≡ string_at strings n = subst (λ (o : Option ℕ). IfSome o (λ k. string_at strings k ≡ string_at strings n)) stood equal in
          (n, steps digest ∙ here.1, sym one ∙ before.2))
      | inr there ↦ (before.0, steps digest ∙ there.1 ∙ before.1, before.2)
    ]

pub places-suc : (hash : Hash) (strings : List (List ℕ)) (n : ℕ) (put : List ℕ) (find next : List ℕ → Option ℕ) → put ≡ hash (string_at strings n)
    → IfSome (find put) (λ i. string_at strings i ≡ string_at strings n)
    → ((digest : List ℕ) → next digest ≡ update bytes_eq find put (Some n) digest)
    → ArePlaces hash strings n find → ArePlaces hash strings (n + 1) next
places-suc hash strings n put find next is equal steps places = record {
  found = λ digest i e. elim (put-cases find put digest n) [
    | inl here ↦ (
        let same : n ≡ i = some-is n i (sym here.1 ∙ sym (steps digest) ∙ e) in
        (omega arith, subst (λ (k : ℕ). hash (string_at strings k) ≡ digest) same (sym is ∙ here.0)))
    | inr there ↦ (
        let before = places.found digest i (sym there.1 ∙ sym (steps digest) ∙ e) in
        (omega (arith, before.0), before.1))
  ];
  known = λ i less. elim (cases_lt i n) [
    | inl before ↦ known-suc hash strings n put find next is equal steps places i before
    | inr not ↦ (
        let same : n ≡ i = omega arith in
        elim (put-cases find put (hash (string_at strings n)) n) [
          | inl here ↦ subst (λ (j : ℕ). (k : ℕ) × (next (hash (string_at strings j)) ≡ Some k) × (string_at strings k ≡ string_at strings j)) same (n, steps (hash (string_at strings n)) ∙ here.1, refl)
          | inr there ↦ absurd (there.0 is)
        ])
  ];
}

-- the string at a place is one of them
at-place : (strings : List (List ℕ)) (i : ℕ) → i < length strings → Contains strings (string_at strings i)
at-place strings i less = (i, less, get_or_default strings i (string_at strings i) [] less)

-- an unlike string that stood at the same digest is one of a pair
pub pair-found : (hash : Hash) (strings : List (List ℕ)) (n i : ℕ) (put : List ℕ) (find : List ℕ → Option ℕ) → n < length strings → put ≡ hash (string_at strings n)
    → ArePlaces hash strings n find → find put ≡ Some i → string_at strings i ≢ string_at strings n
    → IsPair hash (string_at strings i) (string_at strings n) strings
pair-found hash strings n i put find less is places stood unlike =
    let at = places.found put i stood in
    record {
      unequal = unlike;
      same = at.1 ∙ is;
      left = at-place strings i (omega (arith, at.0));
      right = at-place strings n less;
    }

-- the place of a string among them
place-of : (strings : List (List ℕ)) (x : List ℕ) (c : Contains strings x) → string_at strings c.0 ≡ x
place-of strings x c = get_or_default strings c.0 [] x c.1 ∙ c.2

-- where all are looked up there is no pair
pub none-found : (hash : Hash) (strings : List (List ℕ)) (n : ℕ) (find : List ℕ → Option ℕ) → n ≡ length strings → ArePlaces hash strings n find → HasPair hash strings → ⊥
none-found hash strings n find all places pair =
    let x : List ℕ = pair.0 in
    let y : List ℕ = pair.1 in
    let p : IsPair hash x y strings = pair.2 in
    let at : string_at strings p.left.0 ≡ x = place-of strings x p.left in
    let at2 : string_at strings p.right.0 ≡ y = place-of strings y p.right in
    let here = places.known p.left.0 (omega (arith, p.left.1)) in
    let there = places.known p.right.0 (omega (arith, p.right.1)) in
    let digests : hash (string_at strings p.left.0) ≡ hash (string_at strings p.right.0) = ap hash at ∙ p.same ∙ ap hash (sym at2) in
    let same : here.0 ≡ there.0 = some-is here.0 there.0 (sym here.1 ∙ ap find digests ∙ there.1) in
    p.unequal (sym at ∙ sym here.2 ∙ ap (λ k. string_at strings k) same ∙ there.2 ∙ at2)

-- the digest at a place is that of the string there
pub digest-at : (hash : Hash) (strings digests : List (List ℕ)) (n : ℕ) (put : List ℕ) → digests ≡ map hash strings → n < length strings → put ≡ get_or digests n [] → put ≡ hash (string_at strings n)
digest-at hash strings digests n put all less is = is ∙ ap (λ l. get_or l n []) all ∙ get_or-map hash strings n [] [] less

-- there is a digest at a place just where there is a string
pub string-there : (hash : Hash) (strings digests : List (List ℕ)) (n : ℕ) → digests ≡ map hash strings → n < length digests → n < length strings
string-there hash strings digests n all less =
    let long : length digests ≡ length strings = ap (λ l. length l) all ∙ length-map strings hash in
    omega (arith, less, long)

-- behind the last digest all strings are looked up
pub all-there : (hash : Hash) (strings digests : List (List ℕ)) (n : ℕ) → digests ≡ map hash strings → n ≤ length digests → length digests ≤ n → n ≡ length strings
all-there hash strings digests n all most least =
    let long : length digests ≡ length strings = ap (λ l. length l) all ∙ length-map strings hash in
    omega (arith, most, least, long)

-- what a look-up gives is the place of a string
pub earlier-there : (hash : Hash) (strings : List (List ℕ)) (n : ℕ) (put : List ℕ) (find : List ℕ → Option ℕ) (earlier : Option ℕ) → n < length strings
    → ArePlaces hash strings n find → earlier ≡ find put → IfSome earlier (λ i. i < length strings)
earlier-there hash strings n put find None less places is = tt
earlier-there hash strings n put find (Some i) less places is =
    let at = places.found put i (sym is) in
    omega (arith, at.0, less)

-- The places of keys that are looked up one after the other.
use Rattle.std.specs.Map.{update}
use Rattle.std.specs.Str.{bytes_eq}
use Rattle.std.proofs.Common.{◌≡◌, ◌≢◌, inl, inr, ◌<◌, ◌+◌, ℕ, List, length, take, get_or, arith, sym, ◌∙◌, ap, subst, Option, Some, None}
use Rattle.std.proofs.lemmas.List.{take_more, length-take, get_or-take, get_or_default}
use Rattle.std.proofs.lemmas.Bool.{cases_lt}
use Rattle.std.proofs.lemmas.List.Quantifiers.{all_pairs_push}
use Rattle.im_octet.proofs.PlaceLemmas.{put-cases}
use Rattle.im_draft.specs.Drafts.{draft_of, no_draft, HaveDistinctKeys}
use Rattle.im_draft.specs.declared.drafts.Draft.{Draft}

-- a look-up gives the place of each key of the first n drafts, whose keys are distinct, and of no other
pub record ArePlaces (drafts : List Draft) (n : ℕ) (find : List ℕ → Option ℕ) : Type 0 where
  pub distinct : HaveDistinctKeys (take n drafts)
  pub found : (key : List ℕ) (i : ℕ) → find key ≡ Some i → (i < n) × ((draft_of drafts i).key ≡ key)
  pub absent : (key : List ℕ) (i : ℕ) → find key ≡ None → i < n → (draft_of drafts i).key ≢ key

-- keys stay distinct where the next isn't among them
distinct-suc : (drafts : List Draft) (n : ℕ) → n < length drafts → HaveDistinctKeys (take n drafts)
    → ((i : ℕ) → i < n → (draft_of drafts i).key ≢ (draft_of drafts n).key) → HaveDistinctKeys (take (n + 1) drafts)
distinct-suc drafts n h distinct other =
    let differ : (k : ℕ) (d : Draft) → k < length (take n drafts) → (get_or (take n drafts) k d).key ≢ (draft_of drafts n).key =
    λ k d less e.
    let before : k < n = omega (arith, length-take n drafts) in
    other k before
    (sym (ap (λ (x : Draft). x.key) (get_or-take n drafts k d before ∙ get_or_default drafts k d no_draft (omega arith))) ∙ e) in
    subst HaveDistinctKeys (sym (take_more drafts n no_draft h))
    (all_pairs_push (λ (a b : Draft). a.key ≢ b.key) (take n drafts) (draft_of drafts n) distinct differ)

-- the key that was lent of draft n is its key
pub key-at : (drafts : List Draft) (n : ℕ) (draft : Draft) (key : List ℕ) → n < length drafts → draft ≡ get_or drafts n draft
    → key ≡ draft.key → key ≡ (draft_of drafts n).key
key-at drafts n draft key h read lent =
    lent ∙ ap (λ (d : Draft). d.key) (read ∙ get_or_default drafts n draft no_draft h)

-- a key that isn't found is put at its place
pub ArePlaces-suc : (drafts : List Draft) (n : ℕ) (put : List ℕ) (find next : List ℕ → Option ℕ) → n < length drafts
    → put ≡ (draft_of drafts n).key → find put ≡ None
    → ((key : List ℕ) → next key ≡ update bytes_eq find put (Some n) key)
    → ArePlaces drafts n find → ArePlaces drafts (n + 1) next
ArePlaces-suc drafts n put find next h is none steps places = record {
  distinct = distinct-suc drafts n h places.distinct
      (λ i less e. places.absent put i none less (e ∙ sym is));
  found = λ key i e. elim (put-cases find put key n) [
    | inl new ↦ (let same : n ≡ i = (let one : Some n ≡ Some i = sym new.1 ∙ sym (steps key) ∙ e in cc) in
        (omega arith, subst (λ (k : ℕ). (draft_of drafts k).key ≡ key) same (sym is ∙ new.0)))
    | inr kept ↦ (let found = places.found key i (sym kept.1 ∙ sym (steps key) ∙ e) in (omega (arith, found.0), found.1))
  ];
  absent = λ key i e less. elim (put-cases find put key n) [
    | inl new ↦ absurd (let odd : Some n ≡ None = sym new.1 ∙ sym (steps key) ∙ e in cc)
    | inr kept ↦ elim (cases_lt i n) [
      | inl before ↦ places.absent key i (sym kept.1 ∙ sym (steps key) ∙ e) before
      | inr here ↦ (let same : n ≡ i = omega arith in
          subst (λ (k : ℕ). (draft_of drafts k).key ≢ key) same (λ same. kept.0 (is ∙ same)))
    ]
  ];
}

-- The digests of entries over those of their values, which references tell.
use Rattle.std.proofs.Common.{◌≡◌, ℕ, zero, suc, ◌+◌, ◌<◌, ◌≤◌, ◌∙◌, List, [], ◌∷◌, ◌++◌, length, map, take, get_or, refl, sym, ap, arith}
use Rattle.std.proofs.lemmas.List.{map-append, take_more}
use Rattle.im_digest.specs.Digests.{Hash}
use Rattle.im_format.specs.Records.{AreReferences}
use Rattle.im_format.specs.declared.references.ValueRef.{ValueRef}
use Rattle.im_model.specs.Entries.{entry_digest}
use Rattle.im_model.specs.declared.entries.Entry.{Entry}

-- references that fit entries tell the digests of their values
pub values_told : (hash : Hash) (number : ℕ) (entries : List Entry) (refs : List ValueRef) → AreReferences hash number entries refs
    → (length refs ≡ length entries) × (map (λ (r : ValueRef). r.hval) refs ≡ map (λ (e : Entry). hash e.value) entries)
values_told hash number [] [] are = (refl, refl)
values_told hash number [] (ref ∷ refs) are = absurd are
values_told hash number (entry ∷ entries) [] are = absurd are
values_told hash number (entry ∷ entries) (ref ∷ refs) are =
    let rest = values_told hash number entries refs are.1 in
    let head = are.0.hval in
    (ap (λ (n : ℕ). suc n) rest.0, cc (head, rest.1))

-- one of them
pub value_told : (hash : Hash) (entries : List Entry) (refs : List ValueRef) (k : ℕ) (e : Entry) (r : ValueRef) → map (λ (r : ValueRef). r.hval) refs ≡ map (λ (e : Entry). hash e.value) entries
    → k < length entries → k < length refs → (get_or refs k r).hval ≡ hash (get_or entries k e).value
value_told hash [] refs k e r are within some = absurd (omega (arith, within))
value_told hash (entry ∷ entries) [] k e r are within some = absurd (omega (arith, some))
value_told hash (entry ∷ entries) (ref ∷ refs) zero e r are within some = cc (are)
value_told hash (entry ∷ entries) (ref ∷ refs) (suc k) e r are within some = value_told hash entries refs k e r (cc (are)) (omega (arith, within)) (omega (arith, some))

-- the digests of one entry more
pub digests_more : (hash : Hash) (entries : List Entry) (k : ℕ) (e : Entry) → k < length entries
    → map (entry_digest hash) (take k entries) ++ entry_digest hash (get_or entries k e) ∷ [] ≡ map (entry_digest hash) (take (k + 1) entries)
digests_more hash entries k e within =
    sym (map-append (entry_digest hash) (take k entries) (get_or entries k e ∷ [])) ∙ ap (λ (l : List Entry). map (entry_digest hash) l) (sym (take_more entries k e within))

-- all of them
pub digests_whole : (hash : Hash) (entries : List Entry) (k : ℕ) → length entries ≤ k → map (entry_digest hash) (take k entries) ≡ map (entry_digest hash) entries
digests_whole hash [] zero all = refl
digests_whole hash [] (suc k) all = refl
digests_whole hash (entry ∷ entries) zero all = absurd (omega (arith, all))
digests_whole hash (entry ∷ entries) (suc k) all = ap (λ (l : List (List ℕ)). entry_digest hash entry ∷ l) (digests_whole hash entries k (omega (arith, all)))

-- A key that no version behind a number has is as it stood there.
use Rattle.std.proofs.Common.{◌≡◌, ◌≤◌, ℕ, Bool, true, false, cond, List, [], ◌∷◌, take, filter, nat_le, Option, Some, None, refl, sym, ap, ◌∙◌, subst}
use Rattle.std.proofs.lemmas.Bool.{true≢false, le-leb}
use Rattle.std.specs.List.{last_or}
use Rattle.im_octet.proofs.Common.{some-is, filter-swap}
use Rattle.im_model.specs.declared.transactions.Transaction.{Transaction}
use Rattle.im_versions.specs.Versions.{versions_of, all_versions, is_of, last_version, last_number, version_number}
use Rattle.im_versions.specs.declared.versions.Version.{Version}
use Rattle.im_versions.proofs.VersionLemmas.{versions-upto}

-- the last of a list stands in a filter that it passes
last-kept : (p : Version → Bool) (o : Option Version) (q : Option Version) (xs : List Version) (v : Version) → last_or o xs ≡ Some v → p v ≡ true → (o ≡ Some v → q ≡ Some v) → last_or q (filter p xs) ≡ Some v
last-kept p o q [] v last passes same = same last
last-kept p o q (x ∷ xs) v last passes same = elim (p x) as (λ (b : Bool). p x ≡ b → last_or q (cond b (x ∷ filter p xs) (filter p xs)) ≡ Some v) [
  | true ↦ λ e. last-kept p (Some x) (Some x) xs v last passes (λ s. s)
  | false ↦ λ e. last-kept p (Some x) q xs v last passes (λ s. absurd (true≢false (sym passes ∙ ap p (sym (some-is x v s)) ∙ e)))
] refl

some-last : (o : Option Version) (xs : List Version) → last_or o xs ≡ None → xs ≡ []
some-last o [] e = refl
some-last o (x ∷ xs) e = absurd (let no : ⊥ = never x xs e in no)
  where
    never : (y : Version) (ys : List Version) → last_or (Some y) ys ≡ None → ⊥
    never y [] f = (let no : ⊥ = cc in no)
    never y (z ∷ zs) f = never z zs f

upto : (history : List Transaction) (n : ℕ) (key : List ℕ) → versions_of (take n history) key ≡ filter (λ (v : Version). nat_le v.tx n) (versions_of history key)
upto history n key =
    ap (filter (is_of key)) (versions-upto history n) ∙ filter-swap (is_of key) (λ (v : Version). nat_le v.tx n) (all_versions history)

pub guarded-same : (history : List Transaction) (n : ℕ) (key : List ℕ) → last_number history key ≤ n → last_version (take n history) key ≡ last_version history key
guarded-same history n key low = by-last (last_version history key) refl
  where
    by-last : (o : Option Version) → last_version history key ≡ o → last_version (take n history) key ≡ last_version history key
    by-last None e =
        let none : versions_of history key ≡ [] = some-last None (versions_of history key) e in
        ap (λ (vs : List Version). last_or None vs) (upto history n key ∙ ap (filter (λ (v : Version). nat_le v.tx n)) none) ∙ sym e
    by-last (Some v) e =
        let few : v.tx ≤ n = subst (λ (m : ℕ). m ≤ n) (ap version_number e) low in
        ap (λ (vs : List Version). last_or None vs) (upto history n key)
        ∙ last-kept (λ (w : Version). nat_le w.tx n) None None (versions_of history key) v e (le-leb v.tx n few) (λ s. s) ∙ sym e

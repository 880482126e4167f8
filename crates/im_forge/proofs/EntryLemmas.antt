-- Two entries of one place, by their strings, their values, and the paths that lead from them.
use Rattle.std.proofs.Common.{◌≡◌, ◌≢◌, ◌<◌, length, ℕ, ◌-◌, List, [], ◌++◌, reverse, refl, arith, ap, subst, ◌∙◌, sym, get_or}
use Rattle.std.proofs.lemmas.List.{length-reverse}
use Rattle.std.proofs.lemmas.List.Elements.{Contains-append_left, Contains-append_right}
use Rattle.im_digest.specs.Digests.{Hash}
use Rattle.im_model.specs.Entries.{entry_string, entry_digest, entry_strings, EntryFits}
use Rattle.im_model.specs.Paths.{path_length, up, up_strings}
use Rattle.im_model.specs.declared.entries.Entry.{Entry}
use Rattle.im_model.proofs.Lengths.{path-fits}
use Rattle.im_pairs.proofs.PairLemmas.{IsPair-more, digests-reversed}
use Rattle.im_pairs.proofs.EntryLemmas.{entry-parts, entry-read}
use Rattle.im_forge.specs.Same.{IsSame, IsCompared}
use Rattle.im_forge.specs.Parted.{ArePaths, IsParted}
use Rattle.im_forge.specs.declared.same.Same.{Same}
use Rattle.im_forge.specs.declared.same.Same.TheVariants.{Pair}
use Rattle.im_forge.specs.declared.parts.Parted.{Parted}
use Rattle.im_forge.proofs.SameLemmas.{told-pair, told-same}

-- all strings that are hashed for two entries and two paths
abbrev pub both_strings : Hash → Entry → Entry → List (List ℕ) → List (List ℕ)
both_strings hash a b ups = (entry_strings hash a ++ entry_strings hash b) ++ ups

-- by their values, where their strings are equal
pub same-values : (hash : Hash) (a b : Entry) (ups : List (List ℕ)) (x y : List ℕ) (same : Same) → EntryFits a → EntryFits b → x ≡ entry_string hash a → y ≡ entry_string hash b → x ≡ y
    → IsCompared a.value b.value same → IsSame (a ≡ b) hash (both_strings hash a b ups) same
same-values hash a b ups x y same f g p q e told =
    let whole : entry_string hash a ≡ entry_string hash b = sym p ∙ e ∙ q in
    told-same hash (a ≡ b) a.value b.value a.value b.value (both_strings hash a b ups) same refl refl
    (λ one. ap (λ (j : Entry). j.value) one) (λ value. entry-read hash a b f g whole value) (entry-parts hash a b f g whole).value
    (Contains-append_left (entry_strings hash a ++ entry_strings hash b) ups a.value (1, omega arith, refl))
    (Contains-append_left (entry_strings hash a ++ entry_strings hash b) ups b.value (3, omega arith, refl)) told

-- by their strings, where these have one digest
pub pair-of_entries : (hash : Hash) (a b : Entry) (ups : List (List ℕ)) (x y s t : List ℕ) → x ≡ entry_string hash a → y ≡ entry_string hash b → entry_digest hash a ≡ entry_digest hash b
    → IsCompared x y (Pair s t) → IsSame (a ≡ b) hash (both_strings hash a b ups) (Pair s t)
pair-of_entries hash a b ups x y s t p q e told =
    told-pair hash (a ≡ b) (entry_string hash a) (entry_string hash b) x y s t (both_strings hash a b ups) p q
    (λ one. ap (λ (j : Entry). entry_string hash j) one) e
    (Contains-append_left (entry_strings hash a ++ entry_strings hash b) ups (entry_string hash a) (0, omega arith, refl))
    (Contains-append_left (entry_strings hash a ++ entry_strings hash b) ups (entry_string hash b) (2, omega arith, refl)) told

-- by where their paths part, where their digests aren't one
pub pair-of_paths : (hash : Hash) (width i : ℕ) (a b : Entry) (path path2 : List (List ℕ)) (leaf leaf2 : List ℕ) (p : Parted) → leaf ≡ entry_digest hash a → leaf2 ≡ entry_digest hash b → leaf ≢ leaf2
    → up hash width i (entry_digest hash a) path ≡ up hash width i (entry_digest hash b) path2 → IsParted hash width i leaf leaf2 path path2 p
    → IsSame (a ≡ b) hash (both_strings hash a b (up_strings hash width i (entry_digest hash a) path ++ up_strings hash width i (entry_digest hash b) path2)) (Pair p.x p.y)
pair-of_paths hash width i a b path path2 leaf leaf2 p is is2 differ one parted =
    let ups : List (List ℕ) = up_strings hash width i (entry_digest hash a) path ++ up_strings hash width i (entry_digest hash b) path2 in
    let at : IsParted hash width i (entry_digest hash a) (entry_digest hash b) path path2 p =
    subst (λ (d : List ℕ). IsParted hash width i (entry_digest hash a) d path path2 p) is2 (subst (λ (d : List ℕ). IsParted hash width i d leaf2 path path2 p) is parted) in (
      λ same. differ (is ∙ ap (λ (j : Entry). entry_digest hash j) same ∙ sym is2),
      IsPair-more hash p.x p.y ups (both_strings hash a b ups) (λ x m. Contains-append_right (entry_strings hash a ++ entry_strings hash b) ups x m) (at.pair one),
    )

-- what the walk along two paths begins with
pub paths-ready : (width i : ℕ) (leaf leaf2 : List ℕ) (path path2 : List (List ℕ))
    → ((j : ℕ) → j < length path → length (get_or path j []) ≡ 32) → ((j : ℕ) → j < length path2 → length (get_or path2 j []) ≡ 32)
    → i < width → length path ≡ path_length width i → length path2 ≡ path_length width i → leaf ≢ leaf2 → length leaf ≡ 32 → length leaf2 ≡ 32
    → ArePaths width i leaf leaf2 (reverse path) (reverse path2)
paths-ready width i leaf leaf2 path path2 told told2 within long long2 differ size size2 = record {
  within = within;
  long = (path-fits width i (reverse path) within).1 (length-reverse path ∙ long);
  long2 = (path-fits width i (reverse path2) within).1 (length-reverse path2 ∙ long2);
  digests = digests-reversed path told;
  digests2 = digests-reversed path2 told2;
  unequal = differ;
  size = size;
  size2 = size2;
}

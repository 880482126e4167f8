-- A map to which versions are put one after the other has the last one of each key.
use Rattle.std.proofs.Common.{◌≡◌, ℕ, true, false, cond, List, [], ◌∷◌, ◌++◌, inl, inr, ap, sym, subst, ◌∙◌, Some, None, if◌then◌else◌, Bor}
use Rattle.std.proofs.lemmas.Bool.{cases_Bool}
use Rattle.std.proofs.lemmas.Slice.Eq.{bytes_eq-Decides}
use Rattle.std.proofs.lemmas.Map.Text.{btree_map_updates_str}
use Rattle.std.specs.BTreeMap as tree
use Rattle.std.specs.Cmp.Lexicographic.{slice_cmp}
use Rattle.std.specs.Option.{option_map}
use Rattle.std.specs.Ordering.{nat_cmp}
use Rattle.std.specs.Str.{bytes_eq}
use Rattle.im_versions.specs.Versions.{begins_with, is_of}
use Rattle.im_versions.specs.declared.versions.Version.{Version}
use Rattle.im_index.specs.Newest.{Newest, HasNewest, PutsNewest, newest_in, last_of}
use Rattle.im_index.proofs.LastLemmas.{last-more}

-- where a version of a key is added, it is that key's last
pub last_of-here : (versions : List Version) (v : Version) (key : List ℕ) → bytes_eq v.key key ≡ true → last_of (versions ++ v ∷ []) key ≡ Some v
last_of-here versions v key same =
    last-more (is_of key) versions v ∙ ap (λ b. cond b (Some v) (last_of versions key)) same

-- a version of another key leaves a key's last
last_of-apart : (versions : List Version) (v : Version) (key : List ℕ) → bytes_eq v.key key ≡ false → last_of (versions ++ v ∷ []) key ≡ last_of versions key
last_of-apart versions v key other =
    last-more (is_of key) versions v ∙ ap (λ b. cond b (Some v) (last_of versions key)) other

-- a version whose key begins with the prefix is put
pub HasNewest-put : (versions : List Version) (prefix : List ℕ) (v : Version) (old new : Newest) → begins_with prefix v.key ≡ true
    → PutsNewest old new v.key v → HasNewest versions prefix old → HasNewest (versions ++ v ∷ []) prefix new
HasNewest-put versions prefix v old new begins puts has key = elim (cases_Bool (bytes_eq v.key key)) [
  | inl same ↦ (
      let here : begins_with prefix key ≡ true = subst (λ k. begins_with prefix k ≡ true) ((bytes_eq-Decides v.key key).0 same) begins in
      puts key
      ∙ ap (λ b. cond b (Some v) (newest_in old key)) same
      ∙ sym (ap (λ b. cond b (last_of (versions ++ v ∷ []) key) None) here ∙ last_of-here versions v key same))
  | inr other ↦ (
      puts key
      ∙ ap (λ b. cond b (Some v) (newest_in old key)) other
      ∙ has key
      ∙ ap (λ o. if begins_with prefix key then o else None) (sym (last_of-apart versions v key other)))
]

-- and one of another key isn't
pub HasNewest-skip : (versions : List Version) (prefix : List ℕ) (v : Version) (old : Newest) → begins_with prefix v.key ≡ false
    → HasNewest versions prefix old → HasNewest (versions ++ v ∷ []) prefix old
HasNewest-skip versions prefix v old begins has key = elim (cases_Bool (bytes_eq v.key key)) [
  | inl same ↦ (
      let here : begins_with prefix key ≡ false = subst (λ k. begins_with prefix k ≡ false) ((bytes_eq-Decides v.key key).0 same) begins in
      has key
      ∙ ap (λ b. cond b (last_of versions key) None) here
      ∙ sym (ap (λ b. cond b (last_of (versions ++ v ∷ []) key) None) here))
  | inr other ↦ has key ∙ ap (λ o. if begins_with prefix key then o else None) (sym (last_of-apart versions v key other))
]

-- what an insertion does to a map of lent versions
pub newest-puts : (key : List ℕ) (version : Bor Version) (old new : Newest)
    → tree.UpdatesBy (λ x y. slice_cmp nat_cmp x.now y.now) (λ k. slice_cmp nat_cmp key k.now) old new (Some version) → PutsNewest old new key version.now
newest-puts key version old new updates other =
    ap (option_map (λ (v : Bor Version). v.now)) (btree_map_updates_str key old new (Some version) updates other)
    ∙ elim (cases_Bool (bytes_eq key other)) [
      | inl same ↦ (
          ap (λ b. option_map (λ (v : Bor Version). v.now) (cond b (Some version) (tree.get_by (λ k. slice_cmp nat_cmp other k.now) old))) same
          ∙ ap (λ b. cond b (Some version.now) (newest_in old other)) (sym same))
      | inr apart ↦ (
          ap (λ b. option_map (λ (v : Bor Version). v.now) (cond b (Some version) (tree.get_by (λ k. slice_cmp nat_cmp other k.now) old))) apart
          ∙ ap (λ b. cond b (Some version.now) (newest_in old other)) (sym apart))
    ]

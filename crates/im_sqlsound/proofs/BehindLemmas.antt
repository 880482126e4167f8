-- What is live behind a transaction that writes what a statement asks for.
use Rattle.std.proofs.Common.{◌≡◌, ◌≢◌, ◌+◌, inl, inr, ℕ, Bool, true, false, cond, List, [], ◌∷◌, ◌++◌, length, filter, find, map, bytes_eq, Option, Some, None, refl, sym, ap, ◌∙◌, subst}
use Rattle.std.proofs.lemmas.Bool.{true≢false, cases_Bool}
use Rattle.std.proofs.lemmas.List.{append-nil}
use Rattle.std.proofs.lemmas.Slice.Eq.{bytes_eq-Decides}
use Rattle.std.specs.List.{AllByRecursion, last_or}
use Rattle.std.specs.Option.{option_map}
use Rattle.im_octet.proofs.Common.{bytes-other, last-push, some-is}
use Rattle.im_model.specs.declared.entries.Entry.{Entry}
use Rattle.im_model.specs.declared.transactions.Transaction.{Transaction}
use Rattle.im_versions.specs.Versions.{is_shown, version_of, versions_in, versions_of, is_of, last_version}
use Rattle.im_versions.specs.declared.versions.Version.{Version}
use Rattle.im_draft.specs.Drafts.{entry_of}
use Rattle.im_sqlmodel.specs.Creations.{draft_written}
use Rattle.im_sqlmodel.specs.Rows.{IsLiveAs}
use Rattle.im_sqlmodel.specs.declared.written.Written.{Written}
use Rattle.im_sqlmodel.proofs.CarriedLemmas.{versions-pushed}

-- ---- what is written at a key

-- nothing of it, or its value, or that it is deleted
abbrev pub written_at : List Written → List ℕ → Option (Option (List ℕ))
written_at written key = option_map (λ (w : Written). w.value) (find (λ (w : Written). bytes_eq key w.key) written)

-- no two have one key
abbrev pub Once : List Written → Type 0
Once [] = Unit {0}
Once (w ∷ ws) = AllByRecursion (λ (x : Written). w.key ≢ x.key) ws × Once ws

-- ---- the versions of a transaction that writes it

abbrev dead : ℕ → List ℕ → Version
dead k key = record { tx = k; deleted = true; key = key; value = [] }

abbrev fresh : ℕ → List ℕ → List ℕ → Version
fresh k key value = record { tx = k; deleted = false; key = key; value = value }

abbrev pub version_by : ℕ → List ℕ → Option (List ℕ) → Version
version_by k key None = dead k key
version_by k key (Some value) = fresh k key value

abbrev asked : Written → Entry
asked w = entry_of (draft_written w)

abbrev draft_by : List ℕ → Option (List ℕ) → Entry
draft_by key value = asked (record { key = key; value = value })

shown-by : (key : List ℕ) (value : Option (List ℕ)) → is_shown (draft_by key value) ≡ true
shown-by key None = refl
shown-by key (Some value) = refl

version-by : (k : ℕ) (key : List ℕ) (value : Option (List ℕ)) → version_of k (draft_by key value) ≡ version_by k key value
version-by k key None = refl
version-by k key (Some value) = refl

-- each entry is a version of its key
pub versions-asked : (k : ℕ) (ws : List Written) → versions_in k (map asked ws) ≡ map (λ (w : Written). version_by k w.key w.value) ws
versions-asked k [] = refl
versions-asked k (w ∷ ws) =
    ap (λ (b : Bool). map (version_of k) (cond b (asked w ∷ filter is_shown (map asked ws)) (filter is_shown (map asked ws)))) (shown-by w.key w.value)
    ∙ ap (λ (v : Version). v ∷ versions_in k (map asked ws)) (version-by k w.key w.value)
    ∙ ap (λ (vs : List Version). version_by k w.key w.value ∷ vs) (versions-asked k ws)

key-by : (k : ℕ) (key : List ℕ) (value : Option (List ℕ)) → (version_by k key value).key ≡ key
key-by k key None = refl
key-by k key (Some value) = refl

-- those of one key
abbrev pub of_key : ℕ → List ℕ → Option (Option (List ℕ)) → List Version
of_key k key None = []
of_key k key (Some value) = version_by k key value ∷ []

none-of : (k : ℕ) (key : List ℕ) (ws : List Written) → AllByRecursion (λ (w : Written). key ≢ w.key) ws → filter (is_of key) (map (λ (w : Written). version_by k w.key w.value) ws) ≡ []
none-of k key [] all = refl
none-of k key (w ∷ ws) all =
    ap (λ (b : Bool). cond b (version_by k w.key w.value ∷ filter (is_of key) (map (λ (x : Written). version_by k x.key x.value) ws)) (filter (is_of key) (map (λ (x : Written). version_by k x.key x.value) ws)))
    (bytes-other (version_by k w.key w.value).key key (λ same. all.0 (sym same ∙ key-by k w.key w.value)))
    ∙ none-of k key ws all.1

pub versions-at : (k : ℕ) (key : List ℕ) (ws : List Written) → Once ws → filter (is_of key) (map (λ (w : Written). version_by k w.key w.value) ws) ≡ of_key k key (written_at ws key)
versions-at k key [] once = refl
versions-at k key (w ∷ ws) once = elim (cases_Bool (bytes_eq key w.key)) [
  | inl own ↦ (
      let same : key ≡ w.key = (bytes_eq-Decides key w.key).0 own in
      let here : bytes_eq (version_by k w.key w.value).key key ≡ true = (bytes_eq-Decides (version_by k w.key w.value).key key).1 (key-by k w.key w.value ∙ sym same) in
      let rest : filter (is_of key) (map (λ (x : Written). version_by k x.key x.value) ws) ≡ [] =
      none-of k key ws (subst (λ (y : List ℕ). AllByRecursion (λ (x : Written). y ≢ x.key) ws) (sym same) once.0) in
      ap (λ (b : Bool). cond b (version_by k w.key w.value ∷ filter (is_of key) (map (λ (x : Written). version_by k x.key x.value) ws)) (filter (is_of key) (map (λ (x : Written). version_by k x.key x.value) ws))) here
      ∙ ap (λ (vs : List Version). version_by k w.key w.value ∷ vs) rest
      ∙ ap (λ (y : List ℕ). version_by k y w.value ∷ []) (sym same)
      ∙ sym (ap (λ (b : Bool). of_key k key (option_map (λ (x : Written). x.value) (cond b (Some w) (find (λ (x : Written). bytes_eq key x.key) ws)))) own))
  | inr other ↦
      ap (λ (b : Bool). cond b (version_by k w.key w.value ∷ filter (is_of key) (map (λ (x : Written). version_by k x.key x.value) ws)) (filter (is_of key) (map (λ (x : Written). version_by k x.key x.value) ws)))
      (bytes-other (version_by k w.key w.value).key key (λ same. true≢false (sym ((bytes_eq-Decides key w.key).1 (sym same ∙ key-by k w.key w.value)) ∙ other)))
      ∙ versions-at k key ws once.1
      ∙ sym (ap (λ (b : Bool). of_key k key (option_map (λ (x : Written). x.value) (cond b (Some w) (find (λ (x : Written). bytes_eq key x.key) ws)))) other)
]

-- ---- the last version of a key

abbrev pub last_behind : ℕ → List ℕ → Option Version → Option (Option (List ℕ)) → Option Version
last_behind k key before None = before
last_behind k key before (Some value) = Some (version_by k key value)

last-of : (k : ℕ) (key : List ℕ) (vs : List Version) (there : Option (Option (List ℕ))) → last_or None (vs ++ of_key k key there) ≡ last_behind k key (last_or None vs) there
last-of k key vs None = ap (λ (xs : List Version). last_or None xs) (append-nil vs)
last-of k key vs (Some value) = last-push None vs (version_by k key value)

module _ (history : List Transaction) (tx : Transaction) (ws : List Written) (once : Once ws) (writes : tx.entries ≡ map (λ (w : Written). entry_of (draft_written w)) ws) where
  pub last-pushed : (key : List ℕ) → last_version (history ++ tx ∷ []) key ≡ last_behind (length history + 1) key (last_version history key) (written_at ws key)
  last-pushed key =
      ap (λ (vs : List Version). last_or None vs)
      (versions-pushed history tx key
      ∙ ap (λ (es : List Entry). versions_of history key ++ filter (is_of key) (versions_in (length history + 1) es)) writes
      ∙ ap (λ (vs : List Version). versions_of history key ++ filter (is_of key) vs) (versions-asked (length history + 1) ws)
      ∙ ap (λ (vs : List Version). versions_of history key ++ vs) (versions-at (length history + 1) key ws once))
      ∙ last-of (length history + 1) key (versions_of history key) (written_at ws key)

  -- a key that isn't written is as it was
  pub live-still : (key value : List ℕ) → written_at ws key ≡ None → IsLiveAs history key value → IsLiveAs (history ++ tx ∷ []) key value
  live-still key value none is =
      (is.0, last-pushed key ∙ ap (last_behind (length history + 1) key (last_version history key)) none ∙ is.1, is.2, is.3)

  -- one that is written has its value
  pub live-new : (key value : List ℕ) → written_at ws key ≡ Some (Some value) → IsLiveAs (history ++ tx ∷ []) key value
  live-new key value there =
      (fresh (length history + 1) key value, last-pushed key ∙ ap (last_behind (length history + 1) key (last_version history key)) there, refl, refl)

  -- what is live was written so, or stood and wasn't written
  abbrev pub IsLiveBy : List ℕ → List ℕ → Option (Option (List ℕ)) → Type 0
  IsLiveBy key value None = IsLiveAs history key value
  IsLiveBy key value (Some None) = ⊥
  IsLiveBy key value (Some (Some written)) = written ≡ value

  pub live-by : (key value : List ℕ) → IsLiveAs (history ++ tx ∷ []) key value → IsLiveBy key value (written_at ws key)
  live-by key value is = by-written (written_at ws key) (is.0, sym (last-pushed key) ∙ is.1, is.2, is.3)
    where
      by-written : (there : Option (Option (List ℕ))) → (v : Version) × (last_behind (length history + 1) key (last_version history key) there ≡ Some v) × (v.deleted ≡ false) × (v.value ≡ value) → IsLiveBy key value there
      by-written None live = live
      by-written (Some None) live =
          (let same : dead (length history + 1) key ≡ live.0 = some-is (dead (length history + 1) key) live.0 live.1 in
          true≢false (ap (λ (v : Version). v.deleted) same ∙ live.2))
      by-written (Some (Some written)) live =
          (let same : fresh (length history + 1) key written ≡ live.0 = some-is (fresh (length history + 1) key written) live.0 live.1 in
          ap (λ (v : Version). v.value) same ∙ live.3)

-- The versions of further transactions, with their values and without.
use Rattle.std.proofs.Common.{◌≡◌, ◌<◌, ◌+◌, ℕ, cond, List, [], ◌∷◌, ◌++◌, length, map, filter, take, get_or, refl, arith, ap, sym, ◌∙◌, inl, inr, Option, Some, None, option_map}
use Rattle.std.proofs.lemmas.Bool.{cases_Bool}
use Rattle.std.proofs.lemmas.List.{append-nil, length-map, length-take-le, map-append, take_more}
use Rattle.std.specs.List.{last_or}
use Rattle.std.specs.Str.{bytes_eq}
use Rattle.im_model.specs.declared.entries.Entry.{Entry}
use Rattle.im_model.specs.declared.transactions.Transaction.{Transaction}
use Rattle.im_versions.specs.Versions.{all_versions, is_live, is_of, is_shown, is_written, last_number, last_version, version_number, version_of, versions_from, versions_in, versions_of}
use Rattle.im_versions.specs.declared.versions.Version.{Version}
use Rattle.im_versions.proofs.VersionLemmas.{versions-append}
use Rattle.im_index.specs.Keys.{bare, bare_entry, bare_transaction}

-- those of one transaction stand alone
pub versions-one : (k : ℕ) (tx : Transaction) → versions_from k (tx ∷ []) ≡ versions_in k tx.entries
versions-one k tx = append-nil (versions_in k tx.entries)

-- one more transaction adds its versions behind the others
pub versions-more : (k : ℕ) (txs : List Transaction) (i : ℕ) (d : Transaction) → i < length txs
    → versions_from k (take (i + 1) txs) ≡ versions_from k (take i txs) ++ versions_in (k + i) (get_or txs i d).entries
versions-more k txs i d h =
    let front : List Transaction = take i txs in
    let tx : Transaction = get_or txs i d in
    let long : length front ≡ i = length-take-le i txs (omega arith) in
    ap (versions_from k) (take_more txs i d h)
    ∙ versions-append k front (tx ∷ [])
    ∙ ap (λ vs. versions_from k front ++ vs) (versions-one (k + length front) tx)
    ∙ ap (λ n. versions_from k front ++ versions_in (k + n) tx.entries) long

-- and so it does without its values
pub keys-more : (k : ℕ) (txs : List Transaction) (i : ℕ) (tx : Transaction) → i < length txs → tx ≡ get_or txs i tx
    → versions_from k (bare (take (i + 1) txs)) ≡ versions_from k (bare (take i txs)) ++ versions_in (k + i) (map bare_entry tx.entries)
keys-more k txs i tx h is =
    let front : List Transaction = take i txs in
    let long : length (bare front) ≡ i = length-map front bare_transaction ∙ length-take-le i txs (omega arith) in
    ap (λ ts. versions_from k (bare ts)) (take_more txs i tx h ∙ ap (λ (t : Transaction). front ++ t ∷ []) (sym is))
    ∙ ap (versions_from k) (map-append bare_transaction front (tx ∷ []))
    ∙ versions-append k (bare front) (bare_transaction tx ∷ [])
    ∙ ap (λ vs. versions_from k (bare front) ++ vs) (versions-one (k + length (bare front)) (bare_transaction tx))
    ∙ ap (λ n. versions_from k (bare front) ++ versions_in (k + n) (map bare_entry tx.entries)) long

-- the version that an entry is, without its value
abbrev pub key_version : ℕ → Entry → Version
key_version k entry = version_of k (bare_entry entry)

-- entries are shown or hidden whatever their values are
pub keys-in : (k : ℕ) (entries : List Entry) → map (key_version k) (filter is_shown entries) ≡ versions_in k (map bare_entry entries)
keys-in k [] = refl
keys-in k (e ∷ es) =
    let rest : List Entry = filter is_shown es in
    let others : List Entry = filter is_shown (map bare_entry es) in
    elim (cases_Bool (is_shown e)) [
      | inl shown ↦ (
          ap (λ b. map (key_version k) (cond b (e ∷ rest) rest)) shown
          ∙ ap (λ vs. key_version k e ∷ vs) (keys-in k es)
          ∙ sym (ap (λ b. map (version_of k) (cond b (bare_entry e ∷ others) others)) shown))
      | inr hidden ↦ (
          ap (λ b. map (key_version k) (cond b (e ∷ rest) rest)) hidden
          ∙ keys-in k es
          ∙ sym (ap (λ b. map (version_of k) (cond b (bare_entry e ∷ others) others)) hidden))
    ]

-- a version without its value
abbrev pub bare_version : Version → Version
bare_version version = record { tx = version.tx; deleted = version.deleted; key = version.key; value = [] }

-- the versions without values are those of the entries without values
keys-are : (k : ℕ) (entries : List Entry) → map (key_version k) (filter is_shown entries) ≡ map bare_version (versions_in k entries)
keys-are k [] = refl
keys-are k (e ∷ es) =
    let rest : List Entry = filter is_shown es in
    elim (cases_Bool (is_shown e)) [
      | inl shown ↦ (
          ap (λ b. map (key_version k) (cond b (e ∷ rest) rest)) shown
          ∙ ap (λ vs. key_version k e ∷ vs) (keys-are k es)
          ∙ sym (ap (λ b. map bare_version (map (version_of k) (cond b (e ∷ rest) rest))) shown))
      | inr hidden ↦ (
          ap (λ b. map (key_version k) (cond b (e ∷ rest) rest)) hidden
          ∙ keys-are k es
          ∙ sym (ap (λ b. map bare_version (map (version_of k) (cond b (e ∷ rest) rest))) hidden))
    ]

pub bare-from : (k : ℕ) (txs : List Transaction) → versions_from k (bare txs) ≡ map bare_version (versions_from k txs)
bare-from k [] = refl
bare-from k (tx ∷ txs) =
    ap (λ vs. vs ++ versions_from (k + 1) (bare txs)) (sym (keys-in k tx.entries) ∙ keys-are k tx.entries)
    ∙ ap (λ vs. map bare_version (versions_in k tx.entries) ++ vs) (bare-from (k + 1) txs)
    ∙ sym (map-append bare_version (versions_in k tx.entries) (versions_from (k + 1) txs))

-- a history has as many versions without its values
pub bare-many : (history : List Transaction) → length (all_versions (bare history)) ≡ length (all_versions history)
bare-many history = ap length (bare-from 1 history) ∙ length-map (all_versions history) bare_version

-- those of a key
filter-bare : (key : List ℕ) (versions : List Version) → filter (is_of key) (map bare_version versions) ≡ map bare_version (filter (is_of key) versions)
filter-bare key [] = refl
filter-bare key (v ∷ vs) =
    let rest : List Version = filter (is_of key) vs in
    elim (cases_Bool (bytes_eq v.key key)) [
      | inl own ↦ (
          ap (λ b. cond b (bare_version v ∷ filter (is_of key) (map bare_version vs)) (filter (is_of key) (map bare_version vs))) own
          ∙ ap (λ ws. bare_version v ∷ ws) (filter-bare key vs)
          ∙ sym (ap (λ b. map bare_version (cond b (v ∷ rest) rest)) own))
      | inr other ↦ (
          ap (λ b. cond b (bare_version v ∷ filter (is_of key) (map bare_version vs)) (filter (is_of key) (map bare_version vs))) other
          ∙ filter-bare key vs
          ∙ sym (ap (λ b. map bare_version (cond b (v ∷ rest) rest)) other))
    ]

last-map : {X Y : Type 0} (f : X → Y) (o : Option X) (xs : List X) → last_or (option_map f o) (map f xs) ≡ option_map f (last_or o xs)
last-map f o [] = refl
last-map f o (x ∷ xs) = last-map f (Some x) xs

-- a key's last version without its value is that of the history without its values
pub bare-last : (history : List Transaction) (key : List ℕ) → last_version (bare history) key ≡ option_map bare_version (last_version history key)
bare-last history key =
    ap (λ vs. last_or None (filter (is_of key) vs)) (bare-from 1 history)
    ∙ ap (last_or None) (filter-bare key (all_versions history))
    ∙ last-map bare_version None (versions_of history key)

bare-numbered : (o : Option Version) → version_number (option_map bare_version o) ≡ version_number o
bare-numbered None = refl
bare-numbered (Some v) = refl

bare-written : (o : Option Version) → is_written (option_map bare_version o) ≡ is_written o
bare-written None = refl
bare-written (Some v) = refl

-- so its number
pub bare-number : (history : List Transaction) (key : List ℕ) → last_number (bare history) key ≡ last_number history key
bare-number history key = ap version_number (bare-last history key) ∙ bare-numbered (last_version history key)

-- and whether the key is live are the same
pub bare-live : (history : List Transaction) (key : List ℕ) → is_live (bare history) key ≡ is_live history key
bare-live history key = ap is_written (bare-last history key) ∙ bare-written (last_version history key)

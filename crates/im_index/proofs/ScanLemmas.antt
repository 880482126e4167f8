-- The live versions of a map that has the last version of each key are a scan.
use Rattle.std.proofs.Common.{◌≡◌, ◌<◌, zero, suc, ℕ, Bool, true, false, cond, not, List, [], ◌∷◌, map, get_or, arith, inl, inr, refl, ap, sym, subst, ◌∙◌, Option, Some, None, if◌then◌else◌, Bor}
use Rattle.std.proofs.lemmas.Bool.{cases_Bool}
use Rattle.std.proofs.lemmas.List.Elements.{All-head, All-tail, All-map, All-filter, All-weaker, All-cons, All-nil, All-from_recursion, filter_passes}
use Rattle.std.proofs.lemmas.List.Kept.{AllPairs-cons, AllPairs-filter}
use Rattle.std.proofs.lemmas.Map.Entries.{btree_map_get_place, place_from_lookup}
use Rattle.std.proofs.lemmas.Slice.Eq.{bytes_eq-Decides}
use Rattle.std.specs.BTreeMap as tree
use Rattle.std.specs.BTreeMap.{is_at}
use Rattle.std.specs.Cmp.Lexicographic.{slice_cmp, on_texts}
use Rattle.std.specs.List.{All, AllPairs, IsAmong, filter, slice_get}
use Rattle.std.specs.List.Sorted.{IsStrictlySortedBy}
use Rattle.std.specs.Map.{keys_of}
use Rattle.std.specs.Option.{option_map}
use Rattle.std.specs.Ordering.{nat_cmp}
use Rattle.std.specs.Prelude.{Result, Ok, Err, IfOk, OnOk, IfSome, IsTrue}
use Rattle.std.specs.Str.{bytes_eq}
use Rattle.std.specs.declared.cmp.Ordering.{Ordering}
use Rattle.std.specs.declared.cmp.Ordering.TheVariants.{Less}
use Rattle.im_model.specs.declared.transactions.Transaction.{Transaction}
use Rattle.im_versions.specs.Versions.{all_versions, begins_with, is_of, last_version, IsBelow, IsScan}
use Rattle.im_versions.specs.declared.versions.Version.{Version}
use Rattle.im_versions.proofs.ListLemmas.{among-cons, among-first, among-rest}
use Rattle.im_index.specs.Newest.{Newest, HasNewest, newest_in, last_of}
use Rattle.im_index.proofs.LastLemmas.{last_or-All}

-- the order of lent keys
abbrev pub lent_cmp : Bor (List ℕ) → Bor (List ℕ) → Ordering
lent_cmp x y = slice_cmp nat_cmp x.now y.now

-- an entry of such a map
abbrev pub Lent : Type 0
Lent = Bor (List ℕ) × Bor Version

-- the versions of such entries
abbrev pub versions_at : List Lent → List Version
versions_at entries = map (λ e. e.1.now) entries

-- the version isn't a deletion
abbrev pub is_kept : Version → Bool
is_kept version = not version.deleted

-- the last version of a key has that key
last_of-key : (versions : List Version) (key : List ℕ) (v : Version) → last_of versions key ≡ Some v → v.key ≡ key
last_of-key versions key v is =
    let some : IfSome (last_of versions key) (λ w. bytes_eq w.key key ≡ true) =
    last_or-All (λ (w : Version). bytes_eq w.key key ≡ true) None (filter (is_of key) versions) tt (filter_passes (is_of key) versions) in
    let same : bytes_eq v.key key ≡ true = subst (λ o. IfSome o (λ w. bytes_eq w.key key ≡ true)) is some in
    (bytes_eq-Decides v.key key).0 same

-- what is known of an entry: its key begins with the prefix, and its version is the last of it
pub record IsNewest (versions : List Version) (prefix : List ℕ) (e : Lent) : Type 0 where
  pub key : e.1.now.key ≡ e.0.now
  pub begins : begins_with prefix e.0.now ≡ true
  pub last : last_of versions e.0.now ≡ Some e.1.now

-- of what a map has for a key
IsNewest-of : (versions : List Version) (prefix : List ℕ) (e : Lent)
    → Some e.1.now ≡ (if begins_with prefix e.0.now then last_of versions e.0.now else None) → IsNewest versions prefix e
IsNewest-of versions prefix e has = elim (cases_Bool (begins_with prefix e.0.now)) [
  | inl begins ↦ (
      let last : last_of versions e.0.now ≡ Some e.1.now = sym (has ∙ ap (λ b. cond b (last_of versions e.0.now) None) begins) in
      record { key = last_of-key versions e.0.now e.1.now last; begins = begins; last = last })
  | inr other ↦ absurd (
      let none : Some e.1.now ≡ None = has ∙ ap (λ b. cond b (last_of versions e.0.now) None) other in
      cc)
]

-- each item of a list, by its places
All-places : {X : Type 0} (P : X → Type 0) (xs : List X) → ((i : ℕ) (x : X) → slice_get xs i ≡ Some x → P x) → All P xs
All-places P [] h = All-nil P
All-places P (x ∷ xs) h = All-cons P x xs (h 0 x refl) (All-places P xs (λ i y e. h (suc i) y e))

-- each entry of a map that has the last versions is one of them
pub entries-newest : (versions : List Version) (prefix : List ℕ) (newest : Newest) → tree.IsOrdered lent_cmp newest
    → HasNewest versions prefix newest → All (IsNewest versions prefix) newest.entries
entries-newest versions prefix newest ordered has =
    All-places (IsNewest versions prefix) newest.entries (λ i e at.
    let found : tree.get lent_cmp newest e.0 ≡ Some e.1 = btree_map_get_place (on_texts (λ (k : Bor (List ℕ)). k.now)) newest i e.0 e.1 ordered at in
    IsNewest-of versions prefix e (sym (ap (option_map (λ (v : Bor Version). v.now)) found) ∙ has e.0.now))

-- what holds of each key holds of each entry's
All-keys : (P : Bor (List ℕ) → Type 0) (es : List Lent) → All P (keys_of es) → All (λ f. P f.0) es
All-keys P [] all = All-nil (λ (f : Lent). P f.0)
All-keys P (e ∷ es) all =
    All-cons (λ (f : Lent). P f.0) e es (All-head P e.0 (keys_of es) all) (All-keys P es (All-tail P e.0 (keys_of es) all))

-- keys above that of an entry
above-first : (e : Lent) (es : List Lent) → IsStrictlySortedBy lent_cmp (keys_of (e ∷ es)) → All (λ f. lent_cmp e.0 f.0 ≡ Less) es
unfolding IsStrictlySortedBy
above-first e es h = All-keys (λ k. lent_cmp e.0 k ≡ Less) es (All-from_recursion (λ k. lent_cmp e.0 k ≡ Less) (keys_of es) h.0)

-- rising behind the first
rising-rest : (e : Lent) (es : List Lent) → IsStrictlySortedBy lent_cmp (keys_of (e ∷ es)) → IsStrictlySortedBy lent_cmp (keys_of es)
unfolding IsStrictlySortedBy
rising-rest e es h = h.1

-- the versions of entries in rising order rise
rising-versions : (versions : List Version) (prefix : List ℕ) (es : List Lent) → All (IsNewest versions prefix) es
    → IsStrictlySortedBy lent_cmp (keys_of es) → AllPairs (λ a b. IsBelow a.key b.key) (versions_at es)
rising-versions versions prefix [] all rising = λ i j d l m. absurd (omega arith)
rising-versions versions prefix (e ∷ es) all rising =
    let first : IsNewest versions prefix e = All-head (IsNewest versions prefix) e es all in
    let rest : All (IsNewest versions prefix) es = All-tail (IsNewest versions prefix) e es all in
    let above : All (λ f. lent_cmp e.0 f.0 ≡ Less) es = above-first e es rising in
    AllPairs-cons (λ (a b : Version). IsBelow a.key b.key) e.1.now (versions_at es)
    (All-map (λ (w : Version). IsBelow e.1.now.key w.key) (λ (f : Lent). f.1.now) es
    (λ i d l. subst (λ (k : List ℕ). IsBelow k (get_or es i d).1.now.key) (sym first.key)
    (subst (λ (k : List ℕ). IsBelow e.0.now k) (sym (rest i d l).key) (above i d l))))
    (rising-versions versions prefix es rest (rising-rest e es rising))

-- a member that passes is a member of a filter
among-filter : {X : Type 0} (p : X → Bool) (xs : List X) (v : X) → p v ≡ true → IsAmong xs v → IsAmong (filter p xs) v
among-filter p [] v pass is = absurd (let within : is.0 < 0 = is.1.0 in omega arith)
among-filter p (x ∷ xs) v pass is = elim (among-cons x xs v is) [
  | inl same ↦ (
      let passes : p x ≡ true = subst (λ z. p z ≡ true) same pass in
      subst (λ b. IsAmong (cond b (x ∷ filter p xs) (filter p xs)) v) (sym passes)
      (subst (λ z. IsAmong (x ∷ filter p xs) z) (sym same) (among-first x (filter p xs))))
  | inr rest ↦ (
      let behind : IsAmong (filter p xs) v = among-filter p xs v pass rest in
      elim (cases_Bool (p x)) [
        | inl passes ↦ subst (λ b. IsAmong (cond b (x ∷ filter p xs) (filter p xs)) v) (sym passes) (among-rest x (filter p xs) v behind)
        | inr fails ↦ subst (λ b. IsAmong (cond b (x ∷ filter p xs) (filter p xs)) v) (sym fails) behind
      ])
]

-- the version at a place is a member
among-place : (es : List Lent) (i : ℕ) (e : Lent) → slice_get es i ≡ Some e → IsAmong (versions_at es) e.1.now
among-place [] i e at = absurd (cc)
among-place (f ∷ es) zero e at =
    let same : f ≡ e = cc in
    subst (λ (g : Lent). IsAmong (versions_at (f ∷ es)) g.1.now) same (among-first f.1.now (versions_at es))
among-place (f ∷ es) (suc i) e at = among-rest f.1.now (versions_at es) e.1.now (among-place es i e at)

-- a version that a map has is among those of its entries
among-newest : (newest : Newest) (key : List ℕ) (v : Version) → newest_in newest key ≡ Some v → IsAmong (versions_at newest.entries) v
among-newest newest key v is = among-found newest key v (tree.get_by (λ k. slice_cmp nat_cmp key k.now) newest) refl is
  where
    among-found : (newest : Newest) (key : List ℕ) (v : Version) (o : Option (Bor Version))
        → tree.get_by (λ k. slice_cmp nat_cmp key k.now) newest ≡ o → option_map (λ w. w.now) o ≡ Some v → IsAmong (versions_at newest.entries) v
    among-found newest key v None found is = absurd (cc)
    among-found newest key v (Some w) found is =
        let place = place_from_lookup (is_at (λ (k : Bor (List ℕ)). slice_cmp nat_cmp key k.now)) newest.entries w found in
        let same : w.now ≡ v = cc in
        subst (IsAmong (versions_at newest.entries)) same (among-place newest.entries place.0 (place.1, w) place.2)

-- what follows from both clauses of an answer
pub both-ok : {T E : Type 0} (r : Result T E) (P : T → Type 0) (Q : Type 0) (R : T → Type 0) → ((x : T) → P x → Q → R x) → IfOk r P → OnOk r Q → IfOk r R
both-ok (Ok x) P Q R f p q = f x p q
both-ok (Err e) P Q R f p q = tt

-- the live versions of a map that has the last ones of a history are a scan of it
pub scan-newest : (history : List Transaction) (prefix : List ℕ) (newest : Newest) (shown : List Version) → tree.IsOrdered lent_cmp newest
    → HasNewest (all_versions history) prefix newest → shown ≡ filter is_kept (versions_at newest.entries) → IsScan history prefix shown
scan-newest history prefix newest shown ordered has is =
    let versions : List Version = all_versions history in
    let es : List Lent = newest.entries in
    let each : All (IsNewest versions prefix) es = entries-newest versions prefix newest ordered has in
    let begin : All (λ v. IsTrue (begins_with prefix v.key)) (versions_at es) =
    All-map (λ (v : Version). IsTrue (begins_with prefix v.key)) (λ (e : Lent). e.1.now) es
    (All-weaker (IsNewest versions prefix) (λ e. IsTrue (begins_with prefix e.1.now.key))
    (λ e n. subst (λ k. begins_with prefix k ≡ true) (sym n.key) n.begins) es each) in
    let last : All (λ v. last_version history v.key ≡ Some v) (versions_at es) =
    All-map (λ (v : Version). last_version history v.key ≡ Some v) (λ (e : Lent). e.1.now) es
    (All-weaker (IsNewest versions prefix) (λ e. last_version history e.1.now.key ≡ Some e.1.now)
    (λ e n. subst (λ k. last_version history k ≡ Some e.1.now) (sym n.key) n.last) es each) in
    let live : All (λ v. (last_version history v.key ≡ Some v) × (v.deleted ≡ false)) (filter is_kept (versions_at es)) =
    (λ i d l. (
      All-filter is_kept (λ v. last_version history v.key ≡ Some v) (versions_at es) last i d l,
      kept-false (get_or (filter is_kept (versions_at es)) i d) (filter_passes is_kept (versions_at es) i d l),
    )) in
    subst (IsScan history prefix) (sym is) (record {
      rising = AllPairs-filter (λ (a b : Version). IsBelow a.key b.key) is_kept (versions_at es) (rising-versions versions prefix es each ordered);
      live = live;
      begin = All-filter is_kept (λ (v : Version). IsTrue (begins_with prefix v.key)) (versions_at es) begin;
      all = λ key v shows lives begins.
          among-filter is_kept (versions_at es) v (ap not lives)
          (among-newest newest key v (has key ∙ ap (λ b. cond b (last_of versions key) None) begins ∙ shows));
    })
  where
    kept-false : (v : Version) → not v.deleted ≡ true → v.deleted ≡ false
    kept-false v h = elim (cases_Bool v.deleted) [
      | inl deleted ↦ absurd (let odd : false ≡ true = sym (ap not deleted) ∙ h in cc)
      | inr live ↦ live
    ]

-- Keys in order, and what a scan has found in the versions that it has looked at.
use Rattle.std.proofs.Common.{◌≡◌, ◌<◌, ◌≤◌, ◌+◌, ℕ, true, false, not, ◌&&◌, List, length, take, get_or, refl, arith, ap, subst, ◌∙◌, sym, inl, inr, ◌⊎◌, Some, None, Option}
use Rattle.std.specs.List.{All, AllPairs, IsAmong, insert}
use Rattle.std.specs.Prelude.{IsTrue, if◌then◌else◌}
use Rattle.std.specs.Cmp.Lexicographic.{slice_cmp}
use Rattle.std.specs.Ordering.{nat_cmp, ordering_reverse, is_eq}
use Rattle.std.specs.declared.cmp.Ordering.TheVariants.{Equal, Greater}
use Rattle.std.proofs.lemmas.Cmp.{nat_list_cmp_total}
use Rattle.std.proofs.lemmas.Map.Text.{is_eq-slice_cmp}
use Rattle.std.proofs.lemmas.Slice.Eq.{bytes_eq-Decides}
use Rattle.std.proofs.lemmas.Bool.{cases_Bool, cases_lt, and_parts, and_from, cond-true, cond-false, not-true}
use Rattle.std.proofs.lemmas.List.Elements.{All-more, All-weaker}
use Rattle.im_model.specs.declared.transactions.Transaction.{Transaction}
use Rattle.im_versions.specs.Versions.{all_versions, last_version, is_written, is_live, begins_with, IsBelow, IsScan}
use Rattle.im_versions.specs.declared.versions.Version.{Version}
use Rattle.im_versions.proofs.ListLemmas.{All-among, All-insert, AllPairs-insert, among-insert, among-itself}
use Rattle.im_versions.proofs.VersionLemmas.{last-of-key, last-among-all}

-- versions with rising keys
abbrev pub Rising : List Version → Type 0
Rising vs = AllPairs (λ a b. IsBelow a.key b.key) vs

-- what is below a key that is below another is below that
pub below-trans : (a b c : List ℕ) → IsBelow a b → IsBelow b c → IsBelow a c
below-trans a b c h g = nat_list_cmp_total.trans a b c h g

-- a comparison the other way round
pub below-turned : (a b : List ℕ) → Greater ≡ slice_cmp nat_cmp a b → IsBelow b a
below-turned a b e = nat_list_cmp_total.antisymm b a ∙ ap ordering_reverse (sym e)

-- keys that compare as equal are equal
pub same-key : (a b : List ℕ) → Equal ≡ slice_cmp nat_cmp a b → a ≡ b
same-key a b e = (bytes_eq-Decides a b).0 (sym (is_eq-slice_cmp a b) ∙ ap is_eq (sym e))

-- a version at the place of its key keeps keys rising
pub put-rising : (shown lent : List Version) (place : ℕ) (v : Version) (key : List ℕ) → lent ≡ shown → key ≡ v.key → place ≤ length lent → Rising shown → ((k : ℕ) (d : Version) → k < place → IsBelow (get_or lent k d).key key) → ((d : Version) → place < length lent → IsBelow key (get_or lent place d).key) → Rising (insert shown place v)
put-rising shown lent place v key same its within rising below next =
    AllPairs-insert (λ (a b : Version). IsBelow a.key b.key) shown place v (omega (arith, ap length same)) rising
    (λ k d h. subst (λ (ws : List Version). IsBelow (get_or ws k d).key v.key) same (subst (λ (x : List ℕ). IsBelow (get_or lent k d).key x) its (below k d h)))
    above
  where
    at : (d : Version) → place < length shown → IsBelow v.key (get_or shown place d).key
    at d h = subst (λ (ws : List Version). IsBelow v.key (get_or ws place d).key) same (subst (λ (x : List ℕ). IsBelow x (get_or lent place d).key) its (next d (omega (arith, ap length same))))

    above : (k : ℕ) (d : Version) → place ≤ k → k < length shown → IsBelow v.key (get_or shown k d).key
    above k d h l = elim (cases_lt place k) [
      | inl less ↦ below-trans v.key (get_or shown place d).key (get_or shown k d).key (at d (omega arith)) (rising place k d less l)
      | inr same' ↦ (
          let e : place ≡ k = omega arith in
          subst (λ (j : ℕ). IsBelow v.key (get_or shown j d).key) e (at d (omega arith)))
    ]

-- a version that is put among others is there, and what else is there was
pub put-only : (shown : List Version) (place : ℕ) (v : Version) → All (λ w. (w ≡ v) ⊎ IsAmong shown w) (insert shown place v)
put-only shown place v =
    let P : Version → Type 0 = λ w. (w ≡ v) ⊎ IsAmong shown w in
    All-insert P shown place v (All-weaker (IsAmong shown) P (λ w m. inr m) shown (among-itself shown)) (inl refl)

-- what was there still is
pub put-kept : (shown : List Version) (place : ℕ) (v : Version) → All (IsAmong (insert shown place v)) shown
put-kept shown place v = All-weaker (IsAmong shown) (IsAmong (insert shown place v)) (λ w m. among-insert shown place v w m) shown (among-itself shown)

-- what a scan has found in these versions: the live keys among theirs that begin with the prefix
pub record IsScanOf (history : List Transaction) (prefix : List ℕ) (seen shown : List Version) : Type 0 where
  pub rising : AllPairs (λ a b. IsBelow a.key b.key) shown
  pub live : All (λ v. (last_version history v.key ≡ Some v) × (v.deleted ≡ false)) shown
  pub begin : All (λ v. IsTrue (begins_with prefix v.key)) shown
  pub all : All (λ u. (w : Version) → last_version history u.key ≡ Some w → w.deleted ≡ false → IsTrue (begins_with prefix u.key) → IsAmong shown w) seen

-- what is shown of a key: its last version, where it is live and begins with the prefix
abbrev pub shown_of : List Transaction → List ℕ → List ℕ → Option Version
shown_of history prefix key = if begins_with prefix key && is_live history key then last_version history key else None

-- behind the last version the scan is whole
pub scan-all : (history : List Transaction) (prefix : List ℕ) (shown : List Version) → IsScanOf history prefix (all_versions history) shown → IsScan history prefix shown
scan-all history prefix shown s = record {
  rising = s.rising;
  live = s.live;
  begin = s.begin;
  all = λ key version last kept begins.
      let same : key ≡ version.key = sym (last-of-key history key version last) in
      let seen : (w : Version) → last_version history version.key ≡ Some w → w.deleted ≡ false → IsTrue (begins_with prefix version.key) → IsAmong shown w = All-among (λ (u : Version). (w : Version) → last_version history u.key ≡ Some w → w.deleted ≡ false → IsTrue (begins_with prefix u.key) → IsAmong shown w) (all_versions history) version s.all (last-among-all history key version last) in
      seen version (subst (λ (k : List ℕ). last_version history k ≡ Some version) same last) kept (subst (λ (k : List ℕ). IsTrue (begins_with prefix k)) same begins);
}

-- a key of which a version is shown
pub shown-some : (history : List Transaction) (prefix key : List ℕ) (w : Version) → shown_of history prefix key ≡ Some w → (last_version history key ≡ Some w) × (w.deleted ≡ false) × IsTrue (begins_with prefix key)
shown-some history prefix key w e = elim (cases_Bool (begins_with prefix key && is_live history key)) [
  | inl held ↦ (
      let last : last_version history key ≡ Some w = sym (cond-true (begins_with prefix key && is_live history key) (last_version history key) None held) ∙ e in
      let both : (begins_with prefix key ≡ true) × (is_live history key ≡ true) = and_parts (begins_with prefix key) (is_live history key) held in
      (last, not-true w.deleted (sym (ap is_written last) ∙ both.1), both.0))
  | inr broken ↦ (
      let none : None ≡ Some w = sym (cond-false (begins_with prefix key && is_live history key) (last_version history key) None broken) ∙ e in
      cc)
]

-- a key that is to be shown is shown
pub shown-is : (history : List Transaction) (prefix key : List ℕ) (w : Version) → last_version history key ≡ Some w → w.deleted ≡ false → IsTrue (begins_with prefix key) → shown_of history prefix key ≡ Some w
shown-is history prefix key w last kept begins =
    let live : is_live history key ≡ true = ap is_written last ∙ ap not kept in
    cond-true (begins_with prefix key && is_live history key) (last_version history key) None (and_from (begins_with prefix key) (is_live history key) begins live) ∙ last

-- one more version, of a key that isn't shown
pub scan-more-none : (history : List Transaction) (prefix : List ℕ) (vs shown : List Version) (i : ℕ) (u : Version) → IsScanOf history prefix (take i vs) shown → i < length vs → u ≡ get_or vs i u → shown_of history prefix u.key ≡ None → IsScanOf history prefix (take (i + 1) vs) shown
scan-more-none history prefix vs shown i u s h is none = record {
  rising = s.rising;
  live = s.live;
  begin = s.begin;
  all =
      let P : Version → Type 0 = λ u. (w : Version) → last_version history u.key ≡ Some w → w.deleted ≡ false → IsTrue (begins_with prefix u.key) → IsAmong shown w in
      let here : P u = λ w last kept begins. (let some : shown_of history prefix u.key ≡ Some w = shown-is history prefix u.key w last kept begins in let clash : None ≡ Some w = sym none ∙ some in cc) in
      All-more P vs i u h s.all (subst P is here);
}

-- one more version, of a key that is shown
pub scan-more-some : (history : List Transaction) (prefix : List ℕ) (vs shown after : List Version) (i : ℕ) (u w : Version) → IsScanOf history prefix (take i vs) shown → i < length vs → u ≡ get_or vs i u → shown_of history prefix u.key ≡ Some w → Rising after → All (λ v. (v ≡ w) ⊎ IsAmong shown v) after → All (IsAmong after) shown → (v : Version) × IsAmong after v × (v.key ≡ w.key) → IsScanOf history prefix (take (i + 1) vs) after
scan-more-some history prefix vs shown after i u w s h is some rising only kept there = record {
  rising = rising;
  live = live;
  begin = begin;
  all =
      let P : List Version → Version → Type 0 = λ found u. (w : Version) → last_version history u.key ≡ Some w → w.deleted ≡ false → IsTrue (begins_with prefix u.key) → IsAmong found w in
      All-more (P after) vs i u h (All-weaker (P shown) (P after) (λ u h w last kept' begins. All-among (IsAmong after) shown w kept (h w last kept' begins)) (take i vs) s.all) (subst (P after) is here);
}
  where
    is_shown : (last_version history u.key ≡ Some w) × (w.deleted ≡ false) × IsTrue (begins_with prefix u.key)
    is_shown = shown-some history prefix u.key w some

    same_key : w.key ≡ u.key
    same_key = last-of-key history u.key w is_shown.0

    last : last_version history w.key ≡ Some w
    last = ap (last_version history) same_key ∙ is_shown.0

    live : All (λ v. (last_version history v.key ≡ Some v) × (v.deleted ≡ false)) after
    live = All-weaker (λ (v : Version). (v ≡ w) ⊎ IsAmong shown v) (λ v. (last_version history v.key ≡ Some v) × (v.deleted ≡ false)) (λ v c. elim c [
      | inl e ↦ subst (λ (v : Version). (last_version history v.key ≡ Some v) × (v.deleted ≡ false)) (sym e) (last, is_shown.1)
      | inr m ↦ All-among (λ (v : Version). (last_version history v.key ≡ Some v) × (v.deleted ≡ false)) shown v s.live m
    ]) after only

    begin : All (λ v. IsTrue (begins_with prefix v.key)) after
    begin = All-weaker (λ (v : Version). (v ≡ w) ⊎ IsAmong shown v) (λ v. IsTrue (begins_with prefix v.key)) (λ v c. elim c [
      | inl e ↦ subst (λ (v : Version). IsTrue (begins_with prefix v.key)) (sym e) (subst (λ (k : List ℕ). IsTrue (begins_with prefix k)) (sym same_key) is_shown.2)
      | inr m ↦ All-among (λ (v : Version). IsTrue (begins_with prefix v.key)) shown v s.begin m
    ]) after only

    found : IsAmong after w
    found =
        let v : Version = there.0 in
        let its : (last_version history v.key ≡ Some v) × (v.deleted ≡ false) = All-among (λ (v : Version). (last_version history v.key ≡ Some v) × (v.deleted ≡ false)) after v live there.1 in
        let one : Some v ≡ Some w = sym its.0 ∙ ap (last_version history) there.2 ∙ last in
        let same : v ≡ w = cc in
        subst (λ (v : Version). IsAmong after v) same there.1

    here : (w : Version) → last_version history u.key ≡ Some w → w.deleted ≡ false → IsTrue (begins_with prefix u.key) → IsAmong after w
    here x e kept' begins =
        let one : Some w ≡ Some x = sym is_shown.0 ∙ e in
        let same : w ≡ x = cc in
        subst (λ (v : Version). IsAmong after v) same found

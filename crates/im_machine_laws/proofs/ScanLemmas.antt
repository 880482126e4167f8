-- There is a scan of each prefix.
use Rattle.std.proofs.Common.{◌≡◌, ◌≤◌, ◌<◌, ◌+◌, ◌∷◌, [], ℕ, zero, suc, List, length, take, get_or, refl, sym, subst, arith, inl, inr, ◌⊎◌, false, Option, Some, None}
use Rattle.std.proofs.lemmas.Bool.{cases_lt}
use Rattle.std.proofs.lemmas.List.{get_or_default, take_all}
use Rattle.std.proofs.lemmas.List.Elements.{All-weaker}
use Rattle.std.specs.Cmp.Lexicographic.{slice_cmp}
use Rattle.std.specs.List.{insert, IsAmong}
use Rattle.std.specs.Ordering.{nat_cmp}
use Rattle.std.specs.declared.cmp.Ordering.{Ordering}
use Rattle.std.specs.declared.cmp.Ordering.TheVariants.{Equal, Greater, Less}
use Rattle.im_model.specs.declared.transactions.Transaction.{Transaction}
use Rattle.im_versions.specs.Versions.{all_versions, IsBelow, IsScan}
use Rattle.im_versions.specs.declared.versions.Version.{Version}
use Rattle.im_versions.proofs.ListLemmas.{among-first, among-itself, among-rest}
use Rattle.im_versions.proofs.ScanLemmas.{below-turned, put-kept, put-only, put-rising, same-key, scan-all, scan-more-none, scan-more-some, shown_of, IsScanOf}

-- the place of a key among versions with rising keys: behind those that are below it
record IsPlace (key : List ℕ) (shown : List Version) (place : ℕ) : Type 0 where
  pub within : place ≤ length shown
  pub below : (k : ℕ) (d : Version) → k < place → IsBelow (get_or shown k d).key key
  pub next : (d : Version) → place < length shown → IsBelow key (get_or shown place d).key ⊎ (key ≡ (get_or shown place d).key)

place-here : (key : List ℕ) (v : Version) (vs : List Version) → IsBelow key v.key ⊎ (key ≡ v.key) → IsPlace key (v ∷ vs) 0
place-here key v vs is = record { within = omega arith; below = λ k d less. absurd (omega (arith, less)); next = λ d less. is }

place-behind : (key : List ℕ) (v : Version) (vs : List Version) (place : ℕ) → IsBelow v.key key → IsPlace key vs place → IsPlace key (v ∷ vs) (suc place)
place-behind key v vs place first p = record {
  within = omega (arith, p.within);
  below = below;
  next = λ d less. p.next d (omega (arith, less));
}
  where
    below : (k : ℕ) (d : Version) → k < suc place → IsBelow (get_or (v ∷ vs) k d).key key
    below zero d less = first
    below (suc k) d less = p.below k d (omega (arith, less))

place-of : (key : List ℕ) (shown : List Version) → (place : ℕ) × IsPlace key shown place
place-of key [] = (0, record { within = omega arith; below = λ k d less. absurd (omega (arith, less)); next = λ d less. absurd (omega (arith, less)) })
place-of key (v ∷ vs) = go (place-of key vs) (slice_cmp nat_cmp v.key key) refl
  where
    go : ((place : ℕ) × IsPlace key vs place) → (o : Ordering) → slice_cmp nat_cmp v.key key ≡ o → (place : ℕ) × IsPlace key (v ∷ vs) place
    go rest Less is = (suc rest.0, place-behind key v vs rest.0 is rest.1)
    go rest Equal is = (0, place-here key v vs (inr (sym (same-key v.key key (sym is)))))
    go rest Greater is = (0, place-here key v vs (inl (below-turned v.key key (sym is))))

-- what is put at a place is there
inserted : (xs : List Version) (i : ℕ) (x : Version) → i ≤ length xs → IsAmong (insert xs i x) x
inserted xs zero x within = among-first x xs
inserted [] (suc i) x within = absurd (omega (arith, within))
inserted (y ∷ ys) (suc i) x within = among-rest y (insert ys i x) x (inserted ys i x (omega (arith, within)))

module _ (history : List Transaction) (prefix : List ℕ) where
  abbrev vs : List Version
  vs = all_versions history

  abbrev Scanned : ℕ → Type 0
  Scanned n = (shown : List Version) × IsScanOf history prefix (take n vs) shown

  -- a version of a key that is shown, at the key's place
  put-there : (n : ℕ) (shown : List Version) (u w : Version) → IsScanOf history prefix (take n vs) shown → n < length vs → u ≡ get_or vs n u → shown_of history prefix u.key ≡ Some w
      → (place : ℕ) → IsPlace w.key shown place → Scanned (n + 1)
  put-there n shown u w s less is some place p = elim (cases_lt place (length shown)) [
    | inl there ↦ (
        let held : Version = get_or shown place w in
        elim (p.next w there) [
          | inl below ↦ (
            insert shown place w,
            scan-more-some history prefix vs shown (insert shown place w) n u w s less is some
                (put-rising shown shown place w w.key refl refl p.within s.rising p.below (λ d h. subst (λ (x : Version). IsBelow w.key x.key) (get_or_default shown place w d there) below))
                (put-only shown place w) (put-kept shown place w) (w, inserted shown place w p.within, refl),
          )
          | inr same ↦ (
            shown,
            scan-more-some history prefix vs shown shown n u w s less is some s.rising
                (All-weaker (IsAmong shown) (λ v. (v ≡ w) ⊎ IsAmong shown v) (λ v m. inr m) shown (among-itself shown)) (among-itself shown)
                (held, among-itself shown place w there, sym same),
          )
        ])
    | inr past ↦ (
      insert shown place w,
      scan-more-some history prefix vs shown (insert shown place w) n u w s less is some
          (put-rising shown shown place w w.key refl refl p.within s.rising p.below (λ d h. absurd (omega (arith, past, h))))
          (put-only shown place w) (put-kept shown place w) (w, inserted shown place w p.within, refl),
    )
  ]

  one-more-scanned : (n : ℕ) (u : Version) → Scanned n → n < length vs → u ≡ get_or vs n u → (o : Option Version) → shown_of history prefix u.key ≡ o → Scanned (n + 1)
  one-more-scanned n u s less is None none = (s.0, scan-more-none history prefix vs s.0 n u s.1 less is none)
  one-more-scanned n u s less is (Some w) some =
      let p : (place : ℕ) × IsPlace w.key s.0 place = place-of w.key s.0 in
      put-there n s.0 u w s.1 less is some p.0 p.1

  scanned : (n : ℕ) → n ≤ length vs → Scanned n
  scanned zero within = ([], record { rising = λ i j d less inside. absurd (omega (arith, inside)); live = λ i d less. absurd (omega (arith, less)); begin = λ i d less. absurd (omega (arith, less)); all = λ i d less. absurd (omega (arith, less)) })
  scanned (suc n) within =
      let before : Scanned n = scanned n (omega (arith, within)) in
      let less : n < length vs = omega (arith, within) in
      let u : Version = get_or vs n (record { tx = 0; deleted = false; key = []; value = [] }) in
      let is : u ≡ get_or vs n u = get_or_default vs n _ u less in
      let next : n + 1 ≡ suc n = omega arith in
      subst Scanned next (one-more-scanned n u before less is (shown_of history prefix u.key) refl)

  pub scan-there : (shown : List Version) × IsScan history prefix shown
  scan-there =
      let s : Scanned (length vs) = scanned (length vs) (omega arith) in
      (s.0, scan-all history prefix s.0 (subst (λ (seen : List Version). IsScanOf history prefix seen s.0) (take_all (length vs) vs (omega arith)) s.1))

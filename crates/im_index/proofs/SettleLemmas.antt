-- A new run behind others, merged with the last of them while these are short.
use Rattle.std.proofs.Common.{◌≡◌, ◌<◌, ◌≤◌, ◌+◌, ◌/◌, ℕ, zero, suc, Bool, true, false, List, [], ◌∷◌, ◌++◌, length, nat_eq, refl, arith, ap, sym, subst, ◌∙◌, inl, inr, length-append}
use Rattle.std.proofs.lemmas.Bool.{both_ways, cases_lt, eq-eqb, eqb-true}
use Rattle.std.proofs.lemmas.List.{nil_from_length}
use Rattle.im_versions.specs.declared.versions.Version.{Version}
use Rattle.im_index.specs.Runs.{AreHalving, HoldInOrder, IsRunOf, lengths, settled, taken_in}
use Rattle.im_index.proofs.HalvingLemmas.{halving-front, halving-one, halving-push, lengths-push, settled-here, settled-on}
use Rattle.im_index.proofs.HoldLemmas.{hold-joined, run-length}

-- what the runs and the new one have become so far
pub record IsSettling (runs older : List (List Version)) (newest last : List Version) : Type 0 where
  pub holds : (versions : List Version) → HoldInOrder (runs ++ newest ∷ []) versions → HoldInOrder (older ++ last ∷ []) versions
  pub halving : AreHalving runs → AreHalving older
  pub some : 0 < length newest → 0 < length last
  pub counts : settled (length newest) (lengths runs) ≡ settled (length last) (lengths older)

-- and where no more are merged
pub record IsSettled (runs : List (List Version)) (newest : List Version) (next : List (List Version)) : Type 0 where
  pub holds : (versions : List Version) → HoldInOrder (runs ++ newest ∷ []) versions → HoldInOrder next versions
  pub halving : AreHalving runs → 0 < length newest → AreHalving next
  pub counts : lengths next ≡ settled (length newest) (lengths runs)

pub settling-first : (runs : List (List Version)) (newest : List Version) → IsSettling runs runs newest newest
settling-first runs newest = record { holds = λ versions h. h; halving = λ h. h; some = λ h. h; counts = refl }

-- one more is merged
pub settling-next : (runs older before : List (List Version)) (newest last run next : List Version) → IsSettling runs older newest last
    → older ≡ before ++ run ∷ [] → length run / 2 < length last → IsRunOf next (run ++ last) → IsSettling runs before newest next
settling-next runs older before newest last run next so split short is =
    let long : length next ≡ length run + length last = run-length next (run ++ last) is ∙ length-append run last in
    record {
      holds = λ versions h. hold-joined before run last next versions
          (subst (λ (rs : List (List Version)). HoldInOrder (rs ++ last ∷ []) versions) split (so.holds versions h)) is;
      halving = λ h. halving-front before (run ∷ []) (subst AreHalving split (so.halving h));
      some = λ h. (let most : 0 < length last = so.some h in omega arith);
      counts = so.counts
          ∙ ap (λ rs. settled (length last) (lengths rs)) split
          ∙ ap (settled (length last)) (lengths-push before run)
          ∙ settled-on (length last) (length run) (lengths before) (omega arith)
          ∙ ap (λ n. settled n (lengths before)) (sym long);
    }

-- the last one is long enough
pub settling-stop : (runs older before : List (List Version)) (newest last run : List Version) → IsSettling runs older newest last
    → older ≡ before ++ run ∷ [] → length last ≤ length run / 2 → IsSettled runs newest (older ++ last ∷ [])
settling-stop runs older before newest last run so split long = record {
  holds = so.holds;
  halving = λ h some. subst (λ (rs : List (List Version)). AreHalving (rs ++ last ∷ [])) (sym split)
      (halving-push before run last (subst AreHalving split (so.halving h)) (so.some some) (omega arith));
  counts = lengths-push older last
      ∙ ap (λ ms. length last ∷ ms) (ap lengths split ∙ lengths-push before run)
      ∙ sym (settled-here (length last) (length run) (lengths before) (omega arith))
      ∙ ap (settled (length last)) (sym (ap lengths split ∙ lengths-push before run))
      ∙ sym so.counts;
}

-- there is none before it
pub settling-end : (runs older : List (List Version)) (newest last : List Version) → IsSettling runs older newest last
    → length older ≡ 0 → IsSettled runs newest (older ++ last ∷ [])
settling-end runs older newest last so none =
    let nothing : older ≡ [] = nil_from_length older none in
    record {
      holds = so.holds;
      halving = λ h some. subst (λ (rs : List (List Version)). AreHalving (rs ++ last ∷ [])) (sym nothing) (halving-one last (so.some some));
      counts = ap (λ rs. lengths (rs ++ last ∷ [])) nothing
          ∙ ap (λ rs. settled (length last) (lengths rs)) (sym nothing)
          ∙ sym so.counts;
    }

-- a transaction of some versions is taken as a run of them
pub taken-some : (n : ℕ) (ms : List ℕ) → 0 < n → taken_in n ms ≡ settled n ms
taken-some zero ms some = absurd (omega arith)
taken-some (suc n) ms some = refl

-- a list that isn't empty by a test of its length
pub some-items : {X : Type 0} (xs : List X) (n : ℕ) (b : Bool) → b ≡ nat_eq n 0 → b ≡ false → n ≡ length xs → 0 < length xs
some-items xs n b test other long = elim (cases_lt 0 (length xs)) [
  | inl some ↦ some
  | inr none ↦ absurd (both_ways (nat_eq n 0) (sym test ∙ other) (eq-eqb n 0 (omega arith)))
]

-- and one that is
pub no-items : {X : Type 0} (xs : List X) (n : ℕ) (b : Bool) → b ≡ nat_eq n 0 → b ≡ true → n ≡ length xs → xs ≡ []
no-items xs n b test zeros long =
    let none : n ≡ 0 = eqb-true n 0 (sym test ∙ zeros) in
    nil_from_length xs (omega arith)

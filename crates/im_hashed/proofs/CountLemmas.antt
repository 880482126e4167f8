-- The lists of a dual proof that passes its checks are as long as these ask for.
use Rattle.std.proofs.Common.{◌≡◌, ◌<◌, ◌≤◌, ◌+◌, ◌-◌, ◌^◌, ℕ, List, ◌++◌, Bool, Ok, length, if◌then◌else◌, arith, ap, ◌∙◌, inl, inr}
use Rattle.std.proofs.lemmas.Bool.{cases_lt, eqb-true, lt-ltb, le-ltb, lt-leb, le-leb}
use Rattle.im_digest.specs.Digests.{Hash}
use Rattle.im_model.specs.Headers.{alh}
use Rattle.im_mtree.specs.Checks.{first_fail}
use Rattle.im_mtree.proofs.CheckLemmas.{all-hold, each-holds}
use Rattle.im_proof.specs.ChainChecks.{linear_checks, advance_terms, advance_paths, advance_checks}
use Rattle.im_proof.specs.Duals.{both_headers_checks, tree_checks, chain_checks, dual_checks}
use Rattle.im_proof.specs.declared.proofs.DualProof.{DualProof}
use Rattle.im_proof.specs.declared.faults.DualFault.{DualFault}
use Rattle.im_carried.proofs.HeldLemmas.{both-shown}
use Rattle.im_carried.proofs.PassLemmas.{far-hold, near-hold}
use Rattle.im_hashed.specs.Added.{terms_start, HasCountedLists}

-- linear terms
linear-long : (hash : Hash) (from to : ℕ) (a b : List ℕ) (terms : List (List ℕ)) → from ≤ to → first_fail (linear_checks hash from to a b terms) ≡ Ok tt → from + length terms ≡ to + 1
linear-long hash from to a b terms order e =
    let held = all-hold {F = DualFault} (linear_checks hash from to a b terms) e in
    let long : length terms ≡ to - from + 1 = eqb-true (length terms) (to - from + 1) held.0 in
    omega arith

-- an advance
record AdvanceLong (a e : ℕ) (terms : List (List ℕ)) (paths : List (List (List ℕ))) : Type 0 where
  some : length terms ≡ advance_terms a e
  others : length paths ≡ advance_paths a e

advance-long : (hash : Hash) (a e size : ℕ) (root end : List ℕ) (terms : List (List ℕ)) (paths : List (List (List ℕ))) → first_fail (advance_checks hash a e size root end terms paths) ≡ Ok tt → AdvanceLong a e terms paths
advance-long hash a e size root end terms paths h =
    let held = all-hold {F = DualFault} (advance_checks hash a e size root end terms paths) h in
    record { some = eqb-true (length terms) (advance_terms a e) held.0; others = eqb-true (length paths) (advance_paths a e) held.1.0 }

fewer-paths : (a e : ℕ) (terms : List (List ℕ)) (paths : List (List (List ℕ))) → AdvanceLong a e terms paths → length paths ≡ length terms - 1
fewer-paths a e terms paths l = elim (cases_lt (a + 1) e) [
  | inl more ↦ (
      let n : length terms ≡ e - a = l.some ∙ ap (λ (t : Bool). if t then 0 else e - a) (lt-leb e (a + 1) more) in
      let m : length paths ≡ e - a - 1 = l.others ∙ ap (λ (t : Bool). if t then 0 else e - a - 1) (lt-leb e (a + 1) more) in
      omega arith)
  | inr few ↦ (
      let n : length terms ≡ 0 = l.some ∙ ap (λ (t : Bool). if t then 0 else e - a) (le-leb e (a + 1) few) in
      let m : length paths ≡ 0 = l.others ∙ ap (λ (t : Bool). if t then 0 else e - a - 1) (le-leb e (a + 1) few) in
      omega arith)
]

number-fits : (a e bound : ℕ) (terms : List (List ℕ)) (paths : List (List (List ℕ))) → AdvanceLong a e terms paths → a < bound → e < bound → a + length terms < bound
number-fits a e bound terms paths l fits fits2 = elim (cases_lt (a + 1) e) [
  | inl more ↦ (
      let n : length terms ≡ e - a = l.some ∙ ap (λ (t : Bool). if t then 0 else e - a) (lt-leb e (a + 1) more) in
      omega arith)
  | inr few ↦ (
      let n : length terms ≡ 0 = l.some ∙ ap (λ (t : Bool). if t then 0 else e - a) (le-leb e (a + 1) few) in
      omega arith)
]

-- of both
counted-by : (p : DualProof) (end : ℕ) → terms_start p.source.id p.target.bl_tx_id + length p.linear ≡ p.target.id + 1
    → AdvanceLong p.source.bl_tx_id end p.linear_advance.terms p.linear_advance.inclusions → p.source.bl_tx_id < 2 ^ 64 → end < 2 ^ 64 → p.target.id < 2 ^ 64 → HasCountedLists p
counted-by p end long l fits fits2 fits3 = record {
  linear = omega (arith, long, fits3);
  terms = number-fits p.source.bl_tx_id end (2 ^ 64) p.linear_advance.terms p.linear_advance.inclusions l fits fits2;
  paths = fewer-paths p.source.bl_tx_id end p.linear_advance.terms p.linear_advance.inclusions l;
}

-- of a dual proof whose checks all hold
pub counted : (hash : Hash) (p : DualProof) → p.target.id < 2 ^ 64 → first_fail (dual_checks hash p) ≡ Ok tt → HasCountedLists p
counted hash p fits e =
    let a : List ℕ = alh hash p.source in
    let b : List ℕ = alh hash p.target in
    let headers = each-holds {F = DualFault} (both_headers_checks p.source p.target) (tree_checks hash p a ++ chain_checks hash p a b) e in
    let rest = each-holds {F = DualFault} (tree_checks hash p a) (chain_checks hash p a b) headers.1 in
    let both = both-shown p.source p.target headers.0 in
    let ends : p.target.bl_tx_id < p.target.id = both.target_tree in
    let order : p.source.id ≤ p.target.id = both.order in
    let shrink : p.source.bl_tx_id ≤ p.target.bl_tx_id = both.shrink in
    elim (cases_lt p.source.id p.target.bl_tx_id) [
      | inl far ↦ (
          let held = far-hold hash p a b far rest.1 in
          let start : terms_start p.source.id p.target.bl_tx_id ≡ p.target.bl_tx_id = ap (λ (t : Bool). if t then p.target.bl_tx_id else p.source.id) (lt-ltb p.source.id p.target.bl_tx_id far) in
          let long : p.target.bl_tx_id + length p.linear ≡ p.target.id + 1 = linear-long hash p.target.bl_tx_id p.target.id p.target_bl_tx_alh b p.linear (omega arith) held.0 in
          counted-by p p.source.id (ap (λ (n : ℕ). n + length p.linear) start ∙ long)
          (advance-long hash p.source.bl_tx_id p.source.id p.target.bl_tx_id p.target.bl_root a p.linear_advance.terms p.linear_advance.inclusions held.1) (omega arith) (omega arith) fits)
      | inr near ↦ (
          let held = near-hold hash p a b near rest.1 in
          let start : terms_start p.source.id p.target.bl_tx_id ≡ p.source.id = ap (λ (t : Bool). if t then p.target.bl_tx_id else p.source.id) (le-ltb p.source.id p.target.bl_tx_id near) in
          let long : p.source.id + length p.linear ≡ p.target.id + 1 = linear-long hash p.source.id p.target.id a b p.linear order held.0 in
          counted-by p p.target.bl_tx_id (ap (λ (n : ℕ). n + length p.linear) start ∙ long)
          (advance-long hash p.source.bl_tx_id p.target.bl_tx_id p.target.bl_tx_id p.target.bl_root p.target_bl_tx_alh p.linear_advance.terms p.linear_advance.inclusions held.1) (omega arith) (omega arith) fits)
    ]

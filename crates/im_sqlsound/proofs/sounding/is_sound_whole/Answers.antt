use Rattle.std.proofs.Common.{◌≡◌, ◌<◌, ◌+◌, ◌-◌, ◌↔◌, ℕ, true, [], ◌∷◌, length, take, sym, subst, arith}
use Rattle.im_versions.specs.Versions.{IsScan}
use Rattle.im_sqlmodel.specs.Kept.{IsSqlSound}
use Rattle.im_sqlsound.specs.Sounding.{AreByNumber}
use Rattle.im_sqlsound.proofs.sounding.is_sound_whole.Goals as goal

pub returns : goal.returns
returns g c = λ history stands some few sound by.
    let tx : ℕ = c.args.tx in
    let e : (tx - 1) + 1 ≡ tx = omega (arith, some) in
    let less : tx - 1 < length history = omega (arith, some, few) in
    let old = subst (IsScan (take (tx - 1) history) (0 ∷ [])) (sym c.as_slice.ensures) (c.in_ok-before.ensures history stands (omega (arith, less))) in
    let next = subst (IsScan (take ((tx - 1) + 1) history) (0 ∷ [])) (sym c.as_slice-2.ensures)
    (subst (λ (t : ℕ). IsScan (take t history) (0 ∷ []) c.in_ok-shown.shown) (sym e) (c.in_ok-shown.ensures history stands few)) in
    let judged = c.in_ok-sound.ensures history (tx - 1) less sound old next (subst (λ (t : ℕ). AreByNumber (take t history) c.args.changes.now) (sym e) by) in
    subst (λ (t : ℕ). (c.in_ok-sound.sound ≡ true) ↔ IsSqlSound (take t history)) e judged

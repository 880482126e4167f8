use Rattle.std.proofs.Common.{◌∙◌, List, ℕ, refl, sym, ap, subst}
use Rattle.std.proofs.lemmas.Bool.{false≢true}
use Rattle.im_core.specs.Cores.{MayCrash}
use Rattle.im_core.specs.declared.cores.Core.TheVariants as core
use Rattle.im_core.proofs.OpenLemmas.{crash-done, crash-no}
use Rattle.im_core.proofs.crashing.crash.Goals as goal

pub returns-then-not-may_crash : goal.returns-then-not-may_crash
returns-then-not-may_crash c hash m is =
    crash-no hash c.args.core.now m c.args.image.now is
    (λ may. false≢true (c.if-not-may_crash.ensures.1 (subst (λ (l : List (List ℕ)). MayCrash c.args.core.now l) (sym c.as_slice.ensures) may)))

pub returns : goal.returns
returns c hash m is =
    crash-done hash c.args.core.now c.replace-before.new.dest m c.args.image.now is
    (subst (λ (l : List (List ℕ)). MayCrash c.args.core.now l) c.as_slice.ensures (c.if-not-may_crash.ensures.0 refl))
    (c.replace-before.ensures.after ∙ ap (λ (l : List (List ℕ)). core.Down l) c.in_ok-image.ensures)

use Rattle.std.proofs.Common.{◌≡◌, drop}
use Rattle.im_versions.specs.Admits.{first_refusal}
use Rattle.im_plain.proofs.versions.first_refusal.Given as goal

abbrev pub invariant-loop-pre : goal.invariant-loop-pre
invariant-loop-pre l = first_refusal l.history (drop l.pre-index l.pres) ≡ first_refusal l.history l.pres

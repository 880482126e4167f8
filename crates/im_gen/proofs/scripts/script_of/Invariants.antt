use Rattle.std.proofs.Common.{◌≡◌}
use Rattle.im_gen.specs.Generator.{script_text, generator_after}
use Rattle.im_gen.proofs.scripts.script_of.Given as goal

abbrev pub invariant-loop-i : goal.invariant-loop-i
invariant-loop-i l = record {
  text : l.text.items ≡ script_text l.i;
  state : l.state ≡ generator_after l.i;
}

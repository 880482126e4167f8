use Rattle.std.proofs.Common.{◌≡◌, take}
use Rattle.im_facts.specs.Facts.{Known}
use Rattle.im_facts.specs.Keeping.{IsLed, Knows}
use Rattle.im_verify.specs.Turns.{TakesKept}
use Rattle.im_verify.proofs.kept.take_kept.Given as goal

abbrev pub invariant-loop-i : goal.invariant-loop-i
invariant-loop-i g l = record {
  takes : (known : Known) × Knows l.client.kept known × TakesKept (g.H.Hash32.digest l.hash) (take l.i l.lines) known;
  led : IsLed (g.H.Hash32.digest l.client.hash) l.client.kept;
  hash : l.client.hash ≡ l.hash;
}

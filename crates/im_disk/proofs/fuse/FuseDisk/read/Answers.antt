use Rattle.std.proofs.Common.{◌≡◌, ◌+◌, ◌≤◌, List, ℕ, length, take, drop, subst, sym}
use Rattle.std.specs.Prelude.{OnOk, IfSome}
use Rattle.std.proofs.lemmas.Result.{on_ok_weaker}
use Rattle.im_disk.specs.Disk.{LiesWithin, seen}
use Rattle.im_disk.specs.Fused.{told_through}
use Rattle.im_disk.proofs.Burning.{seen_through, seen_within}
use Rattle.im_disk.proofs.fuse.FuseDisk.read.Goals as goal

pub read-requires-clause-within : goal.read-requires-clause-within
read-requires-clause-within g c =
    seen_within (λ (octets : List ℕ). c.args.at + length c.args.buffer.now ≤ length octets) c.self.inside.failed.items _ c.args.file c.self.invariant.failures
    (subst (λ v. LiesWithin (told_through g.D.Disk.told v) c.args.file c.args.at (length c.args.buffer.now)) (sym c.self.view_is) c.requires.within)

pub returns-clause-octets : goal.returns-clause-octets
returns-clause-octets g c =
    subst (λ v. OnOk c.read.result (IfSome (told_through g.D.Disk.told v) (λ t. c.read.new.buffer ≡ take (length c.args.buffer.now) (drop c.args.at (seen t c.args.file))))) c.self.view_is
    (on_ok_weaker c.read.result (seen_through (λ (octets : List ℕ). c.read.new.buffer ≡ take (length c.args.buffer.now) (drop c.args.at octets)) c.self.inside.failed.items _ c.args.file c.self.invariant.failures) c.read.ensures.octets)

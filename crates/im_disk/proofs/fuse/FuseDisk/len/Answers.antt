use Rattle.std.proofs.Common.{◌≡◌, List, ℕ, length, subst}
use Rattle.std.specs.Prelude.{IfOk, IfSome}
use Rattle.std.proofs.lemmas.Result.{IfOk-weaker}
use Rattle.im_disk.specs.Disk.{seen}
use Rattle.im_disk.specs.Fused.{told_through}
use Rattle.im_disk.proofs.Burning.{seen_through}
use Rattle.im_disk.proofs.fuse.FuseDisk.len.Goals as goal

pub returns-clause-length : goal.returns-clause-length
returns-clause-length g c =
    subst (λ v. IfOk c.len.result (λ n. IfSome (told_through g.D.Disk.told v) (λ t. n ≡ length (seen t c.args.file)))) c.self.view_is
    (IfOk-weaker c.len.result _ _ (λ n. seen_through (λ (octets : List ℕ). n ≡ length octets) c.self.inside.failed.items _ c.args.file c.self.invariant.failures) c.len.ensures.length)

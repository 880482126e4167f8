use Rattle.std.proofs.Common.{ℕ, List, ap}
use Rattle.std.specs.Borrow.{Bor}
use Rattle.im_app.proofs.GeneratedLemmas.{empty-disk, reported-from}
use Rattle.im_app.proofs.generate.reported.Goals as goal

pub returns : goal.returns
returns g c =
    reported-from (g.H.Hash32.digest c.args.hash.now) c.args.script.now _ _ _ _ _ _ _ _ _ (ap (λ (b : Bor (List ℕ)). b.now) c.new-source.ensures.inner)
    (rw c.new-sink.ensures.inner c.new-3.ensures.items) (empty-disk _ _ c.in_ok-empty.ensures) (c.run-status.ensures.report (c.is_ok.ensures.0 c.if-not-is_ok.false))

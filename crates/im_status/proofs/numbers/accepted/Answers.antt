use Rattle.std.proofs.Common.{◌∙◌, ℕ, List, ap}
use Rattle.std.specs.Borrow.{Bor}
use Rattle.im_status.proofs.NumberLemmas.{accepted-of}
use Rattle.im_status.proofs.numbers.accepted.Goals as goal

pub returns-in-Ok : goal.returns-in-Ok
returns-in-Ok g c =
    accepted-of (g.H.Hash32.digest c.args.hash.now) c.args.report.now _ _ _ _ _ _ _ (ap (λ (b : Bor (List ℕ)). b.now) c.new-source.ensures.inner) c.new-keeper.ensures
    c.in-Ok.ensures.lines (c.len.ensures ∙ c.in-Ok.lines.ok.0) (c.verdict-status.ensures.accepted (c.is_ok.ensures.0 c.if-not-is_ok.false))

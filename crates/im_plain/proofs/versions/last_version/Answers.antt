use Rattle.std.proofs.Common.{◌≡◌, length, arith, sym, ap, ◌∙◌}
use Rattle.im_versions.specs.Versions.{versions_of}
use Rattle.im_plain.proofs.ReadingLemmas.{last_popped}
use Rattle.im_plain.proofs.versions.last_version.Goals as goal

pub returns : goal.returns
returns c =
    let all : c.into_vec-versions.result.items ≡ versions_of c.args.history.now c.args.key.now = c.into_vec-versions.ensures ∙ c.in_ok-versions_of.ensures in
    sym (last_popped (versions_of c.args.history.now c.args.key.now) c.pop.new.self.items c.pop.result
    (sym all ∙ c.pop.ensures.items)
    (λ h. c.pop.ensures.variant.1 (omega (arith, ap length all))))

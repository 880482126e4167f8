use Rattle.std.proofs.Common.{refl}
use Rattle.im_core.proofs.foretold.foretell.Goals as goal

pub returns-then-fails : goal.returns-then-fails
returns-then-fails c =
    let kept = c.fail_next.ensures.kept in
    record {
      disk = c.fail_next.ensures.told;
      parts = λ i. record { disk = c.fail_next.new.self.disk; ends = kept.0 i; durable = kept.1 i; batch = kept.2 i; failures = kept.3 i };
    }

pub returns : goal.returns
returns c = record { disk = refl; parts = refl }

use Rattle.im_verify.proofs.KeepLemmas.{read_is}
use Rattle.im_verify.proofs.verify.verify_octets.Goals as goal

pub verify_behind-requires : goal.verify_behind-requires
verify_behind-requires g c =
    read_is (g.P.Keeper.kept c.args.keeper.now) (g.P.Keeper.kept c.lines.new.self) c.in-Ok.lines.items c.as_slice.result.now c.lines.ensures.kept c.as_slice.ensures.value c.in-Ok.ensures.lines

pub returns-in-Ok-clause-ok : goal.returns-in-Ok-clause-ok
returns-in-Ok-clause-ok g c = rw c.lines.ensures.kept at c.verify_behind.ensures.ok

pub returns-in-Ok-clause-into : goal.returns-in-Ok-clause-into
returns-in-Ok-clause-into g c = rw c.lines.ensures.kept at c.verify_behind.ensures.into

pub returns-in-Ok-clause-off : goal.returns-in-Ok-clause-off
returns-in-Ok-clause-off g c = rw c.lines.ensures.kept at c.verify_behind.ensures.off

pub returns-in-Ok-clause-fault : goal.returns-in-Ok-clause-fault
returns-in-Ok-clause-fault g c = rw c.lines.ensures.kept at c.verify_behind.ensures.fault

pub returns-in-Ok-clause-kept : goal.returns-in-Ok-clause-kept
returns-in-Ok-clause-kept g c = rw c.lines.ensures.kept at c.verify_behind.ensures.kept

pub returns-in-Ok-clause-nothing : goal.returns-in-Ok-clause-nothing
returns-in-Ok-clause-nothing g c = rw c.lines.ensures.kept at c.verify_behind.ensures.nothing

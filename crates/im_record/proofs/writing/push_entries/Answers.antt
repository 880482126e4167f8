use Rattle.std.proofs.Common.{arith, refl}
use Rattle.im_record.proofs.PartLemmas.{part_reached}
use Rattle.im_record.proofs.writing.push_entries.Goals as goal

pub returns-in_err-push_entry-clause-part : goal.returns-in_err-push_entry-clause-part
returns-in_err-push_entry-clause-part c =
    let before = c.loop-i.invariant.grown in
    let more = c.in_err-push_entry.ensures.part in
    part_reached c.from_residual.result c.args.out.now.items c.loop-i.out.items c.push_entry.new.out.items before.0 c.args.entries.now c.args.refs.now c.loop-i.i more.0
    c.index-entries-i.result _ _ c.loop-i-test.true (omega (arith, c.loop-i-test.true, c.requires)) c.index-entries-i.is refl before.1 c.loop-i.invariant.same more.1

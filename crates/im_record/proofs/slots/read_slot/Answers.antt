use Rattle.std.proofs.Common.{length, Err}
use Rattle.im_record.proofs.SlotLemmas.{slot_finds}
use Rattle.im_record.proofs.slots.read_slot.Goals as goal

pub returns-in-Err-clause-first : goal.returns-in-Err-clause-first
returns-in-Err-clause-first c =
    slot_finds c.args.log.now c.args.logs.now c.args.id c.args.keys.now c.args.at (length c.in_ok-md.md.now)
    (length c.in_ok-key.key.now) (Err c.in-Err.damage) c.in_ok-md.ensures.size c.in_ok-key.ensures.size
    c.in_ok-md.ensures.first c.in_ok-key.ensures.first c.in-Err.ensures.first

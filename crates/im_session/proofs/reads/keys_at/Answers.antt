use Rattle.im_session.proofs.ReadLemmas.{gains_thrice, later_thrice}
use Rattle.im_store.proofs.GainLemmas.{gains_before}
use Rattle.im_table.proofs.PassLemmas.{later_both}
use Rattle.im_session.proofs.reads.keys_at.Goals as goal

pub returns-in-Ok-clause-keys : goal.returns-in-Ok-clause-keys
returns-in-Ok-clause-keys g c =
    let keys = c.in-Ok.ensures.ok in
    record { seen = keys.seen; shows = keys.shows }

-- too few were indexed
pub returns-in_err-index-clause-later : goal.returns-in_err-index-clause-later
returns-in_err-index-clause-later g c = later_both c.args.pass.now c.snapshot.new.pass c.index.new.pass c.snapshot.ensures.later c.index.ensures.later

pub returns-in_err-index-clause-gains : goal.returns-in_err-index-clause-gains
returns-in_err-index-clause-gains g c = gains_before 0 0 c.args.pass.now c.snapshot.new.pass c.index.new.pass c.snapshot.ensures.gains c.index.ensures.gains

pub returns-in-Ok-snapshot-clause-later : goal.returns-in-Ok-snapshot-clause-later
returns-in-Ok-snapshot-clause-later g c =
    later_thrice c.args.pass.now c.snapshot.new.pass c.index.new.pass c.snapshot-2.new.pass c.snapshot.ensures.later c.index.ensures.later c.snapshot-2.ensures.later

pub returns-in-Ok-snapshot-clause-gains : goal.returns-in-Ok-snapshot-clause-gains
returns-in-Ok-snapshot-clause-gains g c =
    gains_thrice c.args.pass.now c.snapshot.new.pass c.index.new.pass c.snapshot-2.new.pass c.snapshot.ensures.gains c.index.ensures.gains c.snapshot-2.ensures.gains

pub returns-in-Err-Memory-snapshot-clause-later : goal.returns-in-Err-Memory-snapshot-clause-later
returns-in-Err-Memory-snapshot-clause-later g c =
    later_thrice c.args.pass.now c.snapshot.new.pass c.index.new.pass c.snapshot-2.new.pass c.snapshot.ensures.later c.index.ensures.later c.snapshot-2.ensures.later

pub returns-in-Err-Memory-snapshot-clause-gains : goal.returns-in-Err-Memory-snapshot-clause-gains
returns-in-Err-Memory-snapshot-clause-gains g c =
    gains_thrice c.args.pass.now c.snapshot.new.pass c.index.new.pass c.snapshot-2.new.pass c.snapshot.ensures.gains c.index.ensures.gains c.snapshot-2.ensures.gains

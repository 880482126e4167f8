use Rattle.std.proofs.Common.{arith, ◌<◌, ◌^◌}
use Rattle.im_journal.proofs.pieces.push_pieces.Goals as goal

pub push_value_piece-requires-clause-place : goal.push_value_piece-requires-clause-place
push_value_piece-requires-clause-place c = c.requires.room 2

pub push_value_piece-requires-2-clause-place : goal.push_value_piece-requires-2-clause-place
push_value_piece-requires-2-clause-place c = c.requires.room 3

pub push_value_piece-requires-3-clause-place : goal.push_value_piece-requires-3-clause-place
push_value_piece-requires-3-clause-place c = c.requires.room 4

pub push_value_piece-requires-4-clause-place : goal.push_value_piece-requires-4-clause-place
push_value_piece-requires-4-clause-place c = c.requires.room 5

pub push_log_pieces-requires-clause-log : goal.push_log_pieces-requires-clause-log
push_log_pieces-requires-clause-log c = c.requires.room 0

pub push_log_pieces-requires-clause-gate : goal.push_log_pieces-requires-clause-gate
push_log_pieces-requires-clause-gate c = c.requires.room 1

pub overflow_add-result : goal.overflow_add-result
overflow_add-result c =
    let room : c.args.ends.now.commits < 2 ^ 61 = c.requires.room 1 in
    omega (arith, room)

use Rattle.std.proofs.Common.{◌≡◌, ◌++◌, take}
use Rattle.std.specs.List.{flat_map}
use Rattle.im_sqlreply.specs.Replies.{shown_row}
use Rattle.im_sqlreply.proofs.rows.rows_text.Given as goal

-- the rows so far were added
abbrev pub invariant-loop-row : goal.invariant-loop-row
invariant-loop-row l = l.out.items ≡ l.initial.out.items ++ flat_map shown_row (take l.row-index l.rows)

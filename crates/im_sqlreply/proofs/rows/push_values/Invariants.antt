use Rattle.std.proofs.Common.{◌≡◌, ◌++◌, take}
use Rattle.im_sqlreply.specs.Replies.{shown_behind}
use Rattle.im_sqlreply.proofs.rows.push_values.Given as goal

-- the values so far were added
abbrev pub invariant-loop-value : goal.invariant-loop-value
invariant-loop-value l = l.out.items ≡ l.initial.out.items ++ shown_behind (take l.value-index l.behind)

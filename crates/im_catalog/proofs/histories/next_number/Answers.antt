use Rattle.std.proofs.lemmas.Map.Text.{btree_map_updates_str}
use Rattle.im_catalog.proofs.histories.next_number.Goals as goal

pub returns-clause-counted : goal.returns-clause-counted
returns-clause-counted c = btree_map_updates_str c.args.key.now c.args.numbers.now c.insert.new.self _ c.in_ok-insert.ensures.updates

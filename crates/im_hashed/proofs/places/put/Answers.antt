use Rattle.std.proofs.lemmas.Map.Text.{btree_map_updates_str}
use Rattle.im_hashed.proofs.places.put.Goals as goal

pub returns-clause-after : goal.returns-clause-after
returns-clause-after c =
    btree_map_updates_str c.args.digest.now c.args.places.now c.insert.new.self _ c.in_ok-insert.ensures.updates

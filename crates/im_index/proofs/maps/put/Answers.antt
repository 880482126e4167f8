use Rattle.im_index.proofs.MapLemmas.{newest-puts}
use Rattle.im_index.proofs.maps.put.Goals as goal

pub returns : goal.returns
returns c = newest-puts c.args.key.now c.args.version c.args.newest.now c.insert.new.self c.in_ok-insert.ensures.updates

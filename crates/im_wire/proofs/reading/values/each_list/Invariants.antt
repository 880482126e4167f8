use Rattle.std.proofs.Common.{◌≡◌, drop}
use Rattle.serde_json.specs.View.{items_view}
use Rattle.im_wire.specs.Fields.{digests_of, each_of}
use Rattle.im_wire.proofs.Loops.{with_front}
use Rattle.im_wire.proofs.reading.values.each_list.Given as goal

abbrev pub invariant-loop-value : goal.invariant-loop-value
invariant-loop-value l = with_front l.lists.items (each_of digests_of (items_view (drop l.value-index l.list))) ≡ each_of digests_of (items_view l.list)

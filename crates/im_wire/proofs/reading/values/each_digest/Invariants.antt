use Rattle.std.proofs.Common.{◌≡◌, drop}
use Rattle.serde_json.specs.View.{items_view}
use Rattle.im_wire.specs.Fields.{digest_of, each_of}
use Rattle.im_wire.proofs.Loops.{with_front}
use Rattle.im_wire.proofs.reading.values.each_digest.Given as goal

abbrev pub invariant-loop-value : goal.invariant-loop-value
invariant-loop-value l = with_front l.digests.items (each_of digest_of (items_view (drop l.value-index l.list))) ≡ each_of digest_of (items_view l.list)

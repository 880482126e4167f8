use Rattle.std.proofs.Common.{Some, sym, ap, ◌∙◌, arith}
use Rattle.serde_json.specs.View.{items_view}
use Rattle.im_wire.specs.Fields.{digest_of, each_of}
use Rattle.im_wire.proofs.Loops.{item-read, item-fails, all-read}
use Rattle.im_wire.proofs.reading.values.each_digest.Goals as goal

pub returns-in-Err : goal.returns-in-Err
returns-in-Err c =
    item-fails digest_of c.args.list.now c.loop-value.value-index c.value-item.result c.in-Err.error c.loop-value.digests.items (each_of digest_of (items_view c.args.list.now))
    (omega (arith, c.loop-value-test.true)) c.value-item.is c.in-Err.ensures c.loop-value.invariant

pub loop-value-preserved : goal.loop-value-preserved
loop-value-preserved c =
    item-read digest_of c.args.list.now c.loop-value.value-index c.value-item.result c.in-Ok.digest c.loop-value.digests.items c.push.new.self.items (each_of digest_of (items_view c.args.list.now))
    (omega (arith, c.loop-value-test.true)) c.value-item.is c.in-Ok.ensures c.in_ok-push-in-Ok.ensures.items c.loop-value.invariant

pub returns : goal.returns
returns c =
    all-read digest_of c.args.list.now c.loop-value.value-index c.loop-value.digests.items (each_of digest_of (items_view c.args.list.now))
    (omega (arith, c.loop-value-test.false)) c.loop-value.invariant
    ∙ ap Some (sym c.from_vec.ensures)

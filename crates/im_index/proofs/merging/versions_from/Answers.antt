use Rattle.std.proofs.Common.{◌<◌, length, ap, arith}
use Rattle.im_index.proofs.TakenLemmas.{versions-more}
use Rattle.im_index.proofs.merging.versions_from.Goals as goal

pub loop-i-preserved : goal.loop-i-preserved
loop-i-preserved c =
    let h : c.loop-i.i < length c.args.txs.now = omega arith in
    let more = versions-more c.args.k c.args.txs.now c.loop-i.i c.index-txs-i.result h in
    let same = ap (λ (t : _). t.entries) c.index-txs-i.is in
    cc (more, same, c.in_ok-added.ensures, c.in_ok-append.ensures.items, c.as_slice.ensures)

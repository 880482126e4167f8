use Rattle.std.proofs.Common.{◌<◌, length, ap, arith}
use Rattle.im_plain.proofs.ReadingLemmas.{all_versions_more}
use Rattle.im_plain.proofs.versions.all_versions.Goals as goal

pub loop-i-preserved : goal.loop-i-preserved
loop-i-preserved c =
    let h : c.loop-i.i < length c.args.history.now = omega arith in
    let more = all_versions_more c.args.history.now c.loop-i.i c.index-history-i.result h in
    let same = ap (λ (t : _). t.entries) c.index-history-i.is in
    cc (more, same, c.in_ok-added.ensures, c.in_ok-append.ensures.items, c.as_slice.ensures)

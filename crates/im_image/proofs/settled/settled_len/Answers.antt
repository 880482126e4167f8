use Rattle.std.proofs.Common.{◌≡◌, length, reverse, arith, ap}
use Rattle.im_disk.specs.Disk.{seen_after}
use Rattle.im_disk.specs.Records.{files_of}
use Rattle.im_image.proofs.PieceLemmas.{long-begins, long-ends}
use Rattle.im_image.proofs.settled.settled_len.Goals as goal

pub loop-call-init : goal.loop-call-init
loop-call-init c =
    long-begins (files_of c.args.first.now) c.args.calls.now c.args.file (length c.octets_of-octets.result.now) c.requires (omega arith) (ap length c.octets_of-octets.ensures)

pub returns : goal.returns
returns c =
    let none : length c.loop-call.rest.now ≡ 0 = c.in_default.ensures.cases in
    let is : c.loop-call.len ≡ length (seen_after (files_of c.args.first.now) (reverse c.args.calls.now) c.args.file) =
    long-ends (files_of c.args.first.now) c.args.calls.now c.loop-call.rest.now c.args.file c.loop-call.len none c.loop-call.invariant in
    (omega (arith, is, c.loop-call.invariant.fits), is)

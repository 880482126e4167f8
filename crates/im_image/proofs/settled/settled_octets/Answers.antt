use Rattle.std.proofs.Common.{◌-◌, arith, ◌∙◌}
use Rattle.im_disk.specs.Records.{files_of}
use Rattle.im_image.proofs.PieceLemmas.{seen-behind, seen-found, part-octets}
use Rattle.im_image.proofs.settled.settled_octets.Goals as goal

pub returns-then-place-piece-2-clause-octets : goal.returns-then-place-piece-2-clause-octets
returns-then-place-piece-2-clause-octets c = λ k h.
    let piece = c.in-Some-piece_of.piece in
    let part = part-octets piece.octets.now (c.args.place - piece.at) c.min.result k h in
    part.2
    ∙ seen-found (files_of c.args.first.now) c.args.calls.now c.loop-call.rest.now c.in-Some.earlier.now c.in-Some.call.now c.args.file c.args.place c.args.room c.loop-call.count
    c.in-Some.ensures.cases.0 c.loop-call.invariant
    (record { at = piece.at; octets = piece.octets.now }) c.in-Some-piece_of.ensures (omega arith) k (omega (arith, part.0)) (omega (arith, part.1))

pub loop-call-preserved-else-place-piece-2 : goal.loop-call-preserved-else-place-piece-2
loop-call-preserved-else-place-piece-2 c =
    seen-behind (files_of c.args.first.now) c.args.calls.now c.loop-call.rest.now c.in-Some.earlier.now c.in-Some.call.now c.args.file c.args.place c.args.room c.loop-call.count
    c.in-Some.ensures.cases.0 c.loop-call.invariant
    (record { at = c.in-Some-piece_of.piece.at; octets = c.in-Some-piece_of.piece.octets.now }) c.in-Some-piece_of.ensures (omega arith)

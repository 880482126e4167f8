use Rattle.std.proofs.Common.{◌≡◌, ◌<◌, length, ap, ◌∙◌, arith, rules, All}
use Rattle.im_disk.specs.Disk.{seen}
use Rattle.im_format.specs.Spans.{octets_at}
use Rattle.im_opening.specs.Ahead.{IsPiece}
use Rattle.im_opening.proofs.Finding.{at-told, if-told}
use Rattle.im_opening.proofs.ahead.Ahead.give.Goals as goal

pub returns-in-Some-clause-given : goal.returns-in-Some-clause-given
returns-in-Some-clause-given g c said =
    let told = g.D.Disk.told in
    let pieces = c.self.inside.pieces in
    let size = length c.args.buffer.now in
    if-told (λ t. c.copy_from_slice.new.self ≡ octets_at (seen t c.args.file) c.args.at size) (told c.args.self.now) (λ t is.
    let all = at-told (λ t. All (IsPiece (seen t)) pieces) (told c.self.inside.disk) t c.self.invariant (ap told c.self.view_is ∙ is) in
    let within : c.piece_of.result < length pieces = first_of (omega (arith, c.piece_of.ensures), search (rules, arith)) in
    c.copy_from_slice.ensures.after ∙ c.in-Some.ensures.octets (seen t) (all c.piece_of.result c.index-self-piece_of.result within))

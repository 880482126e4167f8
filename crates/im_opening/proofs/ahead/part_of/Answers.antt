use Rattle.std.proofs.Common.{◌≡◌, ◌+◌, ◌-◌, ℕ, List, length, take, drop, ◌∙◌, ap, subst, arith}
use Rattle.im_format.specs.Spans.{octets_at}
use Rattle.im_opening.proofs.AheadLemmas.{part-at}
use Rattle.im_opening.proofs.ahead.part_of.Goals as goal

pub returns-clause-octets : goal.returns-clause-octets
returns-clause-octets c image is =
    let piece = c.args.piece.now in
    let octets = piece.octets.items in
    let start = c.args.at - piece.at in
    let place : piece.at + start ≡ c.args.at = omega arith in
    let P : ℕ → Type 0 = λ k. take c.args.n (drop start octets) ≡ octets_at (image c.args.file) k c.args.n in
    let cut : take c.args.n (drop start octets) ≡ octets_at (image c.args.file) (piece.at + start) c.args.n =
    part-at (image c.args.file) octets piece.at start c.args.n
    (subst (λ (f : ℕ). octets ≡ octets_at (image f) piece.at (length octets)) (omega arith) is.octets_are) (omega arith)
    in
    c.split_at-2.ensures.front ∙ ap (λ (l : List ℕ). take c.args.n l) (c.split_at.ensures.back ∙ ap (λ (l : List ℕ). drop start l) c.as_slice-octets.ensures.value)
    ∙ subst P place cut

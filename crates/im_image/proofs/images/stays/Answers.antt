use Rattle.std.proofs.Common.{◌≡◌, ℕ, ◌+◌, List, length, reverse, sym, subst, ◌∙◌, arith}
use Rattle.std.proofs.lemmas.Bool.{false≢true}
use Rattle.im_disk.specs.Disk.{seen_after}
use Rattle.im_disk.specs.Records.{files_of}
use Rattle.im_image.specs.Remains.{ranges_of}
use Rattle.im_image.specs.declared.ranges.WrittenRange.{WrittenRange}
use Rattle.im_image.proofs.StayLemmas.{differs, agrees, StaysBelow, stays-more}
use Rattle.im_image.proofs.images.stays.Goals as goal
use Rattle.im_image.proofs.images.stays.Goals.{in-Inside, in-Outside+else-ne}

pub returns-then-ne : goal.returns-then-ne
returns-then-ne c = (
  λ no. absurd (false≢true no),
  λ all. absurd
      (differs c.args.left.now c.settled_octets-octets.result.now c.loop-place.place c.ne.result c.ne.ensures c.if-ne.true
      (omega (arith, c.settled_octets-octets.ensures.room, c.in-Outside.ensures.1))
      (λ k h. all (c.loop-place.place + k) (omega (arith, c.settled_octets-octets.ensures.room, c.in-Outside.ensures.1))
      (c.in-Outside.ensures.2 k (omega (arith, c.settled_octets-octets.ensures.room)))
      ∙ sym (c.settled_octets-octets.ensures.octets k h))),
)

pub loop-place-preserved : goal.loop-place-preserved
loop-place-preserved c =
    let ranges : List WrittenRange = ranges_of (reverse c.args.since.now) c.args.file in
    let durable : List ℕ = seen_after (files_of c.args.first.now) (reverse c.args.until.now) c.args.file in
    let place : ℕ = c.loop-place.place in
    let more : (n : ℕ) → c.match-stretch_at.place ≡ n → StaysBelow ranges c.args.left.now durable (place + n)
    → StaysBelow ranges c.args.left.now durable (place + c.match-stretch_at.place) =
    λ n is. subst (λ (j : ℕ). StaysBelow ranges c.args.left.now durable (place + j)) (sym is) in
    elim c.match-stretch_at.branch [
      | in-Inside w ↦ record {
        bound = omega (arith, w.place-is, w.in-Inside.ensures.1);
        below = more w.in-Inside.n w.place-is
            (stays-more ranges c.args.left.now durable place w.in-Inside.n c.loop-place.invariant.below
            (λ k h out. absurd (w.in-Inside.ensures.2 k h out)));
      }
      | in-Outside+else-ne w ↦ record {
        bound = omega (arith, w.place-is, w.settled_octets-octets.ensures.room, w.in-Outside.ensures.1);
        below = more (length w.settled_octets-octets.result.now) w.place-is
            (stays-more ranges c.args.left.now durable place (length w.settled_octets-octets.result.now) c.loop-place.invariant.below
            (λ k h out.
            agrees c.args.left.now w.settled_octets-octets.result.now place w.ne.result w.ne.ensures w.if-ne.false k h
            ∙ w.settled_octets-octets.ensures.octets k h));
      }
    ]

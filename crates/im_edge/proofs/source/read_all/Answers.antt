use Rattle.std.proofs.Common.{◌≡◌, ◌≤◌, ◌+◌, ℕ, List, ◌++◌, length, take, length-append, ◌∙◌, arith}
use Rattle.std.proofs.KnownBytes.{Consumes-trans}
use Rattle.std.proofs.lemmas.List.{length-take-le}
use Rattle.im_edge.proofs.source.read_all.Goals as goal

-- what is read, with what one take gives
with-take : (octets buffer : List ℕ) (n most : ℕ) → length octets ≤ most → n ≤ length buffer → length buffer ≡ 4096
    → length (octets ++ take n buffer) ≤ most + 4096
with-take octets buffer n most few room size =
    let both : length (octets ++ take n buffer) ≡ length octets + length (take n buffer) = length-append octets (take n buffer) in
    let taken : length (take n buffer) ≡ n = length-take-le n buffer room in
    omega arith

pub returns-in_err-extend_from_slice-in-Took-clause-part : goal.returns-in_err-extend_from_slice-in-Took-clause-part
returns-in_err-extend_from_slice-in-Took-clause-part g c = (
  _,
  with-take c.loop-buffer.octets.items c.take.new.buffer c.in-Took.n c.args.most (omega (arith, c.loop-buffer-test.true, c.len.ensures)) c.in-Took.ensures.octets.1 (c.take.auto.buffer ∙ c.loop-buffer.invariant.room),
  Consumes-trans _ (g.S.Source.left c.loop-buffer.source) _ _ _ c.loop-buffer.invariant.part c.in-Took.ensures.octets.2,
)

use Rattle.std.proofs.Common.{◌≡◌, length, arith, ap, subst}
use Rattle.std.proofs.lemmas.Bool.{false≢true}
use Rattle.std.specs.Prelude.{IsOk}
use Rattle.im_wire.proofs.writing.fields.digits_of.Goals as goal

pub unreachable-requires : goal.unreachable-requires
unreachable-requires c =
    let same : c.as_slice.result.now ≡ c.args.digest.now = c.as_slice.ensures in
    let long : length c.as_slice.result.now ≡ length c.args.digest.now = ap (λ l. length l) same in
    false≢true (subst (λ r. IsOk r) c.in-Err.is (c.encode_to_slice.ensures.fits.1 (omega (arith, long))))

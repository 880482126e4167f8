use Rattle.std.proofs.Common.{IsUtf8, sym, subst}
use Rattle.im_wire.proofs.DigitLemmas.{hex-utf8}
use Rattle.im_wire.proofs.writing.fields.put_digest.Goals as goal

pub unreachable-requires : goal.unreachable-requires
unreachable-requires c =
    c.in-Err.ensures.cases.0 (subst (λ text. IsUtf8 text) (sym c.digits_of-digits.ensures) (hex-utf8 c.args.digest.now))

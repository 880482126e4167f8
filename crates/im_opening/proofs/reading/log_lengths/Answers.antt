use Rattle.std.proofs.Common.{◌≡◌, ◌∷◌, [], ℕ, zero, suc, length, refl, sym, ◌∙◌, arith}
use Rattle.im_disk.specs.Disk.{Files, seen}
use Rattle.im_record.specs.Slots.{HaveLengths}
use Rattle.im_opening.proofs.Finding.{at-told, disk-cause-err, disk-cause-ok}
use Rattle.im_opening.proofs.reading.log_lengths.Goals as goal

four-lengths : (image : Files) (a b c d : ℕ) → a ≡ length (image 2) → b ≡ length (image 3) → c ≡ length (image 4) → d ≡ length (image 5)
    → HaveLengths image (a ∷ b ∷ c ∷ d ∷ [])
four-lengths image a b c d p q r s zero le = sym p
four-lengths image a b c d p q r s (suc zero) le = sym q
four-lengths image a b c d p q r s (suc (suc zero)) le = sym r
four-lengths image a b c d p q r s (suc (suc (suc zero))) le = sym s
four-lengths image a b c d p q r s (suc (suc (suc (suc k)))) le = absurd (omega (arith, le))

pub returns-clause-lengths : goal.returns-clause-lengths
returns-clause-lengths g c t is =
    let one = c.in_ok-first.ensures.told ∙ is in
    let two = c.in_ok-second.ensures.told ∙ one in
    let three = c.in_ok-third.ensures.told ∙ two in
    four-lengths (seen t) c.in_ok-first.first c.in_ok-second.second c.in_ok-third.third c.in_ok-fourth.fourth
    (at-told (λ t. c.in_ok-first.first ≡ length (seen t 2)) _ t c.in_ok-first.ensures.length is)
    (at-told (λ t. c.in_ok-second.second ≡ length (seen t 3)) _ t c.in_ok-second.ensures.length one)
    (at-told (λ t. c.in_ok-third.third ≡ length (seen t 4)) _ t c.in_ok-third.ensures.length two)
    (at-told (λ t. c.in_ok-fourth.fourth ≡ length (seen t 5)) _ t c.in_ok-fourth.ensures.length three)

pub returns-clause-told : goal.returns-clause-told
returns-clause-told g c = c.in_ok-fourth.ensures.told ∙ c.in_ok-third.ensures.told ∙ c.in_ok-second.ensures.told ∙ c.in_ok-first.ensures.told

pub returns-clause-cause : goal.returns-clause-cause
returns-clause-cause g c =
    disk-cause-ok _ _ _ (c.in_ok-fourth.ensures.cause.ok ∙ c.in_ok-third.ensures.cause.ok ∙ c.in_ok-second.ensures.cause.ok ∙ c.in_ok-first.ensures.cause.ok)

pub returns-in_err-first-clause-cause : goal.returns-in_err-first-clause-cause
returns-in_err-first-clause-cause g c =
    disk-cause-err _ _ _ c.in_err-first.field-0.0 _ refl c.in_err-first.ensures.cause c.from_residual.ensures.1

pub returns-in_err-second-clause-told : goal.returns-in_err-second-clause-told
returns-in_err-second-clause-told g c = c.in_err-second.ensures.told ∙ c.in_ok-first.ensures.told

pub returns-in_err-second-clause-cause : goal.returns-in_err-second-clause-cause
returns-in_err-second-clause-cause g c =
    disk-cause-err _ _ _ c.in_err-second.field-0.0 _ c.in_ok-first.ensures.cause.ok c.in_err-second.ensures.cause c.from_residual-in_err-second.ensures.1

pub returns-in_err-third-clause-told : goal.returns-in_err-third-clause-told
returns-in_err-third-clause-told g c = c.in_err-third.ensures.told ∙ c.in_ok-second.ensures.told ∙ c.in_ok-first.ensures.told

pub returns-in_err-third-clause-cause : goal.returns-in_err-third-clause-cause
returns-in_err-third-clause-cause g c =
    disk-cause-err _ _ _ c.in_err-third.field-0.0 _ (c.in_ok-second.ensures.cause.ok ∙ c.in_ok-first.ensures.cause.ok)
    c.in_err-third.ensures.cause c.from_residual-in_err-third.ensures.1

pub returns-in_err-fourth-clause-told : goal.returns-in_err-fourth-clause-told
returns-in_err-fourth-clause-told g c =
    c.in_err-fourth.ensures.told ∙ c.in_ok-third.ensures.told ∙ c.in_ok-second.ensures.told ∙ c.in_ok-first.ensures.told

pub returns-in_err-fourth-clause-cause : goal.returns-in_err-fourth-clause-cause
returns-in_err-fourth-clause-cause g c =
    disk-cause-err _ _ _ c.in_err-fourth.field-0.0 _ (c.in_ok-third.ensures.cause.ok ∙ c.in_ok-second.ensures.cause.ok ∙ c.in_ok-first.ensures.cause.ok)
    c.in_err-fourth.ensures.cause c.from_residual-in_err-fourth.ensures.1

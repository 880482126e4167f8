use Rattle.std.proofs.Common.{◌≡◌, ◌+◌, ◌≤◌, length, ap, sym, ◌∙◌, subst, arith, All}
use Rattle.std.specs.Prelude.{IfSome}
use Rattle.im_disk.specs.Disk.{LiesWithin, seen}
use Rattle.im_opening.specs.Ahead.{IsPiece}
use Rattle.im_opening.proofs.Finding.{at-told, disk-cause-err, disk-cause-ok, if-told}
use Rattle.im_opening.proofs.ahead.Ahead.fetch.Goals as goal

-- as much as the file has from the place on
pub read-requires-clause-within : goal.read-requires-clause-within
read-requires-clause-within g c =
    let told = g.D.Disk.told in
    let was = told c.self.inside.disk in
    let n = length c.deref_mut.result.now in
    subst (λ o. LiesWithin o c.args.file c.args.at n) (sym c.in_ok-len.ensures.told)
    (if-told (λ t. c.args.at + n ≤ length (seen t c.args.file)) was (λ t is.
    let long = at-told (λ t. c.in_ok-len.len ≡ length (seen t c.args.file)) was t c.in_ok-len.ensures.length is in
    let low = at-told (λ t. c.args.at + 0 ≤ length (seen t c.args.file)) (told c.args.self.now) t c.requires.within (ap told (sym c.self.view_is) ∙ is) in
    omega (arith, long, low, c.in_ok-octets.ensures.len, c.deref_mut.ensures.len)))

-- a disk that is as it was still has what the pieces have
pub invariant_of-self : goal.invariant_of-self
invariant_of-self g c =
    subst (λ o. IfSome o (λ t. All (IsPiece (seen t)) c.self.inside.pieces)) (sym c.in_err-len.ensures.told) c.self.invariant

pub invariant_of-self-in_err-octets : goal.invariant_of-self-in_err-octets
invariant_of-self-in_err-octets g c =
    subst (λ o. IfSome o (λ t. All (IsPiece (seen t)) c.self.inside.pieces)) (sym c.in_ok-len.ensures.told) c.self.invariant

pub invariant_of-self-in_err-read : goal.invariant_of-self-in_err-read
invariant_of-self-in_err-read g c =
    subst (λ o. IfSome o (λ t. All (IsPiece (seen t)) c.self.inside.pieces)) (sym (c.in_err-read.ensures.told ∙ c.in_ok-len.ensures.told)) c.self.invariant

pub returns-in_err-len-clause-cause : goal.returns-in_err-len-clause-cause
returns-in_err-len-clause-cause g c =
    disk-cause-err _ _ _ c.in_err-len.field-0.0 _ (ap g.D.Disk.faults c.self.view_is) c.in_err-len.ensures.cause c.from_residual.ensures.1

pub returns-in_err-read-clause-cause : goal.returns-in_err-read-clause-cause
returns-in_err-read-clause-cause g c =
    disk-cause-err _ _ _ c.in_err-read.field-0.0 _ (c.in_ok-len.ensures.cause.ok ∙ ap g.D.Disk.faults c.self.view_is) c.in_err-read.ensures.cause
    c.from_residual-in_err-read.ensures.1

pub returns-clause-cause : goal.returns-clause-cause
returns-clause-cause g c =
    disk-cause-ok _ _ _ (c.in_ok-read.ensures.cause.ok ∙ c.in_ok-len.ensures.cause.ok ∙ ap g.D.Disk.faults c.self.view_is)

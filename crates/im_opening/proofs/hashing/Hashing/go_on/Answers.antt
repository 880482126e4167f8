use Rattle.std.proofs.Common.{sym, subst}
use Rattle.im_hash_ahead.specs.Facts.{IsKnown}
use Rattle.im_opening.proofs.hashing.Hashing.go_on.Goals as goal

pub returns-in-Some : goal.returns-in-Some
returns-in-Some c hash known filled =
    c.follow.ensures hash (subst (IsKnown hash) (sym c.replace-read.ensures.after) filled) (subst (IsKnown hash) (sym c.replace-read.ensures.value) known)

pub returns-in_default : goal.returns-in_default
returns-in_default c hash known filled =
    c.follow.ensures hash (subst (IsKnown hash) (sym c.replace-read.ensures.after) filled) (subst (IsKnown hash) (sym c.replace-read.ensures.value) known)

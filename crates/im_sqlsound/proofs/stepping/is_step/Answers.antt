use Rattle.std.proofs.Common.{◌≡◌, ◌≤◌, ◌-◌, true, Bool, length, take, arith}
use Rattle.im_catalog.proofs.FoundLemmas.{if-ok}
use Rattle.im_sqlmodel.specs.Kept.{IsSqlSound}
use Rattle.im_sqlsound.specs.Stepping.{StandsOf}
use Rattle.im_sqlsound.proofs.OwnLemmas.{number-sound}
use Rattle.im_sqlsound.proofs.TestLemmas.{test-none}
use Rattle.im_sqlsound.proofs.stepping.is_step.Goals as goal

pub of_number-own-requires : goal.of_number-own-requires
of_number-own-requires g c = c.requires.5.1

pub do_stand_behind-requires-clause-rising : goal.do_stand_behind-requires-clause-rising
do_stand_behind-requires-clause-rising g c = c.requires.5.1

pub returns-then-not-stood : goal.returns-then-not-stood
returns-then-not-stood g c = λ history stands some few sound by. test-none

pub returns : goal.returns
returns g c = λ history stands some few sound by.
    let own = c.of_number-own.result.now in
    let changes = c.args.changes.now in
    let low : c.args.tx - 1 ≤ length history = omega (arith, few) in
    if-ok (λ (b : Bool). b ≡ true → StandsOf (take (c.args.tx - 1) history) (take c.args.tx history) own changes) (λ (b : Bool). b ≡ true → IsSqlSound (take c.args.tx history)) c.do_stand_behind.result
    (λ b is told. number-sound history c.args.tx some few own changes by c.of_number-own.ensures sound (c.in_ok-stood.ensures history stands low sound c.if-not-stood.false) (is told))
    (c.do_stand_behind.ensures history stands few low sound)

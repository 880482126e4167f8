use Rattle.im_sqlsound.proofs.TestLemmas.{test-holds}
use Rattle.im_sqlsound.proofs.sounding.is_sound_behind.Goals as goal

pub returns-then-step : goal.returns-then-step
returns-then-step g c = λ history stands some few sound by. test-holds (c.in_ok-step.ensures history stands some few sound by c.if-step.true)

use Rattle.im_text.proofs.FindsLemmas.{Finds-none}
use Rattle.im_script.proofs.PreLemmas.{since-no-key, since-no-number}
use Rattle.im_script.proofs.pres.read_since.Goals as goal

pub returns-in_default-read_number : goal.returns-in_default-read_number
returns-in_default-read_number c =
    since-no-number c.args.text.now c.in-Some.word.now c.in-Some.digits.now c.in-Some.ensures.some c.in_default-read_number.ensures

pub returns-in_default-2 : goal.returns-in_default-2
returns-in_default-2 c =
    let none = Finds-none _ c.in_ok-key.field-0 c.in_default-2.not-Some c.in_ok-key.ensures in
    since-no-key c.args.text.now c.in-Some.word.now c.in-Some.digits.now c.in-Some.ensures.some none

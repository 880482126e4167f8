use Rattle.im_text.proofs.FindsLemmas.{Finds-none, Finds-some}
use Rattle.im_script.proofs.FieldLemmas.{field-bad-key, field-bad-value, field-no-cut, field-of}
use Rattle.im_script.proofs.fields.read_field.Goals as goal

pub returns-in_default : goal.returns-in_default
returns-in_default c = field-no-cut c.args.text.now c.read_mark.result.1.now c.read_mark.result.0 c.read_mark.ensures c.in_default.ensures.none

pub returns-in_default-2 : goal.returns-in_default-2
returns-in_default-2 c =
    let none = Finds-none _ c.in_ok-key.field-0 c.in_default-2.not-Some c.in_ok-key.ensures in
    field-bad-key c.args.text.now c.read_mark.result.1.now c.in-Some.front.now c.in-Some.back.now c.read_mark.result.0 c.read_mark.ensures c.in-Some.ensures.some none

pub returns-in_default-3 : goal.returns-in_default-3
returns-in_default-3 c =
    let none = Finds-none _ c.in_ok-value.field-0 c.in_default-3.not-Some c.in_ok-value.ensures in
    field-bad-value c.args.text.now c.read_mark.result.1.now c.in-Some.front.now c.in-Some.back.now c.read_mark.result.0 c.read_mark.ensures c.in-Some.ensures.some none

pub returns : goal.returns
returns c =
    let key = Finds-some _ c.in_ok-key.field-0 c.in-Some-2.key c.in-Some-2.is c.in_ok-key.ensures in
    let value = Finds-some _ c.in_ok-value.field-0 c.in-Some-3.value c.in-Some-3.is c.in_ok-value.ensures in
    field-of c.args.text.now c.read_mark.result.1.now c.in-Some.front.now c.in-Some.back.now c.in-Some-2.key c.in-Some-3.value c.read_mark.result.0 c.read_mark.ensures c.in-Some.ensures.some key value

use Rattle.im_text.proofs.FindsLemmas.{Finds-none}
use Rattle.im_script.proofs.LookupLemmas.{lookup-bad-at, lookup-bad-octets}
use Rattle.im_script.proofs.lookups.read_lookup.Goals as goal

pub returns-in_default : goal.returns-in_default
returns-in_default c =
    lookup-bad-at c.args.text.now c.first_field.result.0.now c.first_field.result.1.now c.first_field.ensures c.in_default.ensures

pub returns-in_default-2 : goal.returns-in_default-2
returns-in_default-2 c =
    let none = Finds-none _ c.in_ok-octets.field-0 c.in_default-2.not-Some c.in_ok-octets.ensures in
    lookup-bad-octets c.args.text.now c.first_field.result.0.now c.first_field.result.1.now c.first_field.ensures none

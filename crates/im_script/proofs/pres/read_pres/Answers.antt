use Rattle.std.proofs.Common.{◌≡◌, [], ◌∷◌, ◌++◌, rules}
use Rattle.im_text.proofs.FindsLemmas.{Finds-none, Finds-some}
use Rattle.im_script.proofs.AskedLemmas.{behind-next, only-behind, behind-end, only-end, none-next, none-unspaced}
use Rattle.im_script.proofs.pres.read_pres.Goals.{in-Some+in_ok-pre+in_default-2, in_default}
use Rattle.im_script.proofs.pres.read_pres.Goals as goal

pub loop-fields-preserved : goal.loop-fields-preserved
loop-fields-preserved c =
    let is = Finds-some _ c.in_ok-pre.field-0 c.in-Some-2.pre c.in-Some-2.is c.in_ok-pre.ensures in
    let pushed : c.push.new.self.items ≡ c.loop-fields.pres.items ++ c.in-Some-2.pre ∷ [] = search rules in
    record {
      asked = behind-next c.args.text.now c.loop-fields.rest.now c.in-Some.fields.now c.first_field.result.0.now c.first_field.result.1.now c.loop-fields.pres.items c.push.new.self.items c.in-Some-2.pre pushed c.in-Some.ensures.some c.first_field.ensures is c.loop-fields.invariant.asked;
      only = only-behind c.args.text.now c.loop-fields.rest.now c.in-Some.fields.now c.first_field.result.0.now c.first_field.result.1.now c.loop-fields.pres.items c.push.new.self.items c.in-Some-2.pre pushed c.in-Some.ensures.some c.first_field.ensures is c.loop-fields.invariant.only;
    }

pub returns-clause-asked : goal.returns-clause-asked
returns-clause-asked c = behind-end c.args.text.now c.loop-fields.rest.now c.loop-fields.pres.items c.loop-fields.invariant.asked

pub returns-clause-only : goal.returns-clause-only
returns-clause-only c =
    only-end c.args.text.now c.loop-fields.rest.now c.loop-fields.pres.items c.loop-fields.invariant.only
    (elim c.match-after.branch [
      | in-Some+in_ok-pre+in_default-2 w ↦
          let none = Finds-none _ w.in_ok-pre.field-0 w.in_default-2.not-Some w.in_ok-pre.ensures in
          none-next c.loop-fields.rest.now w.in-Some.fields.now w.first_field.result.0.now w.first_field.result.1.now w.in-Some.ensures.some w.first_field.ensures none
      | in_default w ↦ none-unspaced c.loop-fields.rest.now w.in_default.ensures.none
    ])

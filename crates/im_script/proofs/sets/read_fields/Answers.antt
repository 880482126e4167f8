use Rattle.std.proofs.Common.{◌≡◌, ◌==◌, ℕ, List, [], ◌∷◌, ◌++◌, length, subst, sym, ap, ◌∙◌, rules}
use Rattle.std.proofs.lemmas.Bool.{both_ways}
use Rattle.im_text.proofs.FindsLemmas.{Finds-none, Finds-some}
use Rattle.im_draft.specs.declared.drafts.Draft.{Draft}
use Rattle.im_script.specs.Script.{AreFields}
use Rattle.im_script.proofs.SetLemmas.{fields-bad-field, fields-unspaced, fields-next, refuse-next, fields-all}
use Rattle.im_script.proofs.sets.read_fields.Goals as goal

pub returns-in_default-2 : goal.returns-in_default-2
returns-in_default-2 c =
    let none = Finds-none _ c.in_ok-draft.field-0 c.in_default-2.not-Some c.in_ok-draft.ensures in
    c.loop-fields.invariant.refuse (fields-bad-field c.loop-fields.rest.now c.in-Some.fields.now c.first_field.result.0.now c.first_field.result.1.now c.in-Some.ensures.some c.first_field.ensures none)

pub loop-fields-preserved : goal.loop-fields-preserved
loop-fields-preserved c =
    let is = Finds-some _ c.in_ok-draft.field-0 c.in-Some-2.draft c.in-Some-2.is c.in_ok-draft.ensures in
    let pushed : c.push.new.self.items ≡ c.loop-fields.drafts.items ++ c.in-Some-2.draft ∷ [] = search rules in
    record {
      read = fields-next c.args.text.now c.loop-fields.rest.now c.in-Some.fields.now c.first_field.result.0.now c.first_field.result.1.now c.loop-fields.drafts.items c.push.new.self.items c.in-Some-2.draft pushed c.in-Some.ensures.some c.first_field.ensures is c.loop-fields.invariant.read;
      refuse = refuse-next c.args.text.now c.loop-fields.rest.now c.in-Some.fields.now c.first_field.result.0.now c.first_field.result.1.now c.in-Some.ensures.some c.first_field.ensures c.loop-fields.invariant.refuse;
    }

pub returns-then-not-is_empty : goal.returns-then-not-is_empty
returns-then-not-is_empty c =
    let some : c.loop-fields.rest.now ≡ [] → ⊥ = λ e. both_ways c.is_empty.result c.if-not-is_empty.true (c.is_empty.ensures ∙ ap (λ (t : List ℕ). length t == 0) e) in
    c.loop-fields.invariant.refuse (fields-unspaced c.loop-fields.rest.now c.in_default.ensures.none some)

pub returns : goal.returns
returns c =
    subst (λ (l : List Draft). AreFields c.args.text.now l) (sym c.from_vec.ensures)
    (fields-all c.args.text.now c.loop-fields.rest.now c.loop-fields.drafts.items (sym c.is_empty.ensures ∙ c.if-not-is_empty.false) c.loop-fields.invariant.read)

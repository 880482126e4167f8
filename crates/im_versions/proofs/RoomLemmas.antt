-- A history that takes one transaction more.
use Rattle.std.proofs.Common.{◌≡◌, ◌<◌, List, length, nat_le, sym, ap, ◌∙◌, inl, inr, cond, None, Some}
use Rattle.std.proofs.lemmas.Bool.{cases_Bool, leb-false}
use Rattle.im_model.specs.declared.transactions.Transaction.{Transaction}
use Rattle.im_draft.specs.declared.preconditions.Pre.{Pre}
use Rattle.im_versions.specs.Admits.{first_refusal, place_refusal}
use Rattle.im_versions.specs.declared.refusals.PlaceError.TheVariants.{Full}

-- preconditions are admitted only where there is room
pub admitted-room : (history : List Transaction) (pres : List Pre) → place_refusal history pres ≡ None → length history < 1048576
admitted-room history pres none = elim (cases_Bool (nat_le 1048576 (length history))) [
  | inl full ↦ absurd (
      let some : Some Full ≡ None = sym (ap (λ b. cond b (Some Full) (first_refusal history pres)) full) ∙ none in
      cc)
  | inr room ↦ leb-false 1048576 (length history) room
]

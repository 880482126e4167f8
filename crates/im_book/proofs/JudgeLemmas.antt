-- Preconditions that are judged one after the other.
use Rattle.std.proofs.Common.{◌≡◌, ◌<◌, length, ℕ, ◌+◌, List, [], ◌∷◌, ◌++◌, take, drop, refl, ap, ◌∙◌, sym, inl, inr, get_or, Some, None, true, false, cond}
use Rattle.std.proofs.lemmas.Bool.{cases_Bool}
use Rattle.std.proofs.lemmas.List.{drop_more, take-append-drop}
use Rattle.im_model.specs.declared.transactions.Transaction.{Transaction}
use Rattle.im_draft.specs.declared.preconditions.Pre.{Pre}
use Rattle.im_versions.specs.Admits.{first_refusal, holds, refusal_of}

-- where each of the first holds, the refusal is that of the others
refusal-behind : (history : List Transaction) (first others : List Pre) → first_refusal history first ≡ None → first_refusal history (first ++ others) ≡ first_refusal history others
refusal-behind history [] others none = refl
refusal-behind history (pre ∷ pres) others none = elim (cases_Bool (holds history pre)) [
  | inl held ↦ (
      let rest : first_refusal history pres ≡ None = sym (ap (λ b. cond b (first_refusal history pres) (Some (refusal_of history pre))) held) ∙ none in
      ap (λ b. cond b (first_refusal history (pres ++ others)) (Some (refusal_of history pre))) held ∙ refusal-behind history pres others rest)
  | inr broken ↦ absurd (
      let some : Some (refusal_of history pre) ≡ None = sym (ap (λ b. cond b (first_refusal history pres) (Some (refusal_of history pre))) broken) ∙ none in
      cc)
]

-- one more holds
pub held-more : (history : List Transaction) (pres : List Pre) (pre : Pre) → first_refusal history pres ≡ None → holds history pre ≡ true → first_refusal history (pres ++ pre ∷ []) ≡ None
held-more history pres pre none held =
    refusal-behind history pres (pre ∷ []) none ∙ ap (λ b. cond b None (Some (refusal_of history pre))) held

-- the first that doesn't hold
pub refused-at : (history : List Transaction) (pres : List Pre) (n : ℕ) (pre : Pre) → first_refusal history (take n pres) ≡ None → n < length pres → pre ≡ get_or pres n pre → holds history pre ≡ false
    → first_refusal history pres ≡ Some (refusal_of history pre)
refused-at history pres n pre none within is broken =
    let later : List Pre = drop (n + 1) pres in
    let own : drop n pres ≡ pre ∷ later = drop_more pres n pre within ∙ ap (λ (x : Pre). x ∷ later) (sym is) in
    ap (first_refusal history) (sym (take-append-drop n pres)) ∙ refusal-behind history (take n pres) (drop n pres) none
    ∙ ap (first_refusal history) own ∙ ap (λ b. cond b (first_refusal history later) (Some (refusal_of history pre))) broken

-- Where the values of a list lie.
use Rattle.std.proofs.Common.{◌≡◌, ℕ, suc, ◌+◌, List, [], ◌∷◌, ◌++◌, length, true, false, true≢false, sym, ◌∙◌, subst, arith, append_assoc}
use Rattle.std.proofs.lemmas.List.{append-nil}
use Rattle.std.proofs.lemmas.List.Elements.{All-push}
use Rattle.std.specs.List.{All}
use Rattle.im_format.specs.Places.{AreAppended}
use Rattle.im_format.specs.declared.references.ValueRef.{ValueRef}
use Rattle.im_table.specs.declared.items.LogItem.{LogItem}
use Rattle.im_table.specs.References.{references_of, AreLaid, HaveLengths, IsLawful}

-- of what was found nothing is asked
pub found_laid : (logs number : ℕ) (before : List ValueRef) (xs : List LogItem) → All (λ x. x.found ≡ true) xs → AreLaid logs number before xs
found_laid logs number before [] h = tt
found_laid logs number before (x ∷ xs) h =
    let old : x.found ≡ true = h 0 x (omega arith) in (
      (λ (new : x.found ≡ false). absurd (true≢false (sym old ∙ new))),
      found_laid logs (number + 1) (before ++ x.refs) xs (λ k d lt. h (suc k) d (omega arith)),
    )

-- one item more
pub laid_more : (logs number : ℕ) (before : List ValueRef) (xs : List LogItem) (x : LogItem) → AreLaid logs number before xs
    → AreAppended logs (number + length xs) 0 (before ++ references_of xs) x.refs → AreLaid logs number before (xs ++ x ∷ [])
laid_more logs number before [] x h at =
    let same : number + 0 ≡ number = omega arith in
    let here : AreAppended logs (number + 0) 0 before x.refs = subst (λ (refs : List ValueRef). AreAppended logs (number + 0) 0 refs x.refs) (append-nil before) at in
    ((λ _. subst (λ (n : ℕ). AreAppended logs n 0 before x.refs) same here), tt)
laid_more logs number before (y ∷ xs) x h at =
    let same : number + suc (length xs) ≡ number + 1 + length xs = omega arith in
    let here : AreAppended logs (number + suc (length xs)) 0 ((before ++ y.refs) ++ references_of xs) x.refs =
    subst (λ (refs : List ValueRef). AreAppended logs (number + suc (length xs)) 0 refs x.refs) (sym (append_assoc before y.refs (references_of xs))) at in
    (h.0, laid_more logs (number + 1) (before ++ y.refs) xs x h.1 (subst (λ (n : ℕ). AreAppended logs n 0 ((before ++ y.refs) ++ references_of xs) x.refs) same here))

module _ (allows : List LogItem → Type 0) (logs : ℕ) where
  -- what was found meets the law
  pub found_lawful : ((xs : List LogItem) → All (λ x. x.found ≡ true) xs → allows xs) → (xs : List LogItem) → All (λ x. x.found ≡ true) xs → IsLawful allows logs xs
  found_lawful lawful xs old = record {
    law = lawful xs old;
    laid = found_laid logs 1 [] xs old;
    sized = λ k d lt new. absurd (true≢false (sym (old k d lt) ∙ new));
  }

  -- and so does a list with an item more, of which the law holds, and whose values lie behind all before
  pub more_lawful : (xs : List LogItem) (x : LogItem) → allows (xs ++ x ∷ []) → AreAppended logs (length xs + 1) 0 (references_of xs) x.refs
      → HaveLengths x.tx.entries x.refs → IsLawful allows logs xs → IsLawful allows logs (xs ++ x ∷ [])
  more_lawful xs x lawful at lengths h =
      let same : length xs + 1 ≡ 1 + length xs = omega arith in
      record {
        law = lawful;
        laid = laid_more logs 1 [] xs x h.laid (subst (λ (n : ℕ). AreAppended logs n 0 (references_of xs) x.refs) same at);
        sized = All-push (λ (item : LogItem). item.found ≡ false → HaveLengths item.tx.entries item.refs) xs x h.sized (λ _. lengths);
      }

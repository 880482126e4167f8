use Rattle.std.proofs.Common.{◌≡◌, ◌∷◌, ◌++◌, List, Option, false, [], Some, None, is_some, pos, refl, sym, ap₂, subst, ◌∙◌, arith}
use Rattle.im_model.specs.History.{IsHistory}
use Rattle.im_model.specs.declared.entries.Entry.{Entry}
use Rattle.im_model.specs.declared.transactions.Transaction.{Transaction}
use Rattle.im_book.specs.Booked.{last_bl}
use Rattle.im_versions.specs.Admits.{place_refusal}
use Rattle.im_statement_cases.proofs.session.Session.place.Goals as goal

none-of : {A : Type 0} (o : Option A) → is_some o ≡ false → o ≡ None
none-of None e = refl
none-of (Some x) e = absurd (let no : ⊥ = cc in no)

pub push-requires-clause-history : goal.push-requires-clause-history
push-requires-clause-history c =
    let admitted = sym (c.in_ok-place_refusal.ensures ∙ ap₂ place_refusal (c.deref.ensures.value ∙ c.self.view_is) c.pres.ensures.value)
    ∙ none-of c.in_ok-place_refusal.field-0 (sym c.is_some.ensures ∙ c.if-is_some.false) in
    let empty : last_bl c.args.self.now ≡ 0 = subst (λ (h : List Transaction). last_bl h ≡ 0) c.self.view_is c.self.invariant.trees in
    subst (λ (es : List Entry). IsHistory (c.args.self.now ++ record { ts = pos 0; entries = es; bl = 0 } ∷ [])) (sym c.into_parts-entries.ensures.entries)
    (c.placed_is_a_history.ensures.history c.args.self.now c.args.prepared (pos 0) 0 (subst IsHistory c.self.view_is c.self.invariant.history) c.into_parts-entries.ensures.asked admitted
    (omega (arith, empty)) (omega arith) (record { sfits = omega arith }))

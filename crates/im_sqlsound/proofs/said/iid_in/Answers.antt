use Rattle.std.proofs.Common.{◌<◌, ℕ, List, length, drop, sym, subst, ◌∙◌}
use Rattle.std.proofs.lemmas.Bool.{true≢false, eq-eqb, eqb-true}
use Rattle.im_sqlsound.proofs.SayLemmas.{behind-all, field-long, field-short, iid-some, iid-behind}
use Rattle.im_sqlsound.proofs.said.iid_in.Goals as goal

pub returns-in_default-clause-none : goal.returns-in_default-clause-none
returns-in_default-clause-none c = λ iid fits e. field-short (drop 6 c.args.key.now) iid (subst (λ (t : List ℕ). length t < 4) (behind-all 6 c.args.key.now) c.in_default.ensures) (iid-behind c.args.key.now iid c.requires e)

pub returns-then-not-is_empty-clause-none : goal.returns-then-not-is_empty-clause-none
returns-then-not-is_empty-clause-none c = λ iid fits e.
    let none = field-long (drop 6 c.args.key.now) c.in-Some.behind.now c.in-Some.iid iid (sym (behind-all 6 c.args.key.now) ∙ c.in-Some.ensures) (iid-behind c.args.key.now iid c.requires e) in
    true≢false (sym (eq-eqb (length c.in-Some.behind.now) 0 none) ∙ sym c.is_empty.ensures ∙ c.if-not-is_empty.true)

pub returns-clause-some : goal.returns-clause-some
returns-clause-some c =
    iid-some c.args.key.now c.in-Some.behind.now c.in-Some.iid (sym (behind-all 6 c.args.key.now) ∙ c.in-Some.ensures) (eqb-true (length c.in-Some.behind.now) 0 (sym c.is_empty.ensures ∙ c.if-not-is_empty.false))

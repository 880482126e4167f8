use Rattle.std.proofs.Common.{◌≡◌, ◌<◌, inl, inr, ℕ, List, length, get_or, refl, sym, ap, subst, ◌∙◌, arith}
use Rattle.std.proofs.lemmas.Bool.{cases_lt}
use Rattle.std.proofs.lemmas.List.{get_or_read}
use Rattle.im_versions.specs.declared.versions.Version.{Version}
use Rattle.im_sqlsound.proofs.TestLemmas.{test-not}
use Rattle.im_sqlsound.proofs.kept.end_of.Goals as goal

-- a version at one place has the number of the one at another
same-number : (changes : List Version) (at end : ℕ) (first next : Version) → at < length changes → end < length changes → first ≡ get_or changes at first → next ≡ get_or changes end next → next.tx ≡ first.tx
    → (d : Version) → (get_or changes end d).tx ≡ (get_or changes at d).tx
same-number changes at end first next l m is other same d =
    ap (λ (v : Version). v.tx) (sym (get_or_read changes end next m other d)) ∙ same ∙ ap (λ (v : Version). v.tx) (get_or_read changes at first l is d)

pub loop-end-init : goal.loop-end-init
loop-end-init c = λ k d a l.
    let same : c.args.at ≡ k = omega (arith, a, l) in
    subst (λ (i : ℕ). (get_or c.args.changes.now i d).tx ≡ (get_or c.args.changes.now c.args.at d).tx) same refl

pub loop-end-preserved : goal.loop-end-preserved
loop-end-preserved c = λ k d a l. elim (cases_lt k c.loop-end.end) [
  | inl before ↦ c.loop-end.invariant k d a before
  | inr last ↦ (
      let same : c.loop-end.end ≡ k = omega (arith, last, l) in
      subst (λ (i : ℕ). (get_or c.args.changes.now i d).tx ≡ (get_or c.args.changes.now c.args.at d).tx) same
      (same-number c.args.changes.now c.args.at c.loop-end.end c.index-changes-at.result c.index-changes-end.result c.requires c.loop-end-test.true c.index-changes-at.is c.index-changes-end.is
      (c.is_of.ensures.0 c.if-not-is_of.false ∙ ap (λ (v : Version). v.tx) (sym c.index-changes-at.is)) d))
]

pub returns-then-not-is_of-clause-next : goal.returns-then-not-is_of-clause-next
returns-then-not-is_of-clause-next c = λ d within same.
    test-not c.is_of.result c.is_of.ensures c.if-not-is_of.true
    (ap (λ (v : Version). v.tx) (get_or_read c.args.changes.now c.loop-end.end c.index-changes-end.result c.loop-end-test.true c.index-changes-end.is d) ∙ same
    ∙ sym (ap (λ (v : Version). v.tx) (get_or_read c.args.changes.now c.args.at c.index-changes-at.result c.requires c.index-changes-at.is d)) ∙ ap (λ (v : Version). v.tx) c.index-changes-at.is)

pub returns-clause-same : goal.returns-clause-same
returns-clause-same c = λ k d a l. c.loop-end.invariant k d a (omega (arith, l, c.loop-end-test.false))

pub returns-clause-next : goal.returns-clause-next
returns-clause-next c = λ d within. absurd (let no : ⊥ = omega (arith, within) in no)

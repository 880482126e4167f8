use Rattle.std.proofs.Common.{◌≡◌, ◌↔◌, Bool, true, All, subst, sym}
use Rattle.im_catalog.proofs.FoundLemmas.{if-ok}
use Rattle.im_sqlsound.specs.Sounding.{Hang, IsMarkShown, AreEntered}
use Rattle.im_sqlsound.proofs.TestLemmas.{test-fails, test-not}
use Rattle.im_sqlsound.proofs.hanging.do_hang.Goals as goal

pub returns-then-not-are_numbered : goal.returns-then-not-are_numbered
returns-then-not-are_numbered c = test-fails (λ hang. test-not c.are_numbered.result c.are_numbered.ensures c.if-not-are_numbered.true hang.numbered)

pub returns-then-not-is_all : goal.returns-then-not-is_all
returns-then-not-is_all c = test-fails (λ hang. test-not c.is_all.result c.is_all.ensures c.if-not-is_all.true hang.all)

pub returns-then-not-marks : goal.returns-then-not-marks
returns-then-not-marks c =
    test-fails (λ hang. test-not c.in_ok-marks.marks c.in_ok-marks.ensures c.if-not-marks.true (subst (All (IsMarkShown c.args.tables.now)) (sym c.under.ensures) hang.marks))

pub returns-then-not-each : goal.returns-then-not-each
returns-then-not-each c = test-fails (λ hang. test-not c.in_ok-each.each c.in_ok-each.ensures c.if-not-each.true hang.each)

pub returns : goal.returns
returns c =
    let shown = c.args.shown.now in
    let fs = c.args.tables.now in
    if-ok (λ (b : Bool). (b ≡ true) ↔ AreEntered shown fs) (λ (b : Bool). (b ≡ true) ↔ Hang shown c.args.changes.now fs) c.are_entered.result
    (λ b is. (
      λ e. record {
        numbered = c.are_numbered.ensures.0 c.if-not-are_numbered.false;
        each = c.in_ok-each.ensures.0 c.if-not-each.false;
        marks = subst (All (IsMarkShown fs)) c.under.ensures (c.in_ok-marks.ensures.0 c.if-not-marks.false);
        entered = is.0 e;
        all = c.is_all.ensures.0 c.if-not-is_all.false;
      },
      λ hang. is.1 hang.entered,
    ))
    c.are_entered.ensures

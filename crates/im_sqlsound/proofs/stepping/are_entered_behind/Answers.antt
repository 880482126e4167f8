use Rattle.std.proofs.Common.{◌≡◌, ◌↔◌, [], ◌∷◌, true, Bool, All, take}
use Rattle.im_catalog.proofs.FoundLemmas.{if-ok}
use Rattle.im_sqlsound.specs.Sounding.{IsMarkShown}
use Rattle.im_sqlsound.specs.Stepping.{live_own, AreOwnEntries, AreMarked}
use Rattle.im_sqlsound.proofs.TestLemmas.{test-none}
use Rattle.im_sqlsound.proofs.stepping.are_entered_behind.Goals as goal

pub returns-then-not-marks : goal.returns-then-not-marks
returns-then-not-marks g c = λ history stands few. test-none

pub returns-then-not-marked : goal.returns-then-not-marked
returns-then-not-marked g c = λ history stands few. test-none

pub returns : goal.returns
returns g c = λ history stands few.
    let fs = c.args.tables.now in
    let own = c.args.own.now in
    let h = take c.args.n history in
    if-ok (λ (b : Bool). (b ≡ true) ↔ AreOwnEntries h own fs)
    (λ (b : Bool). b ≡ true → All (IsMarkShown fs) (live_own h (0 ∷ 3 ∷ []) own) × All (AreMarked c.args.changes.now) fs × AreOwnEntries h own fs) c.are_own_entries.result
    (λ b is e. ((c.in_ok-marks.ensures history stands few).0 c.if-not-marks.false, c.in_ok-marked.ensures.0 c.if-not-marked.false, is.0 e)) (c.are_own_entries.ensures history stands few)

use Rattle.std.proofs.Common.{◌≡◌, ◌↔◌, Bool, true, All, subst, sym}
use Rattle.im_catalog.proofs.FoundLemmas.{if-ok}
use Rattle.im_sqlsound.specs.Sounding.{AreGapless, IsMarked, IsSoundAlone}
use Rattle.im_sqlsound.proofs.TestLemmas.{test-fails, test-not}
use Rattle.im_sqlsound.proofs.marked.is_sound_alone.Goals as goal

pub returns-then-not-are_gapless : goal.returns-then-not-are_gapless
returns-then-not-are_gapless c =
    test-fails (λ is. test-not c.are_gapless.result c.are_gapless.ensures c.if-not-are_gapless.true (subst AreGapless (sym c.as_slice.ensures) is.0))

pub returns : goal.returns
returns c =
    let f = c.args.found.now in
    let changes = c.args.changes.now in
    if-ok (λ (b : Bool). (b ≡ true) ↔ All (IsMarked changes f.table) f.rows) (λ (b : Bool). (b ≡ true) ↔ IsSoundAlone changes f) c.are_marked.result
    (λ b is. (
      λ e. (subst AreGapless c.as_slice.ensures (c.are_gapless.ensures.0 c.if-not-are_gapless.false), is.0 e),
      λ both. is.1 both.1,
    ))
    c.are_marked.ensures

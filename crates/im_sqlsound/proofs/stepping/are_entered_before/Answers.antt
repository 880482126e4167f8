use Rattle.std.proofs.Common.{◌≡◌, ◌↔◌, true, Bool, All, take}
use Rattle.im_catalog.proofs.FoundLemmas.{if-ok}
use Rattle.im_versions.specs.declared.versions.Version.{Version}
use Rattle.im_sqlsound.specs.Stepping.{AreOwnEntries, IsKnownKey}
use Rattle.im_sqlsound.proofs.TestLemmas.{test-none}
use Rattle.im_sqlsound.proofs.stepping.are_entered_before.Goals as goal

pub returns-then-not-known : goal.returns-then-not-known
returns-then-not-known g c = λ history stands low. test-none

pub returns : goal.returns
returns g c = λ history stands low.
    let fs = c.args.tables.now in
    let own = c.args.own.now in
    let h = take c.args.before history in
    if-ok (λ (b : Bool). (b ≡ true) ↔ AreOwnEntries h own fs) (λ (b : Bool). b ≡ true → All (λ (v : Version). IsKnownKey fs v.key) own × AreOwnEntries h own fs) c.are_own_entries.result
    (λ b is e. (c.in_ok-known.ensures.0 c.if-not-known.false, is.0 e)) (c.are_own_entries.ensures history stands low)

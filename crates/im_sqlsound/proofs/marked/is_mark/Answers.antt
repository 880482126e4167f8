use Rattle.std.proofs.Common.{◌≡◌, ◌↔◌, Bool, true, length, sym, ap, ◌∙◌}
use Rattle.std.proofs.lemmas.Bool.{true≢false, eq-eqb, eqb-true}
use Rattle.std.specs.List.{IsAmong}
use Rattle.im_octet.proofs.Common.{no-octets}
use Rattle.im_catalog.proofs.FoundLemmas.{if-ok}
use Rattle.im_sqlmodel.specs.Keys.{mark_key}
use Rattle.im_sqlsound.specs.Sounding.{IsMarkShown}
use Rattle.im_sqlsound.specs.declared.found.TableFound.{TableFound}
use Rattle.im_sqlsound.proofs.TestLemmas.{test-fails}
use Rattle.im_sqlsound.proofs.marked.is_mark.Goals as goal

pub returns-then-not-is_empty : goal.returns-then-not-is_empty
returns-then-not-is_empty c =
    test-fails (λ one. true≢false (sym (eq-eqb (length c.args.mark.now.value) 0 (ap length one.3)) ∙ sym c.is_empty.ensures ∙ c.if-not-is_empty.true))

pub returns : goal.returns
returns c =
    let fs = c.args.tables.now in
    let mark = c.args.mark.now in
    let empty = no-octets mark.value (eqb-true (length mark.value) 0 (sym c.is_empty.ensures ∙ c.if-not-is_empty.false)) in
    if-ok (λ (b : Bool). (b ≡ true) ↔ ((f : TableFound) × IsAmong fs f × (c.as_slice.result.now ≡ mark_key f.table.tid))) (λ (b : Bool). (b ≡ true) ↔ IsMarkShown fs mark) c.is_mark_of_one.result
    (λ b is. (
      λ e. (let one = is.0 e in (one.0, one.1, sym c.as_slice.ensures ∙ one.2, empty)),
      λ one. is.1 (one.0, one.1, c.as_slice.ensures ∙ one.2),
    ))
    c.is_mark_of_one.ensures

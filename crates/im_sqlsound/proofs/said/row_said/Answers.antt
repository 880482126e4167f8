use Rattle.std.proofs.Common.{Err, refl, sym, ap, ◌∙◌}
use Rattle.im_sqlsound.proofs.said.row_said.Goals as goal

pub returns-in-Ok : goal.returns-in-Ok
returns-in-Ok c =
    let is = c.in-Ok.ensures.row in
    ((is.0, sym c.as_slice.ensures ∙ is.1, sym c.as_slice-2.ensures ∙ is.2), refl)

pub returns-in-Err-NotText : goal.returns-in-Err-NotText
returns-in-Err-NotText c = λ s is.
    c.read_row_of.ensures.none (c.in-Err-NotText.is ∙ ap (λ e. Err e) c.in-Err-NotText.field-0-is) s.row is.0.0 (c.as_slice-2.ensures ∙ is.0.2) (c.as_slice.ensures ∙ is.0.1)

use Rattle.std.proofs.Common.{Err, drop, sym, ap, ◌∙◌}
use Rattle.im_catalog.proofs.FoundLemmas.{begins-is}
use Rattle.im_sqlmodel.specs.Keys.{table_prefix, table_key}
use Rattle.im_sqlsound.proofs.SayLemmas.{behind-all}
use Rattle.im_sqlsound.proofs.said.table_said.Goals as goal

pub returns-in-Ok : goal.returns-in-Ok
returns-in-Ok c =
    let is = c.in-Ok.ensures.table in
    let key = c.args.version.now.key in
    let rest = behind-all 2 c.as_slice-key.result.now ∙ ap (drop 2) c.as_slice-key.ensures in
    (is.0, begins-is table_prefix key c.requires ∙ ap table_key (sym rest ∙ sym is.1), sym c.as_slice.ensures ∙ is.2)

pub returns-in-Err-NotText : goal.returns-in-Err-NotText
returns-in-Err-NotText c = λ t is.
    let rest = behind-all 2 c.as_slice-key.result.now ∙ ap (drop 2) c.as_slice-key.ensures in
    c.read_table.ensures.none (c.in-Err-NotText.is ∙ ap (λ e. Err e) c.in-Err-NotText.field-0-is) t is.0
    (ap (drop 2) (sym is.1) ∙ sym rest) (c.as_slice.ensures ∙ is.2)

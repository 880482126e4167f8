use Rattle.std.proofs.Common.{◌≡◌, ◌≤◌, ◌++◌, ◌∙◌, ℕ, Err, List, length, drop, sym, ap, ap₂, arith}
use Rattle.im_sqltype.specs.Texts.{row_text}
use Rattle.im_sqltype.specs.declared.values.Value.{Value}
use Rattle.im_catalog.proofs.FoundLemmas.{if-ok}
use Rattle.im_plan.specs.Plans.{IsKeyBehind}
use Rattle.im_plan.proofs.KeyBehindLemmas.{key-long, behind-front, columns-within, primary-behind}
use Rattle.im_plan.proofs.found.key_behind.Goals as goal

pub split_at-requires : goal.split_at-requires
split_at-requires c = let h = c.requires in key-long c.args.key.now h.0 (h.1 ++ h.2) h.3 h.6

pub split_at-requires-in-Ok : goal.split_at-requires-in-Ok
split_at-requires-in-Ok c =
    let within : length c.args.index.now.columns ≤ length c.in-Ok.values =
    columns-within c.args.index.now c.args.kinds.now c.args.key.now c.in-Ok.values c.requires c.in-Ok.ensures.row.0 (sym c.split_at.ensures.back ∙ c.in-Ok.ensures.row.1) in
    let same : length c.as_slice.result.now ≡ length c.in-Ok.values = ap length c.as_slice.ensures in
    let count : c.len.result ≡ length c.args.index.now.columns = c.len.ensures in
    omega (arith, within, same, count)

pub returns-in-Ok : goal.returns-in-Ok
returns-in-Ok c =
    if-ok (λ (text : List ℕ). text ≡ row_text c.split_at-in-Ok.result.1.now) (IsKeyBehind c.args.index.now c.args.kinds.now c.args.key.now) c.row_text-text.result
    (λ text is. primary-behind c.args.index.now c.args.kinds.now c.args.key.now c.in-Ok.values c.in-Ok.ensures.row.0 (sym c.split_at.ensures.back ∙ c.in-Ok.ensures.row.1) text
    (is ∙ ap row_text (c.split_at-in-Ok.ensures.back ∙ ap₂ (λ (n : ℕ) (vs : List Value). drop n vs) c.len.ensures c.as_slice.ensures)))
    c.row_text-text.ensures

pub unreachable-requires : goal.unreachable-requires
unreachable-requires c =
    let h = c.requires in
    c.read_row.ensures.none (c.in-Err-NotText.is ∙ ap (λ e. Err e) c.in-Err-NotText.field-0-is) (h.1 ++ h.2) h.5
    (c.split_at.ensures.back ∙ behind-front c.args.key.now h.0 (h.1 ++ h.2) h.3 h.6)

use Rattle.std.proofs.Common.{◌≡◌, ◌++◌, ◌∷◌, ◌∙◌, [], ℕ, List, sym, ap, ap₂, subst}
use Rattle.im_octet.specs.Fields.{field4}
use Rattle.im_sqltype.specs.declared.kinds.ValueKind.{ValueKind}
use Rattle.im_sqlmodel.specs.Keys.{rows_prefix}
use Rattle.im_plan.specs.Plans.{entry_kinds, HasPlainKey, IsKeyBehind}
use Rattle.im_plan.proofs.KeyBehindLemmas.{plain-key, unique-key, plain-key-behind}
use Rattle.im_plan.proofs.found.row_key_of.Goals as goal
use Rattle.im_plan.proofs.found.row_key_of.Goals.{then-index+in_ok-octets-2, else-index+in_ok-text+in_ok-octets-3}

pub key_behind-requires : goal.key_behind-requires
key_behind-requires c =
    let i = c.args.index.now in
    subst (λ (kinds : List ValueKind). HasPlainKey i kinds c.as_slice-else-index.result.now) (sym c.requires.kinds)
    (subst (λ (key : List ℕ). HasPlainKey i (entry_kinds c.args.table.now i) key) (sym c.as_slice-else-index.ensures)
    (plain-key c.args.table.now i c.args.entry.now c.requires.text.0 c.requires.table c.requires.index c.if-index.false c.requires.text.1))

pub returns : goal.returns
returns c =
    let t = c.args.table.now in
    let i = c.args.index.now in
    let front : c.u32.new.self ≡ rows_prefix t.tid =
    c.in_ok-u32.ensures.ok ∙ ap (λ (s : List ℕ). s ++ field4 t.tid) (c.in_ok-octets.ensures.ok ∙ ap (λ (s : List ℕ). s ++ 0 ∷ 4 ∷ []) c.new-out.ensures) in
    elim c.if-index.branch [
      | then-index+in_ok-octets-2 w ↦
          unique-key t i c.args.entry.now c.into_vec.result.items w.if-index.true
          (c.into_vec.ensures ∙ w.out-is ∙ w.in_ok-octets-2.ensures.ok ∙ ap₂ (λ (a b : List ℕ). a ++ b) front w.as_slice.ensures)
      | else-index+in_ok-text+in_ok-octets-3 w ↦
          plain-key-behind t i c.args.entry.now c.into_vec.result.items w.in_ok-text.text c.requires.table c.requires.index w.if-index.false
          (subst (λ (kinds : List ValueKind). IsKeyBehind i kinds c.args.entry.now.key w.in_ok-text.text) c.requires.kinds
          (subst (λ (key : List ℕ). IsKeyBehind i c.args.kinds.now key w.in_ok-text.text) w.as_slice-else-index.ensures w.in_ok-text.ensures))
          (c.into_vec.ensures ∙ w.out-is ∙ w.in_ok-octets-3.ensures.ok ∙ ap₂ (λ (a b : List ℕ). a ++ b) front w.as_slice-else-index-2.ensures)
    ]

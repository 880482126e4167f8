use Rattle.std.proofs.lemmas.Result.{on_ok_weaker}
use Rattle.std.specs.Prelude.{codes}
use Rattle.serde_json.specs.Data.{string}
use Rattle.im_wire.specs.Texts.{dual_proof_data}
use Rattle.im_wire.specs.Tokens.{field_tokens, item_tokens}
use Rattle.im_wire.proofs.TokenLemmas.{item_parts, joined3}
use Rattle.im_wire.proofs.writing.put_item.Goals as goal

pub returns-clause-ok : goal.returns-clause-ok
returns-clause-ok c =
    on_ok_weaker c.end_object.result
    (joined3 c.args.out.now.tokens _ _ _ _ _
    (field_tokens (codes "dual") (dual_proof_data c.args.dual.now)) (item_tokens c.args.entry.now c.args.index c.args.path.now) (field_tokens (codes "type") (string (codes "item"))) _ _ _ (item_parts c.args.dual.now c.args.entry.now c.args.index c.args.path.now)
    c.in_ok-begin_object.ensures.ok c.in_ok-put_dual_proof_field.ensures.ok c.in_ok-put_item_fields.ensures.ok c.in_ok-put_text_field.ensures.ok)
    c.end_object.ensures.ok

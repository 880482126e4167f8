use Rattle.std.proofs.lemmas.Result.{on_ok_weaker}
use Rattle.std.specs.Prelude.{codes}
use Rattle.serde_json.specs.Data.{string}
use Rattle.im_wire.specs.Texts.{dual_proof_data, anchor_data}
use Rattle.im_wire.specs.Tokens.{field_tokens}
use Rattle.im_wire.proofs.TokenLemmas.{advance_parts, joined3}
use Rattle.im_wire.proofs.writing.put_advance.Goals as goal

pub returns-clause-ok : goal.returns-clause-ok
returns-clause-ok c =
    on_ok_weaker c.end_object.result
    (joined3 c.args.out.now.tokens _ _ _ _ _
    (field_tokens (codes "anchor") (anchor_data c.args.anchor.now)) (field_tokens (codes "dual") (dual_proof_data c.args.dual.now)) (field_tokens (codes "type") (string (codes "advance"))) _ _ _ (advance_parts c.args.dual.now c.args.anchor.now)
    c.in_ok-begin_object.ensures.ok c.in_ok-put_anchor_field.ensures.ok c.in_ok-put_dual_proof_field.ensures.ok c.in_ok-put_text_field.ensures.ok)
    c.end_object.ensures.ok

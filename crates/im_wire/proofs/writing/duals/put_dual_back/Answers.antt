use Rattle.std.proofs.lemmas.Result.{on_ok_weaker}
use Rattle.std.specs.Prelude.{codes}
use Rattle.im_wire.specs.Texts.{hex_data, header_data}
use Rattle.im_wire.specs.Tokens.{field_tokens, dual_back_tokens}
use Rattle.im_wire.proofs.TokenLemmas.{added3}
use Rattle.im_wire.proofs.writing.duals.put_dual_back.Goals as goal

pub returns-clause-ok : goal.returns-clause-ok
unfolding dual_back_tokens
returns-clause-ok c =
    on_ok_weaker c.put_digest_field.result
    (added3 c.args.out.now.tokens _ _ _
    (field_tokens (codes "source") (header_data c.args.dual.now.source)) (field_tokens (codes "target") (header_data c.args.dual.now.target)) (field_tokens (codes "targetBlTxAlh") (hex_data c.args.dual.now.target_bl_tx_alh))
    c.in_ok-put_header_field.ensures.ok c.in_ok-put_header_field-2.ensures.ok)
    c.put_digest_field.ensures.ok

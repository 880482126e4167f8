use Rattle.std.proofs.lemmas.Result.{on_ok_weaker}
use Rattle.std.specs.Prelude.{codes}
use Rattle.im_wire.specs.Texts.{hex_data, number_data}
use Rattle.im_wire.specs.Tokens.{field_tokens, header_front_tokens}
use Rattle.im_wire.proofs.TokenLemmas.{added3}
use Rattle.im_wire.proofs.writing.records.put_header_front.Goals as goal

pub returns-clause-ok : goal.returns-clause-ok
unfolding header_front_tokens
returns-clause-ok c =
    on_ok_weaker c.put_digest_field-2.result
    (added3 c.args.out.now.tokens _ _ _
    (field_tokens (codes "blRoot") (hex_data c.args.header.now.bl_root)) (field_tokens (codes "blTxId") (number_data c.args.header.now.bl_tx_id)) (field_tokens (codes "eh") (hex_data c.args.header.now.eh))
    c.in_ok-put_digest_field.ensures.ok c.in_ok-put_number_field.ensures.ok)
    c.put_digest_field-2.ensures.ok

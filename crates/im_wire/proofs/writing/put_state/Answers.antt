use Rattle.std.proofs.lemmas.Result.{on_ok_weaker}
use Rattle.std.specs.Prelude.{codes}
use Rattle.serde_json.specs.Data.{string}
use Rattle.im_wire.specs.Texts.{header_data}
use Rattle.im_wire.specs.Tokens.{field_tokens}
use Rattle.im_wire.proofs.TokenLemmas.{state_parts, joined2}
use Rattle.im_wire.proofs.writing.put_state.Goals as goal

pub returns-clause-ok : goal.returns-clause-ok
returns-clause-ok c =
    on_ok_weaker c.end_object.result
    (joined2 c.args.out.now.tokens _ _ _ _
    (field_tokens (codes "header") (header_data c.args.header.now)) (field_tokens (codes "type") (string (codes "state"))) _ _ _ (state_parts c.args.header.now)
    c.in_ok-begin_object.ensures.ok c.in_ok-put_header_field.ensures.ok c.in_ok-put_text_field.ensures.ok)
    c.end_object.ensures.ok

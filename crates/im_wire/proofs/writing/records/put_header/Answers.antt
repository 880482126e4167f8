use Rattle.std.proofs.lemmas.Result.{on_ok_weaker}
use Rattle.im_wire.specs.Tokens.{header_front_tokens, header_middle_tokens, header_back_tokens}
use Rattle.im_wire.proofs.TokenLemmas.{header_parts, joined3}
use Rattle.im_wire.proofs.writing.records.put_header.Goals as goal

pub returns-clause-ok : goal.returns-clause-ok
returns-clause-ok c =
    on_ok_weaker c.end_object.result
    (joined3 c.args.out.now.tokens _ _ _ _ _
    (header_front_tokens c.args.header.now) (header_middle_tokens c.args.header.now) (header_back_tokens c.args.header.now) _ _ _ (header_parts c.args.header.now)
    c.in_ok-begin_object.ensures.ok c.in_ok-put_header_front.ensures.ok c.in_ok-put_header_middle.ensures.ok c.in_ok-put_header_back.ensures.ok)
    c.end_object.ensures.ok

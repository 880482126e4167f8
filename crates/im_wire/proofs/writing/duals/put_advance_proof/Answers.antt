use Rattle.std.proofs.lemmas.Result.{on_ok_weaker}
use Rattle.std.specs.Prelude.{codes}
use Rattle.im_wire.specs.Texts.{digests_data, digest_lists_data}
use Rattle.im_wire.specs.Tokens.{field_tokens}
use Rattle.im_wire.proofs.TokenLemmas.{advance_proof_parts, joined2}
use Rattle.im_wire.proofs.writing.duals.put_advance_proof.Goals as goal

pub returns-clause-ok : goal.returns-clause-ok
returns-clause-ok c =
    on_ok_weaker c.end_object.result
    (joined2 c.args.out.now.tokens _ _ _ _
    (field_tokens (codes "inclusions") (digest_lists_data c.args.advance.now.inclusions)) (field_tokens (codes "terms") (digests_data c.args.advance.now.terms)) _ _ _ (advance_proof_parts c.args.advance.now)
    c.in_ok-begin_object.ensures.ok c.in_ok-put_digest_lists_field.ensures.ok c.in_ok-put_digests_field.ensures.ok)
    c.end_object.ensures.ok

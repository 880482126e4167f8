use Rattle.std.proofs.lemmas.Result.{on_ok_weaker}
use Rattle.std.specs.Prelude.{codes}
use Rattle.im_wire.specs.Texts.{digests_data, advance_proof_data}
use Rattle.im_wire.specs.Tokens.{field_tokens, dual_middle_tokens}
use Rattle.im_wire.proofs.TokenLemmas.{added2}
use Rattle.im_wire.proofs.writing.duals.put_dual_middle.Goals as goal

pub returns-clause-ok : goal.returns-clause-ok
unfolding dual_middle_tokens
returns-clause-ok c =
    on_ok_weaker c.put_advance_proof_field.result
    (added2 c.args.out.now.tokens _ _
    (field_tokens (codes "linear") (digests_data c.args.dual.now.linear)) (field_tokens (codes "linearAdvance") (advance_proof_data c.args.dual.now.linear_advance))
    c.in_ok-put_digests_field.ensures.ok)
    c.put_advance_proof_field.ensures.ok

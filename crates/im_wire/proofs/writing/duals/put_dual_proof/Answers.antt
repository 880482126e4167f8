use Rattle.std.proofs.lemmas.Result.{on_ok_weaker}
use Rattle.im_wire.specs.Tokens.{dual_front_tokens, dual_middle_tokens, dual_back_tokens}
use Rattle.im_wire.proofs.TokenLemmas.{dual_proof_parts, joined3}
use Rattle.im_wire.proofs.writing.duals.put_dual_proof.Goals as goal

pub returns-clause-ok : goal.returns-clause-ok
returns-clause-ok c =
    on_ok_weaker c.end_object.result
    (joined3 c.args.out.now.tokens _ _ _ _ _
    (dual_front_tokens c.args.dual.now) (dual_middle_tokens c.args.dual.now) (dual_back_tokens c.args.dual.now) _ _ _ (dual_proof_parts c.args.dual.now)
    c.in_ok-begin_object.ensures.ok c.in_ok-put_dual_front.ensures.ok c.in_ok-put_dual_middle.ensures.ok c.in_ok-put_dual_back.ensures.ok)
    c.end_object.ensures.ok

use Rattle.std.proofs.Common.{◌≤◌, arith, inl}
use Rattle.std.proofs.lemmas.Result.{IfOk-at_ok}
use Rattle.im_dealing.proofs.ReadLemmas.{none-said, some-said}
use Rattle.im_proof.specs.declared.proofs.DualProof.{DualProof}
use Rattle.im_session.proofs.AnswerLemmas.{looked, proof_answered, proof_told}
use Rattle.im_session.proofs.RefusedLemmas.{prove_short}
use Rattle.im_store.proofs.GainLemmas.{gains_same, later_self}
use Rattle.im_store.specs.Reading.{AnswersDual}
use Rattle.im_table.proofs.PassLemmas.{later_both}
use Rattle.im_script.specs.declared.commands.Command.TheVariants.{Prove}
use Rattle.im_session.proofs.ShowLemmas.{short_behind, short_unanswered}
use Rattle.im_session.proofs.proofs.answer_prove.Goals as goal

-- the numbers are refused
pub returns-in-Some-clause-ok : goal.returns-in-Some-clause-ok
returns-in-Some-clause-ok g c =
    let t = c.tip-number.ensures in
    proof_answered g.N.TipName.digest c.args.pass.now c.tip-number.new.pass c.tip-number.new.pass c.args.s c.args.t (record { number = c.tip-number.result; reply = c.in-Some.reply })
    (looked c.args.pass.now c.tip-number.new.pass c.tip-number.new.pass c.tip-number.result t.later t.gains t.durable (later_self c.tip-number.new.pass) (gains_same c.tip-number.new.pass))
    (inl (some-said _ _ c.in-Some.reply c.in-Some.is c.in_ok-reply.ensures.refused))

pub proved-requires : goal.proved-requires
proved-requires g c =
    let ordered = none-said ((1 ≤ c.args.s) × (c.args.s ≤ c.args.t) × (c.args.t ≤ c.tip-number.result)) _ c.in_default.is c.in_ok-reply.ensures.taken in
    record {
      memory = prove_short c.tip-number.new.pass c.prove.new.pass c.args.s c.args.t c.prove.result ordered.0 ordered.1 (omega (arith, ordered.2, c.tip-number.ensures.durable.1)) c.prove.ensures.err;
    }

pub returns-clause-later : goal.returns-clause-later
returns-clause-later g c = later_both c.args.pass.now c.tip-number.new.pass c.prove.new.pass c.tip-number.ensures.later c.prove.ensures.later

-- they are proved
pub returns-clause-ok : goal.returns-clause-ok
returns-clause-ok g c =
    let t = c.tip-number.ensures in
    let ordered = none-said ((1 ≤ c.args.s) × (c.args.s ≤ c.args.t) × (c.args.t ≤ c.tip-number.result)) _ c.in_default.is c.in_ok-reply.ensures.taken in
    let shown = c.in_ok-reply-2.ensures in
    let proof = IfOk-at_ok (λ (x : DualProof). AnswersDual g.N.TipName.digest c.tip-number.new.pass c.prove.new.pass c.args.s c.args.t x) c.in_ok-dual.ensures.same c.prove.ensures.ok in
    proof_told g.N.TipName.digest c.args.pass.now c.tip-number.new.pass c.prove.new.pass c.args.s c.args.t (record { number = c.tip-number.result; reply = c.in_ok-reply-2.reply }) c.in_ok-dual.dual
    (looked c.args.pass.now c.tip-number.new.pass c.prove.new.pass c.tip-number.result t.later t.gains t.durable c.prove.ensures.later c.prove.ensures.gains) ordered.2 proof shown.text shown.again

-- memory ran out
pub returns-in_err-reply-clause-err : goal.returns-in_err-reply-clause-err
returns-in_err-reply-clause-err g c = short_unanswered c.args.pass.now c.tip-number.new.pass (Prove c.args.s c.args.t) c.from_residual.result c.from_residual.ensures.1 c.tip-number.ensures.later c.tip-number.ensures.gains

pub returns-in_err-dual-clause-later : goal.returns-in_err-dual-clause-later
returns-in_err-dual-clause-later g c = later_both c.args.pass.now c.tip-number.new.pass c.prove.new.pass c.tip-number.ensures.later c.prove.ensures.later

pub returns-in_err-dual-clause-err : goal.returns-in_err-dual-clause-err
returns-in_err-dual-clause-err g c =
    let t = c.tip-number.ensures in
    short_behind c.args.pass.now c.tip-number.new.pass c.prove.new.pass (Prove c.args.s c.args.t) c.from_residual-in_err-dual.result c.from_residual-in_err-dual.ensures.1 t.later c.prove.ensures.later t.gains c.prove.ensures.gains

pub returns-in_err-reply-2-clause-later : goal.returns-in_err-reply-2-clause-later
returns-in_err-reply-2-clause-later g c = later_both c.args.pass.now c.tip-number.new.pass c.prove.new.pass c.tip-number.ensures.later c.prove.ensures.later

pub returns-in_err-reply-2-clause-err : goal.returns-in_err-reply-2-clause-err
returns-in_err-reply-2-clause-err g c =
    let t = c.tip-number.ensures in
    short_behind c.args.pass.now c.tip-number.new.pass c.prove.new.pass (Prove c.args.s c.args.t) c.from_residual-in_err-reply-2.result c.from_residual-in_err-reply-2.ensures.1 t.later c.prove.ensures.later t.gains c.prove.ensures.gains

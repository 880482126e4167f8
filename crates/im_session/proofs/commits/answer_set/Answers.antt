use Rattle.std.proofs.Common.{List, subst, inl, inr}
use Rattle.std.proofs.lemmas.Result.{IfErr-weaker, IfOk-weaker}
use Rattle.im_draft.specs.Drafts.{AreFree, IsReserved}
use Rattle.im_draft.specs.declared.drafts.Draft.{Draft}
use Rattle.im_draft.specs.declared.preconditions.Pre.{Pre}
use Rattle.im_script.specs.declared.commands.Command.TheVariants.{Set}
use Rattle.im_session.proofs.ShowLemmas.{short_unanswered, unasked_answered}
use Rattle.im_session.specs.Answered.{IsAnswered, IsUnanswered}
use Rattle.im_session.proofs.commits.answer_set.Goals as goal

-- a key is reserved
pub returns-in-Some-clause-ok : goal.returns-in-Some-clause-ok
returns-in-Some-clause-ok g c =
    let t = c.tip-number.ensures in
    let first = subst (λ (ds : List Draft). IsReserved ds c.in-Some.i) c.deref.ensures.value c.in-Some.ensures.some in
    unasked_answered g.N.TipName.digest c.args.pass.now c.tip-number.new.pass c.args.pres c.args.drafts.items (record { number = c.tip-number.result; reply = c.in_ok-reply.reply })
    t.later t.gains t.durable.1 t.durable.2 (inl (c.in-Some.i, first, c.in_ok-reply.ensures))

-- it may be placed
pub returns-in-Ok-clause-ok : goal.returns-in-Ok-clause-ok
returns-in-Ok-clause-ok g c =
    let free = subst (λ (ds : List Draft). AreFree ds) c.deref.ensures.value c.in_default.ensures.none in
    IfOk-weaker c.commit.result _ _
    (λ answer each. subst (λ (ps : List Pre). IsAnswered g.N.TipName.digest c.args.pass.now c.commit.new.pass (Set ps c.args.drafts.items) answer) c.in-Ok.ensures.pres
    (each c.args.drafts.items free c.in-Ok.ensures.entries c.in-Ok.ensures.ok))
    c.commit.ensures.ok

pub returns-in-Ok-clause-err : goal.returns-in-Ok-clause-err
returns-in-Ok-clause-err g c =
    let free = subst (λ (ds : List Draft). AreFree ds) c.deref.ensures.value c.in_default.ensures.none in
    IfErr-weaker c.commit.result _ _
    (λ why each. subst (λ (ps : List Pre). IsUnanswered c.args.pass.now c.commit.new.pass (Set ps c.args.drafts.items) why) c.in-Ok.ensures.pres
    (each c.args.drafts.items free c.in-Ok.ensures.entries c.in-Ok.ensures.ok))
    c.commit.ensures.err

-- the drafts are refused
pub returns-in_ok-reply-in-Err-clause-ok : goal.returns-in_ok-reply-in-Err-clause-ok
returns-in_ok-reply-in-Err-clause-ok g c =
    let t = c.tip-number-in-Err.ensures in
    let free = subst (λ (ds : List Draft). AreFree ds) c.deref.ensures.value c.in_default.ensures.none in
    let done = c.in_ok-reply-in-Err in
    elim c.in-Err.ensures.err [
      | inl none ↦ absurd (done.ensures.refused none)
      | inr refuses ↦ unasked_answered g.N.TipName.digest c.args.pass.now c.tip-number-in-Err.new.pass c.args.pres c.args.drafts.items (record { number = c.tip-number-in-Err.result; reply = done.reply })
          t.later t.gains t.durable.1 t.durable.2 (inr (free, (c.in-Err.why, refuses, done.ensures.text)))
    ]

-- memory ran out
pub returns-in_err-reply-clause-err : goal.returns-in_err-reply-clause-err
returns-in_err-reply-clause-err g c = short_unanswered c.args.pass.now c.tip-number.new.pass (Set c.args.pres c.args.drafts.items) c.from_residual.result c.from_residual.ensures.1 c.tip-number.ensures.later c.tip-number.ensures.gains

pub returns-in_err-reply-in-Err-clause-err : goal.returns-in_err-reply-in-Err-clause-err
returns-in_err-reply-in-Err-clause-err g c = short_unanswered c.args.pass.now c.tip-number-in-Err.new.pass (Set c.args.pres c.args.drafts.items) c.from_residual-in_err-reply-in-Err.result c.from_residual-in_err-reply-in-Err.ensures.1 c.tip-number-in-Err.ensures.later c.tip-number-in-Err.ensures.gains

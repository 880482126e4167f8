use Rattle.std.proofs.Common.{List, ℕ, ◌≡◌, ◌≢◌, ◌∷◌, All, map, sym, subst}
use Rattle.std.proofs.lemmas.List.Elements.{All-map}
use Rattle.std.proofs.lemmas.Result.{IfErr-weaker, IfOk-weaker}
use Rattle.im_dealing.specs.declared.errors.LineError.{LineError}
use Rattle.im_dealing.specs.declared.errors.LineError.TheVariants.{Memory}
use Rattle.im_octet.proofs.Common.{if-err}
use Rattle.im_draft.specs.Drafts.{entry_of, AreEntries, AreFree}
use Rattle.im_draft.specs.declared.drafts.Draft.{Draft}
use Rattle.im_model.specs.declared.entries.Entry.{Entry}
use Rattle.im_script.specs.declared.commands.Command.TheVariants.{Set}
use Rattle.im_session.proofs.CommitLemmas.{error_unanswered, receipt_answered, receipt_unanswered, refusal_answered}
use Rattle.im_session.specs.Answered.{IsUnanswered}
use Rattle.im_table.specs.Known.{KnownPass}
use Rattle.im_session.proofs.commits.commit.Goals as goal

-- no entry's key begins with octet 00
free-entries : (drafts : List Draft) (entries : List Entry) → AreFree drafts → entries ≡ map entry_of drafts → All (λ e. (rest : List ℕ) → e.key ≢ 0 ∷ rest) entries
free-entries drafts entries free same =
    let IsOther : Entry → Type 0 = λ e. (rest : List ℕ) → e.key ≢ 0 ∷ rest in
    subst (λ (es : List Entry). All IsOther es) (sym same) (All-map IsOther entry_of drafts free)

pub commit-requires-clause-law : goal.commit-requires-clause-law
commit-requires-clause-law g c =
    let asked = c.requires.free in
    c.other_entries_may_be_placed.ensures c.args.pass.now.view.seen c.args.prepared (free-entries asked.0 c.args.prepared.entries asked.1 asked.2)

-- it was committed
pub returns-in_err-reply-in-Ok-clause-err : goal.returns-in_err-reply-in-Ok-clause-err
returns-in_err-reply-in-Ok-clause-err g c =
    let old : KnownPass = c.args.pass.now in
    let new : KnownPass = c.commit.new.pass in
    let receipt = c.in-Ok.ensures.ok in
    if-err (λ why. (drafts : List Draft) → AreFree drafts → AreEntries drafts → c.args.prepared.entries ≡ map entry_of drafts → IsUnanswered old new (Set c.args.prepared.pres drafts) why)
    c.from_residual.result Memory c.from_residual.ensures.1
    (λ drafts free are same. receipt_unanswered g.N.TipName.time c.args.prepared old new c.in-Ok.receipt.id drafts free are same receipt.placed c.commit.ensures.later c.in-Ok.ensures.gains)

pub returns-in_ok-reply-in-Ok-clause-ok : goal.returns-in_ok-reply-in-Ok-clause-ok
returns-in_ok-reply-in-Ok-clause-ok g c drafts free are same =
    let receipt = c.in-Ok.ensures.ok in
    receipt_answered g.N.TipName.digest g.N.TipName.time c.args.prepared c.args.pass.now c.commit.new.pass (record { number = c.in-Ok.receipt.id; reply = c.in_ok-reply-in-Ok.reply }) drafts free are same
    receipt.placed receipt.durable c.commit.ensures.later c.in-Ok.ensures.gains c.in_ok-reply-in-Ok.ensures

-- it wasn't
pub returns-in-Err-clause-ok : goal.returns-in-Err-clause-ok
returns-in-Err-clause-ok g c =
    IfOk-weaker c.refused.result _ _
    (λ answer says. λ drafts free are same. refusal_answered g.N.TipName.digest g.N.TipName.time c.args.prepared c.args.pass.now c.commit.new.pass c.in-Err.error answer drafts free are
    c.in-Err.ensures.err c.commit.ensures.later c.in-Err.ensures.gains says)
    c.refused.ensures.ok

pub returns-in-Err-clause-err : goal.returns-in-Err-clause-err
returns-in-Err-clause-err g c =
    IfErr-weaker c.refused.result _ _
    (λ why is. λ drafts free are same. subst (λ (w : LineError). IsUnanswered c.args.pass.now c.commit.new.pass (Set c.args.prepared.pres drafts) w) (sym is)
    (error_unanswered g.N.TipName.time c.args.prepared c.args.pass.now c.commit.new.pass c.in-Err.error drafts free are same c.in-Err.ensures.err c.commit.ensures.later c.in-Err.ensures.gains))
    c.refused.ensures.err

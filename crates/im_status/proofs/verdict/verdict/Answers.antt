use Rattle.std.proofs.Common.{ℕ, List, IfSome, ap, inl, inr, subst, sym, ◌∙◌}
use Rattle.im_verify.specs.Runs.{Verifies}
use Rattle.im_verify.specs.declared.ended.Ended.{Ended}
use Rattle.im_verify.specs.declared.ended.Ended.TheVariants as ended
use Rattle.im_status.specs.Fates.{HasVerdict}
use Rattle.im_status.specs.Statuses.{EndsVerify, status_ended}
use Rattle.im_status.specs.declared.status.Status.{Status}
use Rattle.im_status.proofs.VerdictLemmas.{ended-ends, ended-is, ended-never, verdict-told}
use Rattle.im_status.proofs.verdict.verdict.Goals as goal

pub returns-clause-accepted : goal.returns-clause-accepted
returns-clause-accepted g c = λ is.
    let same = ended-is c.status_of.result c.verify-ended.result ended.Ok c.status_of.ensures is in
    subst (λ (e : Ended). Verifies (g.H.Hash32.digest c.args.hash.now) e (g.S.Source.left c.args.source.now) (g.K.Sink.written c.args.sink.now) (g.K.Sink.written c.verify-ended.new.sink)
    (g.P.Keeper.kept c.args.keeper.now) (g.P.Keeper.kept c.verify-ended.new.keeper)) same (c.verify-ended.ensures.ok (inl same))

pub returns-clause-refused : goal.returns-clause-refused
returns-clause-refused g c = λ is.
    let same = ended-is c.status_of.result c.verify-ended.result ended.Refused c.status_of.ensures is in
    subst (λ (e : Ended). Verifies (g.H.Hash32.digest c.args.hash.now) e (g.S.Source.left c.args.source.now) (g.K.Sink.written c.args.sink.now) (g.K.Sink.written c.verify-ended.new.sink)
    (g.P.Keeper.kept c.args.keeper.now) (g.P.Keeper.kept c.verify-ended.new.keeper)) same (c.verify-ended.ensures.ok (inr (inl same)))

pub returns-clause-forked : goal.returns-clause-forked
returns-clause-forked g c = λ is.
    let same = ended-is c.status_of.result c.verify-ended.result ended.Forked c.status_of.ensures is in
    subst (λ (e : Ended). Verifies (g.H.Hash32.digest c.args.hash.now) e (g.S.Source.left c.args.source.now) (g.K.Sink.written c.args.sink.now) (g.K.Sink.written c.verify-ended.new.sink)
    (g.P.Keeper.kept c.args.keeper.now) (g.P.Keeper.kept c.verify-ended.new.keeper)) same (c.verify-ended.ensures.ok (inr (inr same)))

pub returns-clause-into : goal.returns-clause-into
returns-clause-into g c = λ is. c.verify-ended.ensures.into (ended-is c.status_of.result c.verify-ended.result ended.WriteFault c.status_of.ensures is)

pub returns-clause-off : goal.returns-clause-off
returns-clause-off g c = λ is. c.verify-ended.ensures.off (ended-is c.status_of.result c.verify-ended.result ended.Memory c.status_of.ensures is)

pub returns-clause-fault : goal.returns-clause-fault
returns-clause-fault g c = λ is. c.verify-ended.ensures.fault (ended-is c.status_of.result c.verify-ended.result ended.KeeperFault c.status_of.ensures is)

pub returns-clause-nothing : goal.returns-clause-nothing
returns-clause-nothing g c = λ how.
    elim how [
      | inl read ↦ c.verify-ended.ensures.nothing (inl (ended-is c.status_of.result c.verify-ended.result ended.ReadFault c.status_of.ensures read))
      | inr (inl long) ↦ c.verify-ended.ensures.nothing (inr (inl (ended-is c.status_of.result c.verify-ended.result ended.Long c.status_of.ensures long)))
      | inr (inr kept) ↦ c.verify-ended.ensures.nothing (inr (inr (kept.0, (ended-is c.status_of.result c.verify-ended.result (ended.Kept kept.0) c.status_of.ensures kept.1))))
    ]

pub returns-clause-idle : goal.returns-clause-idle
returns-clause-idle g c = λ how.
    elim how [
      | inl read ↦ c.verify-ended.ensures.idle (inl (ended-is c.status_of.result c.verify-ended.result ended.ReadFault c.status_of.ensures read))
      | inr long ↦ c.verify-ended.ensures.idle (inr (ended-is c.status_of.result c.verify-ended.result ended.Long c.status_of.ensures long))
    ]

pub returns-clause-kept : goal.returns-clause-kept
returns-clause-kept g c = λ k is. c.verify-ended.ensures.kept k (ended-is c.status_of.result c.verify-ended.result (ended.Kept k) c.status_of.ensures is)

pub returns-clause-ends : goal.returns-clause-ends
returns-clause-ends g c = subst EndsVerify (sym c.status_of.ensures) (ended-ends c.verify-ended.result)

pub returns-clause-never : goal.returns-clause-never
returns-clause-never g c = λ is. ended-never c.status_of.result c.verify-ended.result c.status_of.ensures is

pub returns-clause-too_long : goal.returns-clause-too_long
returns-clause-too_long g c = c.verify-ended.ensures.too_long

pub returns-clause-long : goal.returns-clause-long
returns-clause-long g c = λ is. c.verify-ended.ensures.long (ended-is c.status_of.result c.verify-ended.result ended.Long c.status_of.ensures is)

pub returns-clause-taken : goal.returns-clause-taken
returns-clause-taken g c = c.verify-ended.ensures.part

pub returns-clause-read : goal.returns-clause-read
returns-clause-read g c = λ is. c.verify-ended.ensures.read (ended-is c.status_of.result c.verify-ended.result ended.ReadFault c.status_of.ensures is)

pub returns-clause-write : goal.returns-clause-write
returns-clause-write g c = λ is. c.verify-ended.ensures.write (ended-is c.status_of.result c.verify-ended.result ended.WriteFault c.status_of.ensures is)

pub returns-clause-keep : goal.returns-clause-keep
returns-clause-keep g c = λ is. c.verify-ended.ensures.keep (ended-is c.status_of.result c.verify-ended.result ended.KeeperFault c.status_of.ensures is)

pub returns-clause-source_count : goal.returns-clause-source_count
returns-clause-source_count g c = λ other. c.verify-ended.ensures.source_count (λ is. other (c.status_of.ensures ∙ ap status_ended is))

pub returns-clause-sink_count : goal.returns-clause-sink_count
returns-clause-sink_count g c = λ other. c.verify-ended.ensures.sink_count (λ is. other (c.status_of.ensures ∙ ap status_ended is))

pub returns-clause-keeper_count : goal.returns-clause-keeper_count
returns-clause-keeper_count g c = λ other. c.verify-ended.ensures.keeper_count (λ is. other (c.status_of.ensures ∙ ap status_ended is))

pub returns-clause-source_once : goal.returns-clause-source_once
returns-clause-source_once g c = c.verify-ended.ensures.source_once

pub returns-clause-sink_once : goal.returns-clause-sink_once
returns-clause-sink_once g c = c.verify-ended.ensures.sink_once

pub returns-clause-keeper_once : goal.returns-clause-keeper_once
returns-clause-keeper_once g c = c.verify-ended.ensures.keeper_once

pub returns-clause-fate : goal.returns-clause-fate
returns-clause-fate g c = λ source sink keeper.
    let hash : List ℕ → List ℕ = g.H.Hash32.digest c.args.hash.now in
    let left = g.S.Source.left c.args.source.now in
    let kept = g.P.Keeper.kept c.args.keeper.now in
    let P : Status → Type 0 = λ status. IfSome left (λ s. IfSome kept (HasVerdict hash status s)) in
    subst P (sym c.status_of.ensures) (verdict-told hash c.verify-ended.result left kept (c.verify-ended.ensures.complete source sink keeper))

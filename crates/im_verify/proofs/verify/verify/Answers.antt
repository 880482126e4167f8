use Rattle.std.proofs.Common.{Some, refl}
use Rattle.im_verify.proofs.FateLemmas.{fate-told}
use Rattle.im_verify.proofs.RunLemmas.{source_is}
use Rattle.im_verify.proofs.verify.verify.Goals as goal

pub returns-in-Ok-clause-ok : goal.returns-in-Ok-clause-ok
returns-in-Ok-clause-ok g c =
    c.verify_octets.ensures.ok (g.S.Source.left c.args.source.now)
    (source_is (g.S.Source.left c.args.source.now) c.in-Ok.stream.items c.as_slice.result.now c.in-Ok.ensures.whole c.as_slice.ensures.value)

pub returns-in-Ok-clause-into : goal.returns-in-Ok-clause-into
returns-in-Ok-clause-into g c =
    c.verify_octets.ensures.into (g.S.Source.left c.args.source.now)
    (source_is (g.S.Source.left c.args.source.now) c.in-Ok.stream.items c.as_slice.result.now c.in-Ok.ensures.whole c.as_slice.ensures.value)

pub returns-in-Ok-clause-off : goal.returns-in-Ok-clause-off
returns-in-Ok-clause-off g c =
    c.verify_octets.ensures.off (g.S.Source.left c.args.source.now)
    (source_is (g.S.Source.left c.args.source.now) c.in-Ok.stream.items c.as_slice.result.now c.in-Ok.ensures.whole c.as_slice.ensures.value)

pub returns-in-Ok-clause-fault : goal.returns-in-Ok-clause-fault
returns-in-Ok-clause-fault g c =
    c.verify_octets.ensures.fault (g.S.Source.left c.args.source.now)
    (source_is (g.S.Source.left c.args.source.now) c.in-Ok.stream.items c.as_slice.result.now c.in-Ok.ensures.whole c.as_slice.ensures.value)

pub returns-in-Ok-clause-complete : goal.returns-in-Ok-clause-complete
returns-in-Ok-clause-complete g c = λ read write keep.
    let run = c.verify_octets.ensures in
    fate-told (g.H.Hash32.digest c.args.hash.now) c.verify_octets.result (g.S.Source.left c.args.source.now) c.in-Ok.stream.items c.as_slice.result.now
    (g.K.Sink.written c.args.sink.now) (g.K.Sink.written c.verify_octets.new.sink) (g.P.Keeper.kept c.args.keeper.now) (g.P.Keeper.kept c.verify_octets.new.keeper)
    c.in-Ok.ensures.whole c.as_slice.ensures.value c.in-Ok.ensures.within run.never (λ e. write (run.write e)) (λ e. keep (run.keep e))
    (run.ok (Some c.as_slice.result.now) refl) run.kept

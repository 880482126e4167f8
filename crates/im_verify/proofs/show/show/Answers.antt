use Rattle.im_verify.proofs.ShowLemmas.{show-fate}
use Rattle.im_verify.proofs.show.show.Goals as goal

pub returns-clause-complete : goal.returns-clause-complete
returns-clause-complete g c = λ write keep.
    let run = c.show_kept.ensures in
    show-fate (g.H.Hash32.digest c.args.hash.now) c.show_kept.result (g.P.Keeper.kept c.args.keeper.now) (g.K.Sink.written c.args.sink.now) (g.K.Sink.written c.show_kept.new.sink)
    (λ e. write (run.write e)) (λ e. keep (run.keep e)) run.ok run.stops

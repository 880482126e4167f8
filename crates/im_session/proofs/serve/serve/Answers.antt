use Rattle.std.proofs.Common.{◌≡◌, ◌++◌, ◌∷◌, [], ◌∙◌, List, length, ap, subst, sym, arith}
use Rattle.im_dealing.specs.Found.{IsFoundKept}
use Rattle.im_session.proofs.ServeLemmas.{serves_of}
use Rattle.im_session.specs.Served.{Serves}
use Rattle.im_sqllaw.specs.Law.{KeepsSql}
use Rattle.im_store.specs.Closing.{ClosesStore}
use Rattle.im_store.specs.Names.{Naming, naming_of}
use Rattle.im_table.specs.Known.{KnownPass}
use Rattle.im_session.proofs.serve.serve.Goals as goal

pub returns : goal.returns
returns g c =
    let n : Naming = record {
      table = g.N.TipName.table;
      found = g.N.TipName.found;
      logs = g.N.TipName.logs;
      digest = g.N.TipName.digest;
      synced = g.N.TipName.synced;
      faults = g.N.TipName.faults;
      time = g.N.TipName.time;
      given = g.N.TipName.given;
    } in
    let named : naming_of g.H.Hash32.digest g.D.Disk.told g.D.Disk.faults g.C.Clock.constant g.C.Clock.given c.args.opened ≡ n = cc (c.requires.tip.0, c.requires.tip.1, c.requires.tip.2, c.requires.hash, c.requires.disk.0, c.requires.disk.1, c.requires.clock.0, c.requires.clock.1) in
    let first : KnownPass = c.named-store.result.1 in
    let now : KnownPass = c.run_phases-end.new.main in
    let disk = c.close-disk.result.0 in
    let clock = c.close-disk.result.1 in
    let passes : c.push_reserved.new.self.items ≡ now ∷ [] = c.push_reserved.ensures.items ∙ ap (λ (ps : List KnownPass). ps ++ now ∷ []) c.requires.passes.0 in
    let closes = subst (λ (ps : List KnownPass). ClosesStore KeepsSql g.D.Disk.told g.D.Disk.faults n.digest n.logs n.found n.synced n.faults n.time n.given ps disk (g.C.Clock.constant clock) (g.C.Clock.given clock)) passes
    c.close-disk.ensures in
    let store = c.named-store.ensures in
    let sound = subst IsFoundKept c.requires.tip.1 c.requires.found in
    let keeps = c.a_list_is_kept.ensures n.found closes.items closes.goes_on sound.marked closes.history closes.meets.law sound.kept in
    let serves = serves_of g.D.Disk.told g.D.Disk.faults c.args.links n first now c.args.script.phases.items (g.K.Sink.written c.args.sink.now) (g.K.Sink.written c.run_phases-end.new.sink)
    (g.K.Sink.faults c.args.sink.now) (g.K.Sink.faults c.run_phases-end.new.sink) disk (g.C.Clock.constant clock) (g.C.Clock.given clock) c.run_phases-end.result c.run_phases-end.ensures.ran closes
    store.durable store.known.0 store.none.0 store.none.1 store.none.2 c.run_phases-end.ensures.pass.1 sound.marked keeps in
    record {
      served = subst (λ (m : Naming). Serves g.D.Disk.told g.D.Disk.faults c.args.links m c.args.script.phases.items (g.K.Sink.written c.args.sink.now) (g.K.Sink.written c.run_phases-end.new.sink)
          (g.K.Sink.faults c.args.sink.now) (g.K.Sink.faults c.run_phases-end.new.sink) disk (g.C.Clock.constant clock) (g.C.Clock.given clock) c.run_phases-end.result) (sym named) serves;
    }

-- what was found is what the store is named by
pub run_phases-end-requires-clause-found : goal.run_phases-end-requires-clause-found
run_phases-end-requires-clause-found g c κs within = subst IsFoundKept c.requires.tip.1 c.requires.found

-- there is room for the one pass
pub push_reserved-requires : goal.push_reserved-requires
push_reserved-requires g c = omega (arith, ap (λ (ps : List KnownPass). length ps) c.requires.passes.0, c.requires.passes.1, c.args.passes.ok.0)

use Rattle.std.proofs.Common.{◌≡◌, ℕ, List, ap, arith, Option, Some, Err, inl, inr, refl, subst}
use Rattle.im_digest.specs.Digests.{Hash}
use Rattle.im_disk.specs.Disk.{Told, after, seen}
use Rattle.im_disk.proofs.Growing.{grows_none}
use Rattle.im_disk.proofs.Leaving.{if_told}
use Rattle.im_disk.specs.declared.calls.Call.TheVariants.{Synced}
use Rattle.im_format.specs.Damages.{image_checks}
use Rattle.im_format.specs.Standing.{Stands}
use Rattle.im_format.proofs.HeldRecords.{Has32}
use Rattle.im_model.specs.declared.transactions.Transaction.{Transaction}
use Rattle.im_mtree.specs.Checks.{first_fail}
use Rattle.im_script.specs.declared.commands.Line.{Line}
use Rattle.im_script.proofs.Unique.{script-unique}
use Rattle.im_status.specs.Fates.{HasRunFate}
use Rattle.im_status.specs.Scripts.{IsGiven}
use Rattle.im_status.specs.Statuses.{EndsReading, EndsWriting}
use Rattle.im_status.specs.declared.status.Status.{Status}
use Rattle.im_status.specs.declared.status.Status.TheVariants as the
use Rattle.im_app.specs.Runs.{HasOneSession}
use Rattle.im_sqlmodel.specs.Kept.{IsFirstUnsound, IsSqlKept}
use Rattle.im_status.proofs.FateLemmas.{Ends, ends-other, fate, reading-not-given, reading-run, unread-told, writing-run}
use Rattle.im_app.proofs.FoundLemmas.{front-kept}
use Rattle.im_app.proofs.RunLemmas.{alone-same, by-writing, front-told, given-not, if-told, part-told, reading-for, read-told, same-found, whole-told}
use Rattle.im_app.proofs.run.run.Goals as goal

pub returns-in-Ok-clause-report : goal.returns-in-Ok-clause-report
returns-in-Ok-clause-report g c = λ e.
    let given = c.in-Ok.ensures.given in
    whole-told (g.H.Hash32.digest c.args.hash.now) (g.C.Clock.constant c.args.clock) c.args.logs c.args.link (g.S.Source.left c.args.source.now) given.0
    (g.D.Disk.told c.args.disk) (g.D.Disk.told c.run_script.result.disk) (g.C.Clock.given c.args.clock) (g.C.Clock.given c.run_script.result.clock) (g.K.Sink.written c.args.sink.now) (g.K.Sink.written c.run_script.new.sink)
    (g.K.Sink.faults c.args.sink.now) (g.K.Sink.faults c.run_script.new.sink) given.1 (c.run_script.ensures.report given.0 given.2 e)

pub returns-in-Ok-clause-part : goal.returns-in-Ok-clause-part
returns-in-Ok-clause-part g c = λ e.
    let given = c.in-Ok.ensures.given in
    part-told (g.H.Hash32.digest c.args.hash.now) (g.C.Clock.constant c.args.clock) c.args.logs c.args.link (g.S.Source.left c.args.source.now) given.0
    (g.D.Disk.told c.args.disk) (g.D.Disk.told c.run_script.result.disk) (g.C.Clock.given c.args.clock) (g.C.Clock.given c.run_script.result.clock) (g.K.Sink.written c.args.sink.now) (g.K.Sink.written c.run_script.new.sink)
    (g.K.Sink.faults c.args.sink.now) (g.K.Sink.faults c.run_script.new.sink) given.1 (c.run_script.ensures.part given.0 given.2 e)

pub returns-in-Ok-clause-front : goal.returns-in-Ok-clause-front
returns-in-Ok-clause-front g c = λ why e.
    let given = c.in-Ok.ensures.given in
    elim (c.run_script.ensures.front given.0 why given.2 e) [
      | inl none ↦ inl none
      | inr front ↦ inr (front-told (g.H.Hash32.digest c.args.hash.now) (g.C.Clock.constant c.args.clock) c.args.logs c.args.link why (g.S.Source.left c.args.source.now) given.0
          (g.D.Disk.told c.args.disk) (g.D.Disk.told c.run_script.result.disk) (g.C.Clock.given c.args.clock) (g.C.Clock.given c.run_script.result.clock) (g.K.Sink.written c.args.sink.now) (g.K.Sink.written c.run_script.new.sink)
          (g.K.Sink.faults c.args.sink.now) (g.K.Sink.faults c.run_script.new.sink) given.1 front)
    ]

pub returns-in-Ok-clause-untouched : goal.returns-in-Ok-clause-untouched
returns-in-Ok-clause-untouched g c =
    let given = c.in-Ok.ensures.given in
    given-not (g.S.Source.left c.args.source.now) given.0 c.in-Ok.script.phases.items
    ((c.run_script.new.sink ≡ c.args.sink.now) × ((c.run_script.result.clock ≡ c.args.clock) × (c.run_script.result.disk ≡ c.args.disk)))
    given.1 given.2

pub returns-in-Ok-clause-fate : goal.returns-in-Ok-clause-fate
returns-in-Ok-clause-fate g c = λ no_read no_write no_device.
    let hash : Hash = g.H.Hash32.digest c.args.hash.now in
    let disk : Option Told = g.D.Disk.told c.args.disk in
    let status : Status = c.run_script.result.status in
    let long : Has32 hash = record { long = (g.met.H.Hash32 g.world.𝓛 g.world.𝓜 g.world.𝓡 ((λ s x. x), (λ x. x), (λ x. x), λ x. x)).size c.args.hash.now } in
    let given = c.in-Ok.ensures.given in
    let script : List ℕ = given.0 in
    let phases : List (List Line) = c.in-Ok.script.phases.items in
    let ran = c.run_script.ensures in
    let ends : Ends hash disk status script = record {
      given = λ e. (phases, given.2);
      opened = λ d e. (phases, given.2);
      judged = λ tx e. (phases, given.2);
      ends = writing-run status ran.ends;
      no_usage = λ e. ends-other EndsWriting status the.Usage ran.ends e (λ x. x);
      no_read = λ e. ends-other EndsWriting status the.ReadFault ran.ends e (λ x. x);
      no_write = λ e. no_write (ran.write e);
      no_device = λ e. no_device (ran.device e);
      bad = λ k e. absurd (ends-other EndsWriting status (the.Script k) ran.ends e (λ x. x));
      long = λ e. absurd (ends-other EndsWriting status the.Long ran.ends e (λ x. x));
      damaged = λ d e. if_told (λ t. (first_fail (image_checks hash (seen t)) ≡ Err d) × (g.D.Disk.told c.run_script.result.disk ≡ Some (after Synced t)))
          (λ t. first_fail (image_checks hash (seen t)) ≡ Err d) (λ t p. p.0) disk (ran.damaged d e);
      whole = λ e. let w = ran.report script given.2 e in
          let kept : IsSqlKept w.report.found = front-kept w.report.found w.report.history w.report.report.begins w.report.kept in
          if_told (λ t. Stands hash (seen t) w.report.found) (λ t. (found : List Transaction) × Stands hash (seen t) found × IsSqlKept found) (λ t s. (w.report.found, s, kept)) disk w.report.found_is;
      first = λ tx e. let f = (ran.not_kept tx e).0 in
          if_told (λ t. Stands hash (seen t) f.found) (λ t. (found : List Transaction) × Stands hash (seen t) found × IsFirstUnsound found tx) (λ t s. (f.found, s, f.first)) disk f.stands;
      sound = ran.sound;
    } in
    read-told (g.S.Source.left c.args.source.now) script (HasRunFate hash disk status) given.1 (fate hash disk status script long ends)

pub returns-in-Ok-clause-sink_count : goal.returns-in-Ok-clause-sink_count
returns-in-Ok-clause-sink_count g c = λ write fault want.
    let ran = c.run_script.ensures in
    elim (by-writing c.run_script.result.status ran.ends write fault want) [
      | inl done ↦ ran.sink_count done
      | inr (inl damaged) ↦ ap g.K.Sink.faults (ran.nothing damaged.0 damaged.1).0
      | inr (inr unkept) ↦ ap g.K.Sink.faults (ran.not_kept unkept.0 unkept.1).1
    ]

-- the lines that are told of are those that were read
pub returns-in-Ok-clause-disk_alone : goal.returns-in-Ok-clause-disk_alone
returns-in-Ok-clause-disk_alone g c = λ want.
    let given = c.in-Ok.ensures.given in
    read-told (g.S.Source.left c.args.source.now) given.0
    (λ script. (phases : List (List Line)) → IsGiven script phases → HasOneSession phases → g.D.Disk.faults c.run_script.result.disk ≡ g.D.Disk.faults c.args.disk) given.1
    (λ phases told one. c.run_script.ensures.disk_alone want
    (subst HasOneSession (script-unique given.0 phases c.in-Ok.script.phases.items told.read given.2.read) one))

-- no script was read: neither sink, disk nor clock is touched
pub returns-in-Err : goal.returns-in-Err
returns-in-Err g c =
    let read = c.in-Err.ensures in
    let status : Status = c.in-Err.status in
    let left = g.S.Source.left c.args.source.now in
    let hash : Hash = g.H.Hash32.digest c.args.hash.now in
    let long : Has32 hash = record { long = (g.met.H.Hash32 g.world.𝓛 g.world.𝓜 g.world.𝓡 ((λ s x. x), (λ x. x), (λ x. x), λ x. x)).size c.args.hash.now } in
    let other : (x : Status) → status ≡ x → (EndsReading x → ⊥) → ⊥ = λ x e none. ends-other EndsReading status x read.ends e none in
    record {
      report = λ e. absurd (other the.Ok e (λ x. x));
      part = λ e. absurd (other the.WriteFault e (λ x. x));
      front = λ why e. inl (refl, (refl, same-found hash why (g.D.Disk.told c.args.disk) (reading-for status why read.ends e)));
      given = λ given. absurd (reading-not-given status read.ends given);
      taken = read.taken;
      untouched = if-told left (λ script. ((phases : List (List Line)) → IsGiven script phases → ⊥) → (c.args.sink.now ≡ c.args.sink.now) × ((c.args.clock ≡ c.args.clock) × (c.args.disk ≡ c.args.disk))) (λ script told none. (refl, (refl, refl)));
      ends = reading-run status read.ends;
      never = λ e. other the.Usage e (λ x. x);
      script = λ k e. read.script k (ap Err e);
      long = λ e. read.long (ap Err e);
      damaged = λ damage e. absurd (other (the.Damaged damage) e (λ x. x));
      sound = λ damage t found told stands e. other (the.Damaged damage) e (λ x. x);
      any_moment = λ t found told stands. inl told;
      unharmed = λ t told none. inl told;
      grows = grows_none (g.D.Disk.told c.args.disk);
      nothing = λ ends want. (refl, (refl, refl));
      unread = λ damage e. absurd (other (the.Damaged damage) e (λ x. x));
      not_kept = λ tx e. absurd (other (the.SqlKept tx) e (λ x. x));
      read = λ e. read.read (ap Err e);
      write = λ e. absurd (other the.WriteFault e (λ x. x));
      device = λ e. absurd (other the.DiskFault e (λ x. x));
      source_count = λ none. read.count (λ e. none (let same = e in cc));
      source_once = read.once;
      sink_once = omega arith;
      sink_count = λ write fault want. refl;
      disk_count = λ fault want. refl;
      disk_alone = λ want. alone-same left (g.D.Disk.faults c.args.disk);
      clock = refl;
      fate = λ no_read no_write no_device. unread-told hash (g.D.Disk.told c.args.disk) status left long
          read.ends (λ e. no_read (read.read (ap Err e))) (λ k e. read.script k (ap Err e)) (λ e. read.long (ap Err e));
    }

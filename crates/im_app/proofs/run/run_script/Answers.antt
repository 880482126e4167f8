use Rattle.std.proofs.Common.{◌≡◌, length, ap, arith, inl, inr, refl, sym, ◌∙◌, subst, Option, Err, Some}
use Rattle.im_dealing.specs.Found.{IsFoundKept}
use Rattle.im_dealing.specs.declared.errors.LineError.TheVariants as fails
use Rattle.im_digest.specs.Digests.{Hash}
use Rattle.im_disk.specs.Disk.{Told, after, seen}
use Rattle.im_disk.specs.declared.calls.Call.TheVariants.{Synced}
use Rattle.im_disk.proofs.Growing.{grows_none}
use Rattle.im_format.specs.Batches.{gate_of}
use Rattle.im_format.specs.Damages.{image_checks}
use Rattle.im_mtree.specs.Checks.{first_fail}
use Rattle.im_opening.specs.Cut.{WasBegun}
use Rattle.im_opening.specs.declared.errors.OpenError.{OpenError}
use Rattle.im_store.specs.Names.{Naming, naming_of}
use Rattle.im_status.specs.Statuses.{status_by}
use Rattle.im_app.specs.Runs.{opening_error}
use Rattle.im_app.proofs.FoundLemmas.{opened-keeps}
use Rattle.im_app.proofs.RunLemmas.{damage-by, if-told, opening-by, same-found}
use Rattle.im_app.proofs.ServedLemmas.{ran-alone, ran-constant, ran-device, ran-disk, ran-ends, ran-front, ran-grows, ran-keeps, ran-no-unkept, ran-once, ran-over, ran-part, ran-report, ran-sink, ran-undamaged, ran-unharmed, ran-write}
use Rattle.im_app.proofs.UnkeptLemmas.{LeftUnserved, left-ends, left-front, left-grows, left-keeps, left-no-fault, left-no-write, left-not-done, left-same, left-undamaged, left-unharmed, left-unkept}
use Rattle.im_app.proofs.run.run_script.Goals as goal

-- no memory for the list of passes: nothing was done
pub returns-in_default-clause-front : goal.returns-in_default-clause-front
returns-in_default-clause-front g c = λ octets why given e.
    inl (refl, (refl, same-found (g.H.Hash32.digest c.args.hash.now) why (g.D.Disk.told c.args.disk) (sym e)))

pub returns-in_default-clause-grows : goal.returns-in_default-clause-grows
returns-in_default-clause-grows g c = grows_none (g.D.Disk.told c.args.disk)

-- the disk wasn't opened
pub returns-in-Err-clause-front : goal.returns-in-Err-clause-front
returns-in-Err-clause-front g c = λ octets why given e.
    let now : Option Told = g.D.Disk.told c.in-Err.failed.disk in
    let by : c.in-Err.failed.why ≡ opening_error why = opening-by c.in-Err.failed.why why (sym c.status_of.ensures ∙ e) in
    inl (
      refl,
      (
        c.in-Err.ensures.back,
        λ t found told stands.
            (let B : OpenError → Type 0 = λ error. WasBegun error (gate_of (length stands.batches)) t now in
            (c.in-Err.ensures.failed.off t found told stands, subst B by (c.in-Err.ensures.failed.begun t found told stands))),
      ),
    )

pub returns-in-Err-clause-damaged : goal.returns-in-Err-clause-damaged
returns-in-Err-clause-damaged g c = λ damage e.
    let hash : Hash = g.H.Hash32.digest c.args.hash.now in
    let now : Option Told = g.D.Disk.told c.in-Err.failed.disk in
    if-told (g.D.Disk.told c.args.disk) (λ t. (first_fail (image_checks hash (seen t)) ≡ Err damage) × (now ≡ Some (after Synced t)))
    (λ t told. c.in-Err.ensures.failed.damaged t damage told (damage-by c.in-Err.failed.why damage (sym c.status_of.ensures ∙ e)))

pub returns-in-Err-clause-sound : goal.returns-in-Err-clause-sound
returns-in-Err-clause-sound g c = λ damage t found told stands e.
    c.in-Err.ensures.failed.sound t found damage told stands (damage-by c.in-Err.failed.why damage (sym c.status_of.ensures ∙ e))

pub returns-in-Err-clause-any_moment : goal.returns-in-Err-clause-any_moment
returns-in-Err-clause-any_moment g c = λ t found told stands.
    opened-keeps (g.H.Hash32.digest c.args.hash.now) found t (g.D.Disk.told c.in-Err.failed.disk) (c.in-Err.ensures.failed.off t found told stands)

pub returns-in-Err-clause-unharmed : goal.returns-in-Err-clause-unharmed
returns-in-Err-clause-unharmed g c = λ t told none. c.in-Err.ensures.failed.unharmed t told none

pub returns-in-Err-clause-grows : goal.returns-in-Err-clause-grows
returns-in-Err-clause-grows g c = c.in-Err.ensures.failed.grows

pub returns-in-Err-clause-device : goal.returns-in-Err-clause-device
returns-in-Err-clause-device g c = λ e. c.in-Err.ensures.failed.device (opening-by c.in-Err.failed.why fails.DiskFault (sym c.status_of.ensures ∙ e))

pub returns-in-Err-clause-disk_count : goal.returns-in-Err-clause-disk_count
returns-in-Err-clause-disk_count g c = λ other want. c.in-Err.ensures.failed.others (λ is. other (c.status_of.ensures ∙ ap status_by is))

pub returns-in-Err-clause-disk_alone : goal.returns-in-Err-clause-disk_alone
returns-in-Err-clause-disk_alone g c = λ want one.
    let by : c.in-Err.failed.why ≡ opening_error fails.Memory = opening-by c.in-Err.failed.why fails.Memory (sym c.status_of.ensures ∙ want) in
    c.in-Err.ensures.failed.others (λ is. cc (is, by))

-- the store was opened, and whether its keys are SQL's isn't known, or they aren't
pub returns-in-Err-judge : goal.returns-in-Err-judge
returns-in-Err-judge g c =
    let opened = c.in-Ok-open.ensures in
    let back = c.close-disk.ensures in
    let same : c.close-disk.result.1 ≡ c.args.clock = back.1 ∙ opened.clock in
    let left : LeftUnserved g.D.Disk.told g.D.Disk.faults (g.H.Hash32.digest c.args.hash.now) c.args.disk c.close-disk.result.0 c.status_unkept.result = record {
      n = naming_of g.H.Hash32.digest g.D.Disk.told g.D.Disk.faults g.C.Clock.constant g.C.Clock.given c.in-Ok-open.opened;
      digest_is = ap g.H.Hash32.digest opened.given.0;
      opens = opened.opens;
      error = c.in-Err-judge.error;
      status_is = c.status_unkept.ensures;
      first = λ tx is. c.in-Err-judge.ensures.not_kept tx (ap Err is);
      synced = sym (ap g.D.Disk.told back.0);
      counted = sym (ap g.D.Disk.faults back.0);
    } in
    record {
      ends = left-ends left;
      report = λ octets given e. absurd (left-not-done left e);
      part = λ octets given e. absurd (left-no-write left e);
      front = λ octets why given e. inl (refl, (same, left-front left why e));
      damaged = λ damage e. absurd (left-undamaged left damage e);
      sound = λ damage t found told stands e. left-undamaged left damage e;
      nothing = λ damage e. absurd (left-undamaged left damage e);
      not_kept = λ tx e. (left-unkept left tx e, refl, same);
      any_moment = λ t found told stands. left-keeps left t found told stands;
      unharmed = λ t told none. left-unharmed left t told none;
      grows = left-grows left;
      device = λ e. absurd (left-no-fault left e);
      disk_count = λ fault want. left-same left;
      disk_alone = λ want one. left-same left;
      write = λ e. absurd (left-no-write left e);
      sink_count = λ e. refl;
      sink_once = omega arith;
      clock = ap g.C.Clock.constant same;
    }

-- its keys are SQL's
pub serve_script-requires-clause-found : goal.serve_script-requires-clause-found
serve_script-requires-clause-found g c κs within =
    let found : IsFoundKept c.in-Ok-open.opened.found = record { marked = c.in-Ok-open.ensures.opens.marked; kept = c.in-Ok-judge.ensures.kept } in
    found

-- and it was served
pub returns-in-Ok-judge : goal.returns-in-Ok-judge
returns-in-Ok-judge g c =
    let opened = c.in-Ok-open.ensures in
    let n : Naming = naming_of g.H.Hash32.digest g.D.Disk.told g.D.Disk.faults g.C.Clock.constant g.C.Clock.given c.in-Ok-open.opened in
    let ran = ran-over g.D.Disk.told g.D.Disk.faults c.args.link n c.is_auto.result c.is_auto.ensures opened.opens (ap g.H.Hash32.digest opened.given.0, opened.given.1)
    (ap g.C.Clock.constant opened.clock, ap g.C.Clock.given opened.clock) c.serve_script.ensures.served in
    record {
      ends = ran-ends ran;
      report = λ octets given e. ran-report ran octets given e;
      part = λ octets given e. ran-part ran octets given e;
      front = λ octets why given e. inr (ran-front ran octets why given e);
      damaged = λ damage e. absurd (ran-undamaged ran damage e);
      sound = λ damage t found told stands e. ran-undamaged ran damage e;
      nothing = λ damage e. absurd (ran-undamaged ran damage e);
      not_kept = λ tx e. absurd (ran-no-unkept ran tx e);
      any_moment = λ t found told stands. ran-keeps ran t found told stands;
      unharmed = λ t told none. ran-unharmed ran t told none;
      grows = ran-grows ran;
      device = λ e. ran-device ran e;
      disk_count = λ fault want. ran-disk ran fault want;
      disk_alone = λ want one. ran-alone ran want one;
      write = λ e. ran-write ran e;
      sink_count = λ e. ran-sink ran e;
      sink_once = ran-once ran;
      clock = ran-constant ran;
    }

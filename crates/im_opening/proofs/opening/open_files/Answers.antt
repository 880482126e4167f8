use Rattle.std.proofs.Common.{◌≡◌, ℕ, length, refl, ◌∙◌, ap, subst, sym, inr, Option, Some, Err}
use Rattle.im_disk.specs.Disk.{Told, after, seen}
use Rattle.im_disk.specs.declared.calls.Call.TheVariants.{Synced, Missed}
use Rattle.im_disk.specs.Grown.{Grows}
use Rattle.im_disk.proofs.Growing.{grows_both, grows_by_answer, grows_same}
use Rattle.im_format.specs.Batches.{gate_of}
use Rattle.im_format.specs.Damages.{image_checks}
use Rattle.im_format.specs.Reading.{history_in}
use Rattle.im_octet.proofs.Common.{if-err}
use Rattle.im_opening.specs.Cut.{IsHalfOpened, WasLeft}
use Rattle.im_opening.specs.Answers.{HasOpenCause, Tells, of_disk}
use Rattle.im_opening.specs.Opening.{IsRead}
use Rattle.im_opening.specs.declared.errors.OpenError.{OpenError}
use Rattle.im_format.proofs.HeldRecords.{Has32}
use Rattle.im_format.proofs.StandReads.{stands-once}
use Rattle.im_opening.specs.declared.reading.Opened.{Opened}
use Rattle.im_opening.proofs.Finding.{cause-disk, disk-unsaid, ok-leaves}
use Rattle.im_opening.proofs.GateLemmas.{batches-same, lacks-none}
use Rattle.im_opening.proofs.OpenLemmas.{failed-left, failed-opened, read-left, repaired-leaves, rest-leaves, stopped-left, synced-told}
use Rattle.im_opening.specs.Cut.{repaired}
use Rattle.std.specs.Option.{option_map}
use Rattle.im_opening.proofs.KeptLemmas.{map-told}
use Rattle.im_opening.proofs.opening.open_files.Goals as goal

pub returns-in_err-sync-clause-moments : goal.returns-in_err-sync-clause-moments
returns-in_err-sync-clause-moments g c t history is stands =
    failed-opened (g.H.Hash32.digest c.args.hash.now) history t (g.D.Disk.told c.args.disk.now) (g.D.Disk.told c.sync.new.disk) c.in_err-sync.field-0.0 is
    (c.in_err-sync.ensures.failed, c.in_err-sync.ensures.memory)

pub returns-in_err-opened-clause-moments : goal.returns-in_err-opened-clause-moments
returns-in_err-opened-clause-moments g c t history is stands =
    let synced = synced-told (g.D.Disk.told c.args.disk.now) (g.D.Disk.told c.sync.new.disk) t c.in_ok-sync.ensures.ok is in
    inr (inr (rest-leaves (g.H.Hash32.digest c.args.hash.now) history t (g.D.Disk.told c.read.new.arg3) stands ((c.requires.reads _ _ _ _ c.in_err-opened.ensures).told_is ∙ synced)))

pub returns-in-Err-clause-moments : goal.returns-in-Err-clause-moments
returns-in-Err-clause-moments g c t history is stands =
    let hash = g.H.Hash32.digest c.args.hash.now in
    let synced = synced-told (g.D.Disk.told c.args.disk.now) (g.D.Disk.told c.sync.new.disk) t c.in_ok-sync.ensures.ok is in
    let told = (c.requires.reads _ _ _ _ c.in_ok-opened.ensures).told_is ∙ synced in
    let read : IsRead hash (seen t) c.in_ok-opened.opened = (c.requires.reads _ _ _ _ c.in_ok-opened.ensures).given.read (after Synced t) synced in
    let long : Has32 hash = record { long = g.met.H.Hash32.size c.args.hash.now } in
    inr (inr (repaired-leaves hash history t (g.D.Disk.told c.read.new.arg3) (g.D.Disk.told c.repair.new.disk) told
    (stands-once hash (seen t) (history_in (seen t)) history long read.stands stands)
    (c.in-Err.ensures.leaves hash (after Synced t) told (λ image now. now) read)))

pub returns-in-Ok-clause-opened : goal.returns-in-Ok-clause-opened
returns-in-Ok-clause-opened g c =
    let hash = g.H.Hash32.digest c.args.hash.now in
    let was = g.D.Disk.told c.args.disk.now in
    let mid = g.D.Disk.told c.sync.new.disk in
    let opened = c.in_ok-opened.opened in
    let given = (c.requires.reads _ _ _ _ c.in_ok-opened.ensures).given in
    let long : Has32 hash = record { long = g.met.H.Hash32.size c.args.hash.now } in
    let synced : (t : Told) → was ≡ Some t → mid ≡ Some (after Synced t) = λ t is. synced-told was mid t c.in_ok-sync.ensures.ok is in
    let f : Told → Told = repaired opened.behind (gate_of opened.batches) in
    record {
      given = record {
        found = given.found;
        ends = given.ends;
        grouped = given.grouped;
        placed = given.placed;
        read = λ t is. given.read (after Synced t) (synced t is);
        there = λ t is. given.there (after Synced t) (synced t is);
      };
      calls =
          c.in-Ok.ensures.calls
          ∙ ap (λ (m : Option Told). option_map f m) ((c.requires.reads _ _ _ _ c.in_ok-opened.ensures).told_is ∙ c.in_ok-sync.ensures.ok)
          ∙ map-told f (after Synced) was;
      kept = λ t is.
          c.in-Ok.ensures.kept hash (after Synced t) ((c.requires.reads _ _ _ _ c.in_ok-opened.ensures).told_is ∙ synced t is) (λ image now. now)
          (given.read (after Synced t) (synced t is)) (given.there (after Synced t) (synced t is));
      moments = λ t history is stands.
          (let told = (c.requires.reads _ _ _ _ c.in_ok-opened.ensures).told_is ∙ synced t is in
          let read : IsRead hash (seen t) opened = given.read (after Synced t) (synced t is) in
          repaired-leaves hash history t (g.D.Disk.told c.read.new.arg3) (g.D.Disk.told c.repair.new.disk) told
          (stands-once hash (seen t) (history_in (seen t)) history long read.stands stands)
          (c.in-Ok.ensures.leaves hash (after Synced t) told (λ image now. now) read));
    }

pub returns-in-Ok-clause-moments : goal.returns-in-Ok-clause-moments
returns-in-Ok-clause-moments g c t history is stands = inr (inr ((returns-in-Ok-clause-opened g c).moments t history is stands))

pub returns-in-Ok-clause-first : goal.returns-in-Ok-clause-first
returns-in-Ok-clause-first g c t is = record {
  is =
      ((c.requires.reads _ _ _ _ c.in_ok-opened.ensures).first (after Synced t)
      (synced-told (g.D.Disk.told c.args.disk.now) (g.D.Disk.told c.sync.new.disk) t c.in_ok-sync.ensures.ok is)).is;
}

pub returns-in_err-sync-clause-left : goal.returns-in_err-sync-clause-left
returns-in_err-sync-clause-left g c t is =
    if-err (λ e. WasLeft (g.H.Hash32.digest c.args.hash.now) e t (g.D.Disk.told c.sync.new.disk)) c.from_residual.result (of_disk c.in_err-sync.field-0.0) c.from_residual.ensures.1
    (failed-left (g.H.Hash32.digest c.args.hash.now) t (g.D.Disk.told c.args.disk.now) (g.D.Disk.told c.sync.new.disk) c.in_err-sync.field-0.0 is
    (c.in_err-sync.ensures.failed, c.in_err-sync.ensures.memory))

pub returns-in_err-opened-clause-left : goal.returns-in_err-opened-clause-left
returns-in_err-opened-clause-left g c t is =
    let hash = g.H.Hash32.digest c.args.hash.now in
    let now = g.D.Disk.told c.read.new.arg3 in
    if-err (λ e. WasLeft hash e t now) c.from_residual-in_err-opened.result c.in_err-opened.field-0.0 c.from_residual-in_err-opened.ensures.1
    (read-left hash c.in_err-opened.field-0.0 t now
    ((c.requires.reads _ _ _ _ c.in_err-opened.ensures).told_is ∙ synced-told (g.D.Disk.told c.args.disk.now) (g.D.Disk.told c.sync.new.disk) t c.in_ok-sync.ensures.ok is))

pub returns-in-Err-clause-left : goal.returns-in-Err-clause-left
returns-in-Err-clause-left g c t is =
    let hash = g.H.Hash32.digest c.args.hash.now in
    let synced = synced-told (g.D.Disk.told c.args.disk.now) (g.D.Disk.told c.sync.new.disk) t c.in_ok-sync.ensures.ok is in
    let told = (c.requires.reads _ _ _ _ c.in_ok-opened.ensures).told_is ∙ synced in
    let read : IsRead hash (seen t) c.in_ok-opened.opened = (c.requires.reads _ _ _ _ c.in_ok-opened.ensures).given.read (after Synced t) synced in
    let opened = c.in_ok-opened.opened in
    let same : opened.batches ≡ length read.stands.batches =
    batches-same hash (history_in (seen t)) (seen t) opened.batches read.stands read.batches.batches_are
    (lacks-none (seen t 1) (gate_of opened.batches) opened.behind read.behind_is) in
    let error = c.in-Err.error in
    let H : ℕ → Type 0 = λ k. IsHalfOpened error (gate_of k) t (g.D.Disk.told c.repair.new.disk) in
    subst (λ (e : OpenError). WasLeft hash e t (g.D.Disk.told c.repair.new.disk)) (sym c.from.ensures)
    (stopped-left hash error t (g.D.Disk.told c.repair.new.disk) (
      history_in (seen t),
      read.stands,
      repaired-leaves hash (history_in (seen t)) t (g.D.Disk.told c.read.new.arg3) (g.D.Disk.told c.repair.new.disk) told refl
          (c.in-Err.ensures.leaves hash (after Synced t) told (λ image now. now) read),
      subst H same (opened.behind, read.behind_is, c.in-Err.ensures.half (after Synced t) told),
    ))

pub returns-in_err-sync-clause-grows : goal.returns-in_err-sync-clause-grows
returns-in_err-sync-clause-grows g c =
    grows_by_answer Synced Missed (g.D.Disk.told c.args.disk.now) (g.D.Disk.told c.sync.new.disk) c.sync.result
    c.sync.ensures.ok c.sync.ensures.failed c.sync.ensures.memory

pub returns-in_err-opened-clause-grows : goal.returns-in_err-opened-clause-grows
returns-in_err-opened-clause-grows g c =
    let a = g.D.Disk.told c.args.disk.now in
    let b = g.D.Disk.told c.sync.new.disk in
    let d = g.D.Disk.told c.read.new.arg3 in
    let first : Grows a b = grows_by_answer Synced Missed a b c.sync.result c.sync.ensures.ok c.sync.ensures.failed c.sync.ensures.memory in
    grows_both a b d first (grows_same b d (c.requires.reads _ _ _ _ c.in_err-opened.ensures).told_is)

pub returns-in-Err-clause-grows : goal.returns-in-Err-clause-grows
returns-in-Err-clause-grows g c =
    let a = g.D.Disk.told c.args.disk.now in
    let b = g.D.Disk.told c.sync.new.disk in
    let d = g.D.Disk.told c.read.new.arg3 in
    let e = g.D.Disk.told c.repair.new.disk in
    let first : Grows a b = grows_by_answer Synced Missed a b c.sync.result c.sync.ensures.ok c.sync.ensures.failed c.sync.ensures.memory in
    grows_both a d e (grows_both a b d first (grows_same b d (c.requires.reads _ _ _ _ c.in_ok-opened.ensures).told_is)) c.in-Err.ensures.grows

pub returns-in-Ok-clause-grows : goal.returns-in-Ok-clause-grows
returns-in-Ok-clause-grows g c =
    let a = g.D.Disk.told c.args.disk.now in
    let b = g.D.Disk.told c.sync.new.disk in
    let d = g.D.Disk.told c.read.new.arg3 in
    let e = g.D.Disk.told c.repair.new.disk in
    let first : Grows a b = grows_by_answer Synced Missed a b c.sync.result c.sync.ensures.ok c.sync.ensures.failed c.sync.ensures.memory in
    grows_both a d e (grows_both a b d first (grows_same b d (c.requires.reads _ _ _ _ c.in_ok-opened.ensures).told_is)) c.in-Ok.ensures.grows

pub returns-in-Err-clause-first : goal.returns-in-Err-clause-first
returns-in-Err-clause-first g c t is =
    let checks = image_checks (g.H.Hash32.digest c.args.hash.now) (seen t) in
    let T : OpenError → Type 0 = λ e. Tells checks e in
    record { is = subst T (sym c.from.ensures) (disk-unsaid checks c.in-Err.error) }

pub returns-in-Err-clause-cause : goal.returns-in-Err-clause-cause
returns-in-Err-clause-cause g c =
    let same = ok-leaves _ _ c.in_ok-opened.opened (c.requires.reads _ _ _ _ c.in_ok-opened.ensures).cause ∙ c.in_ok-sync.ensures.cause.ok in
    let C : OpenError → Type 0 = λ e. HasOpenCause {T = Opened} (g.D.Disk.faults c.args.disk.now) (g.D.Disk.faults c.repair.new.disk) (Err e) in
    subst C (sym c.from.ensures) (cause-disk _ _ _ c.in-Err.error same c.in-Err.ensures.cause)

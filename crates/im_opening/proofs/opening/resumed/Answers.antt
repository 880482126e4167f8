use Rattle.std.proofs.Common.{◌≡◌, ℕ, length, sym, ◌∙◌, ap, subst, arith, Result, Ok, Err}
use Rattle.im_format.specs.Batches.{gate_of}
use Rattle.im_journal.specs.Holding.{AreFirst}
use Rattle.im_journal.specs.declared.ends.Ends.{Ends}
use Rattle.im_opening.specs.Cut.{WasLeft}
use Rattle.im_opening.specs.Opens.{AreFilesOpened, AreOpened, FailsToOpen, Opens}
use Rattle.im_opening.specs.Reach.{txs_of}
use Rattle.im_opening.specs.declared.errors.OpenError.{OpenError}
use Rattle.im_opening.specs.declared.reading.Opened.{Opened}
use Rattle.im_format.proofs.HeldRecords.{Has32}
use Rattle.im_opening.proofs.AheadLemmas.{resting-back}
use Rattle.im_opening.proofs.FoundLemmas.{Rests, RestsBy, rests-by, rests-with}
use Rattle.im_opening.proofs.OpensLemmas.{fails-by, fault-by, opens-by, others-by}
use Rattle.im_opening.proofs.opening.resumed.Goals as goal

pub resume-journal-requires : goal.resume-journal-requires
resume-journal-requires g c =
    let hash = c.requires.files.0 in
    let before = c.requires.files.1 in
    let opened = c.in-Ok.opened in
    let long : Has32 hash = record { long = c.requires.files.2.size } in
    let A : Result Opened OpenError → Type 0 = λ r. AreFilesOpened hash g.D.Disk.told g.D.Disk.faults before c.args.ahead r in
    let files : AreFilesOpened hash g.D.Disk.told g.D.Disk.faults before c.args.ahead (Ok opened) = subst A c.in-Ok.is c.requires.files.3 in
    let records = opened.found.records.items in
    let rests : Rests hash (g.D.Disk.told c.args.ahead) opened = rests-with hash (g.D.Disk.told before) (g.D.Disk.told c.args.ahead) opened long files.opened in
    let many : c.len-durable.result ≡ length records = omega (arith, c.len-durable.ensures, opened.found.records.ok) in
    let F : ℕ → Type 0 = λ n. AreFirst hash (txs_of records) rests.batches n opened.ends in
    record { first = (hash, txs_of records, rests.batches, subst F (sym many) rests.first, resting-back g.D.Disk.told c.into_disk-disk-2.result c.args.ahead rests.batches opened.ends c.into_disk-disk-2.ensures rests.resting) }

pub returns-clause-rests : goal.returns-clause-rests
returns-clause-rests g c hash before is_long files =
    let opened = c.in-Ok.opened in
    let long : Has32 hash = record { long = is_long.size } in
    let A : Result Opened OpenError → Type 0 = λ r. AreFilesOpened hash g.D.Disk.told g.D.Disk.faults before c.args.ahead r in
    let told : AreFilesOpened hash g.D.Disk.told g.D.Disk.faults before c.args.ahead (Ok opened) = subst A c.in-Ok.is files in
    let records = opened.found.records.items in
    let rests : Rests hash (g.D.Disk.told c.args.ahead) opened = rests-with hash (g.D.Disk.told before) (g.D.Disk.told c.args.ahead) opened long told.opened in
    let many : c.len-durable.result ≡ length records = omega (arith, c.len-durable.ensures, opened.found.records.ok) in
    let F : ℕ → Type 0 = λ n. AreFirst hash (txs_of records) rests.batches n opened.ends in
    record {
      batches = rests.batches;
      joined_is = rests.joined_is;
      rests = c.resume-journal.ensures.rests hash (txs_of records) rests.batches (subst F (sym many) rests.first)
          (resting-back g.D.Disk.told c.into_disk-disk-2.result c.args.ahead rests.batches opened.ends c.into_disk-disk-2.ensures rests.resting);
      all = c.resume-journal.ensures.given.2 ∙ many;
    }

pub returns-clause-held : goal.returns-clause-held
returns-clause-held g c hash before is_long files t history is stands =
    let opened = c.in-Ok.opened in
    let long : Has32 hash = record { long = is_long.size } in
    let A : Result Opened OpenError → Type 0 = λ r. AreFilesOpened hash g.D.Disk.told g.D.Disk.faults before c.args.ahead r in
    let told : AreFilesOpened hash g.D.Disk.told g.D.Disk.faults before c.args.ahead (Ok opened) = subst A c.in-Ok.is files in
    let records = opened.found.records.items in
    let rests : RestsBy hash history stands.batches (g.D.Disk.told c.args.ahead) opened =
    rests-by hash (g.D.Disk.told before) (g.D.Disk.told c.args.ahead) opened t history long told.opened is stands
    in
    let many : c.len-durable.result ≡ length records = omega (arith, c.len-durable.ensures, opened.found.records.ok) in
    let F : ℕ → Type 0 = λ n. AreFirst hash history stands.batches n opened.ends in
    c.resume-journal.ensures.rests hash history stands.batches (subst F (sym many) rests.first)
    (resting-back g.D.Disk.told c.into_disk-disk-2.result c.args.ahead stands.batches opened.ends c.into_disk-disk-2.ensures rests.resting)

pub returns-clause-found : goal.returns-clause-found
returns-clause-found g c hash before files =
    let opened = c.in-Ok.opened in
    let A : Result Opened OpenError → Type 0 = λ r. AreFilesOpened hash g.D.Disk.told g.D.Disk.faults before c.args.ahead r in
    let told : AreFilesOpened hash g.D.Disk.told g.D.Disk.faults before c.args.ahead (Ok opened) = subst A c.in-Ok.is files in
    told.opened.given.found

pub returns-clause-fresh : goal.returns-clause-fresh
returns-clause-fresh g c hash before is_long files = (c.resume-journal.ensures.going, (returns-clause-rests g c hash before is_long files).rests.idle)

pub returns-clause-opens : goal.returns-clause-opens
returns-clause-opens g c hash before is_long files =
    let opened = c.in-Ok.opened in
    let last = c.args.ahead in
    let long : Has32 hash = record { long = is_long.size } in
    let A : Result Opened OpenError → Type 0 = λ r. AreFilesOpened hash g.D.Disk.told g.D.Disk.faults before last r in
    let told : AreFilesOpened hash g.D.Disk.told g.D.Disk.faults before last (Ok opened) = subst A c.in-Ok.is files in
    let said : AreOpened hash (g.D.Disk.told before) (g.D.Disk.told last) opened = told.opened in
    let txs = txs_of opened.found.records.items in
    let O : g.row.D.Denot → Type 0 = λ d. Opens g.D.Disk.told g.D.Disk.faults hash before d (gate_of opened.batches) txs in
    let G : ℕ → Type 0 = λ n. Opens g.D.Disk.told g.D.Disk.faults hash before c.resume-journal.result.disk n txs in
    let opens = opens-by g.D.Disk.told g.D.Disk.faults hash before last opened long said told.grows (told.cause.others (λ e. cc)) in
    let gate : gate_of opened.batches ≡ c.resume-journal.result.ends.commits =
    sym (ap (λ (e : Ends). e.commits) c.resume-journal.ensures.given.1 ∙ said.given.ends.gate) in
    subst G gate (subst O (sym (c.resume-journal.ensures.given.0 ∙ c.into_disk-disk-2.ensures)) opens)

pub returns-in-Err-clause-failed : goal.returns-in-Err-clause-failed
returns-in-Err-clause-failed g c hash before is_long files =
    let long : Has32 hash = record { long = is_long.size } in
    let last = c.args.ahead in
    let error = c.in-Err.error in
    let A : Result Opened OpenError → Type 0 = λ r. AreFilesOpened hash g.D.Disk.told g.D.Disk.faults before last r in
    let told : AreFilesOpened hash g.D.Disk.told g.D.Disk.faults before last (Err error) = subst A c.in-Err.is files in
    let L : g.row.D.Denot → Type 0 = λ d. FailsToOpen g.D.Disk.told g.D.Disk.faults hash before d error in
    subst L (sym c.into_disk-disk.ensures)
    (fails-by g.D.Disk.told g.D.Disk.faults hash before last error long (λ t is. (told.first t is).is) told.moments told.left told.grows
    (fault-by _ _ _ error told.cause) (others-by _ _ _ error told.cause))

pub returns-in-Err-clause-left : goal.returns-in-Err-clause-left
returns-in-Err-clause-left g c hash before files t is =
    let last = c.args.ahead in
    let error = c.in-Err.error in
    let A : Result Opened OpenError → Type 0 = λ r. AreFilesOpened hash g.D.Disk.told g.D.Disk.faults before last r in
    let told : AreFilesOpened hash g.D.Disk.told g.D.Disk.faults before last (Err error) = subst A c.in-Err.is files in
    let L : g.row.D.Denot → Type 0 = λ d. WasLeft hash error t (g.D.Disk.told d) in
    subst L (sym c.into_disk-disk.ensures) (told.left t is)

-- A store was opened and served: what a run says of it, by how it ended.
use Rattle.std.proofs.Common.{◌≡◌, ◌≤◌, ◌+◌, ℤ, ℕ, List, ap, subst, sym, ◌∙◌, Bool, Option, Some, Result, Err}
use Rattle.im_dealing.specs.declared.errors.LineError.{LineError}
use Rattle.im_dealing.specs.declared.errors.LineError.TheVariants as fails
use Rattle.im_dealing.specs.declared.errors.Stopped.{Stopped}
use Rattle.im_dealing.specs.declared.errors.Stopped.TheVariants as stops
use Rattle.im_digest.specs.Digests.{Hash}
use Rattle.im_disk.specs.Disk.{Told, seen}
use Rattle.im_disk.specs.Grown.{Grows}
use Rattle.im_counts.specs.Counts.{Rose}
use Rattle.im_format.specs.Standing.{Stands}
use Rattle.im_format.specs.declared.damages.Damage.{Damage}
use Rattle.im_model.specs.declared.transactions.Transaction.{Transaction}
use Rattle.im_opening.specs.Cut.{SyncsAtMost}
use Rattle.im_script.specs.declared.commands.Line.{Line}
use Rattle.im_session.specs.Served.{Serves}
use Rattle.im_store.specs.Names.{Naming}
use Rattle.im_store_opening.specs.Opened.{OpensAs}
use Rattle.im_table.specs.Histories.{history_of}
use Rattle.im_words.specs.declared.Link.{Link}
use Rattle.im_status.specs.Scripts.{IsGiven}
use Rattle.im_status.specs.Statuses.{EndsWriting, status_behind, status_for}
use Rattle.im_status.specs.declared.status.Status.{Status}
use Rattle.im_status.specs.declared.status.Status.TheVariants as the
use Rattle.im_app.specs.Runs.{HasOneSession, KeepsFound, WritesFront, WritesPart, WritesReport, has_linker}
use Rattle.im_app.proofs.ReportLemmas.{as-opened, device-alone, device-rose, device-same, front-report, grows, keeps, part-report, sink-rose, sink-same, whole-report, writes-once}
use Rattle.im_app.proofs.RunLemmas.{done-end, ends-writing, line-end, no-unkept, undamaged, unstopped, write-end}

-- A disk was opened as a store under this hash, with so many logs and this clock, and the phases of a script were served over it.
pub record RanOver {D : Type 0} (told : D → Option Told) (faults : D → ℕ) (hash : Hash) (time : Option ℤ) (logs : ℕ) (link : Link) (lines : List (List Line)) (before : D) (times_before : Option (List ℤ))
    (written_before written_now : Option (List ℕ)) (sink_before sink_now : ℕ) (status : Status) (disk : D) (constant : Option ℤ) (times_now : Option (List ℤ)) : Type 0 where
  pub n : Naming
  pub digest_is : n.digest ≡ hash
  pub time_is : n.time ≡ time
  pub logs_are : n.logs ≡ logs
  pub given_is : n.given ≡ times_before
  pub opens : OpensAs (told before) (faults before) n
  pub end : Result Unit Stopped
  pub status_is : status ≡ status_behind end
  pub serves : Serves told faults (has_linker link) n lines written_before written_now sink_before sink_now disk constant times_now end

-- by what opening and serving answered
pub ran-over : {D : Type 0} (told : D → Option Told) (faults : D → ℕ) {hash : Hash} {time : Option ℤ} {logs : ℕ} (link : Link) {lines : List (List Line)} {before : D} {times_before : Option (List ℤ)}
    {written_before written_now : Option (List ℕ)} {sink_before sink_now : ℕ} {status : Status} {disk : D} {constant : Option ℤ} {times_now : Option (List ℤ)} (n : Naming) (links : Bool)
    → links ≡ has_linker link → OpensAs (told before) (faults before) n → (n.digest ≡ hash) × (n.logs ≡ logs) → (n.time ≡ time) × (n.given ≡ times_before)
    → (end : Result Unit Stopped) × (status ≡ status_behind end) × Serves told faults links n lines written_before written_now sink_before sink_now disk constant times_now end
    → RanOver told faults hash time logs link lines before times_before written_before written_now sink_before sink_now status disk constant times_now
ran-over {D} told faults {hash} {time} {logs} link {lines} {before} {times_before} {written_before} {written_now} {sink_before} {sink_now} {status} {disk} {constant} {times_now} n links same opens given clock served = record {
  n = n;
  digest_is = given.0;
  time_is = clock.0;
  logs_are = given.1;
  given_is = clock.1;
  opens = opens;
  end = served.0;
  status_is = served.1;
  serves = subst (λ (b : Bool). Serves told faults b n lines written_before written_now sink_before sink_now disk constant times_now served.0) same served.2;
}

module _ {D : Type 0} {told : D → Option Told} {faults : D → ℕ} {hash : Hash} {time : Option ℤ} {logs : ℕ} {link : Link} {lines : List (List Line)} {before : D} {times_before : Option (List ℤ)}
    {written_before written_now : Option (List ℕ)} {sink_before sink_now : ℕ} {status : Status} {disk : D} {constant : Option ℤ} {times_now : Option (List ℤ)}
    (r : RanOver told faults hash time logs link lines before times_before written_before written_now sink_before sink_now status disk constant times_now) where
  -- how the sessions ended, by the status
  ended : (other : Status) → status ≡ other → status_behind r.end ≡ other
  ended other e = sym r.status_is ∙ e

  pub ran-ends : EndsWriting status
  ran-ends = subst EndsWriting (sym r.status_is) (ends-writing r.end)

  pub ran-undamaged : (damage : Damage) → status ≡ the.Damaged damage → ⊥
  ran-undamaged damage e = undamaged r.end damage (ended (the.Damaged damage) e)

  pub ran-no-unkept : (tx : ℕ) → status ≡ the.SqlKept tx → ⊥
  ran-no-unkept tx e = no-unkept r.end tx (ended (the.SqlKept tx) e)

  pub ran-report : (octets : List ℕ) → IsGiven octets lines → status ≡ the.Ok
      → WritesReport hash time logs link (Some octets) (told before) (told disk) times_before times_now written_before written_now sink_before sink_now
  ran-report octets reads e =
      as-opened (λ h t l g. WritesReport h t l link (Some octets) (told before) (told disk) g times_now written_before written_now sink_before sink_now) r.n hash time logs times_before
      r.digest_is r.time_is r.logs_are r.given_is
      (whole-report told faults link r.n lines (told before) (faults before) written_before written_now sink_before sink_now disk constant times_now r.end r.opens r.serves octets reads
      (done-end r.end (ended the.Ok e)))

  pub ran-part : (octets : List ℕ) → IsGiven octets lines → status ≡ the.WriteFault
      → WritesPart hash time logs link (Some octets) (told before) (told disk) times_before times_now written_before written_now sink_before sink_now
  ran-part octets reads e =
      as-opened (λ h t l g. WritesPart h t l link (Some octets) (told before) (told disk) g times_now written_before written_now sink_before sink_now) r.n hash time logs times_before
      r.digest_is r.time_is r.logs_are r.given_is
      (part-report told faults link r.n lines (told before) (faults before) written_before written_now sink_before sink_now disk constant times_now r.end r.opens r.serves octets reads
      (write-end r.end (ended the.WriteFault e)))

  pub ran-front : (octets : List ℕ) (why : LineError) → IsGiven octets lines → status ≡ status_for why
      → WritesFront hash time logs link why (Some octets) (told before) (told disk) times_before times_now written_before written_now sink_before sink_now
  ran-front octets why reads e =
      as-opened (λ h t l g. WritesFront h t l link why (Some octets) (told before) (told disk) g times_now written_before written_now sink_before sink_now) r.n hash time logs times_before
      r.digest_is r.time_is r.logs_are r.given_is
      (front-report told faults link r.n lines (told before) (faults before) written_before written_now sink_before sink_now disk constant times_now r.end r.opens r.serves octets reads
      why (line-end why r.end (ended (status_for why) e)))

  pub ran-keeps : (t : Told) (found : List Transaction) → told before ≡ Some t → Stands hash (seen t) found → KeepsFound hash found t (told disk)
  ran-keeps t found is there =
      subst (λ (h : Hash). KeepsFound h found t (told disk)) r.digest_is
      (keeps told faults link r.n lines (told before) (faults before) written_before written_now sink_before sink_now disk constant times_now r.end r.opens r.serves
      t found is (subst (λ (h : Hash). Stands h (seen t) found) (sym r.digest_is) there))

  pub ran-stands : (t : Told) → told before ≡ Some t → Stands hash (seen t) (history_of r.n.found)
  ran-stands t is = subst (λ (h : Hash). Stands h (seen t) (history_of r.n.found)) r.digest_is (r.opens.stands t is)

  pub ran-unharmed : (t : Told) → told before ≡ Some t → ((found : List Transaction) → Stands hash (seen t) found → ⊥) → SyncsAtMost t (told disk)
  ran-unharmed t is none = absurd (none (history_of r.n.found) (ran-stands t is))

  pub ran-grows : Grows (told before) (told disk)
  ran-grows =
      grows told faults link r.n lines (told before) (faults before) written_before written_now sink_before sink_now disk constant times_now r.end r.opens r.serves

  pub ran-device : status ≡ the.DiskFault → Rose (faults before) (faults disk)
  ran-device e =
      device-rose told faults link r.n lines (told before) (faults before) written_before written_now sink_before sink_now disk constant times_now r.end r.opens r.serves
      (line-end fails.DiskFault r.end (ended the.DiskFault e))

  pub ran-disk : (status ≡ the.DiskFault → ⊥) → (status ≡ the.Memory → ⊥) → faults disk ≡ faults before
  ran-disk no_fault no_want =
      device-same told faults link r.n lines (told before) (faults before) written_before written_now sink_before sink_now disk constant times_now r.end r.opens r.serves
      (unstopped r.end (λ is. no_fault (r.status_is ∙ is)) (λ is. no_want (r.status_is ∙ is)))

  pub ran-alone : status ≡ the.Memory → HasOneSession lines → faults disk ≡ faults before
  ran-alone e one =
      device-alone told faults link r.n lines (told before) (faults before) written_before written_now sink_before sink_now disk constant times_now r.end r.opens r.serves one other
    where
      other : r.end ≡ Err (stops.Line fails.DiskFault) → ⊥
      other is =
          let fault : status_behind r.end ≡ the.DiskFault = ap status_behind is in
          let want : status_behind r.end ≡ the.Memory = ended the.Memory e in
          cc (fault, want)

  pub ran-write : status ≡ the.WriteFault → Rose sink_before sink_now
  ran-write e =
      sink-rose told faults link r.n lines (told before) (faults before) written_before written_now sink_before sink_now disk constant times_now r.end r.opens r.serves
      (write-end r.end (ended the.WriteFault e))

  pub ran-sink : status ≡ the.Ok → sink_now ≡ sink_before
  ran-sink e =
      sink-same told faults link r.n lines (told before) (faults before) written_before written_now sink_before sink_now disk constant times_now r.end r.opens r.serves
      (done-end r.end (ended the.Ok e))

  pub ran-once : sink_now ≤ sink_before + 1
  ran-once = writes-once r.serves.phases written_before written_now sink_before sink_now r.end r.serves.wrote

  pub ran-constant : constant ≡ time
  ran-constant = r.serves.same ∙ r.time_is

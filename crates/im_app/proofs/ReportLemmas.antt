-- What sessions made of a script over an opened store is what a run of it tells.
use Rattle.std.proofs.Common.{◌≡◌, ◌≤◌, ◌+◌, ℤ, ℕ, suc, List, [], ◌∷◌, ◌++◌, length, get_or, map, take, drop, refl, arith, ap, subst, sym, ◌∙◌, inl, inr, ◌⊎◌, IfSome, Option, Some, Result, Ok, Err}
use Rattle.std.proofs.lemmas.List.{length-take}
use Rattle.std.proofs.lemmas.List.Elements.{All-cons, All-nil}
use Rattle.std.specs.Option.{option_map}
use Rattle.std.specs.Prelude.{All}
use Rattle.im_dealing.specs.Scripts.{FailsIn, WritesPhases}
use Rattle.im_dealing.specs.declared.errors.LineError.{LineError}
use Rattle.im_dealing.specs.declared.errors.LineError.TheVariants as fails
use Rattle.im_dealing.specs.declared.errors.Stopped.{Stopped}
use Rattle.im_dealing.specs.declared.errors.Stopped.TheVariants as stops
use Rattle.im_octet.proofs.Common.{all-left, all-right}
use Rattle.im_digest.specs.Digests.{Hash}
use Rattle.im_disk.specs.Disk.{Files, Told, after, seen}
use Rattle.im_disk.specs.Grown.{Grows, after_all}
use Rattle.im_disk.specs.Moments.{Leaves}
use Rattle.im_disk.specs.declared.calls.Call.{Call}
use Rattle.im_disk.specs.declared.calls.Call.TheVariants.{Synced}
use Rattle.im_disk.proofs.Growing.{grows_both, grows_one}
use Rattle.im_disk.proofs.Leaving.{leaves_both, leaves_weaker}
use Rattle.im_counts.specs.Counts.{Rose}
use Rattle.im_format.specs.Batches.{gate_of}
use Rattle.im_format.specs.Standing.{Stands, StandsFrom}
use Rattle.im_model.specs.declared.transactions.Transaction.{Transaction}
use Rattle.im_text.specs.Fields.{IsSession}
use Rattle.im_opening.specs.Cut.{IsOpenedBy}
use Rattle.im_script.specs.Script.{lines_of}
use Rattle.im_script.specs.declared.commands.Line.{Line}
use Rattle.im_report.specs.Outcomes.{Outcome, line_in}
use Rattle.im_report.specs.Sessions.{AreOfOne, lines_in}
use Rattle.im_accept.specs.Taken.{HaveSessions}
use Rattle.im_accept.proofs.CutLemmas.{script-sessions}
use Rattle.im_accept.proofs.SessionLemmas.{phases-taken, phases-texts}
use Rattle.im_seated_journal.specs.Calls.{MakesBatches, MakesPart, StandsPut, calls_of_batch, calls_of_batches}
use Rattle.im_journal.specs.Made.{failed_call}
use Rattle.im_seated_journal.specs.Seats.{RoseBy}
use Rattle.im_session.specs.Served.{AskedFor, HasTime, Serves}
use Rattle.im_store.specs.Names.{Naming}
use Rattle.im_store_opening.specs.Opened.{OpensAs}
use Rattle.im_table.specs.Histories.{history_of}
use Rattle.im_table.proofs.HistoryLemmas.{history_length}
use Rattle.im_words.specs.declared.Link.{Link}
use Rattle.im_status.specs.Scripts.{IsGiven}
use Rattle.im_app.specs.Runs.{HasOneSession, IsReport, KeepsFound, WritesFront, WritesPart, WritesReport, has_linker}
use Rattle.im_app.proofs.FoundLemmas.{served-keeps}
use Rattle.im_app.proofs.RunLemmas.{if-told}

-- what holds of each line of a script holds of those of each phase that was run
phases-each : (P : Line → Type 0) (phases : List (List Outcome)) (unrun : List (List Line)) → All P (lines_of (lines_in phases ++ unrun)) → All (λ outcomes. All P (map line_in outcomes)) phases
phases-each P [] unrun all = All-nil (λ (outcomes : List Outcome). All P (map line_in outcomes))
phases-each P (outcomes ∷ phases) unrun all =
    All-cons (λ (os : List Outcome). All P (map line_in os)) outcomes phases (all-left P (map line_in outcomes) (lines_of (lines_in phases ++ unrun)) all)
    (phases-each P phases unrun (all-right P (map line_in outcomes) (lines_of (lines_in phases ++ unrun)) all))

lines-each : (P : Line → Type 0) (outcomes : List Outcome) → All P (map line_in outcomes) → All (λ o. P o.line) outcomes
lines-each P [] all = All-nil (λ (o : Outcome). P o.line)
lines-each P (o ∷ outcomes) all = All-cons (λ (x : Outcome). P x.line) o outcomes (all 0 o.line (omega arith)) (lines-each P outcomes (λ i d lt. all (suc i) d (omega (arith, lt))))

-- the phases of a script of one session are of one
pub one-session : (script : List (List Line)) (phases : List (List Outcome)) (unrun : List (List Line)) → script ≡ lines_in phases ++ unrun → HasOneSession script → AreOfOne phases
one-session script phases unrun is one =
    let P : Line → Type 0 = λ line. line.session ≡ one.0 in
    let each = phases-each P phases unrun (subst (λ (ls : List (List Line)). All P (lines_of ls)) is one.1) in
    (one.0, λ i d lt. lines-each P (get_or phases i d) (each i d lt))

-- a disk got the calls of a batch as far as they came
part-grows : (calls : List Call) (before now : Option Told) → MakesPart calls before now → Grows before now
part-grows calls before now part = go part.3
  where
    go : (now ≡ option_map (after_all part.0) before) ⊎ ((call : Call) × (rest : List Call) × (part.1 ≡ call ∷ rest) × (now ≡ option_map (after (failed_call call)) (option_map (after_all part.0) before))) → Grows before now
    go (inl made) = (part.0, made)
    go (inr broken) =
        grows_both before (option_map (after_all part.0) before) now (part.0, refl) (grows_one (failed_call broken.0) (option_map (after_all part.0) before) now broken.3)

batches-grow : (hash : Hash) (w n durable : ℕ) (history : List Transaction) (before now : Option Told) → MakesBatches hash w n durable history before now → Grows before now
batches-grow hash w n durable history before now m =
    let calls : List Call = calls_of_batches m.first m.more in
    grows_both before (option_map (after_all calls) before) now (calls, refl) (part-grows (calls_of_batch (m.first ++ m.more) m.last) (option_map (after_all calls) before) now m.part)

-- a count that rose by one rose
pub rose-one : (before now : ℕ) → RoseBy before now 1 → Rose before now
rose-one before now (inl more) = omega (arith, more)
rose-one before now (inr full) = omega (arith, full)

-- the sink's count rises by one at most
pub writes-once : (phases : List (List Outcome)) (before now : Option (List ℕ)) (faults_before faults_now : ℕ) (end : Result Unit Stopped) → WritesPhases phases before now faults_before faults_now end → faults_now ≤ faults_before + 1
writes-once phases before now faults_before faults_now (Ok x) w = omega (arith, w.2)
writes-once phases before now faults_before faults_now (Err (stops.Line why)) w = elim w.6.1 [
  | inl whole ↦ omega (arith, whole.1)
  | inr less ↦ less.1.1
]
writes-once phases before now faults_before faults_now (Err stops.Write) w = w.6.2.1

-- what stands for the history that was found stands for the first of all transactions
found-stands : (hash : Hash) (found history : List Transaction) → take (length found) history ≡ found → (image : Files) → Stands hash image found → StandsFrom hash (length found) history image
found-stands hash found history begins image s =
    let size : length found ≤ length history = omega (arith, ap length begins, length-take (length found) history) in
    record {
      count = length found;
      no_fewer = omega arith;
      no_more = size;
      stands = subst (λ (h : List Transaction). Stands hash image h) (sym begins) s;
    }

-- what is said of a store's own hash, time, logs and times is said of those that it was opened with
pub as-opened : (P : Hash → Option ℤ → ℕ → Option (List ℤ) → Type 0) (n : Naming) (hash : Hash) (time : Option ℤ) (logs : ℕ) (given : Option (List ℤ)) → n.digest ≡ hash → n.time ≡ time → n.logs ≡ logs → n.given ≡ given
    → P n.digest n.time n.logs n.given → P hash time logs given
as-opened P n hash time logs given digest_is time_is logs_are given_is p =
    subst (λ (x : Option (List ℤ)). P hash time logs x) given_is
    (subst (λ (x : ℕ). P hash time x n.given) logs_are
    (subst (λ (x : Option ℤ). P hash x n.logs n.given) time_is (subst (λ (x : Hash). P x n.time n.logs n.given) digest_is p)))

module _ {D : Type 0} (told : D → Option Told) (faults : D → ℕ) (link : Link) (n : Naming) (lines : List (List Line)) (before : Option Told) (count : ℕ)
    (written_before written_now : Option (List ℕ)) (sink_before sink_now : ℕ) (disk : D) (constant : Option ℤ) (given : Option (List ℤ)) (end : Result Unit Stopped)
    (o : OpensAs before count n) (s : Serves told faults (has_linker link) n lines written_before written_now sink_before sink_now disk constant given end) where
  -- what was found, and how much of it
  abbrev found : List Transaction
  found = history_of n.found

  same-size : length n.found ≡ length found
  same-size = sym (history_length n.found)

  -- the moments of opening, and then those of the sessions
  pub moments-at : (t : Told) → before ≡ Some t → Leaves (StandsFrom n.digest (length found) s.history) (Some (after Synced t)) (told disk)
  moments-at t is =
      let P : Files → Type 0 = StandsFrom n.digest (length found) s.history in
      leaves_both P (Some (after Synced t)) n.synced (told disk)
      (leaves_weaker (λ image. Stands n.digest image found) P (found-stands n.digest found s.history s.report.begins) (Some (after Synced t)) n.synced (o.moments t is))
      (subst (λ (k : ℕ). Leaves (StandsFrom n.digest k s.history) n.synced (told disk)) same-size s.moments)

  -- so the history that was found is kept at each of them
  pub keeps : (t : Told) (other : List Transaction) → before ≡ Some t → Stands n.digest (seen t) other → KeepsFound n.digest other t (told disk)
  keeps t other is there =
      subst (λ (h : List Transaction). KeepsFound n.digest h t (told disk)) (o.one t other is there)
      (served-keeps n.digest found s.history t (told disk) s.report.begins (moments-at t is))

  pub grows : Grows before (told disk)
  grows = grows_both before n.synced (told disk) o.grows (batches-grow n.digest n.logs (length n.found) s.durable s.history n.synced (told disk) s.calls)

  -- the counts of the disk
  pub device-rose : end ≡ Err (stops.Line fails.DiskFault) → Rose count (faults disk)
  device-rose is = rose-one count (faults disk) (subst (λ (k : ℕ). RoseBy k (faults disk) 1) o.same (s.fault is))

  pub device-same : ((why : LineError) → end ≡ Err (stops.Line why) → ⊥) → faults disk ≡ count
  device-same other = s.unharmed other ∙ o.same

  pub device-alone : HasOneSession lines → (end ≡ Err (stops.Line fails.DiskFault) → ⊥) → faults disk ≡ count
  device-alone one other = s.unharmed_alone (one-session lines s.phases s.unrun s.script_is one) other ∙ o.same

  -- the sink's
  pub sink-rose : end ≡ Err stops.Write → Rose sink_before sink_now
  sink-rose is = let w = subst (λ (e : Result Unit Stopped). WritesPhases s.phases written_before written_now sink_before sink_now e) is s.wrote in w.6.2.0

  pub sink-same : end ≡ Ok tt → sink_now ≡ sink_before
  sink-same is = let w = subst (λ (e : Result Unit Stopped). WritesPhases s.phases written_before written_now sink_before sink_now e) is s.wrote in w.2

  -- the lines of each phase have sessions' names
  named : (octets : List ℕ) (reads : IsGiven octets lines) → All (λ outcomes. HaveSessions (map line_in outcomes)) s.phases
  named octets reads =
      phases-each (λ (line : Line). IsSession line.session) s.phases s.unrun
      (subst (λ (ls : List (List Line)). HaveSessions (lines_of ls)) s.script_is (script-sessions octets lines reads.read))

  made : MakesBatches n.digest n.logs (length found) s.durable s.history n.synced (told disk)
  made = subst (λ (k : ℕ). MakesBatches n.digest n.logs k s.durable s.history n.synced (told disk)) same-size s.calls

  pub report-of : (octets : List ℕ) (reads : IsGiven octets lines) → IsReport n.digest n.time n.logs link octets before (told disk) n.given given
  report-of octets reads = record {
    lines = lines;
    given = reads;
    found = found;
    found_is = if-told before (λ t. Stands n.digest (seen t) found) o.stands;
    phases = s.phases;
    unrun = s.unrun;
    lines_are = s.script_is;
    history = s.history;
    report = s.report;
    kept = s.kept;
    timed = subst (λ (k : ℕ). All (HasTime n.time) (drop k s.history)) same-size s.timed;
    texts = phases-texts n.digest (has_linker link) found s.history s.phases s.report (named octets reads);
    taken = phases-taken n.digest (has_linker link) found s.history s.phases s.report (named octets reads) s.again;
    asked = subst (λ (k : ℕ). AskedFor (drop k s.history) n.given given) same-size s.asked;
    durable = s.durable;
    within = s.within;
    told_durable = s.told_durable;
    images = s.images;
    moments = if-told before (λ t. Leaves (StandsFrom n.digest (length found) s.history) (Some (after Synced t)) (told disk)) moments-at;
    calls = record {
      opened = n.synced;
      sessions = made;
      opening = if-told before (λ t. IsOpenedBy (gate_of (length made.first)) t n.synced) (λ t is. o.calls t is made.first made.held);
    };
  }

  -- where no line stopped the script what reads give stands for the whole history
  put-here : ((why : LineError) → end ≡ Err (stops.Line why) → ⊥) → IfSome (told disk) (λ t. StandsPut n.digest n.logs (length found) s.history (seen t))
  put-here other = subst (λ (k : ℕ). IfSome (told disk) (λ t. StandsPut n.digest n.logs k s.history (seen t))) same-size (s.here other)

  pub whole-report : (octets : List ℕ) (reads : IsGiven octets lines) → end ≡ Ok tt → WritesReport n.digest n.time n.logs link (Some octets) before (told disk) n.given given written_before written_now sink_before sink_now
  unfolding report-of
  whole-report octets reads is =
      let other : (why : LineError) → end ≡ Err (stops.Line why) → ⊥ = λ why stopped. cc (is, stopped) in
      record {
        script = octets;
        script_is = refl;
        report = report-of octets reads;
        all = s.all is;
        wrote = subst (λ (e : Result Unit Stopped). WritesPhases s.phases written_before written_now sink_before sink_now e) is s.wrote;
        whole = s.whole other;
        here = put-here other;
      }

  pub part-report : (octets : List ℕ) (reads : IsGiven octets lines) → end ≡ Err stops.Write → WritesPart n.digest n.time n.logs link (Some octets) before (told disk) n.given given written_before written_now sink_before sink_now
  unfolding report-of
  part-report octets reads is =
      let other : (why : LineError) → end ≡ Err (stops.Line why) → ⊥ = λ why stopped. cc (is, stopped) in
      record {
        script = octets;
        script_is = refl;
        report = report-of octets reads;
        wrote = subst (λ (e : Result Unit Stopped). WritesPhases s.phases written_before written_now sink_before sink_now e) is s.wrote;
        whole = s.whole other;
        here = put-here other;
      }

  pub front-report : (octets : List ℕ) (reads : IsGiven octets lines) (why : LineError) → end ≡ Err (stops.Line why)
      → WritesFront n.digest n.time n.logs link why (Some octets) before (told disk) n.given given written_before written_now sink_before sink_now
  unfolding report-of
  front-report octets reads why is = record {
    script = octets;
    script_is = refl;
    report = report-of octets reads;
    wrote = subst (λ (e : Result Unit Stopped). WritesPhases s.phases written_before written_now sink_before sink_now e) is s.wrote;
    failed = λ fault. subst (λ (k : ℕ). FailsIn s.history k s.phases) same-size (s.failed (is ∙ ap (λ (w : LineError). Err (stops.Line w)) fault));
  }

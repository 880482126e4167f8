-- What a script came to once the store was closed.
use Rattle.std.proofs.Common.{◌≡◌, inl, inr, ℕ, zero, suc, ◌+◌, ◌-◌, ◌<◌, ◌≤◌, ◌++◌, ℤ, List, [], ◌∷◌, length, map, drop, Bool, true, false, Option, Some, None, Result, Ok, Err, refl, ap, sym, ◌∙◌, subst, arith, get_or}
use Rattle.std.proofs.lemmas.Bool.{cases_lt}
use Rattle.std.proofs.lemmas.List.Elements.{All-push}
use Rattle.std.proofs.lemmas.List.FromFn.{get_or-range_with_len, length-range_with_len}
use Rattle.std.proofs.lemmas.List.Sums.{sum_by-cons}
use Rattle.std.specs.List.{flat_map, range_with_len}
use Rattle.std.specs.Prelude.{All, IfSome}
use Rattle.im_dealing.proofs.ReportLemmas.{report_of}
use Rattle.im_dealing.proofs.SoFarLemmas.{numbers_known}
use Rattle.im_dealing.specs.Lines.{MayBecome}
use Rattle.im_dealing.specs.Scripts.{FailsIn, RunsPhases, WritesPhases}
use Rattle.im_dealing.specs.declared.errors.LineError.{LineError}
use Rattle.im_dealing.specs.declared.errors.Stopped.{Stopped}
use Rattle.im_dealing.specs.declared.errors.Stopped.TheVariants as stops
use Rattle.im_disk.specs.Disk.{Told}
use Rattle.im_edge.specs.Clocks.{AddsTimes}
use Rattle.im_model.specs.declared.transactions.Transaction.{Transaction}
use Rattle.im_report.proofs.OutcomeLemmas.{times_all}
use Rattle.im_report.proofs.RangeLemmas.{times_all_of}
use Rattle.im_report.specs.Outcomes.{Outcome, numbers_in}
use Rattle.im_report.specs.Sessions.{AreAnswered, AreOfOne, SessionsReport}
use Rattle.im_script.specs.declared.commands.Line.{Line}
use Rattle.im_seated_journal.specs.Seats.{RoseBy}
use Rattle.im_session.specs.Served.{HasTime, Serves}
use Rattle.im_sqllaw.specs.Law.{KeepsSql}
use Rattle.im_sqlmodel.specs.Kept.{IsSqlKept}
use Rattle.im_store.specs.Closing.{AreAll, ClosesStore, leaves_linked, own_count, weight_in}
use Rattle.im_store.specs.Names.{Naming}
use Rattle.im_table.proofs.HistoryLemmas.{history_length}
use Rattle.im_table.specs.Histories.{history_of}
use Rattle.im_table.specs.Known.{KnownPass}
use Rattle.im_table.specs.Views.{placed_by}
use Rattle.im_model.specs.Counts.{times}
use Rattle.im_table.specs.declared.items.LogItem.{LogItem}

-- ---- what was written tells what was answered

written_answered : (phases : List (List Outcome)) (before now : Option (List ℕ)) (faults_before faults_now : ℕ) (end : Result Unit Stopped) → WritesPhases phases before now faults_before faults_now end
    → ((why : LineError) → end ≡ Err (stops.Line why) → ⊥) → All AreAnswered phases
written_answered phases before now faults_before faults_now (Ok x) w other = w.0
written_answered phases before now faults_before faults_now (Err (stops.Line why)) w other = absurd (other why refl)
written_answered phases before now faults_before faults_now (Err stops.Write) w other =
    subst (All AreAnswered) (sym w.3) (All-push AreAnswered w.0 w.1 w.4 w.6.0)

-- ---- times

txs_timed : (t : ℤ) (items : List LogItem) → All (λ ts. ts ≡ t) (map (λ (x : LogItem). x.tx.ts) items) → All (λ (tx : Transaction). tx.ts ≡ t) (history_of items)
txs_timed t [] all = λ i d lt. absurd (omega arith)
txs_timed t (x ∷ items) all = cons (txs_timed t items (λ i d lt. all (suc i) d (omega (arith, lt))))
  where
    cons : All (λ (tx : Transaction). tx.ts ≡ t) (history_of items) → All (λ (tx : Transaction). tx.ts ≡ t) (x.tx ∷ history_of items)
    cons rest zero d lt = all 0 x.tx.ts (omega arith)
    cons rest (suc i) d lt = rest i d (omega (arith, lt))

drop_history : (k : ℕ) (items : List LogItem) → drop k (history_of items) ≡ history_of (drop k items)
drop_history zero items = refl
drop_history (suc k) [] = refl
drop_history (suc k) (x ∷ items) = drop_history k items

drop_timed : (time : Option ℤ) (k : ℕ) (items : List LogItem) → IfSome time (λ t. All (λ ts. ts ≡ t) (map (λ (x : LogItem). x.tx.ts) (drop k items))) → All (HasTime time) (drop k (history_of items))
drop_timed None k items timed = λ i d lt. tt
drop_timed (Some t) k items timed = subst (All (λ (tx : Transaction). tx.ts ≡ t)) (sym (drop_history k items)) (txs_timed t (drop k items) timed)

times_same : (items : List LogItem) → map (λ (x : LogItem). x.tx.ts) items ≡ map (λ (tx : Transaction). tx.ts) (history_of items)
times_same [] = refl
times_same (x ∷ items) = ap (λ (l : List ℤ). x.tx.ts ∷ l) (times_same items)

-- a count that rose by so many rose by fewer
rose_less : (before now count few : ℕ) → few ≤ count → RoseBy before now count → RoseBy before now few
rose_less before now count few le (inl rose) = inl (omega (arith, le, rose))
rose_less before now count few le (inr full) = inr full

-- ---- the script, once the store was closed

module _ {D : Type 0} (tells : D → Option Told) (counts : D → ℕ) (links : Bool) (n : Naming) (first now : KnownPass) (script : List (List Line)) (before written : Option (List ℕ)) (faults_before faults_now : ℕ)
    (disk : D) (constant : Option ℤ) (given : Option (List ℤ)) (end : Result Unit Stopped)
    (r : RunsPhases n.digest links first now script before written faults_before faults_now end)
    (c : ClosesStore KeepsSql tells counts n.digest n.logs n.found n.synced n.faults n.time n.given (now ∷ []) disk constant given)
    (durable : first.view.least.durable ≡ length n.found) (linked : first.view.least.linked ≡ length n.found)
    (none : first.view.own ≡ []) (unlinked : first.view.leaves ≡ 0) (untold : first.view.faults ≡ 0)
    (weight : now.view.weight ≡ 1048576) (marked : All (λ item. item.found ≡ true) n.found) (keeps : IsSqlKept (history_of c.items)) where
  all_weight : AreAll (now ∷ [])
  all_weight = omega (arith, weight, sum_by-cons weight_in now [])

  known : now.view.least.durable ≤ c.durable
  known = c.known 0 now (omega arith)

  leaves_known : now.view.least.linked ≤ c.linked
  leaves_known = c.raised 0 now (omega arith)

  faults_known : now.view.least.failed ≤ c.failures
  faults_known = c.failed 0 now (omega arith)

  may : MayBecome now c.items
  may = record { begins = c.begins 0 now (omega arith); enough = omega (arith, known, c.within); history = c.history }

  owned : (k : ℕ) → times k now.view.own ≡ times k (placed_by c.items)
  owned k =
      let all = c.owned all_weight k in
      omega (arith, all, sum_by-cons (own_count k) now [])

  -- where one session ran alone, and no linker, it knows of each leaf
  raised : links ≡ false → AreOfOne r.phases → now.view.least.linked ≡ length n.found + now.view.leaves
  raised off one =
      let ran = r.so_far.alone off one in
      let slack : first.view.least.linked + ran.0 ≤ now.view.least.linked = ran.2.slack in
      let grew : now.view.leaves ≡ first.view.leaves + ran.0 = ran.1 in
      let all = c.grown all_weight in
      omega (arith, slack, grew, unlinked, linked, all, sum_by-cons leaves_linked now [], leaves_known)

  report : SessionsReport n.digest links (history_of n.found) (history_of c.items) r.phases
  report = report_of n.digest links first now r.ran r.phases n.found c.items r.so_far durable linked none unlinked marked c.goes_on may owned raised

  -- the numbers of what was placed
  abbrev start : ℕ
  start = length (history_of n.found)

  abbrev range : List ℕ
  range = range_with_len (start + 1) (length (history_of c.items) - start)

  -- where all lines were answered, all that was placed is durable
  each_durable : All AreAnswered r.phases → All (λ k. k ≤ now.view.least.durable) range
  each_durable all =
      times_all_of (λ k. k ≤ now.view.least.durable) range (flat_map numbers_in (flat_map (λ (outcomes : List Outcome). outcomes) r.phases))
      (λ k. sym (sym (times_all k r.phases) ∙ report.placed k)) (numbers_known n.digest links first now r.ran r.phases r.so_far all c.items may)

  last_durable : All AreAnswered r.phases → length n.found < length c.items → length c.items ≤ now.view.least.durable
  last_durable all more =
      let count : ℕ = length (history_of c.items) - start in
      let some : count - 1 < count = omega (arith, more, history_length n.found, history_length c.items) in
      let inside : count - 1 < length range = omega (arith, some, length-range_with_len (start + 1) count) in
      let value : get_or range (count - 1) 0 ≡ start + 1 + (count - 1) = get_or-range_with_len (start + 1) count (count - 1) 0 some in
      let le : get_or range (count - 1) 0 ≤ now.view.least.durable = each_durable all (count - 1) 0 inside in
      omega (arith, le, value, more, history_length n.found, history_length c.items)

  all_durable : All AreAnswered r.phases → c.durable ≡ length c.items
  all_durable all = elim (cases_lt (length n.found) (length c.items)) [
    | inl more ↦ omega (arith, last_durable all more, known, c.within)
    | inr few ↦ omega (arith, few, c.within, known, durable, r.so_far.grown.durable)
  ]

  -- where no line stopped it no failure was told, and all is durable
  quiet : ((why : LineError) → end ≡ Err (stops.Line why) → ⊥) → now.view.faults ≡ 0
  quiet other = r.faults.calm (written_answered r.phases before written faults_before faults_now end r.wrote other) ∙ untold

  settled : ((why : LineError) → end ≡ Err (stops.Line why) → ⊥) → c.durable ≡ length c.items
  settled other = all_durable (written_answered r.phases before written faults_before faults_now end r.wrote other)

  one_quiet : now.view.faults ≡ 0 → All (λ p. p.view.faults ≡ 0) (now ∷ [])
  one_quiet is zero d lt = is
  one_quiet is (suc i) d lt = absurd (omega (arith, lt))

  pub serves_of : Serves tells counts links n script before written faults_before faults_now disk constant given end
  serves_of = record {
    phases = r.phases;
    unrun = r.unrun;
    script_is = r.script_is ∙ ap (λ (ls : List (List Line)). ls ++ r.unrun) (sym r.so_far.lines_are);
    all = r.all;
    history = history_of c.items;
    report = report;
    kept = keeps;
    again = r.so_far.again c.items may;
    wrote = r.wrote;
    durable = c.durable;
    within = omega (arith, c.within, history_length c.items);
    told_durable = λ i d lt j e less. (let le = r.so_far.most i d lt j e less in omega (arith, le, known));
    images = c.images;
    moments = c.moments;
    same = c.timed.same;
    timed = drop_timed n.time (length n.found) c.items c.timed.timed;
    asked = subst (AddsTimes n.given given) (times_same (drop (length n.found) c.items) ∙ ap (map (λ (tx : Transaction). tx.ts)) (sym (drop_history (length n.found) c.items))) c.timed.given;
    whole = λ other. c.whole (c.sound all_weight (one_quiet (quiet other))) (settled other);
    here = λ other. c.here (c.sound all_weight (one_quiet (quiet other))) (settled other);
    calls = c.calls;
    fault = λ is. (let one : 1 ≤ c.failures = omega (arith, r.faults.knows is, faults_known) in rose_less n.faults (counts disk) c.failures 1 one c.rose);
    failed = λ is. subst (λ (k : ℕ). FailsIn (history_of c.items) k r.phases) durable (r.faults.failed is c.items may);
    unharmed = λ other. c.calm all_weight (one_quiet (quiet other));
    unharmed_alone = λ one fine. c.calm all_weight (one_quiet (r.faults.alone one fine ∙ untold));
  }

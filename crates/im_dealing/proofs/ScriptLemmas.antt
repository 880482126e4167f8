-- Phases one after the other, and what is written of them.
use Rattle.std.proofs.Common.{◌≡◌, inl, inr, ℕ, zero, suc, ◌+◌, ◌<◌, ◌≤◌, ◌++◌, List, [], ◌∷◌, length, map, take, Bool, true, false, if◌then◌else◌, Option, Some, None, Result, Ok, Err, OnOk, OnErr, refl, ap, sym, ◌∙◌, subst, arith, append-nil, append_assoc, get_or}
use Rattle.std.proofs.KnownBytes.{Appends-nil, Appends-trans}
use Rattle.std.proofs.lemmas.List.{length-take-le}
use Rattle.std.proofs.lemmas.List.Concat.{flat_map-append}
use Rattle.std.proofs.lemmas.List.Elements.{All-push}
use Rattle.std.specs.Io.KnownBytes.{Appends}
use Rattle.std.specs.Prelude.{All}
use Rattle.std.specs.Str.{bytes_eq}
use Rattle.im_dealing.proofs.AloneLemmas.{floors_unrun}
use Rattle.im_dealing.proofs.EndLemmas.{lines_unrun, times_unrun}
use Rattle.im_dealing.proofs.FailLemmas.{fails_less, fails_push}
use Rattle.im_dealing.proofs.SoFarLemmas.{grown_none, played_none, so_far_none, so_far_push}
use Rattle.im_dealing.proofs.WriteLemmas.{order_none, order_some}
use Rattle.im_dealing.specs.Dealing.{AreNamed}
use Rattle.im_dealing.specs.Phases.{AreSoFar, EndsPhase, FailsAt, IsPlayed, KnowsFaults, RunsAlone, StopsAt, count_in, low_after}
use Rattle.im_dealing.specs.Scripts.{AddsLess, EndsBy, RunsPhase, RunsPhases, TellsFaults, WritesPhase, WritesPhases}
use Rattle.im_dealing.specs.Written.{first_texts, next_text, texts_in_order, texts_left, without_first}
use Rattle.im_dealing.specs.declared.errors.LineError.{LineError}
use Rattle.im_dealing.specs.declared.errors.LineError.TheVariants.{DiskFault, Memory}
use Rattle.im_dealing.specs.declared.errors.Stopped.{Stopped}
use Rattle.im_dealing.specs.declared.errors.Stopped.TheVariants as stops
use Rattle.im_dealing.specs.declared.sessions.Ended.{Ended}
use Rattle.im_report.specs.Messages.{IsReadBack}
use Rattle.im_digest.specs.Digests.{Hash}
use Rattle.im_counts.specs.Counts.{Rose}
use Rattle.im_model.specs.declared.transactions.Transaction.{Transaction}
use Rattle.im_octet.proofs.Common.{all-left, all-right}
use Rattle.im_report.proofs.OutcomeLemmas.{numbers_unrun, replies_unrun}
use Rattle.im_report.specs.Outcomes.{IsCutOff, IsSession, Outcome, line_in, not_run, of_session}
use Rattle.im_report.specs.Report.{Answered, floor_after}
use Rattle.im_report.specs.Sessions.{AreAnswered, IsJustOver, phase_text, phases_text, replies_in}
use Rattle.im_script.specs.Script.{has_name, lines_of, names_of}
use Rattle.im_script.specs.declared.commands.Line.{Line}
use Rattle.im_script.proofs.NameLemmas.{names-all}
use Rattle.im_table.specs.Histories.{history_of}
use Rattle.im_table.specs.Known.{KnownPass}

-- ---- one phase

-- what a pass knows of faults, by why the phase stopped, is what it knows by how the script ended there
tells_by : (old new : KnownPass) (outcomes : List Outcome) (why : Option LineError) (end : Result Unit Stopped) → KnowsFaults old new outcomes why → EndsPhase outcomes why → EndsBy why end
    → TellsFaults old new (outcomes ∷ []) end
tells_by old new outcomes None end k ends by = record {
  knows = λ is. absurd (by DiskFault is);
  failed = λ is. absurd (by DiskFault is);
  calm = λ all. k.calm ends;
  alone = λ one fine. k.calm ends;
}
tells_by old new outcomes (Some why) end k ends by = record {
  knows = λ is. k.knows (same is);
  failed = λ is. k.failed (same is);
  calm = λ all. k.calm (all 0 outcomes (omega arith));
  alone = λ one fine. k.alone one (λ is. fine (by ∙ named is));
}
  where
    same : end ≡ Err (stops.Line DiskFault) → Some why ≡ Some DiskFault
    same is = let e : why ≡ DiskFault = cc (sym by ∙ is) in ap (λ (w : LineError). Some w) e

    named : Some why ≡ Some DiskFault → ◌≡◌ {A = Result Unit Stopped} (Err (stops.Line why)) (Err (stops.Line DiskFault))
    named is = let e : why ≡ DiskFault = cc (is) in ap (λ (w : LineError). Err (stops.Line w)) e

pub ran_played : (hash : Hash) (links : Bool) (old new : KnownPass) (lines : List Line) (outcomes : List Outcome) (why : Option LineError) (before now : Option (List ℕ)) (faults_before faults_now : ℕ) (end : Result Unit Stopped)
    → IsPlayed hash links old new lines outcomes → KnowsFaults old new outcomes why → EndsPhase outcomes why → EndsBy why end → WritesPhase outcomes before now faults_before faults_now end
    → RunsPhase hash links old new lines before now faults_before faults_now end
ran_played hash links old new lines outcomes why before now faults_before faults_now end played knows ends by wrote =
    record { outcomes = outcomes; played = played; faults = tells_by old new outcomes why end knows ends by; wrote = wrote }

-- a phase without lines
pub ran_none : (hash : Hash) (links : Bool) (p : KnownPass) (written : Option (List ℕ)) (faults : ℕ) → RunsPhase hash links p p [] written written faults faults (Ok tt)
ran_none hash links p written faults = record {
  outcomes = [];
  played = played_none hash links p;
  faults = record { knows = λ is. absurd (cc (is)); failed = λ is. absurd (cc (is)); calm = λ all. refl; alone = λ one fine. refl };
  wrote = (λ i d lt. absurd (omega arith), Appends-nil written, refl);
}

-- a phase for whose lists there was no memory: none of its lines was run
own_unrun : (name : List ℕ) (lines : List Line) → (ls : List Line) × (of_session name (map not_run lines) ≡ map not_run ls)
own_unrun name [] = ([], refl)
own_unrun name (l ∷ lines) = go (bytes_eq l.session name) (own_unrun name lines)
  where
    go : (b : Bool) → (ls : List Line) × (of_session name (map not_run lines) ≡ map not_run ls)
        → (ls : List Line) × ((if b then not_run l ∷ of_session name (map not_run lines) else of_session name (map not_run lines)) ≡ map not_run ls)
    go true rest = (l ∷ rest.0, ap (λ (os : List Outcome). not_run l ∷ os) rest.1)
    go false rest = rest

session_unrun : (hash : Hash) (low floor : ℕ) (h : List Transaction) (ls : List Line) → IsSession hash low floor h (map not_run ls)
session_unrun hash low floor h ls = record {
  answers = [];
  rest = map not_run ls;
  are = refl;
  cut = cut ls;
  told = record {
    each = λ i d lt. absurd (omega arith);
    least = λ i d lt. absurd (omega arith);
    rising = λ i j d lt less. absurd (omega arith);
    least_read = λ i d lt. absurd (omega arith);
    reading = λ i j d lt less. absurd (omega arith);
    floors = λ i d lt. absurd (omega arith);
  };
}
  where
    cut : (xs : List Line) → IsCutOff h low floor [] (map not_run xs)
    cut [] = inl refl
    cut (x ∷ xs) = inr (x, None, xs, refl, tt)

alone_unrun : (p : KnownPass) (lines : List Line) → RunsAlone p.view.least.durable p.view.least.linked 0 p (map not_run lines)
alone_unrun p lines =
    let none : count_in (map not_run lines) ≡ 0 = ap length (numbers_unrun lines) in
    record {
      slack = omega arith;
      risen = λ some. omega (arith, none);
      placed = λ items m most le all. omega (arith, none, le);
      exact = λ some linked durable. ap (floor_after p.view.least.linked) (replies_unrun lines);
      just = λ linked durable items m all. subst (All (IsJustOver (history_of items))) (sym (floors_unrun p.view.least.linked lines)) (λ i d lt. absurd (omega arith));
    }

played_unrun : (hash : Hash) (links : Bool) (p : KnownPass) (lines : List Line) → IsPlayed hash links p p lines (map not_run lines)
played_unrun hash links p lines = record {
  grown = grown_none p;
  lines_are = lines_unrun lines;
  each = λ items m name. (let own = own_unrun name lines in
      subst (IsSession hash p.view.least.durable p.view.least.linked (history_of items)) (sym own.1) (session_unrun hash p.view.least.durable p.view.least.linked (history_of items) own.0));
  again = λ items m. subst (All (λ (a : Answered). IsReadBack hash (take a.number (history_of items)) a.line.command a.reply)) (sym (replies_unrun lines)) (λ i d lt. absurd (omega arith));
  most = subst (All (λ (a : Answered). a.number ≤ p.view.least.durable)) (sym (replies_unrun lines)) (λ i d lt. absurd (omega arith));
  reached = λ i d lt. reached (get_or (map not_run lines) i d).line.session;
  own = λ k. omega (arith, times_unrun k lines);
  alone = λ off one. (0, omega arith, alone_unrun p lines);
}
  where
    reached : (name : List ℕ) → floor_after p.view.least.linked (replies_in (of_session name (map not_run lines))) ≤ p.view.least.linked
    reached name =
        let own = own_unrun name lines in
        let none : replies_in (of_session name (map not_run lines)) ≡ [] = ap replies_in own.1 ∙ replies_unrun own.0 in
        subst (λ (l : List Answered). floor_after p.view.least.linked l ≤ p.view.least.linked) (sym none) (omega arith)

pub ran_refused : (hash : Hash) (links : Bool) (p : KnownPass) (lines : List Line) (written : Option (List ℕ)) (faults : ℕ) → (lines ≡ [] → ⊥)
    → RunsPhase hash links p p lines written written faults faults (Err (stops.Line Memory))
ran_refused hash links p [] written faults some = absurd (some refl)
ran_refused hash links p (line ∷ others) written faults some = record {
  outcomes = map not_run (line ∷ others);
  played = played_unrun hash links p (line ∷ others);
  faults = record { knows = λ is. absurd (cc (is)); failed = λ is. absurd (cc (is)); calm = λ all. refl; alone = λ one fine. refl };
  wrote = (record { line = line; next = (map line_in (map not_run others), refl) }, inl (Appends-nil written, refl));
}

-- ---- what is written of a phase

-- the replies before a line without one
pub told_stop : {E : Type 0} (outcomes : List Outcome) (why : LineError) (before now : Option (List ℕ)) (faults_before faults_now : ℕ) (wrote : Result Unit E) (text : List ℕ) → text ≡ phase_text outcomes → StopsAt outcomes
    → OnOk wrote (Appends before now text) → OnErr wrote ((n : ℕ) × (n < length text) × Appends before now (take n text)) → OnErr wrote (Rose faults_before faults_now) → faults_now ≤ faults_before + 1
    → OnOk wrote (faults_now ≡ faults_before) → WritesPhase outcomes before now faults_before faults_now (Err (stops.Line why))
told_stop outcomes why before now faults_before faults_now (Ok x) text is halted whole less rose once same =
    (halted, inl (subst (λ (t : List ℕ). Appends before now t) is whole, same))
told_stop outcomes why before now faults_before faults_now (Err e) text is halted whole less rose once same =
    (halted, inr (subst (λ (t : List ℕ). AddsLess t before now) is less, (rose, once)))

-- all of them
pub told_whole : (outcomes : List Outcome) (before now : Option (List ℕ)) (faults_before faults_now : ℕ) (text : List ℕ) → text ≡ phase_text outcomes → AreAnswered outcomes
    → Appends before now text → faults_now ≡ faults_before → WritesPhase outcomes before now faults_before faults_now (Ok tt)
told_whole outcomes before now faults_before faults_now text is all whole same = (all, subst (λ (t : List ℕ). Appends before now t) is whole, same)

-- a front part of them
pub told_part : (outcomes : List Outcome) (before now : Option (List ℕ)) (faults_before faults_now : ℕ) (text : List ℕ) → text ≡ phase_text outcomes → AreAnswered outcomes
    → (n : ℕ) × (n < length text) × Appends before now (take n text) → Rose faults_before faults_now → faults_now ≤ faults_before + 1 → WritesPhase outcomes before now faults_before faults_now (Err stops.Write)
told_part outcomes before now faults_before faults_now text is all less rose once = (all, subst (λ (t : List ℕ). AddsLess t before now) is less, (rose, once))

-- the texts of the lines before the first one without are all that there are
pub front_texts : (order : List ℕ) (left : List (List (List ℕ))) → texts_in_order (take (length (texts_in_order order left)) order) left ≡ texts_in_order order left
front_texts [] left = refl
front_texts (number ∷ order) left = go (next_text number left) refl (front_texts order (without_first number left))
  where
    go : (t : Option (List ℕ)) → next_text number left ≡ t
        → texts_in_order (take (length (texts_in_order order (without_first number left))) order) (without_first number left) ≡ texts_in_order order (without_first number left)
        → texts_in_order (take (length (texts_in_order (number ∷ order) left)) (number ∷ order)) left ≡ texts_in_order (number ∷ order) left
    go None e more = subst (λ (l : List (List ℕ)). texts_in_order (take (length l) (number ∷ order)) left ≡ l) (sym (order_none number order left e)) refl
    go (Some text) e more =
        subst (λ (l : List (List ℕ)). texts_in_order (take (length l) (number ∷ order)) left ≡ l) (sym (order_some number order left text e))
        (order_some number (take (length (texts_in_order order (without_first number left))) order) left text e ∙ ap (λ (l : List (List ℕ)). text ∷ l) more)

-- of as many lines as there are texts
pub front_first : (order : List ℕ) (ended : List Ended) (count : ℕ) → length (first_texts order ended) ≡ count → first_texts (take count order) ended ≡ first_texts order ended
front_first order ended count many = ap (λ (n : ℕ). first_texts (take n order) ended) (sym many) ∙ front_texts order (texts_left ended)

pub front_many : (order : List ℕ) (ended : List Ended) (count : ℕ) → length (first_texts order ended) ≡ count → count ≤ length order → length (first_texts (take count order) ended) ≡ length (take count order)
front_many order ended count many within = ap (λ (l : List (List ℕ)). length l) (front_first order ended count many) ∙ many ∙ sym (length-take-le count order within)

-- ---- the phases of a script

-- the lines of a phase have names among those of the script
pub phase_named : (script before after : List (List Line)) (phase : List Line) → script ≡ before ++ phase ∷ after → AreNamed (names_of [] (lines_of script)) phase
phase_named script before after phase is =
    let P : Line → Type 0 = λ line. has_name (names_of [] (lines_of script)) line.session ≡ true in
    let lines : lines_of script ≡ lines_of before ++ (phase ++ lines_of after) = ap (λ (ps : List (List Line)). lines_of ps) is ∙ flat_map-append (λ (ls : List Line). ls) before (phase ∷ after) in
    let all : All P (lines_of before ++ (phase ++ lines_of after)) = subst (All P) lines (names-all [] (lines_of script)) in
    all-left P phase (lines_of after) (all-right P (lines_of before) (phase ++ lines_of after) all)

-- ---- phase behind phase

tells_push : (first mid new : KnownPass) (phases : List (List Outcome)) (outcomes : List Outcome) (end : Result Unit Stopped) → mid.view.faults ≡ first.view.faults
    → low_after first.view.least.durable phases ≤ mid.view.least.durable → TellsFaults mid new (outcomes ∷ []) end → TellsFaults first new (phases ++ outcomes ∷ []) end
tells_push first mid new phases outcomes end calm low t = record {
  knows = t.knows;
  failed = λ is items m.
      let now : FailsAt (history_of items) mid.view.least.durable outcomes = t.failed is items m in
      fails_push (history_of items) first.view.least.durable phases outcomes (fails_less (history_of items) (low_after first.view.least.durable phases) mid.view.least.durable outcomes low now);
  calm = λ all. t.calm (all-right AreAnswered phases (outcomes ∷ []) all) ∙ calm;
  alone = λ one fine. t.alone (one.0, all-right (All (λ (o : Outcome). o.line.session ≡ one.0)) phases (outcomes ∷ []) one.1) fine ∙ calm;
}

text_push : (phases : List (List Outcome)) (outcomes : List Outcome) → phases_text (phases ++ outcomes ∷ []) ≡ phases_text phases ++ phase_text outcomes
text_push phases outcomes = flat_map-append phase_text phases (outcomes ∷ []) ∙ ap (λ (l : List ℕ). phases_text phases ++ l) (append-nil (phase_text outcomes))

-- all phases so far were answered and written whole
pub record GoesWell (hash : Hash) (links : Bool) (first now : KnownPass) (ran : List (List Line)) (before written : Option (List ℕ)) (faults_before faults_now : ℕ) : Type 0 where
  pub phases : List (List Outcome)
  pub so_far : AreSoFar hash links first now ran phases
  pub calm : now.view.faults ≡ first.view.faults
  pub wrote : WritesPhases phases before written faults_before faults_now (Ok tt)

pub well_none : (hash : Hash) (links : Bool) (p : KnownPass) (written : Option (List ℕ)) (faults : ℕ) → GoesWell hash links p p [] written written faults faults
well_none hash links p written faults =
    record { phases = []; so_far = so_far_none hash links p; calm = refl; wrote = (λ i d lt. absurd (omega arith), Appends-nil written, refl) }

module _ {hash : Hash} {links : Bool} {first mid new : KnownPass} {ran : List (List Line)} {lines : List Line} {before written now : Option (List ℕ)} {faults_before faults_written faults_now : ℕ}
    (g : GoesWell hash links first mid ran before written faults_before faults_written) where
  -- one phase more
  well_one : RunsPhase hash links mid new lines written now faults_written faults_now (Ok tt) → GoesWell hash links first new (ran ++ lines ∷ []) before now faults_before faults_now
  well_one r = record {
    phases = g.phases ++ r.outcomes ∷ [];
    so_far = so_far_push hash links first mid new ran g.phases lines r.outcomes g.so_far r.played g.wrote.0;
    calm = r.faults.calm one ∙ g.calm;
    wrote = (
      All-push AreAnswered g.phases r.outcomes g.wrote.0 r.wrote.0,
      subst (λ (t : List ℕ). Appends before now t) (sym (text_push g.phases r.outcomes)) (Appends-trans before written now (phases_text g.phases) (phase_text r.outcomes) g.wrote.1 r.wrote.1),
      r.wrote.2 ∙ g.wrote.2,
    );
  }
    where
      one : All AreAnswered (r.outcomes ∷ [])
      one zero d lt = r.wrote.0
      one (suc i) d lt = absurd (omega (arith, lt))

  pub well_next : (end : Result Unit Stopped) → end ≡ Ok tt → RunsPhase hash links mid new lines written now faults_written faults_now end
      → GoesWell hash links first new (ran ++ lines ∷ []) before now faults_before faults_now
  well_next end is r = well_one (subst (λ (e : Result Unit Stopped). RunsPhase hash links mid new lines written now faults_written faults_now e) is r)

  -- a phase at which the script ended
  stops_one : (script rest : List (List Line)) (end : Stopped) → script ≡ ran ++ lines ∷ rest → RunsPhase hash links mid new lines written now faults_written faults_now (Err end)
      → RunsPhases hash links first new script before now faults_before faults_now (Err end)
  stops_one script rest end is r = record {
    ran = ran ++ lines ∷ [];
    unrun = rest;
    script_is = is ∙ sym (append_assoc ran (lines ∷ []) rest);
    all = λ ok. absurd (cc (ok));
    phases = g.phases ++ r.outcomes ∷ [];
    so_far = so_far_push hash links first mid new ran g.phases lines r.outcomes g.so_far r.played g.wrote.0;
    faults = tells_push first mid new g.phases r.outcomes (Err end) g.calm g.so_far.low r.faults;
    wrote = (
      g.phases,
      r.outcomes,
      written,
      refl,
      g.wrote.0,
      g.wrote.1,
      subst (λ (f : ℕ). WritesPhase r.outcomes written now f faults_now (Err end)) g.wrote.2 r.wrote,
    );
  }

  pub well_stops : (script rest : List (List Line)) (end : Result Unit Stopped) (why : Stopped) → end ≡ Err why → script ≡ ran ++ lines ∷ rest
      → RunsPhase hash links mid new lines written now faults_written faults_now end → RunsPhases hash links first new script before now faults_before faults_now (Err why)
  well_stops script rest end why ends is r =
      stops_one script rest why is (subst (λ (e : Result Unit Stopped). RunsPhase hash links mid new lines written now faults_written faults_now e) ends r)

-- all of them
pub well_done : {hash : Hash} {links : Bool} {first now : KnownPass} {ran : List (List Line)} {before written : Option (List ℕ)} {faults_before faults_now : ℕ} (script : List (List Line)) → script ≡ ran
    → GoesWell hash links first now ran before written faults_before faults_now → RunsPhases hash links first now script before written faults_before faults_now (Ok tt)
well_done {hash} {links} {first} {now} {ran} {before} {written} {faults_before} {faults_now} script is g = record {
  ran = ran;
  unrun = [];
  script_is = is ∙ sym (append-nil ran);
  all = λ ok. refl;
  phases = g.phases;
  so_far = g.so_far;
  faults = record { knows = λ bad. absurd (cc (bad)); failed = λ bad. absurd (cc (bad)); calm = λ all. g.calm; alone = λ one fine. g.calm };
  wrote = g.wrote;
}

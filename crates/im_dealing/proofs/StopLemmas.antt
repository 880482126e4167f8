-- Where a phase stopped, if it did: what is written of it, and what the passes of its sessions told of faults.
use Rattle.std.proofs.Common.{◌≡◌, ◌≢◌, ℕ, zero, suc, ◌≤◌, ◌++◌, List, [], ◌∷◌, length, map, Bool, true, false, if◌then◌else◌, Option, Some, None, refl, ap, ap₂, sym, ◌∙◌, subst, arith, slice_get, true≢false}
use Rattle.std.specs.Prelude.{All, AllPairs, IsSome}
use Rattle.std.specs.List.{flat_map, sum_by}
use Rattle.std.proofs.lemmas.List.Sums.{sum_by-cons}
use Rattle.std.specs.Str.{bytes_eq}
use Rattle.std.proofs.lemmas.Slice.Eq.{bytes_eq-Decides}
use Rattle.im_dealing.proofs.EachLemmas.{EndsAt, StopFits, each_none, each_of, order_stop, order_texts, texts_of}
use Rattle.im_dealing.proofs.FailLemmas.{StopsHere, phase_fails}
use Rattle.im_dealing.proofs.OutLemmas.{AreOuts, ToldBy}
use Rattle.im_dealing.proofs.PlayLemmas.{WasPlayed, by_name, length_same, matches_of, outcomes_in, own_may, same_lines, sum_outs}
use Rattle.im_dealing.proofs.TogetherLemmas.{Each, together_own, together_sum}
use Rattle.im_dealing.specs.Dealing.{lines_with}
use Rattle.im_dealing.specs.Gathered.{faults_of}
use Rattle.im_dealing.specs.Lines.{MayBecome}
use Rattle.im_dealing.specs.Phases.{EndsPhase, FailsAt, KnowsFaults}
use Rattle.im_dealing.specs.Written.{first_texts, stop_in_order, stop_of, texts_in_order, texts_left, why_at, why_of}
use Rattle.im_dealing.specs.declared.errors.LineError.{LineError}
use Rattle.im_dealing.specs.declared.errors.LineError.TheVariants.{DiskFault, Memory}
use Rattle.im_dealing.specs.declared.sessions.Ended.{Ended}
use Rattle.im_dealing.specs.declared.sessions.Session.{Session}
use Rattle.im_digest.specs.Digests.{Hash}
use Rattle.im_octet.proofs.Common.{bytes-other, bytes-same}
use Rattle.im_report.specs.Outcomes.{Outcome, line_in, of_session}
use Rattle.im_report.specs.Report.{Answered, answer_line}
use Rattle.im_report.specs.Sessions.{AreAnswered, first_replies, phase_text}
use Rattle.im_script.specs.declared.commands.Line.{Line}
use Rattle.im_table.specs.Histories.{history_of}
use Rattle.im_table.specs.Known.{KnownPass, TableId}
use Rattle.im_table.specs.declared.items.LogItem.{LogItem}

-- ---- lines without a reply, counted

abbrev lacks : Option Answered → ℕ
lacks None = 1
lacks (Some a) = 0

abbrev unanswered : Outcome → ℕ
unanswered o = lacks o.reply

answered_none : (outcomes : List Outcome) → AreAnswered outcomes → sum_by unanswered outcomes ≡ 0
answered_none [] some = refl
answered_none (o ∷ outcomes) some =
    omega (arith, one o.reply (some 0 o (omega arith)), answered_none outcomes (λ i d lt. some (suc i) d (omega (arith, lt))), sum_by-cons unanswered o outcomes)
  where
    one : (r : Option Answered) → IsSome r → lacks r ≡ 0
    one None has = absurd (true≢false (sym has))
    one (Some a) has = refl

none_answered : (outcomes : List Outcome) → sum_by unanswered outcomes ≡ 0 → AreAnswered outcomes
none_answered [] none = λ i d lt. absurd (omega arith)
none_answered (o ∷ outcomes) none =
    cons (one o.reply (omega (arith, none, sum_by-cons unanswered o outcomes))) (none_answered outcomes (omega (arith, none, sum_by-cons unanswered o outcomes)))
  where
    one : (r : Option Answered) → lacks r ≡ 0 → IsSome r
    one None e = absurd (omega (arith, e))
    one (Some a) e = refl

    cons : IsSome o.reply → AreAnswered outcomes → AreAnswered (o ∷ outcomes)
    cons has rest zero d lt = has
    cons has rest (suc i) d lt = rest i d (omega (arith, lt))

-- ---- why the session of a name has no more replies

abbrev pub why_each : List (List ℕ) → List Session → List ℕ → Option LineError
why_each [] sessions name = None
why_each (first ∷ names) [] name = None
why_each (first ∷ names) (s ∷ sessions) name = if bytes_eq first name then s.why else why_each names sessions name

-- there is a why where a line of a session has no reply
fits_each : (hash : Hash) (table : TableId) (low floor : ℕ) (names : List (List ℕ)) (sessions : List Session) (outs : List (List Outcome)) → AreOuts hash table low floor sessions outs → (name : List ℕ)
    → StopFits (why_each names sessions name) (each_of names outs name)
fits_each hash table low floor [] sessions outs are name = tt
fits_each hash table low floor (first ∷ names) sessions [] are name = tt
fits_each hash table low floor (first ∷ names) [] (out ∷ outs) are name = absurd are
fits_each hash table low floor (first ∷ names) (s ∷ sessions) (out ∷ outs) are name = go (bytes_eq first name) (fits_each hash table low floor names sessions outs are.1 name)
  where
    go : (b : Bool) → StopFits (why_each names sessions name) (each_of names outs name) → StopFits (if b then s.why else why_each names sessions name) (if b then out else each_of names outs name)
    go true rest = are.0.fits
    go false rest = rest

-- where there is a why, some line of it has no reply
cut_each : (hash : Hash) (table : TableId) (low floor : ℕ) (names : List (List ℕ)) (sessions : List Session) (outs : List (List Outcome)) → AreOuts hash table low floor sessions outs → (name : List ℕ) (why : LineError)
    → why_each names sessions name ≡ Some why → AreAnswered (each_of names outs name) → ⊥
cut_each hash table low floor [] sessions outs are name why e some = cc (e)
cut_each hash table low floor (first ∷ names) [] outs are name why e some = cc (e)
cut_each hash table low floor (first ∷ names) (s ∷ sessions) [] are name why e some = are
cut_each hash table low floor (first ∷ names) (s ∷ sessions) (out ∷ outs) are name why e some = go (bytes_eq first name) e some (cut_each hash table low floor names sessions outs are.1 name why)
  where
    told : (w : LineError) → ToldBy (Some w) s.pass out → AreAnswered out → ⊥
    told DiskFault t = t.1
    told Memory t = t.1

    go : (b : Bool) → (if b then s.why else why_each names sessions name) ≡ Some why → AreAnswered (if b then out else each_of names outs name)
        → (why_each names sessions name ≡ Some why → AreAnswered (each_of names outs name) → ⊥) → ⊥
    go true q all rest = told why (subst (λ (w : Option LineError). ToldBy w s.pass out) q are.0.told) all
    go false q all rest = rest q all

-- where that is a fault of the disk, the pass knows of one
known_each : (hash : Hash) (table : TableId) (low floor n : ℕ) (names : List (List ℕ)) (sessions : List Session) (outs : List (List Outcome)) → AreOuts hash table low floor sessions outs
    → All (λ s. s.pass.view.least.failed ≤ n) sessions → (name : List ℕ) → why_each names sessions name ≡ Some DiskFault → 1 ≤ n
known_each hash table low floor n [] sessions outs are most name e = absurd (cc (e))
known_each hash table low floor n (first ∷ names) [] outs are most name e = absurd (cc (e))
known_each hash table low floor n (first ∷ names) (s ∷ sessions) [] are most name e = absurd are
known_each hash table low floor n (first ∷ names) (s ∷ sessions) (out ∷ outs) are most name e =
    go (bytes_eq first name) e (known_each hash table low floor n names sessions outs are.1 (λ i d lt. most (suc i) d (omega (arith, lt))) name)
  where
    go : (b : Bool) → (if b then s.why else why_each names sessions name) ≡ Some DiskFault → (why_each names sessions name ≡ Some DiskFault → 1 ≤ n) → 1 ≤ n
    go true q rest =
        let told : ToldBy (Some DiskFault) s.pass out = subst (λ (w : Option LineError). ToldBy w s.pass out) q are.0.told in
        omega (arith, told.0, most 0 s (omega arith))
    go false q rest = rest q

-- and its line had to reach the disk
failed_each : (hash : Hash) (table : TableId) (low floor : ℕ) (items : List LogItem) (names : List (List ℕ)) (sessions : List Session) (outs : List (List Outcome)) → AreOuts hash table low floor sessions outs
    → All (λ s. MayBecome s.pass items) sessions → (name : List ℕ) → why_each names sessions name ≡ Some DiskFault → StopsHere (history_of items) low (each_of names outs name)
failed_each hash table low floor items [] sessions outs are may name e = absurd (cc (e))
failed_each hash table low floor items (first ∷ names) [] outs are may name e = absurd (cc (e))
failed_each hash table low floor items (first ∷ names) (s ∷ sessions) [] are may name e = absurd are
failed_each hash table low floor items (first ∷ names) (s ∷ sessions) (out ∷ outs) are may name e =
    go (bytes_eq first name) e (failed_each hash table low floor items names sessions outs are.1 (λ i d lt. may (suc i) d (omega (arith, lt))) name)
  where
    go : (b : Bool) → (if b then s.why else why_each names sessions name) ≡ Some DiskFault
        → (why_each names sessions name ≡ Some DiskFault → StopsHere (history_of items) low (each_of names outs name))
        → StopsHere (history_of items) low (if b then out else each_of names outs name)
    go true q rest = are.0.failed q items (may 0 s (omega arith))
    go false q rest = rest q

-- a name that none of the sessions has
why_far : (names : List (List ℕ)) (sessions : List Session) (name : List ℕ) → All (λ n. name ≢ n) names → why_each names sessions name ≡ None
why_far [] sessions name far = refl
why_far (first ∷ names) [] name far = refl
why_far (first ∷ names) (s ∷ sessions) name far =
    let other : bytes_eq first name ≡ false = bytes-other first name (λ q. far 0 first (omega arith) (sym q)) in
    ap (λ (b : Bool). if b then s.why else why_each names sessions name) other ∙ why_far names sessions name (λ i d lt. far (suc i) d (omega (arith, lt)))

-- where no session has a fault of the disk they told none
quiet_all : (hash : Hash) (table : TableId) (low floor : ℕ) (names : List (List ℕ)) (sessions : List Session) (outs : List (List Outcome)) → AreOuts hash table low floor sessions outs → length outs ≡ length names
    → AllPairs (λ a b. a ≢ b) names → ((name : List ℕ) → why_each names sessions name ≡ Some DiskFault → ⊥) → sum_by faults_of sessions ≡ 0
quiet_all hash table low floor [] [] [] are many apart none = refl
quiet_all hash table low floor (first ∷ names) [] [] are many apart none = absurd (omega (arith, many))
quiet_all hash table low floor names [] (out ∷ outs) are many apart none = absurd are
quiet_all hash table low floor names (s ∷ sessions) [] are many apart none = absurd are
quiet_all hash table low floor [] (s ∷ sessions) (out ∷ outs) are many apart none = absurd (omega (arith, many))
quiet_all hash table low floor (first ∷ names) (s ∷ sessions) (out ∷ outs) are many apart none =
    let more = quiet_all hash table low floor names sessions outs are.1 (omega (arith, many)) (λ i j d lt less. apart (suc i) (suc j) d (omega (arith, lt)) (omega (arith, less))) others in
    omega (arith, here s.why refl are.0.told, more, sum_by-cons faults_of s sessions)
  where
    own : why_each (first ∷ names) (s ∷ sessions) first ≡ s.why
    own = ap (λ (b : Bool). if b then s.why else why_each names sessions first) (bytes-same first first refl)

    here : (w : Option LineError) → s.why ≡ w → ToldBy s.why s.pass out → s.pass.view.faults ≡ 0
    here None is told = subst (λ (w : Option LineError). ToldBy w s.pass out) is told
    here (Some DiskFault) is told = absurd (none first (own ∙ is))
    here (Some Memory) is told = let t : ToldBy (Some Memory) s.pass out = subst (λ (w : Option LineError). ToldBy w s.pass out) is told in t.0

    far : All (λ n. first ≢ n) names
    far = λ i d lt. apart 0 (suc i) d (omega arith) (omega (arith, lt))

    at_tail : (name : List ℕ) (b : Bool) → bytes_eq first name ≡ b → why_each names sessions name ≡ Some DiskFault → ⊥
    at_tail name true q e =
        let is : first ≡ name = (bytes_eq-Decides first name).0 q in
        let nothing : why_each names sessions name ≡ None = subst (λ (n : List ℕ). why_each names sessions n ≡ None) is (why_far names sessions first far) in
        cc (nothing, e)
    at_tail name false q e = none name (ap (λ (b : Bool). if b then s.why else why_each names sessions name) q ∙ e)

    others : (name : List ℕ) → why_each names sessions name ≡ Some DiskFault → ⊥
    others name e = at_tail name (bytes_eq first name) refl e

-- and where each line was answered
calm_all : (hash : Hash) (table : TableId) (low floor : ℕ) (sessions : List Session) (outs : List (List Outcome)) → AreOuts hash table low floor sessions outs → sum_by (sum_by unanswered) outs ≡ 0 → sum_by faults_of sessions ≡ 0
calm_all hash table low floor [] [] are none = refl
calm_all hash table low floor [] (out ∷ outs) are none = absurd are
calm_all hash table low floor (s ∷ sessions) [] are none = absurd are
calm_all hash table low floor (s ∷ sessions) (out ∷ outs) are none =
    let some : AreAnswered out = none_answered out (omega (arith, none, sum_by-cons (sum_by unanswered) out outs)) in
    let more = calm_all hash table low floor sessions outs are.1 (omega (arith, none, sum_by-cons (sum_by unanswered) out outs)) in
    omega (arith, here s.why are.0.told some, more, sum_by-cons faults_of s sessions)
  where
    here : (w : Option LineError) → ToldBy w s.pass out → AreAnswered out → s.pass.view.faults ≡ 0
    here None told some = told
    here (Some DiskFault) told some = absurd (told.1 some)
    here (Some Memory) told some = told.0

-- ---- by the numbers of the sessions

why_nth : List (Option LineError) → ℕ → Option LineError
why_nth [] number = None
why_nth (w ∷ whys) zero = w
why_nth (w ∷ whys) (suc number) = why_nth whys number

why_ended : (ended : List Ended) (number : ℕ) → why_at (slice_get ended number) ≡ why_nth (map (λ e. e.why) ended) number
unfolding why_nth
why_ended [] number = refl
why_ended (e ∷ ended) zero = refl
why_ended (e ∷ ended) (suc number) = why_ended ended number

far_from : (first name : List ℕ) (names : List (List ℕ)) (number : ℕ) → slice_get names number ≡ Some name → All (λ n. first ≢ n) names → first ≢ name
far_from first name [] number e all = cc (e)
far_from first name (n ∷ names) zero e all = λ same. all 0 n (omega arith) (same ∙ sym (cc (e)))
far_from first name (n ∷ names) (suc number) e all = far_from first name names number e (λ i d lt. all (suc i) d (omega (arith, lt)))

why_number : (names : List (List ℕ)) (sessions : List Session) (number : ℕ) (name : List ℕ) → AllPairs (λ a b. a ≢ b) names → length sessions ≡ length names → slice_get names number ≡ Some name
    → why_nth (map (λ s. s.why) sessions) number ≡ why_each names sessions name
unfolding why_nth
why_number [] sessions number name apart many e = absurd (cc (e))
why_number (first ∷ names) [] number name apart many e = absurd (omega (arith, many))
why_number (first ∷ names) (s ∷ sessions) zero name apart many e =
    let is : first ≡ name = cc (e) in
    sym (ap (λ (b : Bool). if b then s.why else why_each names sessions name) (bytes-same first name is))
why_number (first ∷ names) (s ∷ sessions) (suc number) name apart many e =
    let other : bytes_eq first name ≡ false = bytes-other first name (far_from first name names number e (λ i d lt. apart 0 (suc i) d (omega arith) (omega (arith, lt)))) in
    why_number names sessions number name (λ i j d lt less. apart (suc i) (suc j) d (omega (arith, lt)) (omega (arith, less))) (omega (arith, many)) e
    ∙ sym (ap (λ (b : Bool). if b then s.why else why_each names sessions name) other)

-- the texts of each session, by its name
far_texts : (first : List ℕ) (out : List Outcome) (names : List (List ℕ)) (outs : List (List Outcome)) (some : List (List ℕ)) → All (λ n. first ≢ n) some
    → map (λ n. texts_of (each_of names outs n)) some ≡ map (λ n. texts_of (each_of (first ∷ names) (out ∷ outs) n)) some
far_texts first out names outs [] far = refl
far_texts first out names outs (n ∷ some) far =
    let other : bytes_eq first n ≡ false = bytes-other first n (λ q. far 0 n (omega arith) q) in
    ap₂ (λ (x : List (List ℕ)) (xs : List (List (List ℕ))). x ∷ xs) (ap (λ (b : Bool). texts_of (if b then out else each_of names outs n)) (sym other))
    (far_texts first out names outs some (λ i d lt. far (suc i) d (omega (arith, lt))))

own_texts : (hash : Hash) (table : TableId) (low floor : ℕ) (names : List (List ℕ)) (sessions : List Session) (outs : List (List Outcome)) → AreOuts hash table low floor sessions outs → length outs ≡ length names
    → AllPairs (λ a b. a ≢ b) names → map (λ s. s.texts.items) sessions ≡ map (λ n. texts_of (each_of names outs n)) names
own_texts hash table low floor [] [] [] are many apart = refl
own_texts hash table low floor (first ∷ names) [] [] are many apart = absurd (omega (arith, many))
own_texts hash table low floor names [] (out ∷ outs) are many apart = absurd are
own_texts hash table low floor names (s ∷ sessions) [] are many apart = absurd are
own_texts hash table low floor [] (s ∷ sessions) (out ∷ outs) are many apart = absurd (omega (arith, many))
own_texts hash table low floor (first ∷ names) (s ∷ sessions) (out ∷ outs) are many apart =
    let here : s.texts.items ≡ texts_of (each_of (first ∷ names) (out ∷ outs) first) =
    are.0.texts ∙ sym (ap (λ (b : Bool). texts_of (if b then out else each_of names outs first)) (bytes-same first first refl)) in
    let more = own_texts hash table low floor names sessions outs are.1 (omega (arith, many)) (λ i j d lt less. apart (suc i) (suc j) d (omega (arith, lt)) (omega (arith, less))) in
    ap₂ (λ (x : List (List ℕ)) (xs : List (List (List ℕ))). x ∷ xs) here (more ∙ far_texts first out names outs names (λ i d lt. apart 0 (suc i) d (omega arith) (omega (arith, lt))))

-- where all lines are of one session another one has none
own_other : (name other : List ℕ) (outcomes : List Outcome) → All (λ o. o.line.session ≡ name) outcomes → other ≢ name → of_session other outcomes ≡ []
own_other name other [] all far = refl
own_other name other (o ∷ outcomes) all far =
    let apart : bytes_eq o.line.session other ≡ false = bytes-other o.line.session other (λ q. far (sym q ∙ all 0 o (omega arith))) in
    ap (λ (b : Bool). if b then o ∷ of_session other outcomes else of_session other outcomes) apart ∙ own_other name other outcomes (λ i d lt. all (suc i) d (omega (arith, lt))) far

-- what holds of each outcome holds of those of a session
own_each : (P : Outcome → Type 0) (name : List ℕ) (outcomes : List Outcome) → All P outcomes → All P (of_session name outcomes)
own_each P name [] all = λ i d lt. absurd (omega arith)
own_each P name (o ∷ outcomes) all = go (bytes_eq o.line.session name) (own_each P name outcomes (λ i d lt. all (suc i) d (omega (arith, lt))))
  where
    cons : All P (of_session name outcomes) → All P (o ∷ of_session name outcomes)
    cons rest zero d lt = all 0 o (omega arith)
    cons rest (suc i) d lt = rest i d (omega (arith, lt))

    go : (b : Bool) → All P (of_session name outcomes) → All P (if b then o ∷ of_session name outcomes else of_session name outcomes)
    go true rest = cons rest
    go false rest = rest

flat_texts : (answers : List Answered) → flat_map (λ text. text) (map answer_line answers) ≡ flat_map answer_line answers
flat_texts [] = refl
flat_texts (a ∷ answers) = ap (λ (l : List ℕ). answer_line a ++ l) (flat_texts answers)

module _ (hash : Hash) (table : TableId) (links : Bool) (names : List (List ℕ)) (lines : List Line) (order : List ℕ) (before after : List Session) (ended : List Ended) (old mid new : KnownPass)
    (p : WasPlayed hash table names lines order before after ended old mid new) where
  abbrev low : ℕ
  low = old.view.least.durable

  abbrev floor : ℕ
  floor = old.view.least.linked

  abbrev outcomes : List Outcome
  outcomes = outcomes_in hash table links names lines order before after ended old mid new p

  abbrev each : Each
  each = by_name hash table links names lines order before after ended old mid new p

  abbrev whys : List ℕ → Option LineError
  whys name = why_each names after name

  many : length p.outs.outs ≡ length names
  many = length_same (map line_in) (λ n. lines_with n lines) p.outs.outs names (same_lines hash table links names lines order before after ended old mid new p)

  same_many : (sessions : List Session) (outs : List (List Outcome)) → AreOuts hash table low floor sessions outs → length sessions ≡ length outs
  same_many [] [] are = refl
  same_many [] (out ∷ outs) are = absurd are
  same_many (s ∷ sessions) [] are = absurd are
  same_many (s ∷ sessions) (out ∷ outs) are = omega (arith, same_many sessions outs are.1)

  -- the texts that are left are those of the sessions, by their names
  left : texts_left ended ≡ map (λ n. texts_of (each n)) names
  left = p.gathered.texts ∙ own_texts hash table low floor names after p.outs.outs p.outs.are many p.apart

  -- what is written of the phase
  pub phase_texts : flat_map (λ text. text) (first_texts order ended) ≡ phase_text outcomes
  phase_texts =
      ap (λ (ts : List (List (List ℕ))). flat_map (λ text. text) (texts_in_order order ts)) left
      ∙ ap (λ (ts : List (List ℕ)). flat_map (λ text. text) ts)
      (order_texts names lines order each p.apart p.dealt.numbered (matches_of hash table links names lines order before after ended old mid new p))
      ∙ flat_texts (first_replies outcomes)

  -- where it stopped
  stops : EndsAt names whys outcomes (stop_in_order order (texts_left ended))
  stops = subst (λ (ts : List (List (List ℕ))). EndsAt names whys outcomes (stop_in_order order ts)) (sym left)
      (order_stop names whys lines order each p.apart p.dealt.numbered (matches_of hash table links names lines order before after ended old mid new p)
      (λ name. fits_each hash table low floor names after p.outs.outs p.outs.are name))

  -- why, by the number of the session
  by_number : (number : ℕ) (name : List ℕ) → slice_get names number ≡ Some name → why_of ended (Some number) ≡ whys name
  by_number number name is =
      let count : length after ≡ length names = omega (arith, same_many after p.outs.outs p.outs.are, many) in
      why_ended ended number ∙ ap (λ (ws : List (Option LineError)). why_nth ws number) p.gathered.whys ∙ why_number names after number name p.apart count is

  pub phase_ends : EndsPhase outcomes (stop_of order ended)
  phase_ends = go (stop_in_order order (texts_left ended)) stops
    where
      go : (stop : Option ℕ) → EndsAt names whys outcomes stop → EndsPhase outcomes (why_of ended stop)
      go None all = all
      go (Some number) e =
          subst (EndsPhase outcomes) (sym (by_number number e.0 e.1 ∙ e.3)) (record { line = e.4.0; next = (e.4.1, e.4.2) })

  -- a session of another name than the one that all lines have left nothing
  none_left : (name other : List ℕ) → All (λ o. o.line.session ≡ name) outcomes → other ≢ name → each other ≡ []
  none_left name other all far =
      sym (together_own lines each (matches_of hash table links names lines order before after ended old mid new p) other) ∙ own_other name other outcomes all far

  -- where all lines are of one session, and it wasn't the disk that failed at the line that stopped it, no session has a fault of the disk
  unharmed : (name : List ℕ) → All (λ o. o.line.session ≡ name) outcomes → (stop_of order ended ≡ Some DiskFault → ⊥) → (other : List ℕ) → whys other ≡ Some DiskFault → ⊥
  unharmed name all fine other e = go (stop_in_order order (texts_left ended)) stops fine
    where
      cut : (n : List ℕ) (w : LineError) → whys n ≡ Some w → AreAnswered (each n) → ⊥
      cut n w = cut_each hash table low floor names after p.outs.outs p.outs.are n w

      -- a session that was cut off has that name
      mine : (n : List ℕ) (w : LineError) → whys n ≡ Some w → (b : Bool) → bytes_eq n name ≡ b → n ≡ name
      mine n w is true q = (bytes_eq-Decides n name).0 q
      mine n w is false q =
          let empty : each n ≡ [] = none_left name n all (λ s. true≢false (sym ((bytes_eq-Decides n name).1 s) ∙ q)) in
          absurd (cut n w is (subst AreAnswered (sym empty) (λ i d lt. absurd (omega arith))))

      go : (stop : Option ℕ) → EndsAt names whys outcomes stop → (why_of ended stop ≡ Some DiskFault → ⊥) → ⊥
      go None some other_why =
          cut other DiskFault e
          (subst AreAnswered (together_own lines each (matches_of hash table links names lines order before after ended old mid new p) other) (own_each (λ (o : Outcome). IsSome o.reply) other outcomes some))
      go (Some number) s other_why =
          let one : s.0 ≡ other = mine s.0 s.2 s.3 (bytes_eq s.0 name) refl ∙ sym (mine other DiskFault e (bytes_eq other name) refl) in
          other_why (by_number number s.0 s.1 ∙ ap (λ (n : List ℕ). whys n) one ∙ e)

  -- what the pass that takes all in knows of faults
  pub phase_knows : KnowsFaults old new outcomes (stop_of order ended)
  phase_knows = record {
    knows = λ is. known (stop_in_order order (texts_left ended)) stops is;
    failed = λ is items m. let_down (stop_in_order order (texts_left ended)) stops is items m;
    calm = λ some. omega (arith, p.gathered.faults, p.calm, calm_all hash table low floor after p.outs.outs p.outs.are (counted some));
    alone = λ one fine. omega (
      arith,
      p.gathered.faults,
      p.calm,
      quiet_all hash table low floor names after p.outs.outs p.outs.are many p.apart (unharmed one.0 (one.1 0 outcomes (omega arith)) fine),
    );
  }
    where
      known : (stop : Option ℕ) → EndsAt names whys outcomes stop → why_of ended stop ≡ Some DiskFault → 1 ≤ new.view.least.failed
      known None all is = absurd (cc (is))
      known (Some number) e is =
          known_each hash table low floor new.view.least.failed names after p.outs.outs p.outs.are p.gathered.all_failed e.0 (sym (by_number number e.0 e.1) ∙ is)

      let_down : (stop : Option ℕ) → EndsAt names whys outcomes stop → why_of ended stop ≡ Some DiskFault → (items : List LogItem) → MayBecome new items → FailsAt (history_of items) low outcomes
      let_down None all is items m = absurd (cc (is))
      let_down (Some number) e is items m =
          let may = own_may hash table links names lines order before after ended old mid new p items m in
          let here : StopsHere (history_of items) low (each e.0) =
          failed_each hash table low floor items names after p.outs.outs p.outs.are may e.0 (sym (by_number number e.0 e.1) ∙ is) in
          let own : of_session e.0 outcomes ≡ each e.0 = together_own lines each (matches_of hash table links names lines order before after ended old mid new p) e.0 in
          phase_fails (history_of items) low outcomes e.0 e.4.0 e.4.1 e.4.2 e.4.3 (subst (StopsHere (history_of items) low) (sym own) here)

      counted : AreAnswered outcomes → sum_by (sum_by unanswered) p.outs.outs ≡ 0
      counted some =
          let all = together_sum unanswered names lines each (matches_of hash table links names lines order before after ended old mid new p) p.named p.apart
          (λ name none. each_none names p.outs.outs name none) in
          omega (arith, answered_none outcomes some, all, sum_outs unanswered names p.outs.outs many p.apart)

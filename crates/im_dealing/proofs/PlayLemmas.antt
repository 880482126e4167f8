-- A phase between two moments of the pass that takes all others in.
use Rattle.std.proofs.Common.{◌≡◌, ◌≢◌, ◌⊎◌, inl, inr, ℕ, suc, ◌+◌, ◌<◌, ◌≤◌, List, [], ◌∷◌, length, map, Bool, true, false, if◌then◌else◌, refl, ap, sym, ◌∙◌, subst, arith, slice_index_or, true≢false}
use Rattle.std.specs.Prelude.{All, AllPairs, take}
use Rattle.std.specs.List.{sum_by}
use Rattle.std.proofs.lemmas.List.{length-map}
use Rattle.std.proofs.lemmas.List.Elements.{All-map}
use Rattle.std.proofs.lemmas.List.Sums.{sum_by-cons}
use Rattle.std.specs.Str.{bytes_eq}
use Rattle.std.proofs.lemmas.Slice.Eq.{bytes_eq-Decides}
use Rattle.im_dealing.proofs.AloneLemmas.{alone_grown, alone_none}
use Rattle.im_dealing.proofs.EachLemmas.{each_all, each_matches, each_none, each_of, together_all}
use Rattle.im_dealing.proofs.OutLemmas.{AreOuts, HaveOuts, IsOut, outs_all, outs_own}
use Rattle.im_dealing.proofs.TogetherLemmas.{Each, Matches, sum_each, together, together_lines, together_own, together_sum}
use Rattle.im_dealing.specs.Dealing.{AreDealt, AreNamed, lines_with}
use Rattle.im_dealing.specs.Gathered.{AreGathered, leaves_of}
use Rattle.im_dealing.specs.Lines.{MayBecome}
use Rattle.im_dealing.specs.Phases.{HasGrown, IsPlayed, RanAlone, RunsAlone}
use Rattle.im_dealing.specs.declared.sessions.Ended.{Ended}
use Rattle.im_dealing.specs.declared.sessions.Session.{Session}
use Rattle.im_report.specs.Messages.{AreReadBack, IsReadBack}
use Rattle.im_digest.specs.Digests.{Hash}
use Rattle.im_octet.proofs.Common.{bytes-other, heads-are, tails-are}
use Rattle.im_report.proofs.OutcomeLemmas.{flat_all}
use Rattle.im_report.proofs.SingleLemmas.{own_all, session_none}
use Rattle.im_report.specs.Outcomes.{IsSession, Outcome, line_in, numbers_in, of_session, reply_in}
use Rattle.im_report.specs.Report.{Answered, floor_after}
use Rattle.im_report.specs.Sessions.{AreOfOne, floor_reached, replies_in, times_in}
use Rattle.im_script.specs.declared.commands.Line.{Line}
use Rattle.im_table.proofs.FrontLemmas.{prefix_trans}
use Rattle.im_table.specs.Histories.{history_of}
use Rattle.im_table.specs.Known.{KnownPass, TableId}
use Rattle.im_model.specs.Counts.{times}
use Rattle.im_table.specs.declared.items.LogItem.{LogItem}

-- added up by the names it is what it is list by list
sum_far : (f : Outcome → ℕ) (first : List ℕ) (out : List Outcome) (names : List (List ℕ)) (outs : List (List Outcome)) (some : List (List ℕ)) → All (λ n. first ≢ n) some
    → sum_each f some (each_of (first ∷ names) (out ∷ outs)) ≡ sum_each f some (each_of names outs)
sum_far f first out names outs [] far = refl
sum_far f first out names outs (n ∷ some) far =
    let other : bytes_eq first n ≡ false = bytes-other first n (λ q. far 0 n (omega arith) q) in
    let here : each_of (first ∷ names) (out ∷ outs) n ≡ each_of names outs n = ap (λ (b : Bool). if b then out else each_of names outs n) other in
    let rest = sum_far f first out names outs some (λ i d lt. far (suc i) d (omega (arith, lt))) in
    omega (arith, rest, ap (sum_by f) here, sum_by-cons (λ m. sum_by f (each_of (first ∷ names) (out ∷ outs) m)) n some, sum_by-cons (λ m. sum_by f (each_of names outs m)) n some)

pub sum_outs : (f : Outcome → ℕ) (names : List (List ℕ)) (outs : List (List Outcome)) → length outs ≡ length names → AllPairs (λ a b. a ≢ b) names → sum_each f names (each_of names outs) ≡ sum_by (sum_by f) outs
sum_outs f [] [] many apart = refl
sum_outs f [] (out ∷ outs) many apart = absurd (omega (arith, many))
sum_outs f (first ∷ names) [] many apart = absurd (omega (arith, many))
sum_outs f (first ∷ names) (out ∷ outs) many apart =
    let same : bytes_eq first first ≡ true = (bytes_eq-Decides first first).1 refl in
    let here : each_of (first ∷ names) (out ∷ outs) first ≡ out = ap (λ (b : Bool). if b then out else each_of names outs first) same in
    let far = sum_far f first out names outs names (λ i d lt. apart 0 (suc i) d (omega arith) (omega (arith, lt))) in
    let rest = sum_outs f names outs (omega (arith, many)) (λ i j d lt less. apart (suc i) (suc j) d (omega (arith, lt)) (omega (arith, less))) in
    omega (arith, far, rest, ap (sum_by f) here, sum_by-cons (λ m. sum_by f (each_of (first ∷ names) (out ∷ outs) m)) first names, sum_by-cons (sum_by f) out outs)

pub length_same : {X Y Z : Type 0} (f : X → Z) (g : Y → Z) (xs : List X) (ys : List Y) → map f xs ≡ map g ys → length xs ≡ length ys
length_same f g xs ys e = sym (length-map xs f) ∙ (ap length e ∙ length-map ys g)

-- the sessions with other names have no outcomes
abbrev pub OthersIdle : List ℕ → List (List ℕ) → List (List Outcome) → Type 0
OthersIdle name [] outs = Unit {0}
OthersIdle name (n ∷ names) [] = Unit {0}
OthersIdle name (n ∷ names) (out ∷ outs) = (n ≢ name → out ≡ []) × OthersIdle name names outs

-- where all lines are of one session, no line is of another
lines_other : (name other : List ℕ) (lines : List Line) → All (λ l. l.session ≡ name) lines → other ≢ name → lines_with other lines ≡ []
lines_other name other [] all far = refl
lines_other name other (line ∷ lines) all far =
    let apart : bytes_eq line.session other ≡ false = bytes-other line.session other (λ q. far (sym q ∙ all 0 line (omega arith))) in
    ap (λ (b : Bool). if b then line ∷ lines_with other lines else lines_with other lines) apart ∙ lines_other name other lines (λ i d lt. all (suc i) d (omega (arith, lt))) far

none_left : (outcomes : List Outcome) → map line_in outcomes ≡ [] → outcomes ≡ []
none_left [] e = refl
none_left (o ∷ outcomes) e = absurd (let long : suc (length (map line_in outcomes)) ≡ 0 = ap length e in omega (arith, long))

idle_of : (name : List ℕ) (lines : List Line) (names : List (List ℕ)) (outs : List (List Outcome)) → map (map line_in) outs ≡ map (λ n. lines_with n lines) names → All (λ l. l.session ≡ name) lines → OthersIdle name names outs
idle_of name lines [] outs e all = tt
idle_of name lines (n ∷ names) [] e all = tt
idle_of name lines (n ∷ names) (out ∷ outs) e all =
    let here : map line_in out ≡ lines_with n lines = heads-are (map line_in out) (lines_with n lines) (map (map line_in) outs) (map (λ m. lines_with m lines) names) e in
    let more : map (map line_in) outs ≡ map (λ m. lines_with m lines) names = tails-are (map line_in out) (lines_with n lines) (map (map line_in) outs) (map (λ m. lines_with m lines) names) e in
    (λ far. none_left out (here ∙ lines_other name n lines all far), idle_of name lines names outs more all)

-- Of sessions of which those with other names left nothing: none linked anything, or the one with this name alone.
abbrev pub OneLeft : Hash → TableId → ℕ → ℕ → List Session → List Outcome → Type 0
OneLeft hash table low floor sessions out =
    ((out ≡ []) × (sum_by leaves_of sessions ≡ 0))
    ⊎ ((i : ℕ) × (d : Session) × (i < length sessions) × IsOut hash table low floor (slice_index_or sessions i d) out × (sum_by leaves_of sessions ≡ leaves_of (slice_index_or sessions i d)))

rest_none : (hash : Hash) (table : TableId) (low floor : ℕ) (name : List ℕ) (names : List (List ℕ)) (sessions : List Session) (outs : List (List Outcome)) → AreOuts hash table low floor sessions outs → length outs ≡ length names
    → OthersIdle name names outs → All (λ n. n ≢ name) names → sum_by leaves_of sessions ≡ 0
rest_none hash table low floor name names [] [] are many idle far = refl
rest_none hash table low floor name names [] (out ∷ outs) are many idle far = absurd are
rest_none hash table low floor name names (s ∷ sessions) [] are many idle far = absurd are
rest_none hash table low floor name [] (s ∷ sessions) (out ∷ outs) are many idle far = absurd (omega (arith, many))
rest_none hash table low floor name (n ∷ names) (s ∷ sessions) (out ∷ outs) are many idle far =
    let here : leaves_of s ≡ 0 = are.0.idle (idle.0 (far 0 n (omega arith))) in
    let more = rest_none hash table low floor name names sessions outs are.1 (omega (arith, many)) idle.1 (λ i d lt. far (suc i) d (omega (arith, lt))) in
    omega (arith, here, more, sum_by-cons leaves_of s sessions)

one_left : (hash : Hash) (table : TableId) (low floor : ℕ) (name : List ℕ) (names : List (List ℕ)) (sessions : List Session) (outs : List (List Outcome)) → AreOuts hash table low floor sessions outs → length outs ≡ length names
    → AllPairs (λ a b. a ≢ b) names → OthersIdle name names outs → OneLeft hash table low floor sessions (each_of names outs name)
one_left hash table low floor name [] [] [] are many apart idle = inl (refl, refl)
one_left hash table low floor name (n ∷ names) [] [] are many apart idle = absurd (omega (arith, many))
one_left hash table low floor name names [] (out ∷ outs) are many apart idle = absurd are
one_left hash table low floor name names (s ∷ sessions) [] are many apart idle = absurd are
one_left hash table low floor name [] (s ∷ sessions) (out ∷ outs) are many apart idle = absurd (omega (arith, many))
one_left hash table low floor name (n ∷ names) (s ∷ sessions) (out ∷ outs) are many apart idle =
    go (bytes_eq n name) refl (one_left hash table low floor name names sessions outs are.1 (omega (arith, many)) (λ i j d lt less. apart (suc i) (suc j) d (omega (arith, lt)) (omega (arith, less))) idle.1)
  where
    behind : n ≡ name → sum_by leaves_of sessions ≡ 0
    behind is = rest_none hash table low floor name names sessions outs are.1 (omega (arith, many)) idle.1 (λ i d lt q. apart 0 (suc i) d (omega arith) (omega (arith, lt)) (is ∙ sym q))

    later : leaves_of s ≡ 0 → OneLeft hash table low floor sessions (each_of names outs name) → OneLeft hash table low floor (s ∷ sessions) (each_of names outs name)
    later none (inl (e, z)) = inl (e, omega (arith, none, z, sum_by-cons leaves_of s sessions))
    later none (inr (i, d, lt, is, sum)) = inr (suc i, d, omega (arith, lt), is, omega (arith, none, sum, sum_by-cons leaves_of s sessions))

    go : (b : Bool) → bytes_eq n name ≡ b → OneLeft hash table low floor sessions (each_of names outs name) → OneLeft hash table low floor (s ∷ sessions) (if b then out else each_of names outs name)
    go true e rest = inr (0, s, omega arith, are.0, omega (arith, behind ((bytes_eq-Decides n name).0 e), sum_by-cons leaves_of s sessions))
    go false e rest = later (are.0.idle (idle.0 (λ q. true≢false (sym ((bytes_eq-Decides n name).1 q) ∙ e)))) rest

-- what a phase was begun and ended with
pub record WasPlayed (hash : Hash) (table : TableId) (names : List (List ℕ)) (lines : List Line) (order : List ℕ) (before after : List Session) (ended : List Ended) (old mid new : KnownPass) : Type 0 where
  pub named : AreNamed names lines
  pub apart : AllPairs (λ a b. a ≢ b) names
  pub dealt : AreDealt names lines order (map (λ (s : Session). s.lines.items) before)
  pub outs : HaveOuts hash table old.view.least.durable old.view.least.linked before after
  pub gathered : AreGathered table mid new after ended
  pub grown : HasGrown old mid
  pub own : mid.view.own ≡ old.view.own
  pub calm : mid.view.faults ≡ old.view.faults

module _ (hash : Hash) (table : TableId) (links : Bool) (names : List (List ℕ)) (lines : List Line) (order : List ℕ) (before after : List Session) (ended : List Ended) (old mid new : KnownPass) where
  -- of each session's lists those that the one list may become
  pub own_may : WasPlayed hash table names lines order before after ended old mid new → (items : List LogItem) → MayBecome new items → All (λ (s : Session). MayBecome s.pass items) after
  own_may p items m = λ i d lt. record {
    begins = prefix_trans _ new.view.seen items (p.gathered.seen i d lt) m.begins;
    enough = omega (arith, p.gathered.all_durable i d lt, m.enough);
    history = m.history;
  }

  abbrev pub by_name : WasPlayed hash table names lines order before after ended old mid new → Each
  by_name p = each_of names p.outs.outs

  pub same_lines : (p : WasPlayed hash table names lines order before after ended old mid new) → map (map line_in) p.outs.outs ≡ map (λ n. lines_with n lines) names
  same_lines p = p.outs.lines_are ∙ p.dealt.each

  pub matches_of : (p : WasPlayed hash table names lines order before after ended old mid new) → Matches lines (by_name p)
  matches_of p = each_matches names p.outs.outs lines p.named (same_lines p)

  abbrev pub outcomes_in : WasPlayed hash table names lines order before after ended old mid new → List Outcome
  outcomes_in p = together lines (by_name p)

  -- what holds of each session's outcomes holds by each name
  by_each : (p : WasPlayed hash table names lines order before after ended old mid new) (P : Session → Type 0) (Q : List Outcome → Type 0) → All P after → Q [] → ((s : Session) (out : List Outcome) → P s → IsOut hash table old.view.least.durable old.view.least.linked s out → Q out) → (name : List ℕ) → Q (by_name p name)
  by_each p P Q all none step = each_all Q names p.outs.outs none (outs_all hash table old.view.least.durable old.view.least.linked P Q after p.outs.outs p.outs.are all step)

  pub each_session : (p : WasPlayed hash table names lines order before after ended old mid new) (items : List LogItem) → MayBecome new items → (name : List ℕ) → IsSession hash old.view.least.durable old.view.least.linked (history_of items) (of_session name (outcomes_in p))
  each_session p items m name =
      subst (IsSession hash old.view.least.durable old.view.least.linked (history_of items)) (sym (together_own lines (by_name p) (matches_of p) name))
      (by_each p (λ s. MayBecome s.pass items) (IsSession hash old.view.least.durable old.view.least.linked (history_of items)) (own_may p items m) (session_none hash old.view.least.durable old.view.least.linked (history_of items)) (λ s out may is. is.session items may) name)

  -- of each reply
  each_reply : (p : WasPlayed hash table names lines order before after ended old mid new) (P : Session → Type 0) (R : Answered → Type 0) → All P after → ((s : Session) (out : List Outcome) → P s → IsOut hash table old.view.least.durable old.view.least.linked s out → All (λ o. All R (reply_in o)) out) → All R (replies_in (outcomes_in p))
  each_reply p P R all step =
      flat_all R reply_in (outcomes_in p) (together_all (λ o. All R (reply_in o)) lines (by_name p) (matches_of p) (by_each p P (All (λ o. All R (reply_in o))) all (λ i d lt. absurd (omega arith)) step))

  pub all_read_back : (p : WasPlayed hash table names lines order before after ended old mid new) (items : List LogItem) → MayBecome new items → AreReadBack hash (history_of items) (replies_in (outcomes_in p))
  all_read_back p items m =
      each_reply p (λ s. MayBecome s.pass items) (λ a. IsReadBack hash (take a.number (history_of items)) a.line.command a.reply) (own_may p items m) (λ s out may is. is.again items may)

  pub all_durable : (p : WasPlayed hash table names lines order before after ended old mid new) → All (λ a. a.number ≤ new.view.least.durable) (replies_in (outcomes_in p))
  all_durable p =
      each_reply p (λ s. s.pass.view.least.durable ≤ new.view.least.durable) (λ a. a.number ≤ new.view.least.durable) p.gathered.all_durable
      (λ s out le is i d lt j e less. omega (arith, is.known i d lt j e less, le))

  pub floors_reached : (p : WasPlayed hash table names lines order before after ended old mid new) → All (λ o. floor_reached old.view.least.linked (outcomes_in p) o ≤ new.view.least.linked) (outcomes_in p)
  floors_reached p = λ i d lt.
      let name = (slice_index_or (outcomes_in p) i d).line.session in
      subst (λ (l : List Outcome). floor_after old.view.least.linked (replies_in l) ≤ new.view.least.linked) (sym (together_own lines (by_name p) (matches_of p) name))
      (by_each p (λ s. s.pass.view.least.linked ≤ new.view.least.linked) (λ out. floor_after old.view.least.linked (replies_in out) ≤ new.view.least.linked) p.gathered.all_linked
      (omega (arith, p.grown.linked, p.gathered.linked)) (λ s out le is. omega (arith, is.reached, le)) name)

  pub own_counted : (p : WasPlayed hash table names lines order before after ended old mid new) (k : ℕ) → times k new.view.own ≡ times k old.view.own + times_in k (outcomes_in p)
  own_counted p k =
      let f : Outcome → ℕ = λ o. times k (numbers_in o) in
      let many : length p.outs.outs ≡ length names = length_same (map line_in) (λ n. lines_with n lines) p.outs.outs names (same_lines p) in
      let all = together_sum f names lines (by_name p) (matches_of p) p.named p.apart (λ name none. each_none names p.outs.outs name none) in
      omega (arith, p.gathered.own k, ap (times k) p.own, outs_own hash table old.view.least.durable old.view.least.linked k after p.outs.outs p.outs.are, all, sum_outs f names p.outs.outs many p.apart)

  -- where all lines are of one session, and no helper linked, that session alone placed and linked
  alone_by : (p : WasPlayed hash table names lines order before after ended old mid new) (out : List Outcome) → mid.view.leaves ≡ old.view.leaves → OneLeft hash table old.view.least.durable old.view.least.linked after out → RanAlone old new out
  alone_by p out idle (inl (none, linked)) = (
    0,
    omega (arith, p.gathered.leaves, idle, linked),
    subst (RunsAlone old.view.least.durable old.view.least.linked 0 new) (sym none)
        (alone_none old.view.least.durable old.view.least.linked new (omega (arith, p.grown.durable, p.gathered.durable)) (omega (arith, p.grown.linked, p.gathered.linked))),
  )
  alone_by p out idle (inr (i, d, lt, is, sum)) =
      let s = slice_index_or after i d in (
        leaves_of s,
        omega (arith, p.gathered.leaves, idle, sum),
        alone_grown old.view.least.durable old.view.least.linked (leaves_of s) s.pass new out (p.gathered.seen i d lt) (p.gathered.all_durable i d lt) (p.gathered.all_linked i d lt) is.alone,
      )

  ran_alone : (p : WasPlayed hash table names lines order before after ended old mid new) → mid.view.leaves ≡ old.view.leaves → AreOfOne (outcomes_in p ∷ []) → RanAlone old new (outcomes_in p)
  ran_alone p idle one =
      let name : List ℕ = one.0 in
      let mine : All (λ o. o.line.session ≡ name) (outcomes_in p) = one.1 0 (outcomes_in p) (omega arith) in
      let named : All (λ l. l.session ≡ name) lines = subst (All (λ (l : Line). l.session ≡ name)) (together_lines lines (by_name p) (matches_of p)) (All-map (λ (l : Line). l.session ≡ name) line_in (outcomes_in p) mine) in
      let is : outcomes_in p ≡ by_name p name = sym (own_all name (outcomes_in p) mine) ∙ together_own lines (by_name p) (matches_of p) name in
      let many : length p.outs.outs ≡ length names = length_same (map line_in) (λ n. lines_with n lines) p.outs.outs names (same_lines p) in
      let left : OneLeft hash table old.view.least.durable old.view.least.linked after (by_name p name) =
      one_left hash table old.view.least.durable old.view.least.linked name names after p.outs.outs p.outs.are many p.apart (idle_of name lines names p.outs.outs (same_lines p) named) in
      subst (RanAlone old new) (sym is) (alone_by p (by_name p name) idle left)

  -- the phase, where no helper linked unless a linker runs
  pub phase_is : (p : WasPlayed hash table names lines order before after ended old mid new) → (links ≡ false → mid.view.leaves ≡ old.view.leaves) → IsPlayed hash links old new lines (outcomes_in p)
  phase_is p idle = record {
    grown = record {
      seen = prefix_trans old.view.seen mid.view.seen new.view.seen p.grown.seen p.gathered.mine;
      durable = omega (arith, p.grown.durable, p.gathered.durable);
      linked = omega (arith, p.grown.linked, p.gathered.linked);
      failed = omega (arith, p.grown.failed, p.gathered.failed);
    };
    lines_are = together_lines lines (by_name p) (matches_of p);
    each = each_session p;
    again = all_read_back p;
    most = all_durable p;
    reached = floors_reached p;
    own = own_counted p;
    alone = λ off one. ran_alone p (idle off) one;
  }

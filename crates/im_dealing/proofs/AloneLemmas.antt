-- What is known of a pass where the lines of one session alone placed and linked anything.
use Rattle.std.proofs.Common.{◌≡◌, ℕ, zero, suc, ◌+◌, ◌≤◌, ◌++◌, List, [], ◌∷◌, length, map, Option, Some, None, refl, ap, sym, ◌∙◌, subst, arith, append-nil, append_assoc, length-append, true≢false}
use Rattle.std.specs.Prelude.{All, IfSome, IsSome}
use Rattle.std.specs.List.{flat_map}
use Rattle.std.proofs.lemmas.List.Concat.{flat_map-append}
use Rattle.std.proofs.lemmas.List.Elements.{All-append}
use mathlib.Core.List.{IsPrefix}
use Rattle.im_dealing.proofs.EndLemmas.{outcomes_of, stop_in}
use Rattle.im_dealing.proofs.GrowLemmas.{may_before}
use Rattle.im_dealing.specs.Lines.{MayBecome}
use Rattle.im_dealing.specs.Phases.{HasGrown, RunsAlone, count_in}
use Rattle.im_dealing.specs.Runs.{HasRun, IsAlone, IsCutAt, IsRun, Start, numbers_told}
use Rattle.im_dealing.specs.declared.errors.LineError.{LineError}
use Rattle.im_digest.specs.Digests.{Hash}
use Rattle.im_model.specs.History.{transaction_of}
use Rattle.im_model.specs.declared.transactions.Transaction.{Transaction}
use Rattle.im_octet.proofs.Common.{all-right}
use Rattle.im_report.proofs.AloneLemmas.{floors_behind}
use Rattle.im_report.proofs.OutcomeLemmas.{numbers_answered, numbers_halted, replies_answered}
use Rattle.im_report.proofs.SingleLemmas.{floor_both}
use Rattle.im_report.specs.Further.{number_of_reply}
use Rattle.im_model.specs.Counts.{number_or_none}
use Rattle.im_report.specs.Outcomes.{IsLate, Outcome, answered, floors_told, halted, not_run, numbers_in, reply_in}
use Rattle.im_report.specs.Report.{Answered, floor_after}
use Rattle.im_report.specs.Sessions.{AreAnswered, IsJustOver, floors_of, replies_in}
use Rattle.im_script.specs.declared.commands.Line.{Line}
use Rattle.im_table.proofs.FrontLemmas.{prefix_trans}
use Rattle.im_table.specs.Histories.{history_of}
use Rattle.im_table.specs.Known.{KnownPass}
use Rattle.im_table.specs.declared.items.LogItem.{LogItem}

-- the numbers that replies tell, in the words of the report
told_same : (answers : List Answered) → flat_map number_of_reply answers ≡ numbers_told answers
told_same [] = refl
told_same (a ∷ answers) = ap (λ (l : List ℕ). number_of_reply a ++ l) (told_same answers)

-- the numbers of answered lines
numbers_whole : (answers : List Answered) → flat_map numbers_in (map answered answers) ≡ numbers_told answers
numbers_whole answers =
    ap (flat_map numbers_in) (sym (append-nil (map answered answers)))
    ∙ (numbers_answered answers [] ∙ (append-nil (flat_map number_of_reply answers) ∙ told_same answers))

-- and of those of a session that was cut off
numbers_cut : (answers : List Answered) (line : Line) (late : Option ℕ) (others : List Line)
    → flat_map numbers_in (map answered answers ++ halted line late ∷ map not_run others) ≡ numbers_told answers ++ number_or_none late
numbers_cut answers line late others =
    numbers_answered answers (halted line late ∷ map not_run others)
    ∙ (ap (λ (l : List ℕ). flat_map number_of_reply answers ++ l) (numbers_halted line late others) ∙ ap (λ (l : List ℕ). l ++ number_or_none late) (told_same answers))

replies_whole : (answers : List Answered) → replies_in (map answered answers) ≡ answers
replies_whole answers = ap replies_in (sym (append-nil (map answered answers))) ∙ (replies_answered answers [] ∙ append-nil answers)

-- lines that weren't run have no floors
pub floors_unrun : (floor : ℕ) (lines : List Line) → floors_of floor (map not_run lines) ≡ []
floors_unrun floor [] = refl
floors_unrun floor (l ∷ lines) = floors_unrun floor lines

-- a session whose lines were all answered
whole_alone : (hash : Hash) (start : Start) (p : KnownPass) (answers : List Answered) → IsRun hash start p answers → RunsAlone start.low start.floor p.view.leaves p (map answered answers)
whole_alone hash start p answers run =
    let out : List Outcome = map answered answers in
    let many : count_in out ≡ length p.view.own = ap length (numbers_whole answers) ∙ sym (ap length run.own) in
    let floors = ap (floors_of start.floor) (sym (append-nil out)) ∙ (floors_behind start.floor answers [] ∙ append-nil (floors_told start.floor answers)) in
    let alone : p.view.least.linked ≡ start.floor + p.view.leaves → p.view.least.durable ≤ start.low + count_in out → IsAlone start p =
    λ linked durable. record { linked = linked; durable = omega (arith, durable, many, run.placed) } in
    record {
      slack = run.leaves;
      risen = λ some. omega (arith, run.placed, many);
      placed = λ items m most le all. omega (arith, run.placed, many, le);
      exact = λ some linked durable. ap (floor_after start.floor) (replies_whole answers) ∙ run.exact (alone linked durable);
      just = λ linked durable items m all. subst (All (IsJustOver (history_of items))) (sym floors) (run.just (alone linked durable) items m);
    }

-- a line without a reply
pub not_answered : (answers : List Answered) (line : Line) (late : Option ℕ) (others : List Line) → AreAnswered (map answered answers ++ halted line late ∷ map not_run others) → ⊥
not_answered answers line late others some =
    let rest : All (λ o. IsSome o.reply) (halted line late ∷ map not_run others) = all-right (λ (o : Outcome). IsSome o.reply) (map answered answers) (halted line late ∷ map not_run others) some in
    true≢false (sym (rest 0 (not_run line) (omega arith)))

-- what nobody else linked or placed behind a line that was cut off wasn't before it
alone_cut : (hash : Hash) (start : Start) (p : KnownPass) (answers : List Answered) (line : Line) (why : LineError) → (cut : IsCutAt hash start p answers line why)
    → p.view.least.linked ≡ start.floor + p.view.leaves → cut.before.view.least.durable ≤ start.low + length cut.before.view.own → IsAlone start cut.before
alone_cut hash start p answers line why cut linked durable = record {
  linked = omega (arith, linked, cut.run.leaves, cut.stuck.slack);
  durable = omega (arith, durable, cut.run.placed);
}

-- a session that was cut off, where nothing was placed for the line without a reply
cut_none : (hash : Hash) (start : Start) (p : KnownPass) (answers : List Answered) (line : Line) (why : LineError) (others : List Line) → IsCutAt hash start p answers line why
    → RunsAlone start.low start.floor p.view.leaves p (map answered answers ++ halted line None ∷ map not_run others)
cut_none hash start p answers line why others cut =
    let out : List Outcome = map answered answers ++ halted line None ∷ map not_run others in
    let b = cut.before in
    let many : count_in out ≡ length b.view.own = ap length (numbers_cut answers line None others ∙ append-nil (numbers_told answers)) ∙ sym (ap length cut.run.own) in
    let up = cut.later.durable in
    record {
      slack = omega (arith, cut.run.leaves, cut.stuck.slack);
      risen = λ some. absurd (not_answered answers line None others some);
      placed = λ items m most le all. omega (arith, cut.run.placed, many, le, up);
      exact = λ some linked durable. absurd (not_answered answers line None others some);
      just = λ linked durable items m all.
          let alone = alone_cut hash start p answers line why cut linked (omega (arith, durable, many, up)) in
          subst (All (IsJustOver (history_of items)))
          (sym (floors_behind start.floor answers (halted line None ∷ map not_run others) ∙ (ap (λ (l : List (ℕ × ℕ)). floors_told start.floor answers ++ l) (floors_unrun (floor_after start.floor answers) others) ∙ append-nil (floors_told start.floor answers))))
          (cut.run.just alone items (may_before b p items cut.later m));
    }

-- and where one transaction was
cut_late : (hash : Hash) (start : Start) (p : KnownPass) (answers : List Answered) (line : Line) (why : LineError) (others : List Line) (n : ℕ) → (cut : IsCutAt hash start p answers line why)
    → ((items : List LogItem) → MayBecome p items → IsLate (history_of items) cut.before.view.least.durable cut.before.view.least.linked line.command n)
    → ((items : List LogItem) → MayBecome p items → (transaction_of (history_of items) n).bl ≤ p.view.least.linked) → p.view.leaves ≡ cut.before.view.leaves
    → RunsAlone start.low start.floor p.view.leaves p (map answered answers ++ halted line (Some n) ∷ map not_run others)
cut_late hash start p answers line why others n cut late under still =
    let out : List Outcome = map answered answers ++ halted line (Some n) ∷ map not_run others in
    let b = cut.before in
    let floor : ℕ = floor_after start.floor answers in
    let numbers : flat_map numbers_in out ≡ numbers_told answers ++ n ∷ [] = numbers_cut answers line (Some n) others in
    let many : count_in out ≡ length b.view.own + 1 = ap length numbers ∙ (length-append (numbers_told answers) (n ∷ []) ∙ ap (λ (k : ℕ). k + 1) (sym (ap length cut.run.own))) in
    let up = cut.later.durable in
    let last : (most : ℕ) → All (λ k. k ≤ most) (flat_map numbers_in out) → n ≤ most =
    λ most all. all-right (λ (k : ℕ). k ≤ most) (numbers_told answers) (n ∷ []) (subst (All (λ (k : ℕ). k ≤ most)) numbers all) 0 n (omega arith) in
    record {
      slack = omega (arith, cut.run.leaves, cut.stuck.slack);
      risen = λ some. absurd (not_answered answers line (Some n) others some);
      placed = λ items m most le all. let l = late items m in let within = last most all in omega (arith, cut.run.placed, many, l.least, l.behind, within);
      exact = λ some linked durable. absurd (not_answered answers line (Some n) others some);
      just = λ linked durable items m all.
          let l = late items m in
          let within : n ≤ start.low + count_in out = last (start.low + count_in out) all in
          let alone = alone_cut hash start p answers line why cut linked (omega (arith, l.least, l.behind, within, many)) in
          let over : b.view.least.linked ≤ (transaction_of (history_of items) n).bl = (late items m).over in
          let below : (transaction_of (history_of items) n).bl ≤ p.view.least.linked = under items m in
          let reached : floor ≡ b.view.least.linked = cut.run.exact alone in
          let same : b.view.least.linked ≡ start.floor + b.view.leaves = alone.linked in
          let here : (transaction_of (history_of items) n).bl ≡ floor = omega (arith, reached, same, linked, still, over, below) in
          subst (All (IsJustOver (history_of items)))
          (sym (floors_behind start.floor answers (halted line (Some n) ∷ map not_run others) ∙ ap (λ (l : List (ℕ × ℕ)). floors_told start.floor answers ++ (n, floor) ∷ l) (floors_unrun floor others)))
          (All-append (IsJustOver (history_of items)) (floors_told start.floor answers) ((n, floor) ∷ []) (cut.run.just alone items (may_before b p items cut.later m)) (single (history_of items) here));
    }
  where
    single : (h : List Transaction) → (transaction_of h n).bl ≡ floor_after start.floor answers → All (IsJustOver h) ((n, floor_after start.floor answers) ∷ [])
    single h is zero d lt = is
    single h is (suc i) d lt = absurd (omega (arith, lt))

pub ended_alone : (hash : Hash) (start : Start) (p : KnownPass) (lines : List Line) (answers : List Answered) (why : Option LineError) (ran : HasRun hash start p lines answers why)
    → RunsAlone start.low start.floor p.view.leaves p (outcomes_of answers (stop_in hash start p lines answers why ran))
ended_alone hash start p lines answers None ran = whole_alone hash start p answers ran.1
ended_alone hash start p lines answers (Some why) (line, others, e, cut) = go cut.stuck.late cut.stuck.tx cut.stuck.under cut.stuck.still
  where
    go : (late : Option ℕ) → IfSome late (λ n. (items : List LogItem) → MayBecome p items → IsLate (history_of items) cut.before.view.least.durable cut.before.view.least.linked line.command n)
        → IfSome late (λ n. (items : List LogItem) → MayBecome p items → (transaction_of (history_of items) n).bl ≤ p.view.least.linked) → IfSome late (λ n. p.view.leaves ≡ cut.before.view.leaves)
        → RunsAlone start.low start.floor p.view.leaves p (map answered answers ++ halted line late ∷ map not_run others)
    go None tx under still = cut_none hash start p answers line why others cut
    go (Some n) tx under still = cut_late hash start p answers line why others n cut tx under still

-- a session without outcomes linked nothing
pub ended_idle : (hash : Hash) (start : Start) (p : KnownPass) (lines : List Line) (answers : List Answered) (why : Option LineError) (ran : HasRun hash start p lines answers why)
    → outcomes_of answers (stop_in hash start p lines answers why ran) ≡ [] → p.view.leaves ≡ 0
ended_idle hash start p lines answers None ran none = ran.1.unlinked (empty answers none)
  where
    empty : (xs : List Answered) → map answered xs ≡ [] → xs ≡ []
    empty [] e = refl
    empty (a ∷ xs) e = absurd (let long : suc (length (map answered xs)) ≡ 0 = ap length e in omega (arith, long))
ended_idle hash start p lines answers (Some why) (line, others, e, cut) none =
    absurd (let long : length (map answered answers ++ halted line cut.stuck.late ∷ map not_run others) ≡ 0 = ap length none in
    omega (arith, long, length-append (map answered answers) (halted line cut.stuck.late ∷ map not_run others)))

-- without lines nothing is placed or linked
pub alone_none : (low floor : ℕ) (new : KnownPass) → low ≤ new.view.least.durable → floor ≤ new.view.least.linked → RunsAlone low floor 0 new []
alone_none low floor new durable linked = record {
  slack = omega (arith, linked);
  risen = λ some. omega (arith, durable);
  placed = λ items m most le all. omega (arith, durable, le);
  exact = λ some same few. omega (arith, same);
  just = λ same few items m all i d lt. absurd (omega arith);
}

-- what is known of a pass is known of one that took it in
pub alone_grown : (low floor leaves : ℕ) (p new : KnownPass) (outcomes : List Outcome) → IsPrefix p.view.seen new.view.seen → p.view.least.durable ≤ new.view.least.durable → p.view.least.linked ≤ new.view.least.linked
    → RunsAlone low floor leaves p outcomes → RunsAlone low floor leaves new outcomes
alone_grown low floor leaves p new outcomes seen durable linked a =
    let may : (items : List LogItem) → MayBecome new items → MayBecome p items =
    λ items m. record { begins = prefix_trans p.view.seen new.view.seen items seen m.begins; enough = omega (arith, durable, m.enough); history = m.history } in
    record {
      slack = omega (arith, a.slack, linked);
      risen = λ some. let r = a.risen some in omega (arith, r, durable);
      placed = λ items m most le all. a.placed items (may items m) most (omega (arith, le, durable)) all;
      exact = λ some same few. (let is = a.exact some (omega (arith, same, a.slack, linked)) (omega (arith, few, durable)) in omega (arith, is, same, a.slack, linked));
      just = λ same few items m all. a.just (omega (arith, same, a.slack, linked)) (omega (arith, few, durable)) items (may items m) all;
    }

-- the floors of outcomes, and of those behind them
floors_of_both : (floor : ℕ) (xs ys : List Outcome) → floors_of floor (xs ++ ys) ≡ floors_of floor xs ++ floors_of (floor_after floor (replies_in xs)) ys
floors_of_both floor [] ys = refl
floors_of_both floor (x ∷ xs) ys =
    let next : ℕ = floor_after floor (reply_in x) in
    let here : List (ℕ × ℕ) = map (λ n. (n, floor)) (numbers_in x) in
    ap (λ (l : List (ℕ × ℕ)). here ++ l) (floors_of_both next xs ys)
    ∙ (sym (append_assoc here (floors_of next xs) (floors_of (floor_after next (replies_in xs)) ys))
    ∙ ap (λ (f : ℕ). (here ++ floors_of next xs) ++ floors_of f ys) (sym (floor_both floor (reply_in x) (replies_in xs))))

count_both : (xs ys : List Outcome) → count_in (xs ++ ys) ≡ count_in xs + count_in ys
count_both xs ys = ap length (flat_map-append numbers_in xs ys) ∙ length-append (flat_map numbers_in xs) (flat_map numbers_in ys)

replies_both : (floor : ℕ) (xs ys : List Outcome) → floor_after floor (replies_in (xs ++ ys)) ≡ floor_after (floor_after floor (replies_in xs)) (replies_in ys)
replies_both floor xs ys = ap (floor_after floor) (flat_map-append reply_in xs ys) ∙ floor_both floor (replies_in xs) (replies_in ys)

-- outcomes that were all answered, and others behind them
pub alone_both : (low floor k l : ℕ) (mid new : KnownPass) (xs ys : List Outcome) → HasGrown mid new → AreAnswered xs → ((items : List LogItem) → MayBecome mid items → All (λ n. n ≤ mid.view.least.durable) (flat_map numbers_in xs))
    → RunsAlone low floor k mid xs → RunsAlone mid.view.least.durable mid.view.least.linked l new ys → RunsAlone low floor (k + l) new (xs ++ ys)
alone_both low floor k l mid new xs ys grown some known a b =
    let many : count_in (xs ++ ys) ≡ count_in xs + count_in ys = count_both xs ys in
    let risen : low + count_in xs ≤ mid.view.least.durable = a.risen some in
    let may : (items : List LogItem) → MayBecome new items → MayBecome mid items =
    λ items m. record { begins = prefix_trans mid.view.seen new.view.seen items grown.seen m.begins; enough = omega (arith, grown.durable, m.enough); history = m.history } in
    let behind : (most : ℕ) → All (λ n. n ≤ most) (flat_map numbers_in (xs ++ ys)) → All (λ n. n ≤ most) (flat_map numbers_in ys) =
    λ most all. all-right (λ (n : ℕ). n ≤ most) (flat_map numbers_in xs) (flat_map numbers_in ys) (subst (All (λ (n : ℕ). n ≤ most)) (flat_map-append numbers_in xs ys) all) in
    record {
      slack = omega (arith, a.slack, b.slack);
      risen = λ both. (let r = b.risen (all-right (λ (o : Outcome). IsSome o.reply) xs ys both) in omega (arith, r, risen, many));
      placed = λ items m most le all. (let r = b.placed items m most le (behind most all) in omega (arith, r, risen, many));
      exact = λ both same few.
          let later : AreAnswered ys = all-right (λ (o : Outcome). IsSome o.reply) xs ys both in
          let r = b.risen later in
          let first : floor_after floor (replies_in xs) ≡ mid.view.least.linked = a.exact some (omega (arith, same, a.slack, b.slack)) (omega (arith, r, few, many)) in
          let second : floor_after mid.view.least.linked (replies_in ys) ≡ new.view.least.linked = b.exact later (omega (arith, same, a.slack, b.slack)) (omega (arith, few, many, risen)) in
          replies_both floor xs ys ∙ (ap (λ (f : ℕ). floor_after f (replies_in ys)) first ∙ second);
      just = λ same few items m all.
          let most : ℕ = low + count_in (xs ++ ys) in
          let r = b.placed items m most few (behind most all) in
          let before : mid.view.least.durable ≤ low + count_in xs = omega (arith, r, many) in
          let linked : mid.view.least.linked ≡ floor + k = omega (arith, same, a.slack, b.slack) in
          let first : floor_after floor (replies_in xs) ≡ mid.view.least.linked = a.exact some linked before in
          let told = known items (may items m) in
          let one : All (IsJustOver (history_of items)) (floors_of floor xs) = a.just linked before items (may items m) (λ i d lt. (let t = told i d lt in omega (arith, t, before))) in
          let bound = behind most all in
          let two : All (IsJustOver (history_of items)) (floors_of mid.view.least.linked ys) =
          b.just (omega (arith, same, a.slack, b.slack)) (omega (arith, few, many, risen)) items m (λ i d lt. (let t = bound i d lt in omega (arith, t, many, risen))) in
          subst (All (IsJustOver (history_of items))) (sym (floors_of_both floor xs ys ∙ ap (λ (f : ℕ). floors_of floor xs ++ floors_of f ys) first))
          (All-append (IsJustOver (history_of items)) (floors_of floor xs) (floors_of mid.view.least.linked ys) one two);
    }

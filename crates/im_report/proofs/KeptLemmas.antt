-- What the first transactions of a history keep of the first replies.
use Rattle.std.proofs.Common.{◌≡◌, ◌≢◌, ◌⊎◌, inl, inr, ℕ, zero, suc, ◌+◌, ◌-◌, ◌<◌, ◌≤◌, ◌++◌, List, [], ◌∷◌, length, map, take, Bool, true, false, cond, nat_lt, if◌then◌else◌, get_or, refl, ap, sym, ◌∙◌, subst, arith}
use Rattle.std.specs.Prelude.{All}
use Rattle.std.specs.List.{flat_map, range_with_len}
use Rattle.std.proofs.lemmas.Bool.{cases_lt, ltb-true, ltb-false}
use Rattle.std.proofs.lemmas.List.{get_or-take, length-map, length-take-le, take-take}
use Rattle.std.proofs.lemmas.List.Elements.{All-filter, filter_passes}
use Rattle.std.proofs.lemmas.List.Kept.{AllPairs-filter}
use Rattle.im_digest.specs.Digests.{Hash}
use Rattle.im_model.specs.History.{no_transaction}
use Rattle.im_model.specs.declared.transactions.Transaction.{Transaction}
use Rattle.im_octet.proofs.Common.{all-left, all-right}
use Rattle.im_report.proofs.FrontLemmas.{answer_same, may_ask_same}
use Rattle.im_report.proofs.FurtherLemmas.{further_apart, further_each, further_from, split_at, split_lines, split_numbers}
use Rattle.im_report.proofs.KnownLemmas.{IsKnown, answers_known, known_phases}
use Rattle.im_report.proofs.OutcomeLemmas.{all_in, flat_all, replies_answered}
use Rattle.im_report.proofs.RangeLemmas.{numbers_of, passing, range_none, range_short, times_above, times_passing}
use Rattle.im_report.specs.Further.{AreFurther, IsOfLine, KeepsReplies, number_of_reply, written_replies}
use Rattle.im_report.specs.Outcomes.{Outcome, answered}
use Rattle.im_report.specs.Report.{Answered, IsAnswer, is_placed}
use Rattle.im_report.specs.Sessions.{AreAllButLast, SessionsReport, replies_in}
use Rattle.im_model.specs.Counts.{times}
use Rattle.im_script.specs.declared.commands.Line.{Line}

-- the numbers told by replies are those of the replies
number_within : (most : ℕ) (answers : List Answered) → All (λ a. a.number ≤ most) answers → All (λ n. n < most + 1) (flat_map number_of_reply answers)
number_within most answers all =
    flat_all (λ (n : ℕ). n < most + 1) number_of_reply answers (λ i d lt. one (get_or answers i d) (all i d lt) (is_placed (get_or answers i d)))
  where
    one : (a : Answered) → a.number ≤ most → (b : Bool) → All (λ n. n < most + 1) (if b then a.number ∷ [] else [])
    one a le true zero d lt = omega (arith, le)
    one a le true (suc i) d lt = absurd (omega (arith, lt))
    one a le false i d lt = absurd (omega (arith, lt))

-- it is the number of one of the first transactions, so many
abbrev is_first : ℕ → ℕ → Bool
is_first most k = nat_lt (k - 1) most

-- numbers of a range, parted in two lists, where the range is cut off, the first list lies within, and the second one is cut off as well
cut_times : (a n m : ℕ) (told : List ℕ) (pairs : List (ℕ × ℕ)) → 1 ≤ a → m ≤ n → ((k : ℕ) → times k told + times k (numbers_of pairs) ≡ times k (range_with_len a n))
    → (most : ℕ) → a + m ≡ most + 1 → All (λ x. x < most + 1) told → (k : ℕ) → times k told + times k (numbers_of (passing (is_first most) pairs)) ≡ times k (range_with_len a m)
cut_times a n m told pairs some le all most end within k = go (is_first most k) refl (times_passing (is_first most) k pairs) (cases_lt k 1)
  where
    go : (b : Bool) → is_first most k ≡ b → times k (numbers_of (passing (is_first most) pairs)) ≡ cond (is_first most k) (times k (numbers_of pairs)) 0 → (k < 1) ⊎ (1 ≤ k)
        → times k told + times k (numbers_of (passing (is_first most) pairs)) ≡ times k (range_with_len a m)
    go true is e early =
        let first : k - 1 < most = ltb-true (k - 1) most is in
        let same : times k (numbers_of (passing (is_first most) pairs)) ≡ times k (numbers_of pairs) = e ∙ ap (λ (b : Bool). cond b (times k (numbers_of pairs)) 0) is in
        let short : times k (range_with_len a n) ≡ times k (range_with_len a m) = range_short k a m n le (omega (arith, first, end, some)) in
        omega (arith, same, all k, short)
    go false is e (inl none) =
        let left : times k (numbers_of (passing (is_first most) pairs)) ≡ 0 = e ∙ ap (λ (b : Bool). cond b (times k (numbers_of pairs)) 0) is in
        let whole : times k (range_with_len a n) ≡ 0 = range_none k a n (inl (omega (arith, none, some))) in
        let part : times k (range_with_len a m) ≡ 0 = range_none k a m (inl (omega (arith, none, some))) in
        omega (arith, left, whole, part, all k)
    go false is e (inr one) =
        let last : most ≤ k - 1 = ltb-false (k - 1) most is in
        let left : times k (numbers_of (passing (is_first most) pairs)) ≡ 0 = e ∙ ap (λ (b : Bool). cond b (times k (numbers_of pairs)) 0) is in
        let before : times k told ≡ 0 = times_above k told (λ i d lt. (let up = within i d lt in omega (arith, up, last, one))) in
        let part : times k (range_with_len a m) ≡ 0 = range_none k a m (inr (omega (arith, last, one, end))) in
        omega (arith, left, before, part)

-- a transaction of the first ones, so many, is of its line there
line_before : (h : List Transaction) (phases : List (List Outcome)) (count most : ℕ) (p : ℕ × ℕ) → is_first most p.0 ≡ true → IsOfLine h phases count p → IsOfLine (take most h) phases count p
line_before h phases count most p first is = record {
  behind = is.behind;
  line = is.line;
  there = is.there;
  read = is.read;
  asked = is.asked;
  asks = may_ask_same h (take most h) is.read is.line.command is.asked (sym (take-take is.read most h (omega (arith, is.before, ltb-true (p.0 - 1) most first)))) is.asks;
  before = is.before;
  writes = ap (λ (tx : Transaction). tx.entries) (get_or-take most h (p.0 - 1) no_transaction (ltb-true (p.0 - 1) most first)) ∙ is.writes;
}

further_before : (hash : Hash) (linker : Bool) (h0 h : List Transaction) (phases : List (List Outcome)) → SessionsReport hash linker h0 h phases
    → (count most : ℕ) → count ≤ length (written_replies phases) → length h0 ≤ most → most ≤ length h → All (λ a. a.number ≤ most) (take count (written_replies phases))
    → AreFurther h0 (take most h) phases count
further_before hash linker h0 h phases r count most few from to told =
    let known : All (IsKnown hash h) (all_in phases) = flat_all (IsKnown hash h) (λ (os : List Outcome). os) phases (known_phases hash (length h0) (length h0) h phases r.each) in
    let first : List Answered = take count (written_replies phases) in
    let parts = split_at hash h phases count r.ran known in
    let back : List Outcome = parts.0 in
    let front : List Line = map (λ (a : Answered). a.line) first in
    let size : length front ≡ count = length-map first (λ (a : Answered). a.line) ∙ length-take-le count (written_replies phases) few in
    let behind : All (IsKnown hash h) back = all-right (IsKnown hash h) (map answered first) back (subst (All (IsKnown hash h)) parts.1 known) in
    let pairs : List (ℕ × ℕ) = further_from (length front) back in
    let each : All (IsOfLine h phases count) pairs = further_each hash h phases count front back (split_lines phases first back parts.1) (omega (arith, size)) behind in
    let passes : All (λ (p : ℕ × ℕ). is_first most p.0 ≡ true) (passing (is_first most) pairs) = filter_passes (λ (p : ℕ × ℕ). is_first most p.0) pairs in
    let kept : All (IsOfLine h phases count) (passing (is_first most) pairs) = All-filter (λ (p : ℕ × ℕ). is_first most p.0) (IsOfLine h phases count) pairs each in
    let long : length (take most h) ≡ most = length-take-le most h to in
    record {
      pairs = passing (is_first most) pairs;
      each = λ i d lt. line_before h phases count most (get_or (passing (is_first most) pairs) i d) (passes i d lt) (kept i d lt);
      apart = AllPairs-filter (λ (p q : ℕ × ℕ). p.1 ≢ q.1) (λ (p : ℕ × ℕ). is_first most p.0) pairs (further_apart hash h (length front) back behind);
      all = λ k. cut_times (length h0 + 1) (length h - length h0) (length (take most h) - length h0) (flat_map number_of_reply first) pairs (omega arith) (omega (arith, long, to))
          (λ n. split_numbers phases first back (length front) parts.1 n ∙ r.placed n) most (omega (arith, long, from)) (number_within most first told) k;
    }

-- what was said of replies is said behind fewer transactions, where they have the numbers
answers_before : (hash : Hash) (h : List Transaction) (most : ℕ) (answers : List Answered) → All (λ a. a.number ≤ most) answers → All (λ a. IsAnswer hash h a.line.command a.number a.reply) answers
    → All (λ a. IsAnswer hash (take most h) a.line.command a.number a.reply) answers
answers_before hash h most answers few each i d lt =
    let a : Answered = get_or answers i d in
    let le : a.number ≤ most = few i d lt in
    answer_same hash h (take most h) a.line.command a.number a.reply (sym (take-take a.number most h le)) (sym (take-take (a.number - 1) most h (omega (arith, le)))) (each i d lt)

-- each of the first replies, so many, is what its line is answered
written_said : (hash : Hash) (h : List Transaction) (phases : List (List Outcome)) (count : ℕ) → AreAllButLast phases → All (IsKnown hash h) (all_in phases)
    → All (λ a. IsAnswer hash h a.line.command a.number a.reply) (take count (written_replies phases))
written_said hash h phases count ran known =
    let first : List Answered = take count (written_replies phases) in
    let parts = split_at hash h phases count ran known in
    let said : All (λ a. IsAnswer hash h a.line.command a.number a.reply) (replies_in (all_in phases)) =
    (let both = answers_known hash h (λ (l : Line). Unit {0}) (all_in phases) known (λ i d lt. tt) in λ i d lt. (both i d lt).0) in
    let are : replies_in (all_in phases) ≡ first ++ replies_in parts.0 = ap replies_in parts.1 ∙ replies_answered first parts.0 in
    all-left (λ (a : Answered). IsAnswer hash h a.line.command a.number a.reply) first (replies_in parts.0) (subst (All (λ (a : Answered). IsAnswer hash h a.line.command a.number a.reply)) are said)

pub keeps_replies : (hash : Hash) (linker : Bool) (h0 h : List Transaction) (phases : List (List Outcome)) → SessionsReport hash linker h0 h phases
    → (count most : ℕ) → count ≤ length (written_replies phases) → length h0 ≤ most → most ≤ length h → All (λ a. a.number ≤ most) (take count (written_replies phases))
    → KeepsReplies hash h0 (take most h) phases count
keeps_replies hash linker h0 h phases r count most few from to told =
    let known : All (IsKnown hash h) (all_in phases) = flat_all (IsKnown hash h) (λ (os : List Outcome). os) phases (known_phases hash (length h0) (length h0) h phases r.each) in
    let long : length (take most h) ≡ most = length-take-le most h to in
    record {
      begins = take-take (length h0) most h from ∙ r.begins;
      told = λ i d lt. (let le = told i d lt in omega (arith, le, long));
      each = answers_before hash h most (take count (written_replies phases)) told (written_said hash h phases count r.ran known);
      further = further_before hash linker h0 h phases r count most few from to told;
    }

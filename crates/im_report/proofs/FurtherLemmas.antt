-- Each transaction that the first replies don't tell has the entries of a line of its own.
use Rattle.std.proofs.Common.{◌≡◌, ◌≢◌, inl, inr, ℕ, zero, suc, ◌+◌, ◌≤◌, ◌++◌, List, [], ◌∷◌, length, map, take, drop, Bool, true, false, if◌then◌else◌, Option, Some, None, slice_get, get_or, refl, ap, sym, ◌∙◌, subst, arith, append_assoc, length-append}
use Rattle.std.specs.Prelude.{All, AllPairs, IfSome}
use Rattle.std.specs.List.{flat_map}
use Rattle.std.proofs.lemmas.List.{length-map, map-append, take-append-drop}
use Rattle.std.proofs.lemmas.List.Elements.{All-append}
use Rattle.im_digest.specs.Digests.{Hash}
use Rattle.im_model.specs.declared.transactions.Transaction.{Transaction}
use Rattle.im_report.proofs.FrontLemmas.{AsksFor, placed_asks}
use Rattle.im_report.proofs.KnownLemmas.{IsKnown}
use Rattle.im_report.proofs.OutcomeLemmas.{all_in, first_all, lines_all, lines_answered, numbers_answered, times_all}
use Rattle.im_model.proofs.CountLemmas.{times_append}
use Rattle.im_report.proofs.RangeLemmas.{numbers_of}
use Rattle.im_report.proofs.SingleLemmas.{pairs_both}
use Rattle.im_report.specs.Further.{IsOfLine, number_of_reply, written_replies}
use Rattle.im_report.specs.Outcomes.{Outcome, answered, halted, line_in, numbers_in}
use Rattle.im_report.specs.Report.{Answered, is_placed}
use Rattle.im_report.specs.Sessions.{AreAllButLast, first_replies, lines_in, times_placed}
use Rattle.im_model.specs.Counts.{times}
use Rattle.im_script.specs.Script.{lines_of}
use Rattle.im_script.specs.declared.commands.Line.{Line}

-- the replies before the first line without one, and what is behind
parted : (hash : Hash) (h : List Transaction) (outcomes : List Outcome) → All (IsKnown hash h) outcomes → (back : List Outcome) × (outcomes ≡ map answered (first_replies outcomes) ++ back)
parted hash h [] known = ([], refl)
parted hash h (o ∷ outcomes) known = go (known 0 o (omega arith)) (parted hash h outcomes (λ i d lt. known (suc i) d (omega (arith, lt))))
  where
    go : IsKnown hash h o → (back : List Outcome) × (outcomes ≡ map answered (first_replies outcomes) ++ back) → (back : List Outcome) × (o ∷ outcomes ≡ map answered (first_replies (o ∷ outcomes)) ++ back)
    go (inl (a, is, answer)) more =
        (more.0, subst (λ (p : Outcome). p ∷ outcomes ≡ map answered (first_replies (p ∷ outcomes)) ++ more.0) (sym is) (ap (λ (l : List Outcome). answered a ∷ l) more.1))
    go (inr (line, late, is, tx)) more =
        (o ∷ outcomes, subst (λ (p : Outcome). p ∷ outcomes ≡ map answered (first_replies (p ∷ outcomes)) ++ p ∷ outcomes) (sym is) refl)

-- the transactions of these, each with the place of its line, from this one on
abbrev pub further_from : ℕ → List Outcome → List (ℕ × ℕ)
further_from place [] = []
further_from place (o ∷ outcomes) = map (λ n. (n, place)) (numbers_in o) ++ further_from (place + 1) outcomes

numbers_of_pairs : (place : ℕ) (ns : List ℕ) → map (λ (p : ℕ × ℕ). p.0) (map (λ (n : ℕ). (n, place)) ns) ≡ ns
numbers_of_pairs place [] = refl
numbers_of_pairs place (n ∷ ns) = ap (λ (l : List ℕ). n ∷ l) (numbers_of_pairs place ns)

further_numbers : (place : ℕ) (outcomes : List Outcome) → map (λ (p : ℕ × ℕ). p.0) (further_from place outcomes) ≡ flat_map numbers_in outcomes
further_numbers place [] = refl
further_numbers place (o ∷ outcomes) =
    map-append (λ (p : ℕ × ℕ). p.0) (map (λ (n : ℕ). (n, place)) (numbers_in o)) (further_from (place + 1) outcomes)
    ∙ (ap (λ (l : List ℕ). l ++ map (λ (p : ℕ × ℕ). p.0) (further_from (place + 1) outcomes)) (numbers_of_pairs place (numbers_in o))
    ∙ ap (λ (l : List ℕ). numbers_in o ++ l) (further_numbers (place + 1) outcomes))

-- what holds of the numbers of one that is known holds of its transaction, where it has one
known_one : (hash : Hash) (h : List Transaction) (o : Outcome) → IsKnown hash h o → (length (numbers_in o) ≤ 1) × All (AsksFor h o.line.command) (numbers_in o)
known_one hash h o (inl (a, is, answer)) =
    subst (λ (p : Outcome). (length (numbers_in p) ≤ 1) × All (AsksFor h p.line.command) (numbers_in p)) (sym is) (go (is_placed a) refl)
  where
    one : AsksFor h a.line.command a.number → All (AsksFor h a.line.command) (a.number ∷ [])
    one asks zero d lt = asks
    one asks (suc i) d lt = absurd (omega (arith, lt))

    go : (b : Bool) → is_placed a ≡ b
        → (length ((if b then a.number ∷ [] else []) ++ []) ≤ 1) × All (AsksFor h a.line.command) ((if b then a.number ∷ [] else []) ++ [])
    go true e = (omega arith, one (placed_asks hash h a.line.command a.number a.reply e answer))
    go false e = (omega arith, λ i d lt. absurd (omega (arith, lt)))
known_one hash h o (inr (line, late, is, tx)) =
    subst (λ (p : Outcome). (length (numbers_in p) ≤ 1) × All (AsksFor h p.line.command) (numbers_in p)) (sym is) (go late tx)
  where
    one : (n : ℕ) → AsksFor h line.command n → All (AsksFor h line.command) (n ∷ [])
    one n asks zero d lt = asks
    one n asks (suc i) d lt = absurd (omega (arith, lt))

    go : (l : Option ℕ) → IfSome l (AsksFor h line.command) → (length (numbers_in (halted line l)) ≤ 1) × All (AsksFor h line.command) (numbers_in (halted line l))
    go None asks = (omega arith, λ i d lt. absurd (omega (arith, lt)))
    go (Some n) asks = (omega arith, one n asks)

-- the line at a place
line_there : (front rest : List Line) (line : Line) → slice_get (front ++ line ∷ rest) (length front) ≡ Some line
line_there [] rest line = refl
line_there (l ∷ front) rest line = line_there front rest line

-- each is of a line behind those that were written
pairs_of_line : (h : List Transaction) (phases : List (List Outcome)) (count : ℕ) (front rest : List Line) (line : Line) (ns : List ℕ) → lines_of (lines_in phases) ≡ front ++ line ∷ rest
    → count ≤ length front → All (AsksFor h line.command) ns → All (IsOfLine h phases count) (map (λ n. (n, length front)) ns)
pairs_of_line h phases count front rest line [] e behind asks = λ i d lt. absurd (omega arith)
pairs_of_line h phases count front rest line (n ∷ ns) e behind asks =
    cons (asks 0 n (omega arith)) (pairs_of_line h phases count front rest line ns e behind (λ i d lt. asks (suc i) d (omega (arith, lt))))
  where
    cons : AsksFor h line.command n → All (IsOfLine h phases count) (map (λ m. (m, length front)) ns) → All (IsOfLine h phases count) ((n, length front) ∷ map (λ m. (m, length front)) ns)
    cons one more zero d lt = record {
      behind = behind;
      line = line;
      there = ap (λ (l : List Line). slice_get l (length front)) e ∙ line_there front rest line;
      read = one.0;
      asked = one.1;
      asks = one.2;
      before = one.3;
      writes = one.4;
    }
    cons one more (suc i) d lt = more i d (omega (arith, lt))

pub further_each : (hash : Hash) (h : List Transaction) (phases : List (List Outcome)) (count : ℕ) (front : List Line) (outcomes : List Outcome) → lines_of (lines_in phases) ≡ front ++ map line_in outcomes
    → count ≤ length front → All (IsKnown hash h) outcomes → All (IsOfLine h phases count) (further_from (length front) outcomes)
further_each hash h phases count front [] e behind known = λ i d lt. absurd (omega arith)
further_each hash h phases count front (o ∷ outcomes) e behind known =
    let one = known_one hash h o (known 0 o (omega arith)) in
    let size : length (front ++ o.line ∷ []) ≡ length front + 1 = length-append front (o.line ∷ []) in
    let moved : lines_of (lines_in phases) ≡ (front ++ o.line ∷ []) ++ map line_in outcomes = e ∙ sym (append_assoc front (o.line ∷ []) (map line_in outcomes)) in
    let later : All (IsOfLine h phases count) (further_from (length (front ++ o.line ∷ [])) outcomes) =
    further_each hash h phases count (front ++ o.line ∷ []) outcomes moved (omega (arith, size, behind)) (λ i d lt. known (suc i) d (omega (arith, lt))) in
    All-append (IsOfLine h phases count) (map (λ (n : ℕ). (n, length front)) (numbers_in o)) (further_from (length front + 1) outcomes)
    (pairs_of_line h phases count front (map line_in outcomes) o.line (numbers_in o) e behind one.1)
    (subst (λ (p : ℕ). All (IsOfLine h phases count) (further_from p outcomes)) size later)

-- their lines differ
pairs_at : (place : ℕ) (ns : List ℕ) → All (λ (p : ℕ × ℕ). p.1 ≡ place) (map (λ (n : ℕ). (n, place)) ns)
pairs_at place [] = λ i d lt. absurd (omega arith)
pairs_at place (n ∷ ns) = cons (pairs_at place ns)
  where
    cons : All (λ (p : ℕ × ℕ). p.1 ≡ place) (map (λ (m : ℕ). (m, place)) ns) → All (λ (p : ℕ × ℕ). p.1 ≡ place) ((n, place) ∷ map (λ (m : ℕ). (m, place)) ns)
    cons more zero d lt = refl
    cons more (suc i) d lt = more i d (omega (arith, lt))

further_above : (place : ℕ) (outcomes : List Outcome) → All (λ p. place ≤ p.1) (further_from place outcomes)
further_above place [] = λ i d lt. absurd (omega arith)
further_above place (o ∷ outcomes) =
    let more : All (λ p. place + 1 ≤ p.1) (further_from (place + 1) outcomes) = further_above (place + 1) outcomes in
    All-append (λ (p : ℕ × ℕ). place ≤ p.1) (map (λ (n : ℕ). (n, place)) (numbers_in o)) (further_from (place + 1) outcomes)
    (λ i d lt. (let e = pairs_at place (numbers_in o) i d lt in omega (arith, e)))
    (λ i d lt. (let le = more i d lt in omega (arith, le)))

pub further_apart : (hash : Hash) (h : List Transaction) (place : ℕ) (outcomes : List Outcome) → All (IsKnown hash h) outcomes → AllPairs (λ p q. p.1 ≢ q.1) (further_from place outcomes)
further_apart hash h place [] known = λ i j d lt less. absurd (omega (arith, less))
further_apart hash h place (o ∷ outcomes) known =
    let pair : ℕ → ℕ × ℕ = λ n. (n, place) in
    let here : List (ℕ × ℕ) = map pair (numbers_in o) in
    let one = known_one hash h o (known 0 o (omega arith)) in
    let few : length here ≤ 1 = omega (arith, one.0, length-map (numbers_in o) pair) in
    let above : All (λ p. place + 1 ≤ p.1) (further_from (place + 1) outcomes) = further_above (place + 1) outcomes in
    pairs_both (λ (p q : ℕ × ℕ). p.1 ≢ q.1) here (further_from (place + 1) outcomes) (λ i j d lt less. absurd (omega (arith, lt, less, few)))
    (further_apart hash h (place + 1) outcomes (λ i d lt. known (suc i) d (omega (arith, lt))))
    (λ (x : ℕ × ℕ) i (d : ℕ × ℕ) lt e j (f : ℕ × ℕ) less q. (let at : (get_or here i d).1 ≡ place = pairs_at place (numbers_in o) i d lt in
    let is : x.1 ≡ (get_or here i d).1 = ap (λ (p : ℕ × ℕ). p.1) e in
    let up : place + 1 ≤ (get_or (further_from (place + 1) outcomes) j f).1 = above j f less in omega (arith, at, is, up, q)))

-- the lines of a run's outcomes, where the first were answered
pub split_lines : (phases : List (List Outcome)) (told : List Answered) (back : List Outcome) → all_in phases ≡ map answered told ++ back
    → lines_of (lines_in phases) ≡ map (λ (a : Answered). a.line) told ++ map line_in back
split_lines phases told back are =
    lines_all phases ∙ (ap (map line_in) are ∙ (map-append line_in (map answered told) back ∙ ap (λ (l : List Line). l ++ map line_in back) (lines_answered told)))

-- and their numbers
pub split_numbers : (phases : List (List Outcome)) (told : List Answered) (back : List Outcome) (place : ℕ) → all_in phases ≡ map answered told ++ back
    → (k : ℕ) → times k (flat_map number_of_reply told) + times k (numbers_of (further_from place back)) ≡ times_placed k phases
split_numbers phases told back place are k =
    let numbers : flat_map numbers_in (all_in phases) ≡ flat_map number_of_reply told ++ numbers_of (further_from place back) =
    ap (flat_map numbers_in) are ∙ (numbers_answered told back ∙ ap (λ (l : List ℕ). flat_map number_of_reply told ++ l) (sym (further_numbers place back))) in
    sym (times_append k (flat_map number_of_reply told) (numbers_of (further_from place back))) ∙ (ap (times k) (sym numbers) ∙ sym (times_all k phases))

-- the first replies, so many, and what is behind their lines
pub split_at : (hash : Hash) (h : List Transaction) (phases : List (List Outcome)) (count : ℕ) → AreAllButLast phases → All (IsKnown hash h) (all_in phases)
    → (back : List Outcome) × (all_in phases ≡ map answered (take count (written_replies phases)) ++ back)
split_at hash h phases count ran known =
    let written : List Answered = written_replies phases in
    let parts = parted hash h (all_in phases) known in
    let whole : all_in phases ≡ map answered written ++ parts.0 = parts.1 ∙ ap (λ (l : List Answered). map answered l ++ parts.0) (sym (first_all phases ran)) in
    let halves : map answered written ≡ map answered (take count written) ++ map answered (drop count written) =
    ap (map answered) (sym (take-append-drop count written)) ∙ map-append answered (take count written) (drop count written) in (
      map answered (drop count written) ++ parts.0,
      whole ∙ (ap (λ (l : List Outcome). l ++ parts.0) halves ∙ append_assoc (map answered (take count written)) (map answered (drop count written)) parts.0),
    )

-- the lines of the replies that are written are the first ones
pub written_lines : (hash : Hash) (h : List Transaction) (phases : List (List Outcome)) → AreAllButLast phases → All (IsKnown hash h) (all_in phases)
    → (rest : List Line) × (lines_of (lines_in phases) ≡ map (λ (a : Answered). a.line) (written_replies phases) ++ rest)
written_lines hash h phases ran known =
    let parts = parted hash h (all_in phases) known in
    (map line_in parts.0, split_lines phases (written_replies phases) parts.0 (parts.1 ∙ ap (λ (l : List Answered). map answered l ++ parts.0) (sym (first_all phases ran))))

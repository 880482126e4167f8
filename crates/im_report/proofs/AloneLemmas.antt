-- What a single session answers where lines alone link is the report of one list of lines.
use Rattle.std.proofs.Common.{◌≡◌, ◌⊎◌, inl, inr, ℕ, zero, suc, ◌+◌, ◌-◌, ◌<◌, ◌≤◌, ◌++◌, List, [], ◌∷◌, length, map, take, drop, filter, Bool, true, false, if◌then◌else◌, Option, Some, None, refl, ap, sym, ◌∙◌, subst, arith, append-nil, get_or, length-append, true≢false}
use Rattle.std.specs.Prelude.{All, AllPairs, IsTrue, IsSome}
use Rattle.std.specs.List.{flat_map, range_with_len}
use Rattle.std.proofs.lemmas.List.{drop-take, drop_all, drop_more, length-drop, length-map, length-take, length-take-le, map-append, take-append-drop, take-append-le, take_all}
use Rattle.std.proofs.lemmas.List.FromFn.{length-range_with_len}
use Rattle.std.proofs.lemmas.List.Quantifiers.{all_pairs_push}
use Rattle.std.proofs.Math.Seq.{drop-append_seam, get_or-append_seam, take-append_seam}
use Rattle.im_digest.specs.Digests.{Hash}
use Rattle.im_model.proofs.HistoryLemmas.{IsHistory-take}
use Rattle.im_model.specs.History.{no_transaction, transaction_of, IsHistory}
use Rattle.im_model.specs.declared.transactions.Transaction.{Transaction}
use Rattle.im_octet.proofs.Common.{all-left, all-right}
use Rattle.im_report.proofs.FrontLemmas.{answer_same, may_ask_same}
use Rattle.im_report.proofs.OutcomeLemmas.{all_in, cut_first, cut_replies, first_all, first_answered, flat_all, lines_all, lines_answered, numbers_answered, numbers_halted, replies_all_in, replies_answered, texts_all, times_all}
use Rattle.im_report.proofs.RangeLemmas.{range-next, rising_range}
use Rattle.im_report.proofs.SingleLemmas.{highest_each, one_session}
use Rattle.im_report.specs.Alone.{IsOneLate, ReportsAlone, all_replies}
use Rattle.im_report.specs.Further.{number_of_reply}
use Rattle.im_model.specs.Counts.{number_or_none, times}
use Rattle.im_report.specs.Outcomes.{AreAnswers, IsCutOff, IsLate, IsSession, Outcome, Rises, answer_or_none, answered, floors_told, halted, highest, line_in, not_run, numbers_in}
use Rattle.im_report.specs.Report.{Answered, IsAnswer, ReadsFrom, Report, answer_line, floor_after, floor_by, floors, is_placed}
use Rattle.im_report.specs.Sessions.{AreAnswered, AreOfOne, IsJustOver, SessionsReport, first_replies, floors_of, lines_in, phases_text, replies_in}
use Rattle.im_script.specs.Script.{lines_of}
use Rattle.im_script.specs.declared.commands.Line.{Line}

-- the numbers that replies tell are those of the replies that say `tx`
told_numbers : (answers : List Answered) → flat_map number_of_reply answers ≡ map (λ a. a.number) (filter is_placed answers)
told_numbers [] = refl
told_numbers (a ∷ answers) = ap (λ (l : List ℕ). number_of_reply a ++ l) (told_numbers answers) ∙ go (is_placed a)
  where
    go : (b : Bool) → (if b then a.number ∷ [] else []) ++ map (λ (x : Answered). x.number) (filter is_placed answers)
        ≡ map (λ (x : Answered). x.number) (if b then a ∷ filter is_placed answers else filter is_placed answers)
    go true = refl
    go false = refl

-- and with their floors they are pairs
pairs_numbers : (floor : ℕ) (answers : List Answered) → map (λ p. p.0) (floors_told floor answers) ≡ flat_map number_of_reply answers
pairs_numbers floor [] = refl
pairs_numbers floor (a ∷ answers) = go (is_placed a) (floors_told (floor_by a.line.command a.number floor) answers) (pairs_numbers (floor_by a.line.command a.number floor) answers)
  where
    go : (b : Bool) (rest : List (ℕ × ℕ)) → map (λ (p : ℕ × ℕ). p.0) rest ≡ flat_map number_of_reply answers
        → map (λ (p : ℕ × ℕ). p.0) ((if b then (a.number, floor) ∷ [] else []) ++ rest) ≡ (if b then a.number ∷ [] else []) ++ flat_map number_of_reply answers
    go true rest more = ap (λ (l : List ℕ). a.number ∷ l) more
    go false rest more = more

pairs_floors : (floor : ℕ) (answers : List Answered) → map (λ p. p.1) (floors_told floor answers) ≡ floors floor answers
pairs_floors floor [] = refl
pairs_floors floor (a ∷ answers) =
    let next : ℕ = floor_by a.line.command a.number floor in go (is_placed a) (floors_told next answers) (floors next answers) (pairs_floors next answers)
  where
    go : (b : Bool) (rest : List (ℕ × ℕ)) (sizes : List ℕ) → map (λ (p : ℕ × ℕ). p.1) rest ≡ sizes
        → map (λ (p : ℕ × ℕ). p.1) ((if b then (a.number, floor) ∷ [] else []) ++ rest) ≡ (if b then floor ∷ [] else []) ++ sizes
    go true rest sizes more = ap (λ (l : List ℕ). floor ∷ l) more
    go false rest sizes more = more

-- the tree under a transaction, by its number
abbrev bl_at : List Transaction → ℕ → ℕ
bl_at h n = (transaction_of h n).bl

just_floors : (h : List Transaction) (ps : List (ℕ × ℕ)) → All (IsJustOver h) ps → map (λ p. p.1) ps ≡ map (bl_at h) (map (λ p. p.0) ps)
just_floors h [] just = refl
just_floors h (p ∷ ps) just =
    let here : bl_at h p.0 ≡ p.1 = just 0 p (omega arith) in
    ap (λ (n : ℕ). n ∷ map (λ (q : ℕ × ℕ). q.1) ps) (sym here) ∙ ap (λ (l : List ℕ). bl_at h p.0 ∷ l) (just_floors h ps (λ i d lt. just (suc i) d (omega (arith, lt))))

-- those of a range of numbers are those of the transactions there
range_bls : (h : List Transaction) (n count : ℕ) → n + count ≤ length h → map (bl_at h) (range_with_len (n + 1) count) ≡ map (λ tx. tx.bl) (take count (drop n h))
range_bls h n zero le = refl
range_bls h n (suc count) le =
    let place : n + 1 - 1 ≡ n = omega arith in
    let here : bl_at h (n + 1) ≡ (get_or h n no_transaction).bl = ap (λ (i : ℕ). (get_or h i no_transaction).bl) place in
    let rest : map (bl_at h) (range_with_len (n + 1 + 1) count) ≡ map (λ (tx : Transaction). tx.bl) (take count (drop (n + 1) h)) = range_bls h (n + 1) count (omega (arith, le)) in
    ap (λ (b : ℕ). b ∷ map (bl_at h) (range_with_len (n + 1 + 1) count)) here
    ∙ (ap (λ (l : List ℕ). (get_or h n no_transaction).bl ∷ l) rest
    ∙ sym (ap (λ (l : List Transaction). map (λ (tx : Transaction). tx.bl) (take (suc count) l)) (drop_more h n no_transaction (omega (arith, le)))))

-- where the transactions behind the first n are those that the replies tell, each over just its floor
floors_are : (h : List Transaction) (n count floor : ℕ) (answers : List Answered) → n + count ≤ length h → flat_map number_of_reply answers ≡ range_with_len (n + 1) count
    → All (IsJustOver h) (floors_told floor answers) → map (λ tx. tx.bl) (take count (drop n h)) ≡ floors floor answers
floors_are h n count floor answers le numbers just =
    sym (sym (pairs_floors floor answers) ∙ (just_floors h (floors_told floor answers) just ∙ (ap (map (bl_at h)) (pairs_numbers floor answers ∙ numbers) ∙ range_bls h n count le)))

-- What a session answered is a report, where the transactions behind what was found are those that it tells.
report_of : (hash : Hash) (h0 h : List Transaction) (answers : List Answered) → IsHistory h → take (length h0) h ≡ h0
    → All (λ a. IsAnswer hash h a.line.command a.number a.reply) answers → All (Rises (length h0)) answers → AllPairs (λ a b. Rises a.number b) answers
    → All (ReadsFrom (length h0)) answers → AllPairs (λ a b. ReadsFrom a.number b) answers → All (λ a. a.number ≤ length h) answers → flat_map number_of_reply answers ≡ range_with_len (length h0 + 1) (length h - length h0)
    → map (λ tx. tx.bl) (drop (length h0) h) ≡ floors (length h0) answers
    → (r : Report hash h0 h (map (λ a. a.line) answers) (flat_map answer_line answers)) × (r.answers ≡ answers)
report_of hash h0 h answers history begins each least rising least_read reading within numbers over =
    let r : Report hash h0 h (map (λ (a : Answered). a.line) answers) (flat_map answer_line answers) =
    record {
      history = history;
      answers = answers;
      lines_are = refl;
      octets_are = refl;
      each = each;
      begins = begins;
      placed = sym (told_numbers answers) ∙ numbers;
      within = λ i d lt. (let low = least i d lt in (low.0, within i d lt));
      rising = rising;
      least_read = least_read;
      reading = reading;
      floor = over;
    } in
    (r, refl)

-- two lists of one length are the same where they are with one number more behind each
push_same : (xs ys : List ℕ) (x y : ℕ) → length xs ≡ length ys → xs ++ x ∷ [] ≡ ys ++ y ∷ [] → (xs ≡ ys) × (x ≡ y)
push_same xs ys x y size e = (
  sym (take-append_seam xs (x ∷ [])) ∙ (ap (take (length xs)) e ∙ (ap (λ (n : ℕ). take n (ys ++ y ∷ [])) size ∙ take-append_seam ys (y ∷ []))),
  sym (get_or-append_seam xs x [] 0) ∙ (ap (λ (l : List ℕ). get_or l (length xs) 0) e ∙ (ap (λ (n : ℕ). get_or (ys ++ y ∷ []) n 0) size ∙ get_or-append_seam ys y [] 0)),
)

-- what holds of the number of each reply that says `tx` holds of each number told
told_all : (P : ℕ → Type 0) (answers : List Answered) → All (λ b. IsTrue (is_placed b) → P b.number) answers → All P (flat_map number_of_reply answers)
told_all P [] all = λ i d lt. absurd (omega arith)
told_all P (a ∷ answers) all = go (is_placed a) refl (told_all P answers (λ i d lt. all (suc i) d (omega (arith, lt))))
  where
    cons : P a.number → All P (flat_map number_of_reply answers) → All P (a.number ∷ flat_map number_of_reply answers)
    cons one rest zero d lt = one
    cons one rest (suc i) d lt = rest i d (omega (arith, lt))

    go : (b : Bool) → is_placed a ≡ b → All P (flat_map number_of_reply answers) → All P ((if b then a.number ∷ [] else []) ++ flat_map number_of_reply answers)
    go false e rest = rest
    go true e rest = cons (all 0 a (omega arith) e) rest

-- they rise
told_rising : (answers : List Answered) → AllPairs (λ a b. Rises a.number b) answers → AllPairs (λ m n. m < n) (flat_map number_of_reply answers)
told_rising [] rising = λ i j d lt less. absurd (omega (arith, less))
told_rising (a ∷ answers) rising = go (is_placed a) (told_rising answers (λ i j d lt less. rising (suc i) (suc j) d (omega (arith, lt)) (omega (arith, less))))
  where
    above : All (λ n. a.number < n) (flat_map number_of_reply answers)
    above = told_all (λ n. a.number < n) answers (λ i d lt is. (rising 0 (suc i) d (omega arith) (omega (arith, lt))).1 is)

    cons : AllPairs (λ m n. m < n) (flat_map number_of_reply answers) → AllPairs (λ m n. m < n) (a.number ∷ flat_map number_of_reply answers)
    cons rest zero zero d lt less = absurd (omega (arith, lt))
    cons rest zero (suc j) d lt less = above j d (omega (arith, less))
    cons rest (suc i) zero d lt less = absurd (omega (arith, lt))
    cons rest (suc i) (suc j) d lt less = rest i j d (omega (arith, lt)) (omega (arith, less))

    go : (b : Bool) → AllPairs (λ m n. m < n) (flat_map number_of_reply answers) → AllPairs (λ m n. m < n) ((if b then a.number ∷ [] else []) ++ flat_map number_of_reply answers)
    go false rest = rest
    go true rest = cons rest

-- the floors of answered lines, and of those behind them
pub floors_behind : (floor : ℕ) (answers : List Answered) (rest : List Outcome) → floors_of floor (map answered answers ++ rest) ≡ floors_told floor answers ++ floors_of (floor_after floor answers) rest
floors_behind floor [] rest = refl
floors_behind floor (a ∷ answers) rest =
    let next : ℕ = floor_by a.line.command a.number floor in
    go (is_placed a) (floors_of next (map answered answers ++ rest)) (floors_told next answers) (floors_of (floor_after next answers) rest) (floors_behind next answers rest)
  where
    go : (b : Bool) (all told behind : List (ℕ × ℕ)) → all ≡ told ++ behind
        → map (λ (n : ℕ). (n, floor)) ((if b then a.number ∷ [] else []) ++ []) ++ all ≡ ((if b then (a.number, floor) ∷ [] else []) ++ told) ++ behind
    go true all told behind more = ap (λ (l : List (ℕ × ℕ)). (a.number, floor) ∷ l) more
    go false all told behind more = more

-- The phases are those of one session: its replies, and behind them what got none.
record OneSession (hash : Hash) (h0 h : List Transaction) (phases : List (List Outcome)) (answers : List Answered) (rest : List Outcome) : Type 0 where
  pub are : all_in phases ≡ map answered answers ++ rest
  pub told : AreAnswers hash (length h0) (length h0) h answers
  pub within : All (λ a. a.number ≤ length h) answers
  pub replies : all_replies phases ≡ answers
  pub texts : phases_text phases ≡ flat_map answer_line answers
  pub lines : lines_of (lines_in phases) ≡ map (λ a. a.line) answers ++ map line_in rest

one_of : (hash : Hash) (h0 h : List Transaction) (phases : List (List Outcome)) → SessionsReport hash false h0 h phases → (s : IsSession hash (length h0) (length h0) h (all_in phases))
    → OneSession hash h0 h phases s.answers s.rest
one_of hash h0 h phases r s =
    let replies : all_replies phases ≡ s.answers =
    replies_all_in phases ∙ (ap replies_in s.are ∙ (replies_answered s.answers s.rest ∙ (ap (λ (l : List Answered). s.answers ++ l) (cut_replies h (length h0) (length h0) s.answers s.rest s.cut) ∙ append-nil s.answers))) in
    let first : flat_map first_replies phases ≡ s.answers =
    first_all phases r.ran ∙ (ap first_replies s.are ∙ (first_answered s.answers s.rest ∙ (ap (λ (l : List Answered). s.answers ++ l) (cut_first h (length h0) (length h0) s.answers s.rest s.cut) ∙ append-nil s.answers))) in
    record {
      are = s.are;
      told = s.told;
      within = subst (All (λ (a : Answered). a.number ≤ length h)) replies (flat_all (λ (a : Answered). a.number ≤ length h) replies_in phases r.within);
      replies = replies;
      texts = texts_all phases ∙ ap (flat_map answer_line) first;
      lines = lines_all phases ∙ (ap (map line_in) s.are ∙ (map-append line_in (map answered s.answers) s.rest ∙ ap (λ (l : List Line). l ++ map line_in s.rest) (lines_answered s.answers)));
    }

-- its first lines are those that were answered
first_lines : (hash : Hash) (h0 h : List Transaction) (phases : List (List Outcome)) (answers : List Answered) (rest : List Outcome) → OneSession hash h0 h phases answers rest
    → take (length (all_replies phases)) (lines_of (lines_in phases)) ≡ map (λ a. a.line) answers
first_lines hash h0 h phases answers rest o =
    let lines : List Line = map (λ (a : Answered). a.line) answers in
    let size : length (all_replies phases) ≡ length lines = ap length o.replies ∙ sym (length-map answers (λ (a : Answered). a.line)) in
    ap (λ (n : ℕ). take n (lines_of (lines_in phases))) size ∙ (ap (take (length lines)) o.lines ∙ take-append_seam lines (map line_in rest))

-- and those behind them those that weren't
other_lines : (hash : Hash) (h0 h : List Transaction) (phases : List (List Outcome)) (answers : List Answered) (rest : List Outcome) → OneSession hash h0 h phases answers rest
    → drop (length (all_replies phases)) (lines_of (lines_in phases)) ≡ map line_in rest
other_lines hash h0 h phases answers rest o =
    let lines : List Line = map (λ (a : Answered). a.line) answers in
    let size : length (all_replies phases) ≡ length lines = ap length o.replies ∙ sym (length-map answers (λ (a : Answered). a.line)) in
    ap (λ (n : ℕ). drop n (lines_of (lines_in phases))) size ∙ (ap (drop (length lines)) o.lines ∙ drop-append_seam lines (map line_in rest))

-- the numbers of what it placed are those behind what was found
numbers_are : (hash : Hash) (h0 h : List Transaction) (phases : List (List Outcome)) (answers : List Answered) (rest : List Outcome) (late : Option ℕ) → SessionsReport hash false h0 h phases
    → OneSession hash h0 h phases answers rest → flat_map numbers_in rest ≡ number_or_none late → AllPairs (λ m n. m < n) (flat_map number_of_reply answers ++ number_or_none late)
    → flat_map number_of_reply answers ++ number_or_none late ≡ range_with_len (length h0 + 1) (length h - length h0)
numbers_are hash h0 h phases answers rest late r o left rising =
    let numbers : flat_map numbers_in (all_in phases) ≡ flat_map number_of_reply answers ++ number_or_none late =
    ap (flat_map numbers_in) o.are ∙ (numbers_answered answers rest ∙ ap (λ (l : List ℕ). flat_map number_of_reply answers ++ l) left) in
    rising_range (flat_map number_of_reply answers ++ number_or_none late) (length h0 + 1) (length h - length h0) rising
    (λ k. ap (times k) (sym numbers) ∙ (sym (times_all k phases) ∙ r.placed k))

-- what was found is no longer than what is left
found_within : (h0 h : List Transaction) → take (length h0) h ≡ h0 → length h0 ≤ length h
found_within h0 h begins = let e : length (take (length h0) h) ≡ length h0 = ap length begins in omega (arith, e, length-take (length h0) h)

-- a report of these lines and replies is one of the first lines and of what is written
told_report : (hash : Hash) (h0 h g : List Transaction) (phases : List (List Outcome)) (answers : List Answered) (rest : List Outcome) → OneSession hash h0 h phases answers rest
    → (r : Report hash h0 g (map (λ a. a.line) answers) (flat_map answer_line answers)) × (r.answers ≡ answers)
    → (r : Report hash h0 g (take (length (all_replies phases)) (lines_of (lines_in phases))) (phases_text phases)) × (r.answers ≡ all_replies phases)
told_report hash h0 h g phases answers rest o told =
    let lines = first_lines hash h0 h phases answers rest o in
    subst (λ (t : List ℕ). (r : Report hash h0 g (take (length (all_replies phases)) (lines_of (lines_in phases))) t) × (r.answers ≡ all_replies phases)) (sym o.texts)
    (subst (λ (l : List Line). (r : Report hash h0 g l (flat_map answer_line answers)) × (r.answers ≡ all_replies phases)) (sym lines)
    (subst (λ (l : List Answered). (r : Report hash h0 g (map (λ a. a.line) answers) (flat_map answer_line answers)) × (r.answers ≡ l)) (sym o.replies) told))

-- Nothing was placed for a line without a reply.
alone_none : (hash : Hash) (h0 h : List Transaction) (phases : List (List Outcome)) (answers : List Answered) (rest : List Outcome) → SessionsReport hash false h0 h phases
    → OneSession hash h0 h phases answers rest → flat_map numbers_in rest ≡ [] → All (IsJustOver h) (floors_told (length h0) answers) → ReportsAlone hash h0 h phases
alone_none hash h0 h phases answers rest r o none just =
    let numbers : List ℕ = flat_map number_of_reply answers in
    let start : ℕ = length h0 in
    let count : ℕ = length h - start in
    let rising : AllPairs (λ m n. m < n) (numbers ++ []) = subst (AllPairs (λ m n. m < n)) (sym (append-nil numbers)) (told_rising answers o.told.rising) in
    let are : numbers ≡ range_with_len (start + 1) count = sym (append-nil numbers) ∙ numbers_are hash h0 h phases answers rest None r o none rising in
    let begun : start ≤ length h = found_within h0 h r.begins in
    let whole : take count (drop start h) ≡ drop start h = take_all count (drop start h) (omega (arith, length-drop start h)) in
    let over : map (λ tx. tx.bl) (drop start h) ≡ floors start answers =
    ap (map (λ (tx : Transaction). tx.bl)) (sym whole) ∙ floors_are h start count start answers (omega (arith, begun)) are just in
    let told = told_report hash h0 h h phases answers rest o (report_of hash h0 h answers r.history r.begins o.told.each o.told.least o.told.rising o.told.least_read o.told.reading o.within are over) in
    record { history = h; left = []; split = sym (append-nil h); report = told.0; answers_are = told.1; late = inl refl }

-- the first of a history's first transactions
front_take : (k m : ℕ) (h : List Transaction) → k ≤ m → m ≤ length h → take k (take m h) ≡ take k h
front_take k m h le within =
    let size : length (take m h) ≡ m = length-take-le m h within in
    sym (take-append-le k (take m h) (drop m h) (omega (arith, le, size))) ∙ ap (take k) (take-append-drop m h)

-- One transaction was placed for the line that has no reply: it is the last.
alone_late : (hash : Hash) (h0 h : List Transaction) (phases : List (List Outcome)) (answers : List Answered) (line : Line) (n : ℕ) (others : List Line) → SessionsReport hash false h0 h phases
    → OneSession hash h0 h phases answers (halted line (Some n) ∷ map not_run others) → IsLate h (highest (length h0) answers) (floor_after (length h0) answers) line.command n
    → All (IsJustOver h) (floors_told (length h0) answers) → (transaction_of h n).bl ≡ floor_after (length h0) answers → ReportsAlone hash h0 h phases
alone_late hash h0 h phases answers line n others r o late just over =
    let rest : List Outcome = halted line (Some n) ∷ map not_run others in
    let numbers : List ℕ = flat_map number_of_reply answers in
    let start : ℕ = length h0 in
    let m : ℕ = length numbers in
    let below : All (λ a. a.number < n) answers = λ i d lt. (let most = highest_each start answers i d lt in omega (arith, most, late.least, late.behind)) in
    let all_below : All (λ k. k < n) numbers = told_all (λ k. k < n) answers (λ i d lt is. below i d lt) in
    let rising : AllPairs (λ a b. a < b) (numbers ++ n ∷ []) = all_pairs_push (λ (a b : ℕ). a < b) numbers n (told_rising answers o.told.rising) all_below in
    let are : numbers ++ n ∷ [] ≡ range_with_len (start + 1) (length h - start) = numbers_are hash h0 h phases answers rest (Some n) r o (numbers_halted line (Some n) others) rising in
    let begun : start ≤ length h = found_within h0 h r.begins in
    let size : m + 1 ≡ length h - start = sym (length-append numbers (n ∷ [])) ∙ (ap length are ∙ length-range_with_len (start + 1) (length h - start)) in
    let count : length h - start ≡ suc m = omega (arith, size) in
    let parted : numbers ++ n ∷ [] ≡ range_with_len (start + 1) m ++ (start + 1 + m) ∷ [] = are ∙ (ap (range_with_len (start + 1)) count ∙ range-next (start + 1) m) in
    let both = push_same numbers (range_with_len (start + 1) m) n (start + 1 + m) (sym (length-range_with_len (start + 1) m)) parted in
    let last : n ≡ length h = omega (arith, both.1, size, begun) in
    let front : n - 1 ≡ start + m = omega (arith, both.1) in
    let g : List Transaction = take (n - 1) h in
    let long : length g ≡ n - 1 = length-take-le (n - 1) h (omega (arith, last)) in
    let left_count : length g - start ≡ m = omega (arith, long, front) in
    let begins : take start g ≡ h0 = front_take start (n - 1) h (omega (arith, front)) (omega (arith, last)) ∙ r.begins in
    let each : All (λ a. IsAnswer hash g a.line.command a.number a.reply) answers =
    λ i d lt. (let less : (get_or answers i d).number < n = below i d lt in
    let a : Answered = get_or answers i d in
    answer_same hash h g a.line.command a.number a.reply (sym (front_take a.number (n - 1) h (omega (arith, less)) (omega (arith, last))))
    (sym (front_take (a.number - 1) (n - 1) h (omega (arith, less)) (omega (arith, last)))) (o.told.each i d lt)) in
    let within : All (λ a. a.number ≤ length g) answers = λ i d lt. (let less = below i d lt in omega (arith, less, long)) in
    let told_are : numbers ≡ range_with_len (start + 1) (length g - start) = both.0 ∙ ap (range_with_len (start + 1)) (sym left_count) in
    let bls : map (λ tx. tx.bl) (drop start g) ≡ floors start answers =
    ap (λ (k : ℕ). map (λ (tx : Transaction). tx.bl) (drop start (take k h))) front
    ∙ (ap (map (λ (tx : Transaction). tx.bl)) (drop-take start m h) ∙ floors_are h start m start answers (omega (arith, size)) both.0 just) in
    let told = told_report hash h0 h g phases answers rest o (report_of hash h0 g answers (IsHistory-take h (n - 1) r.history) begins each o.told.least o.told.rising o.told.least_read o.told.reading within told_are bls) in
    let none : drop (n - 1 + 1) h ≡ [] = drop_all (n - 1 + 1) h (omega (arith, last)) in
    let one : drop (n - 1) h ≡ transaction_of h n ∷ [] =
    drop_more h (n - 1) no_transaction (omega (arith, last, both.1)) ∙ ap (λ (l : List Transaction). transaction_of h n ∷ l) none in
    record {
      history = g;
      left = drop (n - 1) h;
      split = sym (take-append-drop (n - 1) h);
      report = told.0;
      answers_are = told.1;
      late = inr (record {
        line = line;
        others = map line_in (map not_run others);
        next = other_lines hash h0 h phases answers rest o;
        read = late.read;
        asked = late.asked;
        asks = may_ask_same h g late.read line.command late.asked (sym (front_take late.read (n - 1) h (omega (arith, late.behind)) (omega (arith, last)))) late.asks;
        least = subst (λ (l : List Answered). highest start l ≤ late.read) (sym o.replies) late.least;
        within = omega (arith, late.behind, long);
        admitted = late.admitted;
        tx = transaction_of h n;
        one = one;
        writes = late.writes;
        over = over ∙ ap (floor_after start) (sym o.replies);
      });
    }

-- by how it was cut off
alone_cut : (hash : Hash) (h0 h : List Transaction) (phases : List (List Outcome)) (answers : List Answered) (rest : List Outcome) → SessionsReport hash false h0 h phases
    → OneSession hash h0 h phases answers rest → All (IsJustOver h) (floors_told (length h0) answers) → All (IsJustOver h) (floors_of (floor_after (length h0) answers) rest)
    → IsCutOff h (length h0) (length h0) answers rest → ReportsAlone hash h0 h phases
alone_cut hash h0 h phases answers rest r o just late_just (inl none) = alone_none hash h0 h phases answers rest r o (ap (flat_map numbers_in) none) just
alone_cut hash h0 h phases answers rest r o just late_just (inr (line, None, others, e, tx)) =
    alone_none hash h0 h phases answers rest r o (ap (flat_map numbers_in) e ∙ numbers_halted line None others) just
alone_cut hash h0 h phases answers rest r o just late_just (inr (line, Some n, others, e, tx)) =
    let floor : ℕ = floor_after (length h0) answers in
    let last : All (IsJustOver h) (floors_of floor (halted line (Some n) ∷ map not_run others)) = subst (λ (l : List Outcome). All (IsJustOver h) (floors_of floor l)) e late_just in
    alone_late hash h0 h phases answers line n others r (subst (OneSession hash h0 h phases answers) e o) tx just (last 0 (n, floor) (omega arith))

pub alone : (hash : Hash) (h0 h : List Transaction) (phases : List (List Outcome)) → SessionsReport hash false h0 h phases → AreOfOne phases → ReportsAlone hash h0 h phases
alone hash h0 h phases r one =
    let start : ℕ = length h0 in
    let s : IsSession hash start start h (all_in phases) = one_session hash start start h one.0 phases (omega arith) one.1 r.ran r.each in
    let just : All (IsJustOver h) (floors_told start s.answers ++ floors_of (floor_after start s.answers) s.rest) =
    subst (All (IsJustOver h)) (ap (floors_of start) s.are ∙ floors_behind start s.answers s.rest) (r.exact refl one) in
    alone_cut hash h0 h phases s.answers s.rest r (one_of hash h0 h phases r s) (all-left (IsJustOver h) (floors_told start s.answers) (floors_of (floor_after start s.answers) s.rest) just)
    (all-right (IsJustOver h) (floors_told start s.answers) (floors_of (floor_after start s.answers) s.rest) just) s.cut

-- where all lines were answered there is a reply for each
replies_many : (outcomes : List Outcome) → AreAnswered outcomes → length (replies_in outcomes) ≡ length outcomes
replies_many [] some = refl
replies_many (o ∷ outcomes) some = go o.reply (some 0 o (omega arith)) (replies_many outcomes (λ i d lt. some (suc i) d (omega (arith, lt))))
  where
    go : (r : Option Answered) → IsSome r → length (replies_in outcomes) ≡ length outcomes → length (answer_or_none r ++ replies_in outcomes) ≡ suc (length outcomes)
    go None is more = absurd (true≢false (sym is))
    go (Some a) is more = ap suc more

-- the report of one list, where nothing is left
whole_report : (hash : Hash) (h0 h : List Transaction) (phases : List (List Outcome)) → (x : ReportsAlone hash h0 h phases) → length (all_replies phases) ≡ length (lines_of (lines_in phases))
    → (x.left ≡ []) ⊎ IsOneLate h0 x.history (all_replies phases) (drop (length (all_replies phases)) (lines_of (lines_in phases))) x.left → Report hash h0 h (lines_of (lines_in phases)) (phases_text phases)
whole_report hash h0 h phases x full (inl none) =
    let same : x.history ≡ h = sym (x.split ∙ (ap (λ (l : List Transaction). x.history ++ l) none ∙ append-nil x.history)) in
    let lines : take (length (all_replies phases)) (lines_of (lines_in phases)) ≡ lines_of (lines_in phases) = take_all (length (all_replies phases)) (lines_of (lines_in phases)) (omega (arith, full)) in
    subst (λ (g : List Transaction). Report hash h0 g (lines_of (lines_in phases)) (phases_text phases)) same
    (subst (λ (l : List Line). Report hash h0 x.history l (phases_text phases)) lines x.report)
whole_report hash h0 h phases x full (inr late) =
    let more : length (drop (length (all_replies phases)) (lines_of (lines_in phases))) ≡ suc (length late.others) = ap length late.next in
    absurd (omega (arith, more, length-drop (length (all_replies phases)) (lines_of (lines_in phases)), full))

pub alone_answered : (hash : Hash) (h0 h : List Transaction) (phases : List (List Outcome)) → SessionsReport hash false h0 h phases → AreOfOne phases → All AreAnswered phases
    → Report hash h0 h (lines_of (lines_in phases)) (phases_text phases)
alone_answered hash h0 h phases r one some =
    let x = alone hash h0 h phases r one in
    let answered_all : AreAnswered (all_in phases) = flat_all (λ (o : Outcome). IsSome o.reply) (λ (os : List Outcome). os) phases some in
    let full : length (all_replies phases) ≡ length (lines_of (lines_in phases)) =
    ap length (replies_all_in phases) ∙ (replies_many (all_in phases) answered_all ∙ (sym (length-map (all_in phases) line_in) ∙ sym (ap length (lines_all phases)))) in
    whole_report hash h0 h phases x full x.late

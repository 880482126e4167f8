-- What became of the lines of sessions, by their names.
use Rattle.std.proofs.Common.{◌≡◌, ◌≢◌, ◌||◌, true≢false, ℕ, zero, suc, List, [], ◌∷◌, length, map, drop, Bool, true, false, if◌then◌else◌, Option, Some, None, slice_get, slice_index_or, refl, ap, ap₂, sym, ◌∙◌, subst, arith}
use Rattle.std.specs.Prelude.{All, AllPairs, IsSome}
use Rattle.std.specs.Str.{bytes_eq}
use Rattle.std.proofs.lemmas.Slice.Eq.{bytes_eq-Decides}
use Rattle.im_dealing.proofs.TogetherLemmas.{Each, Matches, first_line, first_of, matches_rest, own_first, rest_of, together, without}
use Rattle.im_dealing.specs.Dealing.{AreNamed, AreNumbered, lines_with}
use Rattle.im_dealing.specs.Written.{next_text, stop_in_order, stop_or, text_before, texts_in_order, without_first}
use Rattle.im_dealing.specs.declared.errors.LineError.{LineError}
use Rattle.im_octet.proofs.Common.{bytes-other}
use Rattle.im_report.specs.Outcomes.{Outcome, line_in}
use Rattle.im_report.specs.Report.{Answered, answer_line}
use Rattle.im_report.specs.Sessions.{before_others, first_replies}
use Rattle.im_script.specs.Script.{has_name}
use Rattle.im_script.specs.declared.commands.Line.{Line}

-- of these lists that of the session with this name, and none of any other
abbrev pub each_of : List (List ℕ) → List (List Outcome) → Each
each_of [] outs name = []
each_of (first ∷ names) [] name = []
each_of (first ∷ names) (out ∷ outs) name = if bytes_eq first name then out else each_of names outs name

-- what holds of each list, and of none, holds by each name
pub each_all : (P : List Outcome → Type 0) (names : List (List ℕ)) (outs : List (List Outcome)) → P [] → All P outs → (name : List ℕ) → P (each_of names outs name)
each_all P [] outs none all name = none
each_all P (first ∷ names) [] none all name = none
each_all P (first ∷ names) (out ∷ outs) none all name = go (bytes_eq first name) (each_all P names outs none (λ i d lt. all (suc i) d (omega (arith, lt))) name)
  where
    go : (b : Bool) → P (each_of names outs name) → P (if b then out else each_of names outs name)
    go true rest = all 0 out (omega arith)
    go false rest = rest

-- a name that stands in the list finds its lines
each_found : (names : List (List ℕ)) (outs : List (List Outcome)) (lines : List Line) (name : List ℕ) → map (map line_in) outs ≡ map (λ n. lines_with n lines) names → has_name names name ≡ true
    → map line_in (each_of names outs name) ≡ lines_with name lines
each_found [] outs lines name e has = absurd (true≢false (sym has))
each_found (first ∷ names) [] lines name e has = absurd (cc e)
each_found (first ∷ names) (out ∷ outs) lines name e has = go (bytes_eq first name) refl (λ more other. each_found names outs lines name more other)
  where
    go : (b : Bool) → bytes_eq first name ≡ b → (map (map line_in) outs ≡ map (λ n. lines_with n lines) names → has_name names name ≡ true → map line_in (each_of names outs name) ≡ lines_with name lines)
        → map line_in (each_of (first ∷ names) (out ∷ outs) name) ≡ lines_with name lines
    go true q rest =
        let is : first ≡ name = (bytes_eq-Decides first name).0 q in
        let here : map line_in out ≡ lines_with first lines = cc e in
        ap (λ (b : Bool). map line_in (if b then out else each_of names outs name)) q ∙ here ∙ ap (λ (n : List ℕ). lines_with n lines) is
    go false q rest =
        let more : map (map line_in) outs ≡ map (λ n. lines_with n lines) names = cc e in
        ap (λ (b : Bool). map line_in (if b then out else each_of names outs name)) q ∙ rest more (ap (λ (b : Bool). b || has_name names name) (sym q) ∙ has)

-- a name that doesn't has none
pub each_none : (names : List (List ℕ)) (outs : List (List Outcome)) (name : List ℕ) → has_name names name ≡ false → each_of names outs name ≡ []
each_none [] outs name has = refl
each_none (first ∷ names) [] name has = refl
each_none (first ∷ names) (out ∷ outs) name has = go (bytes_eq first name) refl (λ other. each_none names outs name other)
  where
    go : (b : Bool) → bytes_eq first name ≡ b → (has_name names name ≡ false → each_of names outs name ≡ []) → each_of (first ∷ names) (out ∷ outs) name ≡ []
    go true q rest = absurd (true≢false (ap (λ (b : Bool). b || has_name names name) (sym q) ∙ has))
    go false q rest = ap (λ (b : Bool). if b then out else each_of names outs name) q ∙ rest (ap (λ (b : Bool). b || has_name names name) (sym q) ∙ has)

lines_none : (names : List (List ℕ)) (lines : List Line) (name : List ℕ) → AreNamed names lines → has_name names name ≡ false → lines_with name lines ≡ []
lines_none names [] name named has = refl
lines_none names (line ∷ lines) name named has =
    let other : bytes_eq line.session name ≡ false = bytes-other line.session name (λ q. true≢false (sym (named 0 line (omega arith)) ∙ (ap (has_name names) q ∙ has))) in
    ap (λ (b : Bool). if b then line ∷ lines_with name lines else lines_with name lines) other ∙ lines_none names lines name (λ i d lt. named (suc i) d (omega (arith, lt))) has

pub each_matches : (names : List (List ℕ)) (outs : List (List Outcome)) (lines : List Line) → AreNamed names lines → map (map line_in) outs ≡ map (λ n. lines_with n lines) names → Matches lines (each_of names outs)
each_matches names outs lines named e name = go (has_name names name) refl
  where
    go : (b : Bool) → has_name names name ≡ b → map line_in (each_of names outs name) ≡ lines_with name lines
    go true has = each_found names outs lines name e has
    go false has = ap (map line_in) (each_none names outs name has) ∙ sym (lines_none names lines name named has)

-- what holds of each outcome of each session holds of all of them together
pub together_all : (P : Outcome → Type 0) (lines : List Line) (each : Each) → Matches lines each → ((name : List ℕ) → All P (each name)) → All P (together lines each)
together_all P [] each h all = λ i d lt. absurd (omega arith)
together_all P (line ∷ lines) each h all = cons one (together_all P lines (without line.session each) (matches_rest line lines each h) left)
  where
    own : map line_in (each line.session) ≡ line ∷ lines_with line.session lines
    own = h line.session ∙ own_first line lines

    split : each line.session ≡ first_of line (each line.session) ∷ rest_of (each line.session)
    split = (first_line line (lines_with line.session lines) (each line.session) own).2

    one : P (first_of line (each line.session))
    one = subst (All P) split (all line.session) 0 (first_of line (each line.session)) (omega arith)

    tail : (os : List Outcome) → All P os → All P (rest_of os)
    tail [] a = a
    tail (o ∷ os) a = λ i d lt. a (suc i) d (omega (arith, lt))

    left_by : (name : List ℕ) (b : Bool) → All P (if b then rest_of (each name) else each name)
    left_by name true = tail (each name) (all name)
    left_by name false = all name

    left : (name : List ℕ) → All P (without line.session each name)
    left name = left_by name (bytes_eq line.session name)

    cons : P (first_of line (each line.session)) → All P (together lines (without line.session each)) → All P (first_of line (each line.session) ∷ together lines (without line.session each))
    cons p ps zero d lt = p
    cons p ps (suc i) d lt = ps i d (omega (arith, lt))

-- the texts that a session has: those of its replies, up to its first line without one
abbrev pub texts_of : List Outcome → List (List ℕ)
texts_of outcomes = map answer_line (first_replies outcomes)

-- the texts of the session with a number are those by its name
text_at : (g : List ℕ → List (List ℕ)) (names : List (List ℕ)) (number : ℕ) (name : List ℕ) → slice_get names number ≡ Some name → slice_index_or (map g names) number [] ≡ g name
text_at g [] number name e = cc e
text_at g (first ∷ names) zero name e = ap g (cc e)
text_at g (first ∷ names) (suc number) name e = text_at g names number name e

-- without the first text of one session, whose name stands once
left_at : (each : Each) (names : List (List ℕ)) (number : ℕ) (name : List ℕ) → AllPairs (λ a b. a ≢ b) names → slice_get names number ≡ Some name → drop 1 (texts_of (each name)) ≡ texts_of (rest_of (each name))
    → without_first number (map (λ n. texts_of (each n)) names) ≡ map (λ n. texts_of (without name each n)) names
left_at each [] number name apart e one = refl
left_at each (first ∷ names) zero name apart e one =
    let is : first ≡ name = cc e in
    let back : bytes_eq name first ≡ true = (bytes_eq-Decides name first).1 (sym is) in
    let here : drop 1 (texts_of (each first)) ≡ texts_of (without name each first) =
    ap (λ (n : List ℕ). drop 1 (texts_of (each n))) is ∙ one ∙ ap (λ (n : List ℕ). texts_of (rest_of (each n))) (sym is) ∙ ap (λ (b : Bool). texts_of (if b then rest_of (each first) else each first)) (sym back) in
    ap₂ (λ (x : List (List ℕ)) (xs : List (List (List ℕ))). x ∷ xs) here (unmoved names (λ i d lt q. apart 0 (suc i) d (omega arith) (omega (arith, lt)) (is ∙ sym q)))
  where
    unmoved : (ns : List (List ℕ)) → All (λ n. n ≢ name) ns → map (λ n. texts_of (each n)) ns ≡ map (λ n. texts_of (without name each n)) ns
    unmoved [] all = refl
    unmoved (n ∷ ns) all =
        let other : bytes_eq name n ≡ false = bytes-other name n (λ q. all 0 n (omega arith) (sym q)) in
        ap₂ (λ (x : List (List ℕ)) (xs : List (List (List ℕ))). x ∷ xs) (ap (λ (b : Bool). texts_of (if b then rest_of (each n) else each n)) (sym other)) (unmoved ns (λ i d lt. all (suc i) d (omega (arith, lt))))
left_at each (first ∷ names) (suc number) name apart e one =
    let far : first ≢ name = first_far names number e (λ i d lt. apart 0 (suc i) d (omega arith) (omega (arith, lt))) in
    let other : bytes_eq name first ≡ false = bytes-other name first (λ q. far (sym q)) in
    ap₂ (λ (x : List (List ℕ)) (xs : List (List (List ℕ))). x ∷ xs) (ap (λ (b : Bool). texts_of (if b then rest_of (each first) else each first)) (sym other))
    (left_at each names number name (λ i j d lt less. apart (suc i) (suc j) d (omega (arith, lt)) (omega (arith, less))) e one)
  where
    first_far : (ns : List (List ℕ)) (k : ℕ) → slice_get ns k ≡ Some name → All (λ n. first ≢ n) ns → first ≢ name
    first_far [] k q all = cc q
    first_far (n ∷ ns) zero q all = λ same. all 0 n (omega arith) (same ∙ sym (cc q))
    first_far (n ∷ ns) (suc k) q all = first_far ns k q (λ i d lt. all (suc i) d (omega (arith, lt)))

-- In the script's order the texts of the sessions are those of the first replies of all of them together.
pub order_texts : (names : List (List ℕ)) (lines : List Line) (order : List ℕ) (each : Each) → AllPairs (λ a b. a ≢ b) names → AreNumbered names lines order → Matches lines each
    → texts_in_order order (map (λ n. texts_of (each n)) names) ≡ map answer_line (first_replies (together lines each))
order_texts names [] [] each apart numbered h = refl
order_texts names [] (number ∷ order) each apart numbered h = absurd numbered
order_texts names (line ∷ lines) [] each apart numbered h = absurd numbered
order_texts names (line ∷ lines) (number ∷ order) each apart numbered h =
    go (first_of line (each line.session)).reply refl (order_texts names lines order (without line.session each) apart numbered.1 (matches_rest line lines each h))
  where
    own : map line_in (each line.session) ≡ line ∷ lines_with line.session lines
    own = h line.session ∙ own_first line lines

    split : each line.session ≡ first_of line (each line.session) ∷ rest_of (each line.session)
    split = (first_line line (lines_with line.session lines) (each line.session) own).2

    texts : texts_of (each line.session) ≡ map answer_line (before_others (first_of line (each line.session)).reply (first_replies (rest_of (each line.session))))
    texts = ap texts_of split

    next : next_text number (map (λ n. texts_of (each n)) names) ≡ slice_get (texts_of (each line.session)) 0
    next = ap (λ (l : List (List ℕ)). slice_get l 0) (text_at (λ n. texts_of (each n)) names number line.session numbered.0)

    go : (r : Option Answered) → (first_of line (each line.session)).reply ≡ r
        → texts_in_order order (map (λ n. texts_of (without line.session each n)) names) ≡ map answer_line (first_replies (together lines (without line.session each)))
        → texts_in_order (number ∷ order) (map (λ n. texts_of (each n)) names) ≡ map answer_line (first_replies (together (line ∷ lines) each))
    go None e rest =
        let none : next_text number (map (λ n. texts_of (each n)) names) ≡ None = next ∙ ap (λ (l : List (List ℕ)). slice_get l 0) (texts ∙ ap (λ (r : Option Answered). map answer_line (before_others r (first_replies (rest_of (each line.session))))) e) in
        ap (λ (t : Option (List ℕ)). text_before t (texts_in_order order (without_first number (map (λ n. texts_of (each n)) names)))) none
        ∙ sym (ap (λ (r : Option Answered). map answer_line (before_others r (first_replies (together lines (without line.session each))))) e)
    go (Some a) e rest =
        let whole : texts_of (each line.session) ≡ answer_line a ∷ texts_of (rest_of (each line.session)) = texts ∙ ap (λ (r : Option Answered). map answer_line (before_others r (first_replies (rest_of (each line.session))))) e in
        let some : next_text number (map (λ n. texts_of (each n)) names) ≡ Some (answer_line a) = next ∙ ap (λ (l : List (List ℕ)). slice_get l 0) whole in
        let left = left_at each names number line.session apart numbered.0 (ap (drop 1) whole) in
        ap (λ (t : Option (List ℕ)). text_before t (texts_in_order order (without_first number (map (λ n. texts_of (each n)) names)))) some
        ∙ ap (λ (xs : List (List ℕ)). answer_line a ∷ xs) (ap (texts_in_order order) left ∙ rest)
        ∙ sym (ap (λ (r : Option Answered). map answer_line (before_others r (first_replies (together lines (without line.session each))))) e)

-- there is a why for a line without a reply; of one with a reply, what is said of those behind it
abbrev pub stop_fits_at : Option Answered → Option LineError → Outcome → Type 0 → Type 0
stop_fits_at None why o later = (w : LineError) × (why ≡ Some w)
stop_fits_at (Some a) why o later = later

-- there is a why where a line of a session has no reply
abbrev pub StopFits : Option LineError → List Outcome → Type 0
StopFits why [] = Unit {0}
StopFits why (o ∷ outcomes) = stop_fits_at o.reply why o (StopFits why outcomes)

-- What ends a phase in the script's order: a session, by its number, with the line that has no reply; or nothing, and each line has one.
abbrev pub EndsAt : List (List ℕ) → (List ℕ → Option LineError) → List Outcome → Option ℕ → Type 0
EndsAt names whys outcomes None = All (λ o. IsSome o.reply) outcomes
EndsAt names whys outcomes (Some number) =
    (name : List ℕ) × (slice_get names number ≡ Some name) × (w : LineError) × (whys name ≡ Some w)
    × ((line : Line) × (rest : List Line) × (drop (length (first_replies outcomes)) (map line_in outcomes) ≡ line ∷ rest) × (line.session ≡ name))

pub order_stop : (names : List (List ℕ)) (whys : List ℕ → Option LineError) (lines : List Line) (order : List ℕ) (each : Each) → AllPairs (λ a b. a ≢ b) names → AreNumbered names lines order → Matches lines each
    → ((name : List ℕ) → StopFits (whys name) (each name))
    → EndsAt names whys (together lines each) (stop_in_order order (map (λ n. texts_of (each n)) names))
order_stop names whys [] [] each apart numbered h fits = λ i d lt. absurd (omega arith)
order_stop names whys [] (number ∷ order) each apart numbered h fits = absurd numbered
order_stop names whys (line ∷ lines) [] each apart numbered h fits = absurd numbered
order_stop names whys (line ∷ lines) (number ∷ order) each apart numbered h fits =
    go (first_of line (each line.session)).reply refl (λ more. order_stop names whys lines order (without line.session each) apart numbered.1 (matches_rest line lines each h) more)
  where
    own : map line_in (each line.session) ≡ line ∷ lines_with line.session lines
    own = h line.session ∙ own_first line lines

    parts : ((first_of line (each line.session)).line ≡ line) × (map line_in (rest_of (each line.session)) ≡ lines_with line.session lines) × (each line.session ≡ first_of line (each line.session) ∷ rest_of (each line.session))
    parts = first_line line (lines_with line.session lines) (each line.session) own

    texts : texts_of (each line.session) ≡ map answer_line (before_others (first_of line (each line.session)).reply (first_replies (rest_of (each line.session))))
    texts = ap texts_of parts.2

    next : next_text number (map (λ n. texts_of (each n)) names) ≡ slice_get (texts_of (each line.session)) 0
    next = ap (λ (l : List (List ℕ)). slice_get l 0) (text_at (λ n. texts_of (each n)) names number line.session numbered.0)

    fit : StopFits (whys line.session) (first_of line (each line.session) ∷ rest_of (each line.session))
    fit = subst (StopFits (whys line.session)) parts.2 (fits line.session)

    at : (a : Answered) → (first_of line (each line.session)).reply ≡ Some a → (name : List ℕ) (b : Bool) → bytes_eq line.session name ≡ b → StopFits (whys name) (without line.session each name)
    at a e name true q =
        let is : line.session ≡ name = (bytes_eq-Decides line.session name).0 q in
        let later : StopFits (whys line.session) (rest_of (each line.session)) = subst (λ (r : Option Answered). stop_fits_at r (whys line.session) (first_of line (each line.session)) (StopFits (whys line.session) (rest_of (each line.session)))) e fit in
        subst (StopFits (whys name)) (sym (ap (λ (b : Bool). if b then rest_of (each name) else each name) q)) (subst (λ (n : List ℕ). StopFits (whys n) (rest_of (each n))) is later)
    at a e name false q = subst (StopFits (whys name)) (sym (ap (λ (b : Bool). if b then rest_of (each name) else each name) q)) (fits name)

    behind : (a : Answered) → (first_of line (each line.session)).reply ≡ Some a → (name : List ℕ) → StopFits (whys name) (without line.session each name)
    behind a e name = at a e name (bytes_eq line.session name) refl

    answered_on : (a : Answered) → (first_of line (each line.session)).reply ≡ Some a → All (λ p. IsSome p.reply) (together lines (without line.session each)) → All (λ p. IsSome p.reply) (together (line ∷ lines) each)
    answered_on a e all zero d lt = subst IsSome (sym e) refl
    answered_on a e all (suc i) d lt = all i d (omega (arith, lt))

    on : (a : Answered) → (first_of line (each line.session)).reply ≡ Some a → (s : Option ℕ) → EndsAt names whys (together lines (without line.session each)) s → EndsAt names whys (together (line ∷ lines) each) s
    on a e None all = answered_on a e all
    on a e (Some k) (name, there, w, is, (l, rest, after, mine)) =
        (name, there, w, is, (l, rest, ap (λ (r : Option Answered). drop (length (before_others r (first_replies (together lines (without line.session each))))) ((first_of line (each line.session)).line ∷ map line_in (together lines (without line.session each)))) e ∙ after, mine))

    go : (r : Option Answered) → (first_of line (each line.session)).reply ≡ r
        → (((name : List ℕ) → StopFits (whys name) (without line.session each name)) → EndsAt names whys (together lines (without line.session each)) (stop_in_order order (map (λ n. texts_of (without line.session each n)) names)))
        → EndsAt names whys (together (line ∷ lines) each) (stop_in_order (number ∷ order) (map (λ n. texts_of (each n)) names))
    go None e later =
        let none : next_text number (map (λ n. texts_of (each n)) names) ≡ None = next ∙ ap (λ (l : List (List ℕ)). slice_get l 0) (texts ∙ ap (λ (r : Option Answered). map answer_line (before_others r (first_replies (rest_of (each line.session))))) e) in
        let f = subst (λ (r : Option Answered). stop_fits_at r (whys line.session) (first_of line (each line.session)) (StopFits (whys line.session) (rest_of (each line.session)))) e fit in
        let here : EndsAt names whys (together (line ∷ lines) each) (Some number) = (
          line.session,
          numbered.0,
          f.0,
          f.1,
          (
            (first_of line (each line.session)).line,
            map line_in (together lines (without line.session each)),
            ap (λ (r : Option Answered). drop (length (before_others r (first_replies (together lines (without line.session each))))) ((first_of line (each line.session)).line ∷ map line_in (together lines (without line.session each)))) e,
            ap (λ (l : Line). l.session) parts.0,
          ),
        ) in
        subst (EndsAt names whys (together (line ∷ lines) each)) (sym (ap (λ (t : Option (List ℕ)). stop_or t number (stop_in_order order (without_first number (map (λ n. texts_of (each n)) names)))) none)) here
    go (Some a) e later =
        let whole : texts_of (each line.session) ≡ answer_line a ∷ texts_of (rest_of (each line.session)) = texts ∙ ap (λ (r : Option Answered). map answer_line (before_others r (first_replies (rest_of (each line.session))))) e in
        let some : next_text number (map (λ n. texts_of (each n)) names) ≡ Some (answer_line a) = next ∙ ap (λ (l : List (List ℕ)). slice_get l 0) whole in
        let left = left_at each names number line.session apart numbered.0 (ap (drop 1) whole) in
        let rest = later (behind a e) in
        let same : stop_in_order (number ∷ order) (map (λ n. texts_of (each n)) names) ≡ stop_in_order order (map (λ n. texts_of (without line.session each n)) names) =
        ap (λ (t : Option (List ℕ)). stop_or t number (stop_in_order order (without_first number (map (λ n. texts_of (each n)) names)))) some ∙ ap (stop_in_order order) left in
        subst (EndsAt names whys (together (line ∷ lines) each)) (sym same) (on a e (stop_in_order order (map (λ n. texts_of (without line.session each n)) names)) rest)

-- Phases of a single session are what one session answers, phase behind phase.
use Rattle.std.proofs.Common.{◌≡◌, inl, inr, ℕ, zero, suc, ◌<◌, ◌≤◌, ◌++◌, List, [], ◌∷◌, length, map, max, Bool, true, if◌then◌else◌, refl, ap, sym, ◌∙◌, subst, arith, append-nil, append_assoc, get_or}
use Rattle.std.specs.Prelude.{All, AllPairs, IfSome}
use Rattle.std.proofs.lemmas.List.{map-append}
use Rattle.std.proofs.lemmas.List.Elements.{All-append}
use Rattle.std.specs.Str.{bytes_eq}
use Rattle.im_digest.specs.Digests.{Hash}
use Rattle.im_model.specs.declared.transactions.Transaction.{Transaction}
use Rattle.im_octet.proofs.Common.{bytes-same}
use Rattle.im_report.proofs.OutcomeLemmas.{all_in, replies_answered, whole_of}
use Rattle.im_report.specs.Outcomes.{AreAnswers, IsCutOff, IsLate, IsOver, IsSession, Outcome, Rises, answered, floors_told, highest, of_session}
use Rattle.im_report.specs.Report.{Answered, IsAnswer, ReadsBy, ReadsFrom, floor_after, floor_by, is_placed}
use Rattle.im_report.specs.Sessions.{AreAllButLast, ArePhases, floor_reached, greatest, next_floor, next_low, replies_in}
use Rattle.im_script.specs.declared.commands.Command.{Command}
use Rattle.im_script.specs.declared.commands.Command.TheVariants.{Set, Get, Scan, History, Header, State, Prove, Advance, Item, Link, Sql}

-- where all lines are of one session they are those of that session
pub own_all : (name : List ℕ) (outcomes : List Outcome) → All (λ o. o.line.session ≡ name) outcomes → of_session name outcomes ≡ outcomes
own_all name [] all = refl
own_all name (o ∷ outcomes) all =
    let here : bytes_eq o.line.session name ≡ true = bytes-same o.line.session name (all 0 o (omega arith)) in
    ap (λ (b : Bool). if b then o ∷ of_session name outcomes else of_session name outcomes) here
    ∙ ap (λ (os : List Outcome). o ∷ os) (own_all name outcomes (λ i d lt. all (suc i) d (omega (arith, lt))))

-- the greatest number of some replies is no less than where they began, and than each of them
pub highest_least : (low : ℕ) (answers : List Answered) → low ≤ highest low answers
highest_least low [] = omega arith
highest_least low (a ∷ answers) = let more = highest_least (max low a.number) answers in omega (arith, more)

pub highest_each : (low : ℕ) (answers : List Answered) → All (λ a. a.number ≤ highest low answers) answers
highest_each low [] = λ i d lt. absurd (omega arith)
highest_each low (a ∷ answers) = cons (highest_each (max low a.number) answers)
  where
    cons : All (λ b. b.number ≤ highest (max low a.number) answers) answers → All (λ b. b.number ≤ highest low (a ∷ answers)) (a ∷ answers)
    cons rest zero d lt = let more = highest_least (max low a.number) answers in omega (arith, more)
    cons rest (suc i) d lt = rest i d (omega (arith, lt))

highest_both : (low : ℕ) (xs ys : List Answered) → highest low (xs ++ ys) ≡ highest (highest low xs) ys
highest_both low [] ys = refl
highest_both low (x ∷ xs) ys = highest_both (max low x.number) xs ys

-- the floor behind replies and others
pub floor_both : (floor : ℕ) (xs ys : List Answered) → floor_after floor (xs ++ ys) ≡ floor_after (floor_after floor xs) ys
floor_both floor [] ys = refl
floor_both floor (x ∷ xs) ys = floor_both (floor_by x.line.command x.number floor) xs ys

floors_both : (floor : ℕ) (xs ys : List Answered) → floors_told floor (xs ++ ys) ≡ floors_told floor xs ++ floors_told (floor_after floor xs) ys
floors_both floor [] ys = refl
floors_both floor (x ∷ xs) ys =
    let next : ℕ = floor_by x.line.command x.number floor in
    let one : List (ℕ × ℕ) = if is_placed x then (x.number, floor) ∷ [] else [] in
    ap (λ (l : List (ℕ × ℕ)). one ++ l) (floors_both next xs ys) ∙ sym (append_assoc one (floors_told next xs) (floors_told (floor_after next xs) ys))

-- a line makes no floor higher than its number, nor lowers one that isn't
floor_top : (command : Command) (n floor : ℕ) → floor_by command n floor ≤ max floor n
floor_top (Set pres drafts) n floor = omega arith
floor_top (Get key at) n floor = omega arith
floor_top (Scan prefix at) n floor = omega arith
floor_top (History key) n floor = omega arith
floor_top (Header k) n floor = omega arith
floor_top State n floor = omega arith
floor_top (Prove s t) n floor = omega arith
floor_top (Advance s t) n floor = omega arith
floor_top (Item t i under) n floor = omega arith
floor_top (Link count) n floor = omega arith
floor_top (Sql text) n floor = omega arith

floor_up : (command : Command) (n floor : ℕ) → floor ≤ n → floor ≤ floor_by command n floor
floor_up (Set pres drafts) n floor le = omega arith
floor_up (Get key at) n floor le = omega arith
floor_up (Scan prefix at) n floor le = omega arith
floor_up (History key) n floor le = omega arith
floor_up (Header k) n floor le = omega arith
floor_up State n floor le = omega arith
floor_up (Prove s t) n floor le = omega arith
floor_up (Advance s t) n floor le = omega arith
floor_up (Item t i under) n floor le = omega arith
floor_up (Link count) n floor le = omega (arith, le)
floor_up (Sql text) n floor le = omega arith

-- what was read is no less than a smaller number
pub reads_by_more : (low more : ℕ) → low ≤ more → (command : Command) (n : ℕ) (reply : List ℕ) → ReadsBy more command n reply → ReadsBy low command n reply
reads_by_more low more le (Set pres drafts) n reply from = from
reads_by_more low more le (Get key at) n reply from = from
reads_by_more low more le (Scan prefix at) n reply from = from
reads_by_more low more le (History key) n reply from = from
reads_by_more low more le (Header k) n reply from = from
reads_by_more low more le State n reply from = from
reads_by_more low more le (Prove s t) n reply from = from
reads_by_more low more le (Advance s t) n reply from = from
reads_by_more low more le (Item t i under) n reply from = from
reads_by_more low more le (Link count) n reply from = from
reads_by_more low more le (Sql text) n reply from = λ read told. (let least : more ≤ read = from read told in omega (arith, least, le))

pub reads_more : (low more : ℕ) → low ≤ more → (a : Answered) → ReadsFrom more a → ReadsFrom low a
reads_more low more le a from = reads_by_more low more le a.line.command a.number a.reply from

-- the floor behind some replies is no less than before, and no more than their greatest number
floor_rises : (floor : ℕ) (answers : List Answered) → All (λ a. floor ≤ a.number) answers → AllPairs (λ a b. Rises a.number b) answers → floor ≤ floor_after floor answers
floor_rises floor [] all rising = omega arith
floor_rises floor (a ∷ answers) all rising =
    let here : floor ≤ a.number = all 0 a (omega arith) in
    let next : ℕ = floor_by a.line.command a.number floor in
    let top : next ≤ max floor a.number = floor_top a.line.command a.number floor in
    let up : floor ≤ next = floor_up a.line.command a.number floor here in
    let later : All (λ b. next ≤ b.number) answers =
    λ i d lt. (let r : Rises a.number (get_or answers i d) = rising 0 (suc i) d (omega arith) (omega (arith, lt)) in omega (arith, top, here, r.0)) in
    let rest : next ≤ floor_after next answers = floor_rises next answers later (λ i j d lt less. rising (suc i) (suc j) d (omega (arith, lt)) (omega (arith, less))) in
    omega (arith, up, rest)

pub floor_within : (low floor : ℕ) (answers : List Answered) → floor ≤ low → floor_after floor answers ≤ highest low answers
floor_within low floor [] le = le
floor_within low floor (a ∷ answers) le =
    let top = floor_top a.line.command a.number floor in floor_within (max low a.number) (floor_by a.line.command a.number floor) answers (omega (arith, le, top))

-- the greatest of some numbers
greatest_least : (best : ℕ) (ns : List ℕ) → best ≤ greatest best ns
greatest_least best [] = omega arith
greatest_least best (n ∷ ns) = let more = greatest_least (max best n) ns in omega (arith, more)

pub greatest_most : (best n : ℕ) (ns : List ℕ) → best ≤ n → All (λ k. k ≤ n) ns → greatest best ns ≤ n
greatest_most best n [] le all = le
greatest_most best n (k ∷ ns) le all =
    let here : k ≤ n = all 0 k (omega arith) in greatest_most (max best k) n ns (omega (arith, le, here)) (λ i d lt. all (suc i) d (omega (arith, lt)))

-- each line of a phase of one session has reached the same floor
reached_all : (floor : ℕ) (name : List ℕ) (whole outcomes : List Outcome) → All (λ o. o.line.session ≡ name) whole → All (λ o. o.line.session ≡ name) outcomes
    → All (λ k. k ≡ floor_after floor (replies_in whole)) (map (floor_reached floor whole) outcomes)
reached_all floor name whole [] all same = λ i d lt. absurd (omega arith)
reached_all floor name whole (o ∷ outcomes) all same = cons (reached_all floor name whole outcomes all (λ i d lt. same (suc i) d (omega (arith, lt))))
  where
    one : floor_reached floor whole o ≡ floor_after floor (replies_in whole)
    one = ap (λ (n : List ℕ). floor_after floor (replies_in (of_session n whole))) (same 0 o (omega arith)) ∙ ap (λ (l : List Outcome). floor_after floor (replies_in l)) (own_all name whole all)

    cons : All (λ k. k ≡ floor_after floor (replies_in whole)) (map (floor_reached floor whole) outcomes) → All (λ k. k ≡ floor_after floor (replies_in whole)) (map (floor_reached floor whole) (o ∷ outcomes))
    cons rest zero d lt = one
    cons rest (suc i) d lt = rest i d (omega (arith, lt))

floor_alone : (floor : ℕ) (name : List ℕ) (outcomes : List Outcome) → All (λ o. o.line.session ≡ name) outcomes → floor ≤ floor_after floor (replies_in outcomes)
    → next_floor floor outcomes ≡ floor_after floor (replies_in outcomes)
floor_alone floor name [] same le = refl
floor_alone floor name (o ∷ outcomes) same le =
    let end : ℕ = floor_after floor (replies_in (o ∷ outcomes)) in
    let first : ℕ = floor_reached floor (o ∷ outcomes) o in
    let rest : List ℕ = map (floor_reached floor (o ∷ outcomes)) outcomes in
    let all : All (λ k. k ≡ end) (first ∷ rest) = reached_all floor name (o ∷ outcomes) (o ∷ outcomes) same same in
    let here : first ≡ end = all 0 0 (omega arith) in
    let most : greatest floor (first ∷ rest) ≤ end = greatest_most floor end (first ∷ rest) le (λ i d lt. let e = all i d lt in omega (arith, e)) in
    let least : max floor first ≤ greatest (max floor first) rest = greatest_least (max floor first) rest in
    let same_end : greatest floor (first ∷ rest) ≡ end = omega (arith, here, most, least) in
    same_end

-- a relation of each to each later one, in two lists one behind the other
pub pairs_both : {X : Type 0} (R : X → X → Type 0) (xs ys : List X) → AllPairs R xs → AllPairs R ys → ((x : X) → (i : ℕ) (d : X) → i < length xs → x ≡ get_or xs i d → All (R x) ys) → AllPairs R (xs ++ ys)
pairs_both R [] ys before behind each = behind
pairs_both {X} R (x ∷ xs) ys before behind each = cons (pairs_both R xs ys (λ i j d lt less. before (suc i) (suc j) d (omega (arith, lt)) (omega (arith, less))) behind (λ y i d lt e. each y (suc i) d (omega (arith, lt)) e))
  where
    later : All (R x) (xs ++ ys)
    later = All-append (R x) xs ys (λ i d lt. before 0 (suc i) d (omega arith) (omega (arith, lt))) (each x 0 x (omega arith) refl)

    cons : AllPairs R (xs ++ ys) → AllPairs R (x ∷ xs ++ ys)
    cons rest zero zero d lt less = absurd (omega (arith, lt))
    cons rest zero (suc j) d lt less = later j d (omega (arith, less))
    cons rest (suc i) zero d lt less = absurd (omega (arith, lt))
    cons rest (suc i) (suc j) d lt less = rest i j d (omega (arith, lt)) (omega (arith, less))

-- what is answered behind other lines of the session
answers_behind : (hash : Hash) (low floor : ℕ) (h : List Transaction) (xs ys : List Answered) → AreAnswers hash low floor h xs → AreAnswers hash (highest low xs) (floor_after floor xs) h ys
    → AreAnswers hash low floor h (xs ++ ys)
answers_behind hash low floor h xs ys before behind =
    let least : low ≤ highest low xs = highest_least low xs in
    record {
      each = All-append (λ (a : Answered). IsAnswer hash h a.line.command a.number a.reply) xs ys before.each behind.each;
      least = All-append (Rises low) xs ys before.least (λ i d lt. (let r : Rises (highest low xs) (get_or ys i d) = behind.least i d lt in (omega (arith, least, r.0), λ is. (let up = r.1 is in omega (arith, least, up)))));
      rising = pairs_both (λ (a b : Answered). Rises a.number b) xs ys before.rising behind.rising
          (λ x i d lt e j f less. (let r : Rises (highest low xs) (get_or ys j f) = behind.least j f less in
          let most : (get_or xs i d).number ≤ highest low xs = highest_each low xs i d lt in
          let number : x.number ≡ (get_or xs i d).number = ap (λ (a : Answered). a.number) e in
          (omega (arith, most, number, r.0), λ is. (let up = r.1 is in omega (arith, most, number, up)))));
      least_read = All-append (ReadsFrom low) xs ys before.least_read (λ i d lt. reads_more low (highest low xs) least (get_or ys i d) (behind.least_read i d lt));
      reading = pairs_both (λ (a b : Answered). ReadsFrom a.number b) xs ys before.reading behind.reading
          (λ x i d lt e j f less. (let most : (get_or xs i d).number ≤ highest low xs = highest_each low xs i d lt in
          let number : x.number ≡ (get_or xs i d).number = ap (λ (a : Answered). a.number) e in
          reads_more x.number (highest low xs) (omega (arith, most, number)) (get_or ys j f) (behind.least_read j f less)));
      floors = subst (All (IsOver h)) (sym (floors_both floor xs ys)) (All-append (IsOver h) (floors_told floor xs) (floors_told (floor_after floor xs) ys) before.floors behind.floors);
    }

cut_behind : (h : List Transaction) (low floor : ℕ) (xs ys : List Answered) (rest : List Outcome) → IsCutOff h (highest low xs) (floor_after floor xs) ys rest → IsCutOff h low floor (xs ++ ys) rest
cut_behind h low floor xs ys rest (inl none) = inl none
cut_behind h low floor xs ys rest (inr (line, late, others, e, tx)) =
    inr (
      line,
      late,
      others,
      e,
      subst (λ (f : ℕ). IfSome late (IsLate h (highest low (xs ++ ys)) f line.command)) (sym (floor_both floor xs ys))
          (subst (λ (n : ℕ). IfSome late (IsLate h n (floor_after (floor_after floor xs) ys) line.command)) (sym (highest_both low xs ys)) tx),
    )

session_behind : (hash : Hash) (low floor : ℕ) (h : List Transaction) (xs : List Answered) (outcomes : List Outcome) → AreAnswers hash low floor h xs → IsSession hash (highest low xs) (floor_after floor xs) h outcomes
    → IsSession hash low floor h (map answered xs ++ outcomes)
session_behind hash low floor h xs outcomes before s = record {
  answers = xs ++ s.answers;
  rest = s.rest;
  are = ap (λ (l : List Outcome). map answered xs ++ l) s.are
      ∙ (sym (append_assoc (map answered xs) (map answered s.answers) s.rest) ∙ ap (λ (l : List Outcome). l ++ s.rest) (sym (map-append answered xs s.answers)));
  cut = cut_behind h low floor xs s.answers s.rest s.cut;
  told = answers_behind hash low floor h xs s.answers before s.told;
}

-- no line, no outcome
pub session_none : (hash : Hash) (low floor : ℕ) (h : List Transaction) → IsSession hash low floor h []
session_none hash low floor h = record {
  answers = [];
  rest = [];
  are = refl;
  cut = inl refl;
  told = record {
    each = λ i d lt. absurd (omega arith);
    least = λ i d lt. absurd (omega arith);
    rising = λ i j d lt less. absurd (omega arith);
    least_read = λ i d lt. absurd (omega arith);
    reading = λ i j d lt less. absurd (omega arith);
    floors = λ i d lt. absurd (omega arith);
  };
}

-- all phases of one session are what that session came to
pub one_session : (hash : Hash) (low floor : ℕ) (h : List Transaction) (name : List ℕ) (phases : List (List Outcome)) → floor ≤ low → All (All (λ o. o.line.session ≡ name)) phases → AreAllButLast phases
    → ArePhases hash low floor h phases → IsSession hash low floor h (all_in phases)
one_session hash low floor h name [] le same ran each = session_none hash low floor h
one_session hash low floor h name (outcomes ∷ []) le same ran each =
    subst (IsSession hash low floor h) (own_all name outcomes (same 0 outcomes (omega arith)) ∙ sym (append-nil outcomes)) (each.0 name)
one_session hash low floor h name (outcomes ∷ next ∷ phases) le same ran each =
    let mine : All (λ o. o.line.session ≡ name) outcomes = same 0 outcomes (omega arith) in
    let first : IsSession hash low floor h outcomes = subst (IsSession hash low floor h) (own_all name outcomes mine) (each.0 name) in
    let answers : List Answered = first.answers in
    let none : first.rest ≡ [] = whole_of h low floor answers first.rest outcomes first.are first.cut ran.0 in
    let are : outcomes ≡ map answered answers = first.are ∙ (ap (λ (l : List Outcome). map answered answers ++ l) none ∙ append-nil (map answered answers)) in
    let told : replies_in outcomes ≡ answers =
    ap replies_in (are ∙ sym (append-nil (map answered answers))) ∙ (replies_answered answers [] ∙ append-nil answers) in
    let numbers : All (λ a. floor ≤ a.number) answers = λ i d lt. (let r = first.told.least i d lt in omega (arith, r.0, le)) in
    let up : floor ≤ floor_after floor answers = floor_rises floor answers numbers first.told.rising in
    let low_is : next_low low outcomes ≡ highest low answers = ap (highest low) told in
    let floor_is : next_floor floor outcomes ≡ floor_after floor answers =
    floor_alone floor name outcomes mine (subst (λ (l : List Answered). floor ≤ floor_after floor l) (sym told) up) ∙ ap (floor_after floor) told in
    let within : floor_after floor answers ≤ highest low answers = floor_within low floor answers le in
    let rest : IsSession hash (next_low low outcomes) (next_floor floor outcomes) h (all_in (next ∷ phases)) =
    one_session hash (next_low low outcomes) (next_floor floor outcomes) h name (next ∷ phases) (omega (arith, low_is, floor_is, within)) (λ i d lt. same (suc i) d (omega (arith, lt))) ran.1 each.1 in
    let moved : IsSession hash (highest low answers) (floor_after floor answers) h (all_in (next ∷ phases)) =
    subst (λ (f : ℕ). IsSession hash (highest low answers) f h (all_in (next ∷ phases))) floor_is
    (subst (λ (l : ℕ). IsSession hash l (next_floor floor outcomes) h (all_in (next ∷ phases))) low_is rest) in
    subst (λ (l : List Outcome). IsSession hash low floor h (l ++ all_in (next ∷ phases))) (sym are) (session_behind hash low floor h answers (all_in (next ∷ phases)) first.told moved)

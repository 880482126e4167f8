-- What a session has answered, and one line more.
use Rattle.std.proofs.Common.{◌≡◌, ℕ, ◌+◌, ◌≤◌, ◌++◌, List, [], ◌∷◌, length, take, Bool, true, false, Some, if◌then◌else◌, refl, ap, sym, ◌∙◌, subst, arith, slice_index_or, append-nil, append_assoc, length-append}
use Rattle.std.specs.Prelude.{All}
use Rattle.std.proofs.lemmas.List.Elements.{All-push}
use Rattle.std.proofs.lemmas.List.Quantifiers.{all_pairs_push}
use Rattle.im_dealing.proofs.GrowLemmas.{may_before}
use Rattle.im_dealing.specs.Lines.{IsStep}
use Rattle.im_dealing.specs.Runs.{IsAlone, IsRun, Start, numbers_told}
use Rattle.im_report.specs.Messages.{IsReadBack}
use Rattle.im_digest.specs.Digests.{Hash}
use Rattle.im_report.proofs.SingleLemmas.{floor_both, reads_more}
use Rattle.im_report.specs.Outcomes.{AreAnswers, IsOver, Rises, floors_told, number_told}
use Rattle.im_report.specs.Report.{Answered, IsAnswer, ReadsFrom, floor_after, floor_by, is_placed}
use Rattle.im_report.specs.Sessions.{IsJustOver}
use Rattle.im_script.specs.declared.commands.Command.{Command}
use Rattle.im_script.specs.declared.commands.Command.TheVariants.{Set, Get, Scan, History, Header, State, Prove, Advance, Item, Link, Sql}
use Rattle.im_table.specs.Histories.{history_of}
use Rattle.im_table.specs.Known.{KnownPass}
use Rattle.im_table.specs.Passes.{Later}

pub numbers_push : (xs : List Answered) (a : Answered) → numbers_told (xs ++ a ∷ []) ≡ numbers_told xs ++ number_told (Some a)
numbers_push [] a = append-nil (number_told (Some a))
numbers_push (x ∷ xs) a = ap (λ (l : List ℕ). number_told (Some x) ++ l) (numbers_push xs a) ∙ sym (append_assoc (number_told (Some x)) (numbers_told xs) (number_told (Some a)))

-- the pair of a line that reply `tx`, or none
abbrev pub pair_of : Bool → ℕ → ℕ → List (ℕ × ℕ)
pair_of b n f = if b then (n, f) ∷ [] else []

pub floors_push : (f : ℕ) (xs : List Answered) (a : Answered) → floors_told f (xs ++ a ∷ []) ≡ floors_told f xs ++ pair_of (is_placed a) a.number (floor_after f xs)
floors_push f [] a = append-nil (pair_of (is_placed a) a.number f)
floors_push f (x ∷ xs) a =
    let g = floor_by x.line.command x.number f in
    ap (λ (l : List (ℕ × ℕ)). pair_of (is_placed x) x.number f ++ l) (floors_push g xs a)
    ∙ sym (append_assoc (pair_of (is_placed x) x.number f) (floors_told g xs) (pair_of (is_placed a) a.number (floor_after g xs)))

-- a floor that is higher stays higher
pub floor_more : (command : Command) (n f g : ℕ) → f ≤ g → floor_by command n f ≤ floor_by command n g
floor_more (Set pres drafts) n f g le = le
floor_more (Get key at) n f g le = le
floor_more (Scan prefix at) n f g le = le
floor_more (History key) n f g le = le
floor_more (Header k) n f g le = le
floor_more State n f g le = le
floor_more (Prove s t) n f g le = le
floor_more (Advance s t) n f g le = le
floor_more (Item t i under) n f g le = le
floor_more (Link count) n f g le = omega arith
floor_more (Sql text) n f g le = le

-- of each pair, and of one more where there is one
pairs_on : (P : ℕ × ℕ → Type 0) (ps : List (ℕ × ℕ)) (b : Bool) (n f : ℕ) → All P ps → (b ≡ true → P (n, f)) → All P (ps ++ pair_of b n f)
pairs_on P ps true n f all one = All-push P ps (n, f) all (one refl)
pairs_on P ps false n f all one = subst (All P) (sym (append-nil ps)) all

-- a number that is told is durable behind the line, and wasn't before
told_rises : (hash : Hash) (old new : KnownPass) (a : Answered) → IsStep hash old new a → Later old new → old.view.least.durable + length (number_told (Some a)) ≤ new.view.least.durable
told_rises hash old new a s l = go (is_placed a) refl
  where
    go : (b : Bool) → is_placed a ≡ b → old.view.least.durable + length (number_told (Some a)) ≤ new.view.least.durable
    go true e = omega (arith, ap (λ (c : Bool). length (if c then a.number ∷ [] else [])) e, s.rises.1 e, s.known)
    go false e = omega (arith, ap (λ (c : Bool). length (if c then a.number ∷ [] else [])) e, l.durable)

-- a pass that is alone was alone before
alone_before : (hash : Hash) (start : Start) (old new : KnownPass) (answers : List Answered) (a : Answered) → IsRun hash start old answers → IsStep hash old new a → Later old new
    → IsAlone start new → IsAlone start old
alone_before hash start old new answers a r s l alone =
    let more : length new.view.own ≡ length old.view.own + length (number_told (Some a)) = ap length s.own ∙ length-append old.view.own (number_told (Some a)) in
    record {
      linked = omega (arith, r.leaves, s.slack, alone.linked);
      durable = omega (arith, r.placed, alone.durable, more, told_rises hash old new a s l);
    }

-- behind it nothing was linked or made durable but by the line
same_before : (hash : Hash) (start : Start) (old new : KnownPass) (answers : List Answered) (a : Answered) → IsRun hash start old answers → IsStep hash old new a → Later old new
    → IsAlone start new → new.view.least.linked + old.view.leaves ≡ old.view.least.linked + new.view.leaves
same_before hash start old new answers a r s l alone = let before = alone_before hash start old new answers a r s l alone in omega (arith, alone.linked, before.linked)

still_before : (hash : Hash) (start : Start) (old new : KnownPass) (answers : List Answered) (a : Answered) → IsRun hash start old answers → IsStep hash old new a → Later old new
    → IsAlone start new → new.view.least.durable ≡ old.view.least.durable + length (number_told (Some a))
still_before hash start old new answers a r s l alone =
    let before = alone_before hash start old new answers a r s l alone in
    let more : length new.view.own ≡ length old.view.own + length (number_told (Some a)) = ap length s.own ∙ length-append old.view.own (number_told (Some a)) in
    omega (arith, alone.durable, before.durable, more)

-- one answered line more
pub run_push : (hash : Hash) (start : Start) (old new : KnownPass) (answers : List Answered) (a : Answered) → IsRun hash start old answers → IsStep hash old new a → Later old new
    → IsRun hash start new (answers ++ a ∷ [])
run_push hash start old new answers a r s l =
    let low = start.low in
    let more : length new.view.own ≡ length old.view.own + length (number_told (Some a)) = ap length s.own ∙ length-append old.view.own (number_told (Some a)) in
    record {
      session = λ items m.
          let before : AreAnswers hash low start.floor (history_of items) answers = r.session items (may_before old new items l m) in
          record {
            each = All-push (λ (b : Answered). IsAnswer hash (history_of items) b.line.command b.number b.reply) answers a before.each (s.answer items m);
            least = All-push (Rises low) answers a before.least (omega (arith, r.from, s.rises.0), λ e. omega (arith, r.from, s.rises.1 e));
            rising = all_pairs_push (λ (b c : Answered). Rises b.number c) answers a before.rising
                (λ k d lt. let known = r.known k d lt in (omega (arith, known, s.rises.0), λ e. omega (arith, known, s.rises.1 e)));
            least_read = All-push (ReadsFrom low) answers a before.least_read (reads_more low old.view.least.durable r.from a s.reads);
            reading = all_pairs_push (λ (b c : Answered). ReadsFrom b.number c) answers a before.reading
                (λ k d lt. reads_more (slice_index_or answers k d).number old.view.least.durable (r.known k d lt) a s.reads);
            floors = subst (All (IsOver (history_of items))) (sym (floors_push start.floor answers a))
                (pairs_on (IsOver (history_of items)) (floors_told start.floor answers) (is_placed a) a.number (floor_after start.floor answers) before.floors
                (λ e. omega (arith, r.reached, s.over e items m)));
          };
      again = λ items m. All-push (λ (b : Answered). IsReadBack hash (take b.number (history_of items)) b.line.command b.reply) answers a (r.again items (may_before old new items l m)) (s.again items m);
      own = s.own ∙ (ap (λ (xs : List ℕ). xs ++ number_told (Some a)) r.own ∙ sym (numbers_push answers a));
      calm = s.calm ∙ r.calm;
      known = All-push (λ (b : Answered). b.number ≤ new.view.least.durable) answers a (λ k d lt. omega (arith, r.known k d lt, l.durable)) s.known;
      from = omega (arith, r.from, l.durable);
      reached = omega (arith, floor_both start.floor answers (a ∷ []), floor_more a.line.command a.number (floor_after start.floor answers) old.view.least.linked r.reached, s.floor);
      leaves = omega (arith, r.leaves, s.slack);
      placed = omega (arith, r.placed, more, told_rises hash old new a s l);
      exact = λ alone.
          let before = alone_before hash start old new answers a r s l alone in
          floor_both start.floor answers (a ∷ []) ∙ ap (floor_by a.line.command a.number) (r.exact before)
          ∙ s.just (same_before hash start old new answers a r s l alone) (still_before hash start old new answers a r s l alone);
      just = λ alone items m.
          let before = alone_before hash start old new answers a r s l alone in
          let same = same_before hash start old new answers a r s l alone in
          subst (All (IsJustOver (history_of items))) (sym (floors_push start.floor answers a))
          (pairs_on (IsJustOver (history_of items)) (floors_told start.floor answers) (is_placed a) a.number (floor_after start.floor answers)
          (r.just before items (may_before old new items l m))
          (λ e. omega (arith, r.exact before, same, s.linked_none e, s.over e items m, s.under e items m)));
      unlinked = λ none. absurd (let long : length (answers ++ a ∷ []) ≡ 0 = ap length none in omega (arith, long, length-append answers (a ∷ [])));
    }

-- nothing was answered yet
pub run_none : (hash : Hash) (p : KnownPass) → p.view.own ≡ [] → p.view.leaves ≡ 0 → p.view.faults ≡ 0
    → IsRun hash (record { low = p.view.least.durable; floor = p.view.least.linked }) p []
run_none hash p none leaves faults = record {
  session = λ items m. record {
    each = λ i d lt. absurd (omega arith);
    least = λ i d lt. absurd (omega arith);
    rising = λ i j d lt le. absurd (omega arith);
    least_read = λ i d lt. absurd (omega arith);
    reading = λ i j d lt le. absurd (omega arith);
    floors = λ i d lt. absurd (omega arith);
  };
  again = λ items m i d lt. absurd (omega arith);
  own = none;
  calm = faults;
  known = λ i d lt. absurd (omega arith);
  from = omega arith;
  reached = omega arith;
  leaves = omega (arith, leaves);
  placed = omega (arith, ap length none);
  exact = λ alone. refl;
  just = λ alone items m i d lt. absurd (omega arith);
  unlinked = λ _. leaves;
}

-- The phases played so far, and one more.
use Rattle.std.proofs.Common.{◌≡◌, inl, inr, ℕ, zero, suc, ◌+◌, ◌≤◌, ◌++◌, List, [], ◌∷◌, map, Bool, true, false, if◌then◌else◌, true≢false, refl, ap, ap₂, sym, ◌∙◌, subst, arith, append_assoc, append-nil, slice_index_or}
use Rattle.std.specs.Prelude.{All, IsSome}
use Rattle.std.specs.List.{flat_map}
use Rattle.std.proofs.lemmas.List.{map-append}
use Rattle.std.proofs.lemmas.List.Elements.{All-append, All-push, All-map}
use Rattle.std.proofs.lemmas.List.Sums.{sum_by_push}
use Rattle.im_dealing.proofs.AloneLemmas.{alone_both, alone_none}
use Rattle.im_dealing.proofs.PhaseLemmas.{after_more, floor_push, highest_most, low_push, phase_less, phases_push}
use Rattle.im_dealing.specs.Lines.{MayBecome}
use Rattle.im_dealing.specs.Phases.{AreSoFar, HasGrown, IsPlayed, RanAlone, RunsAlone, floor_behind, low_after}
use Rattle.im_report.specs.Messages.{AreReadBack}
use Rattle.im_digest.specs.Digests.{Hash}
use Rattle.im_model.specs.declared.transactions.Transaction.{Transaction}
use Rattle.im_octet.proofs.Common.{all-left, all-right}
use Rattle.im_report.proofs.KnownLemmas.{IsKnown, known_phases}
use Rattle.im_report.proofs.OutcomeLemmas.{flat_all, replies_all_in}
use Rattle.im_report.proofs.SingleLemmas.{greatest_most, session_none}
use Rattle.im_report.specs.Outcomes.{Outcome, line_in, numbers_in, of_session, reply_in}
use Rattle.im_report.specs.Report.{Answered, is_placed}
use Rattle.im_report.specs.Sessions.{AreAllButLast, AreAnswered, AreOfOne, floor_reached, next_floor, next_low, replies_in, times_in}
use Rattle.im_script.specs.declared.commands.Line.{Line}
use Rattle.im_table.proofs.FrontLemmas.{prefix_self, prefix_trans}
use Rattle.im_table.specs.Histories.{history_of}
use Rattle.im_table.specs.Known.{KnownPass}
use Rattle.im_table.specs.declared.items.LogItem.{LogItem}

pub grown_none : (p : KnownPass) → HasGrown p p
grown_none p = record { seen = prefix_self p.view.seen; durable = omega arith; linked = omega arith; failed = omega arith }

pub grown_on : (old mid new : KnownPass) → HasGrown old mid → HasGrown mid new → HasGrown old new
grown_on old mid new a b = record {
  seen = prefix_trans old.view.seen mid.view.seen new.view.seen a.seen b.seen;
  durable = omega (arith, a.durable, b.durable);
  linked = omega (arith, a.linked, b.linked);
  failed = omega (arith, a.failed, b.failed);
}

grown_may : (old new : KnownPass) (items : List LogItem) → HasGrown old new → MayBecome new items → MayBecome old items
grown_may old new items g m = record {
  begins = prefix_trans old.view.seen new.view.seen items g.seen m.begins;
  enough = omega (arith, g.durable, m.enough);
  history = m.history;
}

-- a phase without lines takes nothing
pub played_none : (hash : Hash) (links : Bool) (p : KnownPass) → IsPlayed hash links p p [] []
played_none hash links p = record {
  grown = grown_none p;
  lines_are = refl;
  each = λ items m name. session_none hash p.view.least.durable p.view.least.linked (history_of items);
  again = λ items m i d lt. absurd (omega arith);
  most = λ i d lt. absurd (omega arith);
  reached = λ i d lt. absurd (omega arith);
  own = λ k. omega arith;
  alone = λ off one. (0, omega arith, alone_none p.view.least.durable p.view.least.linked p (omega arith) (omega arith));
}

-- no phase was played yet
pub so_far_none : (hash : Hash) (links : Bool) (p : KnownPass) → AreSoFar hash links p p [] []
so_far_none hash links p = record {
  grown = grown_none p;
  lines_are = refl;
  each = λ items m. tt;
  again = λ items m i d lt. absurd (omega arith);
  most = λ i d lt. absurd (omega arith);
  ran = tt;
  low = omega arith;
  floor = omega arith;
  own = λ k. omega arith;
  alone = λ off one. (0, omega arith, alone_none p.view.least.durable p.view.least.linked p (omega arith) (omega arith));
}

-- behind phases that were answered whole one more may be
pub all_but_last : (phases : List (List Outcome)) (outcomes : List Outcome) → All AreAnswered phases → AreAllButLast (phases ++ outcomes ∷ [])
all_but_last [] outcomes all = tt
all_but_last (p ∷ []) outcomes all = (all 0 p (omega arith), tt)
all_but_last (p ∷ q ∷ phases) outcomes all = (all 0 p (omega arith), all_but_last (q ∷ phases) outcomes (λ i d lt. all (suc i) d (omega (arith, lt))))

-- where the next phase begins, the pass knows
next_known : (n : ℕ) (low : ℕ) (outcomes : List Outcome) → low ≤ n → All (λ a. a.number ≤ n) (replies_in outcomes) → next_low low outcomes ≤ n
next_known n low outcomes le all = highest_most low n (replies_in outcomes) le all

floor_known : (n floor : ℕ) (outcomes : List Outcome) → floor ≤ n → All (λ o. floor_reached floor outcomes o ≤ n) outcomes → next_floor floor outcomes ≤ n
floor_known n floor outcomes le all = greatest_most floor n (map (floor_reached floor outcomes) outcomes) le (All-map (λ k. k ≤ n) (floor_reached floor outcomes) outcomes all)

-- a session that began at a lower floor reached no higher one
lower_reached : (n f g : ℕ) (outcomes : List Outcome) → f ≤ g → All (λ o. floor_reached g outcomes o ≤ n) outcomes → All (λ o. floor_reached f outcomes o ≤ n) outcomes
lower_reached n f g outcomes le all = λ i d lt. omega (arith, all i d lt, after_more f g (replies_in (of_session (slice_index_or outcomes i d).line.session outcomes)) le)

flat_push : (phases : List (List Outcome)) (outcomes : List Outcome) → flat_map (λ (p : List Outcome). p) (phases ++ outcomes ∷ []) ≡ flat_map (λ (p : List Outcome). p) phases ++ outcomes
flat_push [] outcomes = append-nil outcomes
flat_push (p ∷ phases) outcomes = ap (λ (l : List Outcome). p ++ l) (flat_push phases outcomes) ∙ sym (append_assoc p (flat_map (λ (q : List Outcome). q) phases) outcomes)

-- the numbers of answered lines are those that their replies tell
numbers_most : (hash : Hash) (h : List Transaction) (n : ℕ) (outcomes : List Outcome) → All (IsKnown hash h) outcomes → AreAnswered outcomes → All (λ a. a.number ≤ n) (replies_in outcomes) → All (λ k. k ≤ n) (flat_map numbers_in outcomes)
numbers_most hash h n [] known some most = λ i d lt. absurd (omega arith)
numbers_most hash h n (o ∷ outcomes) known some most =
    All-append (λ k. k ≤ n) (numbers_in o) (flat_map numbers_in outcomes) (one (known 0 o (omega arith)) (some 0 o (omega arith)) (all-left (λ (a : Answered). a.number ≤ n) (reply_in o) (replies_in outcomes) most))
    (numbers_most hash h n outcomes (λ i d lt. known (suc i) d (omega (arith, lt))) (λ i d lt. some (suc i) d (omega (arith, lt))) (all-right (λ (a : Answered). a.number ≤ n) (reply_in o) (replies_in outcomes) most))
  where
    told : (a : Answered) (b : Bool) → a.number ≤ n → All (λ k. k ≤ n) ((if b then a.number ∷ [] else []) ++ [])
    told a true le zero d lt = le
    told a true le (suc i) d lt = absurd (omega (arith, lt))
    told a false le i d lt = absurd (omega (arith, lt))

    one : IsKnown hash h o → IsSome o.reply → All (λ a. a.number ≤ n) (reply_in o) → All (λ k. k ≤ n) (numbers_in o)
    one (inl (a, is, answer)) has le =
        let mine : All (λ b. b.number ≤ n) (a ∷ []) = subst (λ (p : Outcome). All (λ b. b.number ≤ n) (reply_in p)) is le in
        subst (λ (p : Outcome). All (λ k. k ≤ n) (numbers_in p)) (sym is) (told a (is_placed a) (mine 0 a (omega arith)))
    one (inr (line, late, is, tx)) has le = absurd (true≢false (sym (subst (λ (p : Outcome). IsSome p.reply) is has)))

-- of the phases so far
pub numbers_known : (hash : Hash) (links : Bool) (first now : KnownPass) (script : List (List Line)) (phases : List (List Outcome)) → AreSoFar hash links first now script phases → All AreAnswered phases
    → (items : List LogItem) → MayBecome now items → All (λ n. n ≤ now.view.least.durable) (flat_map numbers_in (flat_map (λ outcomes. outcomes) phases))
numbers_known hash links first now script phases a whole items m =
    let known = known_phases hash first.view.least.durable first.view.least.linked (history_of items) phases (a.each items m) in
    let all : List Outcome = flat_map (λ outcomes. outcomes) phases in
    let most : All (λ r. r.number ≤ now.view.least.durable) (replies_in all) =
    subst (All (λ (r : Answered). r.number ≤ now.view.least.durable)) (replies_all_in phases) (flat_all (λ (r : Answered). r.number ≤ now.view.least.durable) replies_in phases a.most) in
    numbers_most hash (history_of items) now.view.least.durable all (flat_all (IsKnown hash (history_of items)) (λ (os : List Outcome). os) phases known)
    (flat_all (λ (o : Outcome). IsSome o.reply) (λ (os : List Outcome). os) phases whole) most

-- where all phases are of one session, and no linker runs, that session alone placed and linked
alone_push : (hash : Hash) (links : Bool) (first mid new : KnownPass) (script : List (List Line)) (phases : List (List Outcome)) (lines : List Line) (outcomes : List Outcome)
    → AreSoFar hash links first mid script phases → IsPlayed hash links mid new lines outcomes → All AreAnswered phases → links ≡ false → AreOfOne (phases ++ outcomes ∷ [])
    → RanAlone first new (flat_map (λ (p : List Outcome). p) (phases ++ outcomes ∷ []))
alone_push hash links first mid new script phases lines outcomes a p whole off one =
    let before : RanAlone first mid (flat_map (λ (q : List Outcome). q) phases) = a.alone off (one.0, all-left (All (λ (o : Outcome). o.line.session ≡ one.0)) phases (outcomes ∷ []) one.1) in
    let behind : RanAlone mid new outcomes = p.alone off (one.0, all-right (All (λ (o : Outcome). o.line.session ≡ one.0)) phases (outcomes ∷ []) one.1) in
    let some : AreAnswered (flat_map (λ (q : List Outcome). q) phases) = flat_all (λ (o : Outcome). IsSome o.reply) (λ (q : List Outcome). q) phases whole in (
      before.0 + behind.0,
      omega (arith, before.1, behind.1),
      subst (RunsAlone first.view.least.durable first.view.least.linked (before.0 + behind.0) new) (sym (flat_push phases outcomes))
          (alone_both first.view.least.durable first.view.least.linked before.0 behind.0 mid new (flat_map (λ (q : List Outcome). q) phases) outcomes p.grown some (numbers_known hash links first mid script phases a whole) before.2 behind.2),
    )

-- one phase more
pub so_far_push : (hash : Hash) (links : Bool) (first mid new : KnownPass) (script : List (List Line)) (phases : List (List Outcome)) (lines : List Line) (outcomes : List Outcome)
    → AreSoFar hash links first mid script phases → IsPlayed hash links mid new lines outcomes → All AreAnswered phases → AreSoFar hash links first new (script ++ lines ∷ []) (phases ++ outcomes ∷ [])
so_far_push hash links first mid new script phases lines outcomes a p whole =
    let l = first.view.least.durable in
    let f = first.view.least.linked in
    let low = low_after l phases in
    let floor = floor_behind f phases in
    record {
      grown = grown_on first mid new a.grown p.grown;
      lines_are = map-append (λ (o : List Outcome). map line_in o) phases (outcomes ∷ []) ∙ ap₂ (λ (xs : List (List Line)) (x : List Line). xs ++ x ∷ []) a.lines_are p.lines_are;
      each = λ items m. phases_push hash l f (history_of items) phases outcomes (a.each items (grown_may mid new items p.grown m))
          (phase_less hash low floor mid.view.least.durable mid.view.least.linked (history_of items) outcomes a.low a.floor (p.each items m));
      again = λ items m. All-push (λ (o : List Outcome). AreReadBack hash (history_of items) (replies_in o)) phases outcomes (a.again items (grown_may mid new items p.grown m)) (p.again items m);
      most = All-push (λ (o : List Outcome). All (λ r. r.number ≤ new.view.least.durable) (replies_in o)) phases outcomes (λ i d lt j e less. omega (arith, a.most i d lt j e less, p.grown.durable)) p.most;
      ran = all_but_last phases outcomes whole;
      low = omega (arith, low_push l phases outcomes, next_known new.view.least.durable low outcomes (omega (arith, a.low, p.grown.durable)) p.most);
      floor = omega (arith, floor_push f phases outcomes, floor_known new.view.least.linked floor outcomes (omega (arith, a.floor, p.grown.linked)) (lower_reached new.view.least.linked floor mid.view.least.linked outcomes a.floor p.reached));
      own = λ k. omega (arith, p.own k, a.own k, sum_by_push (times_in k) phases outcomes);
      alone = λ off one. alone_push hash links first mid new script phases lines outcomes a p whole off one;
    }

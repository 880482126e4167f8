-- What was played, as the report of sessions over the one list that is left.
use Rattle.std.proofs.Common.{◌≡◌, ℕ, suc, ◌+◌, ◌-◌, ◌≤◌, ◌++◌, List, [], ◌∷◌, length, Bool, true, false, cond, refl, ap, sym, ◌∙◌, subst, arith, length-append}
use Rattle.std.specs.Prelude.{All, take}
use Rattle.std.specs.List.{flat_map, range_with_len}
use Rattle.std.proofs.lemmas.List.FromFn.{get_or-range_with_len, length-range_with_len}
use Rattle.im_dealing.specs.Lines.{MayBecome}
use Rattle.im_dealing.specs.Phases.{AreSoFar, RanAlone, count_in}
use Rattle.im_digest.specs.Digests.{Hash}
use Rattle.im_model.specs.declared.transactions.Transaction.{Transaction}
use Rattle.im_report.proofs.OutcomeLemmas.{all_in, times_all}
use Rattle.im_report.proofs.RangeLemmas.{times_all_of, times_length}
use Rattle.im_report.specs.Outcomes.{Outcome, numbers_in}
use Rattle.im_report.specs.Sessions.{AreOfOne, ArePhases, IsJustOver, SessionsReport, floors_of, times_placed}
use Rattle.im_script.specs.declared.commands.Line.{Line}
use Rattle.im_table.proofs.HistoryLemmas.{history_length}
use Rattle.im_table.specs.Histories.{GoesOn, history_of}
use Rattle.im_table.specs.Known.{KnownPass}
use Rattle.im_table.specs.Views.{numbers, placed_by}
use Rattle.im_model.specs.Counts.{times}
use Rattle.im_table.specs.declared.items.LogItem.{LogItem}

-- the numbers of items that weren't found are a range
new_numbers : (k : ℕ) (rest : List LogItem) → All (λ x. x.found ≡ false) rest → numbers k rest ≡ range_with_len k (length rest)
new_numbers k [] fresh = refl
new_numbers k (x ∷ rest) fresh =
    let next : suc k ≡ k + 1 = omega arith in
    let more : numbers (suc k) rest ≡ range_with_len (k + 1) (length rest) =
    new_numbers (suc k) rest (λ i d lt. fresh (suc i) d (omega (arith, lt))) ∙ ap (λ (m : ℕ). range_with_len m (length rest)) next in
    subst (λ (b : Bool). cond b (numbers (suc k) rest) (k ∷ numbers (suc k) rest) ≡ k ∷ range_with_len (k + 1) (length rest)) (sym (fresh 0 x (omega arith))) (ap (λ (l : List ℕ). k ∷ l) more)

numbers_behind : (k : ℕ) (xs rest : List LogItem) → All (λ x. x.found ≡ true) xs → All (λ x. x.found ≡ false) rest → numbers k (xs ++ rest) ≡ range_with_len (k + length xs) (length rest)
numbers_behind k [] rest old fresh =
    let start : k ≡ k + 0 = omega arith in new_numbers k rest fresh ∙ ap (λ (m : ℕ). range_with_len m (length rest)) start
numbers_behind k (x ∷ xs) rest old fresh =
    let start : suc k + length xs ≡ k + length (x ∷ xs) = omega arith in
    let more : numbers (suc k) (xs ++ rest) ≡ range_with_len (k + length (x ∷ xs)) (length rest) =
    numbers_behind (suc k) xs rest (λ i d lt. old (suc i) d (omega (arith, lt))) fresh ∙ ap (λ (m : ℕ). range_with_len m (length rest)) start in
    subst (λ (b : Bool). cond b (numbers (suc k) (xs ++ rest)) (k ∷ numbers (suc k) (xs ++ rest)) ≡ range_with_len (k + length (x ∷ xs)) (length rest)) (sym (old 0 x (omega arith))) more

pub placed_behind : (found items : List LogItem) → GoesOn found items → All (λ x. x.found ≡ true) found → placed_by items ≡ range_with_len (length (history_of found) + 1) (length (history_of items) - length (history_of found))
placed_behind found items g old =
    let many : length items ≡ length found + length g.rest = ap length g.begins ∙ length-append found g.rest in
    let start : 1 + length found ≡ length (history_of found) + 1 = omega (arith, history_length found) in
    let count : length g.rest ≡ length (history_of items) - length (history_of found) = omega (arith, many, history_length found, history_length items) in
    ap placed_by g.begins
    ∙ (numbers_behind 1 found g.rest old g.fresh
    ∙ (ap (λ (m : ℕ). range_with_len m (length g.rest)) start ∙ ap (λ (m : ℕ). range_with_len (length (history_of found) + 1) m) count))

-- the history begins with what was found
begins_found : (found items : List LogItem) → GoesOn found items → take (length (history_of found)) (history_of items) ≡ history_of found
begins_found found items g = ap (λ (l : List LogItem). take (length (history_of found)) (history_of l)) g.begins ∙ front found g.rest
  where
    front : (xs ys : List LogItem) → take (length (history_of xs)) (history_of (xs ++ ys)) ≡ history_of xs
    front [] ys = refl
    front (x ∷ xs) ys = ap (λ (l : List Transaction). x.tx ∷ l) (front xs ys)

-- where one session ran alone, each of its transactions was placed over just its floor
just_over : (first now : KnownPass) (phases : List (List Outcome)) (found items : List LogItem) → first.view.least.durable ≡ length found → first.view.least.linked ≡ length found → first.view.leaves ≡ 0
    → now.view.least.linked ≡ length found + now.view.leaves → MayBecome now items → GoesOn found items
    → ((k : ℕ) → times k (flat_map numbers_in (all_in phases)) ≡ times k (range_with_len (length (history_of found) + 1) (length (history_of items) - length (history_of found))))
    → RanAlone first now (all_in phases) → All (IsJustOver (history_of items)) (floors_of (length (history_of found)) (all_in phases))
just_over first now phases found items durable linked none raised m goes placed ran =
    let range : List ℕ = range_with_len (length (history_of found) + 1) (length (history_of items) - length (history_of found)) in
    let many : length items ≡ length found + length goes.rest = ap length goes.begins ∙ length-append found goes.rest in
    let count : count_in (all_in phases) ≡ length (history_of items) - length (history_of found) =
    times_length (flat_map numbers_in (all_in phases)) range placed ∙ length-range_with_len (length (history_of found) + 1) (length (history_of items) - length (history_of found)) in
    let end : first.view.least.durable + count_in (all_in phases) ≡ length items = omega (arith, durable, count, many, history_length found, history_length items) in
    let within : All (λ n. n ≤ length items) range = λ i d lt.
    (let at = get_or-range_with_len (length (history_of found) + 1) (length (history_of items) - length (history_of found)) i d (omega (arith, lt, length-range_with_len (length (history_of found) + 1) (length (history_of items) - length (history_of found)))) in
    omega (arith, at, lt, many, history_length found, history_length items, length-range_with_len (length (history_of found) + 1) (length (history_of items) - length (history_of found)))) in
    let all : All (λ n. n ≤ length items) (flat_map numbers_in (all_in phases)) = times_all_of (λ n. n ≤ length items) (flat_map numbers_in (all_in phases)) range placed within in
    let floor : first.view.least.linked ≡ length (history_of found) = linked ∙ sym (history_length found) in
    subst (λ (f : ℕ). All (IsJustOver (history_of items)) (floors_of f (all_in phases))) floor
    (ran.2.just (omega (arith, raised, linked, none, ran.1)) (omega (arith, m.enough, end)) items m (subst (λ (most : ℕ). All (λ n. n ≤ most) (flat_map numbers_in (all_in phases))) (sym end) all))

-- Behind the close the one list is known: what was played is its report.
pub report_of : (hash : Hash) (links : Bool) (first now : KnownPass) (script : List (List Line)) (phases : List (List Outcome)) (found items : List LogItem)
    → AreSoFar hash links first now script phases → first.view.least.durable ≡ length found → first.view.least.linked ≡ length found → first.view.own ≡ [] → first.view.leaves ≡ 0
    → All (λ x. x.found ≡ true) found → GoesOn found items → MayBecome now items → ((k : ℕ) → times k now.view.own ≡ times k (placed_by items))
    → (links ≡ false → AreOfOne phases → now.view.least.linked ≡ length found + now.view.leaves)
    → SessionsReport hash links (history_of found) (history_of items) phases
report_of hash links first now script phases found items a durable linked none unlinked marked goes m owned raised =
    let h = history_of items in
    let start : first.view.least.durable ≡ length (history_of found) = durable ∙ sym (history_length found) in
    let floor : first.view.least.linked ≡ length (history_of found) = linked ∙ sym (history_length found) in
    let placed : (k : ℕ) → times_placed k phases ≡ times k (range_with_len (length (history_of found) + 1) (length h - length (history_of found))) =
    λ k. (let own : times k now.view.own ≡ times k first.view.own + times_placed k phases = a.own k in
    let mine : times_placed k phases ≡ times k (placed_by items) = omega (arith, own, ap (times k) none, owned k) in
    mine ∙ ap (times k) (placed_behind found items goes marked)) in
    record {
      history = m.history;
      begins = begins_found found items goes;
      each = subst (λ (n : ℕ). ArePhases hash n (length (history_of found)) h phases) start (subst (λ (n : ℕ). ArePhases hash first.view.least.durable n h phases) floor (a.each items m));
      within = λ i d lt j e less. omega (arith, a.most i d lt j e less, m.enough, history_length items);
      placed = placed;
      ran = a.ran;
      exact = λ off one. just_over first now phases found items durable linked unlinked (raised off one) m goes (λ k. sym (times_all k phases) ∙ placed k) (a.alone off one);
    }

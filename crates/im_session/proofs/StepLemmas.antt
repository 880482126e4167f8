-- What one line makes of its session's pass, by the calls that it makes.
use Rattle.std.proofs.Common.{◌≡◌, ℕ, ◌+◌, ◌-◌, ◌≤◌, ◌++◌, List, [], ◌∷◌, length, take, min, Bool, true, false, Option, Some, None, ℤ, if◌then◌else◌, true≢false, ap, sym, ◌∙◌, subst, arith, append-nil}
use Rattle.im_dealing.proofs.GrowLemmas.{front_length, history_taken, transaction_at}
use Rattle.im_dealing.specs.Lines.{IsStep, IsStuck, KnowsFault, MayBecome, WasRefused}
use Rattle.im_dealing.specs.declared.errors.LineError.{LineError}
use Rattle.im_dealing.specs.declared.errors.LineError.TheVariants.{DiskFault, Memory}
use Rattle.im_digest.specs.Digests.{Hash}
use Rattle.im_model.specs.History.{transaction_of}
use Rattle.im_model.specs.declared.transactions.Transaction.{Transaction}
use Rattle.im_report.specs.Messages.{IsReadBack}
use Rattle.im_report.specs.Asking.{MayAsk}
use Rattle.im_report.specs.Outcomes.{IsLate, number_told}
use Rattle.im_report.specs.Report.{Answered, IsAnswer, ReadsBy, ReadsFrom, floor_by, is_placed}
use Rattle.im_script.specs.declared.commands.Command.{Command}
use Rattle.im_script.specs.declared.commands.Command.TheVariants.{Link}
use Rattle.im_script.specs.declared.commands.Line.{Line}
use Rattle.im_session.specs.Statements.{HasCounted}
use Rattle.std.proofs.lemmas.List.{take-map}
use Rattle.im_store.proofs.GainLemmas.{gains_same, later_self}
use Rattle.im_store.proofs.ProveLemmas.{transaction_front}
use Rattle.im_store.specs.Commits.{HasPlaced, IsRefusedAt, IsRefusedDurably}
use Rattle.im_tx.specs.Asked.{Asked}
use Rattle.im_versions.specs.Admits.{place_refusal}
use Rattle.im_versions.specs.declared.refusals.PlaceError.{PlaceError}
use Rattle.im_store.specs.Gains.{Gains}
use Rattle.im_store.specs.Growth.{IsLinked}
use Rattle.im_table.proofs.HistoryLemmas.{history_length}
use Rattle.im_table.proofs.PassLemmas.{later_both}
use Rattle.im_table.specs.Histories.{history_of}
use Rattle.im_table.specs.Known.{KnownPass}
use Rattle.im_table.specs.Passes.{Later}
use Rattle.im_table.specs.declared.items.LogItem.{LogItem}

-- a line that placed and told nothing has no reply, for want of memory
pub stuck_none : (old new : KnownPass) (line : Line) (leaves : ℕ) → Later old new → Gains [] leaves 0 old new
    → old.view.least.linked + new.view.leaves ≤ new.view.least.linked + old.view.leaves → IsStuck old new line Memory
stuck_none old new line leaves l g slack = record {
  fault = omega (arith, g.faults);
  late = None;
  own = g.own;
  tx = tt;
  under = tt;
  still = tt;
  refused = λ is. absurd (cc (is));
  slack = slack;
}

-- where nothing was linked, the slack doesn't fall
pub slack_kept : (old new : KnownPass) → Later old new → Gains [] 0 0 old new → old.view.least.linked + new.view.leaves ≤ new.view.least.linked + old.view.leaves
slack_kept old new l g = omega (arith, l.linked, g.leaves)

-- A line whose reply tells no transaction: what its reply says is given for each list, at a number that was durable as the line loaded it first.
pub shown_step : (hash : Hash) (old mid new : KnownPass) (a : Answered) → Later old mid → Later mid new → Gains [] 0 0 old mid → Gains [] 0 0 mid new
    → mid.view.least.durable ≡ a.number → old.view.least.durable ≤ a.number → is_placed a ≡ false
    → ((n f : ℕ) → floor_by a.line.command n f ≡ f) → ReadsFrom old.view.least.durable a
    → ((items : List LogItem) → MayBecome new items → IsAnswer hash (history_of items) a.line.command a.number a.reply)
    → ((items : List LogItem) → MayBecome new items → IsReadBack hash (take a.number (history_of items)) a.line.command a.reply)
    → IsStep hash old new a
shown_step hash old mid new a l m g k is above none floor reads answer again =
    let told : number_told (Some a) ≡ [] = ap (λ (b : Bool). if b then a.number ∷ [] else []) none in
    let whole = later_both old mid new l m in
    record {
      answer = answer;
      again = again;
      rises = (above, λ e. absurd (true≢false (sym e ∙ none)));
      reads = reads;
      known = omega (arith, is, m.durable);
      own = k.own ∙ (append-nil mid.view.own ∙ g.own) ∙ ap (λ (xs : List ℕ). old.view.own ++ xs) (sym told);
      over = λ e. absurd (true≢false (sym e ∙ none));
      under = λ e. absurd (true≢false (sym e ∙ none));
      floor = omega (arith, floor a.number old.view.least.linked, whole.linked);
      calm = omega (arith, g.faults, k.faults);
      linked_none = λ e. absurd (true≢false (sym e ∙ none));
      slack = omega (arith, whole.linked, g.leaves, k.leaves);
      just = λ same still. omega (arith, same, floor a.number old.view.least.linked, g.leaves, k.leaves);
    }

-- `link` raises the floor as far as it says, and where no leaf is missed just so far
pub link_step : (hash : Hash) (old mid new : KnownPass) (a : Answered) (count before size : ℕ)
    → Later old mid → Later mid new → Gains [] 0 0 old mid → IsLinked mid new count before size → Gains [] (size - before) 0 mid new
    → mid.view.least.durable ≡ a.number → old.view.least.durable ≤ a.number → a.line.command ≡ Link count → is_placed a ≡ false
    → ((items : List LogItem) → MayBecome new items → IsAnswer hash (history_of items) a.line.command a.number a.reply)
    → ((items : List LogItem) → MayBecome new items → IsReadBack hash (take a.number (history_of items)) a.line.command a.reply)
    → IsStep hash old new a
link_step hash old mid new a count before size l m g linked k is above asks none answer again =
    let told : number_told (Some a) ≡ [] = ap (λ (b : Bool). if b then a.number ∷ [] else []) none in
    let floor : floor_by a.line.command a.number old.view.least.linked ≡ min (old.view.least.linked + count) a.number = ap (λ (c : Command). floor_by c a.number old.view.least.linked) asks in
    record {
      answer = answer;
      again = again;
      rises = (above, λ e. absurd (true≢false (sym e ∙ none)));
      reads = subst (λ (c : Command). ReadsBy old.view.least.durable c a.number a.reply) (sym asks) tt;
      known = omega (arith, is, m.durable);
      own = k.own ∙ (append-nil mid.view.own ∙ g.own) ∙ ap (λ (xs : List ℕ). old.view.own ++ xs) (sym told);
      over = λ e. absurd (true≢false (sym e ∙ none));
      under = λ e. absurd (true≢false (sym e ∙ none));
      floor = omega (arith, floor, is, l.linked, linked.known, linked.is, linked.shown, linked.saw.least);
      calm = omega (arith, g.faults, k.faults);
      linked_none = λ e. absurd (true≢false (sym e ∙ none));
      slack = omega (arith, g.leaves, k.leaves, l.linked, m.linked, linked.known, linked.is, linked.shown, linked.grows);
      just = λ same still. omega (arith, same, still, ap length told, floor, is, above, g.leaves, k.leaves, l.linked, l.durable, linked.known, linked.is, linked.shown, linked.grows, linked.saw.least, linked.saw.known);
    }

-- What a commit placed stands in each list that the one list may become: its entries, what admitted it, and the size of its tree.
pub record StandsFor (old new : KnownPass) (history : List Transaction) (asked : Asked) (n : ℕ) : Type 0 where
  pub within : n ≤ length history
  pub writes : (transaction_of history n).entries ≡ asked.entries
  pub admitted : place_refusal (take (n - 1) history) asked.pres ≡ None
  pub over : old.view.least.linked ≤ (transaction_of history n).bl
  pub under : (transaction_of history n).bl ≤ new.view.least.linked

pub placed_stands : (time : Option ℤ) (asked : Asked) (old new : KnownPass) (n : ℕ) → HasPlaced time asked old new n → (items : List LogItem) → MayBecome new items
    → StandsFor old new (history_of items) asked n
placed_stands time asked old new n p items m =
    let at = p.at in
    let some : 1 ≤ n = omega (arith, p.above) in
    let same : transaction_of (history_of items) n ≡ transaction_of (history_of new.view.seen) n = transaction_front new.view.seen items n m.begins some p.within in
    let tx : transaction_of (history_of new.view.seen) n ≡ at.item.tx = transaction_at new.view.seen n at.item at.item_is in
    let whole = same ∙ tx in
    let front : take (n - 1) (history_of items) ≡ take (n - 1) (history_of new.view.seen) = history_taken new items (n - 1) m (omega (arith, p.within)) in
    record {
      within = omega (arith, p.within, front_length new.view.seen items m.begins, history_length items);
      writes = ap (λ (t : Transaction). t.entries) whole ∙ at.entries_are;
      admitted = ap (λ (h : List Transaction). place_refusal h asked.pres) (front ∙ take-map (λ (x : LogItem). x.tx) (n - 1) new.view.seen) ∙ at.admitted;
      over = subst (λ (t : Transaction). old.view.least.linked ≤ t.bl) (sym whole) at.least;
      under = subst (λ (t : Transaction). t.bl ≤ new.view.least.linked) (sym whole) at.most;
    }

-- what a pass knows to be durable, it has counted
pub counted_here : (p : KnownPass) → HasCounted p p p.view.least.durable
counted_here p = record { later = later_self p; gains = gains_same p; least = omega arith; known = omega arith }

-- a line whose command asks for this, judged behind so many transactions: they were counted at an earlier moment of its pass
pub record Asks (first old new : KnownPass) (read : ℕ) (command : Command) (asked : Asked) : Type 0 where
  pub counted : HasCounted first old read
  pub asks : (items : List LogItem) → MayBecome new items → MayAsk (history_of items) read command asked

-- a commit that was placed, and has no reply
pub late_of : (time : Option ℤ) (asked : Asked) (first old new : KnownPass) (read n : ℕ) (command : Command) → Asks first old new read command asked → HasPlaced time asked old new n
    → (items : List LogItem) → MayBecome new items → IsLate (history_of items) first.view.least.durable first.view.least.linked command n
late_of time asked first old new read n command a p items m =
    let s = placed_stands time asked old new n p items m in
    record {
      read = read;
      asked = asked;
      asks = a.asks items m;
      least = a.counted.least;
      behind = omega (arith, a.counted.known, p.later);
      within = s.within;
      admitted = s.admitted;
      writes = s.writes;
      over = omega (arith, a.counted.later.linked, s.over);
    }

-- a commit that has a receipt: its reply tells its number
pub tx_step : (hash : Hash) (time : Option ℤ) (asked : Asked) (first old new : KnownPass) (read : ℕ) (a : Answered) → HasCounted first old read → HasPlaced time asked old new a.number
    → a.number ≤ new.view.least.durable → Later old new → Gains (a.number ∷ []) 0 0 old new → is_placed a ≡ true → ((n f : ℕ) → floor_by a.line.command n f ≡ f) → ReadsFrom first.view.least.durable a
    → ((items : List LogItem) → MayBecome new items → StandsFor old new (history_of items) asked a.number → IsAnswer hash (history_of items) a.line.command a.number a.reply)
    → ((items : List LogItem) → MayBecome new items → IsReadBack hash (take a.number (history_of items)) a.line.command a.reply)
    → IsStep hash first new a
tx_step hash time asked first old new read a c p durable l g placed floor reads answer again =
    let stands = placed_stands time asked old new a.number p in
    let told : number_told (Some a) ≡ a.number ∷ [] = ap (λ (b : Bool). if b then a.number ∷ [] else []) placed in
    let before = c.later in
    record {
      answer = λ items m. answer items m (stands items m);
      again = again;
      rises = (omega (arith, before.durable, p.later), λ _. omega (arith, before.durable, p.later));
      reads = reads;
      known = durable;
      own = g.own ∙ (ap (λ (xs : List ℕ). xs ++ a.number ∷ []) (c.gains.own ∙ append-nil first.view.own) ∙ ap (λ (xs : List ℕ). first.view.own ++ xs) (sym told));
      over = λ _ items m. (let over = (stands items m).over in omega (arith, before.linked, over));
      under = λ _ items m. (stands items m).under;
      floor = omega (arith, floor a.number first.view.least.linked, before.linked, l.linked);
      calm = omega (arith, c.gains.faults, g.faults);
      linked_none = λ _. omega (arith, c.gains.leaves, g.leaves);
      slack = omega (arith, before.linked, l.linked, c.gains.leaves, g.leaves);
      just = λ same still. omega (arith, same, floor a.number first.view.least.linked, c.gains.leaves, g.leaves);
    }

-- a commit that was refused behind so many transactions, which are durable
pub refused_step : (hash : Hash) (asked : Asked) (first old new : KnownPass) (read : ℕ) (why : PlaceError) (a : Answered) → HasCounted first old read → IsRefusedDurably asked old new why a.number
    → Later old new → Gains [] 0 0 old new → is_placed a ≡ false → ((n f : ℕ) → floor_by a.line.command n f ≡ f) → ReadsFrom first.view.least.durable a
    → ((items : List LogItem) → MayBecome new items → place_refusal (take a.number (history_of items)) asked.pres ≡ Some why → IsAnswer hash (history_of items) a.line.command a.number a.reply)
    → ((items : List LogItem) → MayBecome new items → IsReadBack hash (take a.number (history_of items)) a.line.command a.reply)
    → IsStep hash first new a
refused_step hash asked first old new read why a c r l g other floor reads answer again =
    let j = r.judged in
    let told : number_told (Some a) ≡ [] = ap (λ (b : Bool). if b then a.number ∷ [] else []) other in
    let before = c.later in
    record {
      answer = λ items m.
          let front : take a.number (history_of items) ≡ history_of (take a.number new.view.seen) = history_taken new items a.number m j.within ∙ take-map (λ (x : LogItem). x.tx) a.number new.view.seen in
          answer items m (ap (λ (h : List Transaction). place_refusal h asked.pres) front ∙ j.refused);
      again = again;
      rises = (omega (arith, before.durable, j.later), λ e. absurd (true≢false (sym e ∙ other)));
      reads = reads;
      known = r.durable;
      own = g.own ∙ (append-nil old.view.own ∙ (c.gains.own ∙ ap (λ (xs : List ℕ). first.view.own ++ xs) (sym told)));
      over = λ e. absurd (true≢false (sym e ∙ other));
      under = λ e. absurd (true≢false (sym e ∙ other));
      floor = omega (arith, floor a.number first.view.least.linked, before.linked, l.linked);
      calm = omega (arith, c.gains.faults, g.faults);
      linked_none = λ _. omega (arith, c.gains.leaves, g.leaves);
      slack = omega (arith, before.linked, l.linked, c.gains.leaves, g.leaves);
      just = λ same still. omega (arith, same, floor a.number first.view.least.linked, c.gains.leaves, g.leaves);
    }

-- a placed commit without a reply
pub late_stuck : (time : Option ℤ) (asked : Asked) (first old new : KnownPass) (read n : ℕ) (session : List ℕ) (command : Command) (why : LineError) → Asks first old new read command asked
    → HasPlaced time asked old new n → Later old new → new.view.own ≡ old.view.own ++ n ∷ [] → new.view.leaves ≡ old.view.leaves → KnowsFault why first new
    → IsStuck first new (record { session = session; command = command }) why
late_stuck time asked first old new read n session command why a p l own leaves fault =
    let before = a.counted.later in
    let gains = a.counted.gains in
    record {
      fault = fault;
      late = Some n;
      own = own ∙ ap (λ (xs : List ℕ). xs ++ n ∷ []) (gains.own ∙ append-nil first.view.own);
      tx = λ items m. late_of time asked first old new read n command a p items m;
      under = λ items m. (placed_stands time asked old new n p items m).under;
      still = omega (arith, leaves, gains.leaves);
      refused = λ is. tt;
      slack = omega (arith, before.linked, l.linked, leaves, gains.leaves);
    }

-- a commit that was refused behind transactions, is so in each list that the one list may become
pub refused_late : (asked : Asked) (first old new : KnownPass) (read at : ℕ) (why : PlaceError) (command : Command) → Asks first old new read command asked → IsRefusedAt asked old new why at
    → (items : List LogItem) → MayBecome new items → WasRefused (history_of items) first.view.least.durable command
refused_late asked first old new read at why command a j items m =
    let front : take at (history_of items) ≡ history_of (take at new.view.seen) = history_taken new items at m j.within ∙ take-map (λ (x : LogItem). x.tx) at new.view.seen in
    record {
      read = read;
      asked = asked;
      asks = a.asks items m;
      least = a.counted.least;
      at = at;
      behind = omega (arith, a.counted.known, j.later);
      within = omega (arith, j.within, front_length new.view.seen items m.begins, history_length items);
      why = why;
      refused = ap (λ (h : List Transaction). place_refusal h asked.pres) front ∙ j.refused;
    }

-- a commit that wasn't placed, and has no reply
pub unplaced_stuck : (first old new : KnownPass) (read : ℕ) (session : List ℕ) (command : Command) (why : LineError) → HasCounted first old read
    → Later old new → new.view.own ≡ old.view.own ++ [] → new.view.leaves ≡ old.view.leaves → KnowsFault why first new
    → (why ≡ DiskFault → (items : List LogItem) → MayBecome new items → WasRefused (history_of items) first.view.least.durable command)
    → IsStuck first new (record { session = session; command = command }) why
unplaced_stuck first old new read session command why c l own leaves fault refused =
    let before = c.later in
    let gains = c.gains in
    record {
      fault = fault;
      late = None;
      own = own ∙ (append-nil old.view.own ∙ gains.own);
      tx = tt;
      under = tt;
      still = tt;
      refused = refused;
      slack = omega (arith, before.linked, l.linked, leaves, gains.leaves);
    }

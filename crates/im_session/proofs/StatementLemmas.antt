-- What a statement is answered, by what it read and by what became of its commit.
use Rattle.std.proofs.Common.{◌≡◌, ◌⊎◌, ◌≤◌, ◌<◌, ◌^◌, ◌++◌, ℕ, ℤ, List, [], ◌∷◌, length, map, take, nat_le, Bool, true, false, if◌then◌else◌, Option, Some, Result, Ok, Err, refl, ap, sym, ◌∙◌, subst, true≢false, arith, inl, inr}
use Rattle.std.proofs.lemmas.List.{take_all, take-take}
use Rattle.im_dealing.proofs.GrowLemmas.{front_length, history_taken, may_before, take_front}
use Rattle.im_dealing.specs.Lines.{MayBecome}
use Rattle.im_dealing.specs.Shown.{ShowsKeys}
use Rattle.im_dealing.specs.declared.answers.Answer.{Answer}
use Rattle.im_dealing.specs.declared.errors.LineError.TheVariants as line
use Rattle.im_digest.specs.Digests.{Hash}
use Rattle.im_draft.specs.declared.preconditions.Pre.{Pre}
use Rattle.im_draft.specs.declared.preconditions.Pre.TheVariants.{Since}
use Rattle.im_index.specs.Indexed.{Indexed, IsSnapshotOf}
use Rattle.im_model.proofs.HistoryLemmas.{IsHistory-take}
use Rattle.im_model.specs.History.{IsHistory}
use Rattle.im_model.specs.declared.transactions.Transaction.{Transaction}
use Rattle.im_octet.proofs.Common.{some-is}
use Rattle.im_report.proofs.PlacedLemmas.{tx-read-placed}
use Rattle.im_report.proofs.StatementLemmas.{fault-not-placed, fault-reads, reads-of, told-not-placed, told-reads, unplaced-not-placed}
use Rattle.im_report.specs.Outcomes.{number_told as told_numbers}
use Rattle.im_report.specs.Report.{ReadsBy, tells_tx}
use Rattle.im_report.specs.Statements.{AsksToWrite, IsReadTold, IsSqlAnswer, IsUnplacedReply, tx_read_reply}
use Rattle.im_script.specs.declared.commands.Command.TheVariants.{Sql}
use Rattle.im_session.proofs.CommitLemmas.{placed_unanswered}
use Rattle.im_session.proofs.ReadLemmas.{keys_length}
use Rattle.im_session.proofs.StepLemmas.{Asks, refused_step, slack_kept, stuck_none, tx_step, unplaced_stuck}
use Rattle.im_session.specs.Answered.{IsAnswered, IsOfStatement, IsStatementRefusal, IsUnanswered, as_answered}
use Rattle.im_session.specs.Statements.{AsksBehind, HasCounted}
use Rattle.im_sqlmodel.proofs.KeptLemmas.{kept-up}
use Rattle.im_sqlmodel.specs.Answers.{AnswerIs}
use Rattle.im_sqlmodel.specs.Kept.{IsSqlKept}
use Rattle.im_sqlmodel.specs.declared.answers.SqlError.{SqlError}
use Rattle.im_sqlmodel.specs.declared.answers.SqlError.TheVariants as error
use Rattle.im_sqlmodel.specs.declared.answers.SqlOut.{SqlOut}
use Rattle.im_sqlmodel.specs.declared.answers.SqlOut.TheVariants as out
use Rattle.im_sqlparse.specs.Formed.{IsStatement}
use Rattle.im_sqlparse.specs.Statements.{statement_of}
use Rattle.im_sqlparse.specs.declared.errors.SqlSyntax.{SqlSyntax}
use Rattle.im_sqlparse.specs.declared.statements.Form.{Form}
use Rattle.im_sqlreply.specs.Replies.{syntax_reply}
use Rattle.im_sqlreply.specs.Shown.{IsShown}
use Rattle.im_store.proofs.GainLemmas.{gains_before}
use Rattle.im_store.specs.Commits.{Explains, HasPlaced, IsRefusedDurably, faults_of_error, number_told}
use Rattle.im_store.specs.Gains.{Gains}
use Rattle.im_store.specs.declared.errors.CommitError.{CommitError}
use Rattle.im_store.specs.declared.errors.CommitError.TheVariants.{DiskFault, Exists, Full, Memory, Missing, Modified, Stopped}
use Rattle.im_table.proofs.HistoryLemmas.{history_front, history_length}
use Rattle.im_table.proofs.PassLemmas.{later_both}
use Rattle.im_table.specs.Histories.{history_of}
use Rattle.im_table.specs.Known.{KnownPass}
use Rattle.im_table.specs.Passes.{Later}
use Rattle.im_table.specs.declared.items.LogItem.{LogItem}
use Rattle.im_tx.specs.Asked.{Asked}
use Rattle.im_versions.specs.Admits.{first_refusal, holds, place_refusal}
use Rattle.im_versions.specs.Versions.{last_number}
use Rattle.im_versions.specs.declared.refusals.PlaceError.{PlaceError}
use Rattle.im_versions.specs.declared.refusals.PlaceError.TheVariants as place

-- ---- what it reads

-- the first transactions that a pass has seen are those that it has seen later
seen_front : (old new : KnownPass) (n : ℕ) → Later old new → n ≤ length old.view.seen → take n (history_of new.view.seen) ≡ take n (history_of old.view.seen)
seen_front old new n l le =
    take_front (history_of old.view.seen) (history_of new.view.seen) n (history_front old.view.seen new.view.seen l.seen) (omega (arith, le, history_length old.view.seen))

taken_twice : (n : ℕ) (history : List Transaction) → take n (take n history) ≡ take n history
taken_twice n history = take-take n n history (omega arith)

-- they are a history, and their keys SQL's, where that is so of all of it
pub read_history : (old new : KnownPass) (n : ℕ) → Later old new → n ≤ length old.view.seen → IsHistory (history_of new.view.seen) → IsHistory (take n (history_of old.view.seen))
read_history old new n l le history = subst IsHistory (seen_front old new n l le) (IsHistory-take (history_of new.view.seen) n history)

pub read_kept : (old new : KnownPass) (n : ℕ) → Later old new → n ≤ length old.view.seen → IsSqlKept (history_of new.view.seen) → IsSqlKept (take n (take n (history_of old.view.seen)))
read_kept old new n l le kept =
    let whole : List Transaction = history_of new.view.seen in
    let within : n ≤ length whole = omega (arith, le, history_length new.view.seen, front_length old.view.seen new.view.seen l.seen) in
    let all : IsSqlKept (take (length whole) whole) = subst IsSqlKept (sym (take_all (length whole) whole (omega arith))) kept in
    subst IsSqlKept (seen_front old new n l le ∙ sym (taken_twice n (history_of old.view.seen))) (kept-up n (length whole) whole within (omega arith) all)

-- what it answers there it answers behind the first transactions seen later
read_said : (old new : KnownPass) (n : ℕ) (said : Form) (given : Result SqlOut SqlError) → Later old new → n ≤ length old.view.seen
    → AnswerIs (take n (take n (history_of old.view.seen))) said given → AnswerIs (take n (history_of new.view.seen)) said given
read_said old new n said given l le judged =
    subst (λ (h : List Transaction). AnswerIs h said given) (taken_twice n (history_of old.view.seen) ∙ sym (seen_front old new n l le)) judged

-- so many are seen later
pub seen_later : (old new : KnownPass) (n : ℕ) → Later old new → n ≤ length old.view.seen → n ≤ length new.view.seen
seen_later old new n l le = omega (arith, le, front_length old.view.seen new.view.seen l.seen)

-- an answer is right, or there was no memory for it
said_or_short : (P : Type 0) (given : Result SqlOut SqlError) → (given ≡ Err error.Memory) ⊎ P → (given ≡ Err error.Memory → ⊥) → P
said_or_short P given (inl short) other = absurd (other short)
said_or_short P given (inr said) other = said

-- what was answered behind the first transactions stands there, where there was memory for it
pub run_said : (old new : KnownPass) (n : ℕ) (keys : Indexed) (said : Form) (given : Result SqlOut SqlError) → ShowsKeys old n keys → Later old new
    → IsHistory (history_of new.view.seen) → IsSqlKept (history_of new.view.seen)
    → ((history : List Transaction) → IsSnapshotOf keys history → n ≤ length history → IsHistory history → IsSqlKept (take n history) → (given ≡ Err error.Memory) ⊎ AnswerIs (take n history) said given)
    → (given ≡ Err error.Memory → ⊥) → AnswerIs (take n (history_of new.view.seen)) said given
run_said old new n keys said given shown l history kept run other =
    let first : List Transaction = take n (history_of old.view.seen) in
    let within : n ≤ length first = omega (arith, keys_length old n keys shown) in
    read_said old new n said given l shown.seen
    (said_or_short (AnswerIs (take n first) said given) given
    (run first shown.shows within (read_history old new n l shown.seen history) (read_kept old new n l shown.seen kept)) other)

-- and so does what is to be written
pub run_asks : (old new : KnownPass) (n : ℕ) (keys : Indexed) (said : Form) (given : Result SqlOut SqlError) (asked : Asked) → IsStatement said → ShowsKeys old n keys → Later old new
    → IsHistory (history_of new.view.seen) → IsSqlKept (history_of new.view.seen)
    → ((history : List Transaction) → IsSnapshotOf keys history → n ≤ length history → IsHistory history → IsSqlKept (take n history) → (given ≡ Err error.Memory) ⊎ AnswerIs (take n history) said given)
    → given ≡ Ok (out.Write asked) → AsksBehind new said n asked
run_asks old new n keys said given asked formed shown l history kept run is = record {
  formed = formed;
  seen = seen_later old new n l shown.seen;
  asks = subst (λ (r : Result SqlOut SqlError). AnswerIs (take n (history_of new.view.seen)) said r) is (run_said old new n keys said given shown l history kept run (isnt_short is));
}
  where
    isnt_short : given ≡ Ok (out.Write asked) → given ≡ Err error.Memory → ⊥
    isnt_short writes short = let no : ⊥ = cc (writes, short) in no

-- ---- the moment at which its line counted

pub counted_now : (old new : KnownPass) (n : ℕ) → Later old new → Gains [] 0 0 old new → new.view.least.durable ≡ n → old.view.least.durable ≤ n → HasCounted old new n
counted_now old new n l g is above = record { later = l; gains = g; least = above; known = omega (arith, is) }

pub counted_on : (first old new : KnownPass) (n : ℕ) → HasCounted first old n → Later old new → Gains [] 0 0 old new → HasCounted first new n
counted_on first old new n c l g = record {
  later = later_both first old new c.later l;
  gains = gains_before 0 0 first old new c.gains g;
  least = c.least;
  known = omega (arith, c.known, l.durable);
}

-- ---- what it asks for

-- what it asks for behind the first transactions that the pass has seen, it asks for in each list that the pass may become
asks_of : (old new : KnownPass) (text : List ℕ) (said : Form) (read : ℕ) (asked : Asked) → Later old new → statement_of text ≡ Ok said → AsksBehind old said read asked
    → (items : List LogItem) → MayBecome new items → AsksToWrite (history_of items) text read asked
asks_of old new text said read asked l is a items m =
    let front : take read (history_of items) ≡ take read (history_of old.view.seen) = history_taken old items read (may_before old new items l m) a.seen in
    record {
      said = said;
      is = is;
      asks = subst (λ (h : List Transaction). AnswerIs h said (Ok (out.Write asked))) (sym front) a.asks;
    }

-- ---- why it wasn't placed

-- there is no room, or a key was written since
abbrev pub IsWritten : PlaceError → Type 0
IsWritten place.Memory = ⊥
IsWritten place.Full = Unit {0}
IsWritten (place.Missing key) = ⊥
IsWritten (place.Exists key tx) = ⊥
IsWritten (place.Modified key tx) = Unit {0}

first-written : (b : Bool) (others : Option PlaceError) (key : List ℕ) (tx : ℕ) (why : PlaceError) → (others ≡ Some why → IsWritten why)
    → (if b then others else Some (place.Modified key tx)) ≡ Some why → IsWritten why
first-written true others key tx why rest e = rest e
first-written false others key tx why rest e = subst IsWritten (some-is (place.Modified key tx) why e) tt

since-written : (history : List Transaction) (n : ℕ) (keys : List (List ℕ)) (why : PlaceError) → first_refusal history (map (λ key. Since key n) keys) ≡ Some why → IsWritten why
since-written history n [] why e = absurd (let no : ⊥ = cc in no)
since-written history n (key ∷ keys) why e =
    first-written (holds history (Since key n)) (first_refusal history (map (λ key. Since key n) keys)) key (last_number history key) why (since-written history n keys why) e

full-written : (b : Bool) (others : Option PlaceError) (why : PlaceError) → (others ≡ Some why → IsWritten why) → (if b then Some place.Full else others) ≡ Some why → IsWritten why
full-written true others why rest e = subst IsWritten (some-is place.Full why e) tt
full-written false others why rest e = rest e

place-written : (history : List Transaction) (pres : List Pre) (n : ℕ) (keys : List (List ℕ)) (why : PlaceError) → pres ≡ map (λ key. Since key n) keys
    → place_refusal history pres ≡ Some why → IsWritten why
place-written history pres n keys why are e =
    full-written (nat_le 1048576 (length history)) (first_refusal history (map (λ key. Since key n) keys)) why (since-written history n keys why)
    (ap (λ (ps : List Pre). place_refusal history ps) (sym are) ∙ e)

-- a commit under a statement's preconditions is refused by no other
pub of_statement : (time : Option ℤ) (asked : Asked) (old new : KnownPass) (n : ℕ) (keys : List (List ℕ)) (why : CommitError) → asked.pres ≡ map (λ key. Since key n) keys
    → Explains time asked old new why → IsOfStatement why
of_statement time asked old new n keys (Missing key at) are e = place-written (history_of (take at new.view.seen)) asked.pres n keys (place.Missing key) are e.judged.refused
of_statement time asked old new n keys (Exists key tx at) are e = place-written (history_of (take at new.view.seen)) asked.pres n keys (place.Exists key tx) are e.judged.refused
of_statement time asked old new n keys (Modified key tx at) are e = tt
of_statement time asked old new n keys (Full at) are e = tt
of_statement time asked old new n keys (DiskFault placed) are e = tt
of_statement time asked old new n keys (Stopped faults placed) are e = tt
of_statement time asked old new n keys (Memory placed) are e = tt

-- ---- what a commit answers, from the moment at which the line began

-- what the line asks for
pub asks_placed : (first old new : KnownPass) (text : List ℕ) (said : Form) (read : ℕ) (asked : Asked) → HasCounted first old read → Later old new → statement_of text ≡ Ok said → AsksBehind old said read asked
    → Asks first old new read (Sql text) asked
asks_placed first old new text said read asked c l is a = record {
  counted = c;
  asks = asks_of old new text said read asked l is a;
}

-- a receipt; where its text can't be kept the transaction is one that isn't told
pub placed_answered : (hash : Hash) (time : Option ℤ) (asked : Asked) (first old new : KnownPass) (read : ℕ) (text : List ℕ) (said : Form) (answer : Answer)
    → HasCounted first old read → read < 2 ^ 64 → statement_of text ≡ Ok said → AsksBehind old said read asked
    → HasPlaced time asked old new answer.number → answer.number ≤ new.view.least.durable → Later old new → Gains (answer.number ∷ []) 0 0 old new
    → answer.reply.items ≡ tx_read_reply answer.number read → IsAnswered hash first new (Sql text) answer
placed_answered hash time asked first old new read text said answer c small is a p durable l g says =
    let asks : Asks first old new read (Sql text) asked = asks_placed first old new text said read asked c l is a in
    let placed : tells_tx answer.reply.items answer.number ≡ true = ap (λ (t : List ℕ). tells_tx t answer.number) says ∙ tx-read-placed answer.number read in
    let reads : ReadsBy first.view.least.durable (Sql text) answer.number answer.reply.items =
    reads-of first.view.least.durable text answer.number answer.reply.items read small c.least (inl says) in
    record {
      step = λ session. tx_step hash time asked first old new read (as_answered session (Sql text) answer) c p durable l g placed (λ n f. refl) reads
          (λ items m s. inr (inr (record {
            read = read;
            asked = asked;
            asks = asks.asks items m;
            told = inl (record { behind = omega (arith, c.known, p.later); admitted = s.admitted; writes = s.writes; told = says });
          })))
          (λ items m. tt);
      else_stuck = placed_unanswered time asked first old new read answer.number (Sql text) asks p l g;
    }

-- the reply to a refusal tells what was read
unplaced_told : (why : PlaceError) (read at : ℕ) (reply : List ℕ) → IsUnplacedReply why read reply → IsReadTold reply at read
unplaced_told place.Memory read at reply says = absurd says
unplaced_told place.Full read at reply says = inr (inr says)
unplaced_told (place.Missing key) read at reply says = absurd says
unplaced_told (place.Exists key tx) read at reply says = absurd says
unplaced_told (place.Modified key tx) read at reply says = inr (inl (key, tx, says))

-- a refusal behind so many transactions, which are durable
refusal_one : (hash : Hash) (asked : Asked) (first old new : KnownPass) (why : PlaceError) (at read : ℕ) (text : List ℕ) (said : Form) (answer : Answer)
    → HasCounted first old read → read < 2 ^ 64 → statement_of text ≡ Ok said → AsksBehind old said read asked → IsRefusedDurably asked old new why at → Later old new → Gains [] 0 0 old new
    → answer.number ≡ at → IsUnplacedReply why read answer.reply.items → IsAnswered hash first new (Sql text) answer
refusal_one hash asked first old new why at read text said answer c small is a r l g number says =
    let asks : Asks first old new read (Sql text) asked = asks_placed first old new text said read asked c l is a in
    let here : IsRefusedDurably asked old new why answer.number = subst (λ (n : ℕ). IsRefusedDurably asked old new why n) (sym number) r in
    let within : read ≤ answer.number = omega (arith, c.known, here.judged.later) in
    let other : tells_tx answer.reply.items answer.number ≡ false = unplaced-not-placed why read answer.reply.items answer.number says in
    let reads : ReadsBy first.view.least.durable (Sql text) answer.number answer.reply.items =
    reads-of first.view.least.durable text answer.number answer.reply.items read small c.least (unplaced_told why read answer.number answer.reply.items says) in
    record {
      step = λ session. refused_step hash asked first old new read why (as_answered session (Sql text) answer) c here l g other (λ n f. refl) reads
          (λ items m refused. inr (inr (record {
            read = read;
            asked = asked;
            asks = asks.asks items m;
            told = inr (record { within = within; why = why; refused = refused; told = says });
          })))
          (λ items m. tt);
      else_stuck = λ session. unplaced_stuck first old new read session (Sql text) line.Memory c l g.own (omega (arith, g.leaves)) (omega (arith, g.faults, c.gains.faults)) (λ is. absurd (cc (is)));
    }

pub unplaced_answered : (hash : Hash) (time : Option ℤ) (asked : Asked) (first old new : KnownPass) (read : ℕ) (text : List ℕ) (said : Form) (error : CommitError) (answer : Answer)
    → HasCounted first old read → read < 2 ^ 64 → statement_of text ≡ Ok said → AsksBehind old said read asked
    → Explains time asked old new error → Later old new → Gains (number_told error) 0 (faults_of_error error) old new → IsStatementRefusal read error answer
    → IsAnswered hash first new (Sql text) answer
unplaced_answered hash time asked first old new read text said (Missing key at) answer c small is a e l g says = absurd says
unplaced_answered hash time asked first old new read text said (Exists key tx at) answer c small is a e l g says = absurd says
unplaced_answered hash time asked first old new read text said (Modified key tx at) answer c small is a e l g says =
    refusal_one hash asked first old new (place.Modified key tx) at read text said answer c small is a e l g says.0 says.1
unplaced_answered hash time asked first old new read text said (Full at) answer c small is a e l g says =
    refusal_one hash asked first old new place.Full at read text said answer c small is a e l g says.0 says.1
unplaced_answered hash time asked first old new read text said (DiskFault placed) answer c small is a e l g says = absurd says
unplaced_answered hash time asked first old new read text said (Stopped faults placed) answer c small is a e l g says = absurd says
unplaced_answered hash time asked first old new read text said (Memory placed) answer c small is a e l g says = absurd says

-- ---- what asks for nothing to be placed

-- where memory runs out
pub counted_unanswered : (first old new : KnownPass) (read : ℕ) (text : List ℕ) → HasCounted first old read → Later old new → Gains [] 0 0 old new → IsUnanswered first new (Sql text) line.Memory
counted_unanswered first old new read text c l g session =
    let whole : Later first new = later_both first old new c.later l in
    let gains : Gains [] 0 0 first new = gains_before 0 0 first old new c.gains g in
    stuck_none first new (record { session = session; command = Sql text }) 0 whole gains (slack_kept first new whole gains)

-- no reply tells want of memory
pub shown_other : (given : Result SqlOut SqlError) (reply : List ℕ) → IsShown given reply → given ≡ Err error.Memory → ⊥
shown_other given reply told short = (subst (λ (r : Result SqlOut SqlError). IsShown r reply) short told).0 refl

-- what is told where nothing is to be placed
pub told_answered : (hash : Hash) (first old new : KnownPass) (text : List ℕ) (answer : Answer) → HasCounted first old answer.number → Later old new → Gains [] 0 0 old new
    → ((items : List LogItem) → MayBecome new items → IsSqlAnswer (history_of items) text answer.number answer.reply.items)
    → ReadsBy first.view.least.durable (Sql text) answer.number answer.reply.items → tells_tx answer.reply.items answer.number ≡ false
    → IsAnswered hash first new (Sql text) answer
told_answered hash first old new text answer c l g says reads other =
    let whole : Later first new = later_both first old new c.later l in
    let gains : Gains [] 0 0 first new = gains_before 0 0 first old new c.gains g in
    let told : told_numbers (Some (as_answered [] (Sql text) answer)) ≡ [] = ap (λ (b : Bool). if b then answer.number ∷ [] else []) other in
    record {
      step = λ session. record {
        answer = says;
        again = λ items m. tt;
        rises = (c.least, λ e. absurd (true≢false (sym e ∙ other)));
        reads = reads;
        known = omega (arith, c.known, l.durable);
        own = gains.own ∙ ap (λ (xs : List ℕ). first.view.own ++ xs) (sym told);
        over = λ e. absurd (true≢false (sym e ∙ other));
        under = λ e. absurd (true≢false (sym e ∙ other));
        floor = whole.linked;
        calm = omega (arith, gains.faults);
        linked_none = λ e. absurd (true≢false (sym e ∙ other));
        slack = omega (arith, whole.linked, gains.leaves);
        just = λ same still. omega (arith, same, gains.leaves);
      };
      else_stuck = counted_unanswered first old new answer.number text c l g;
    }

-- a text that isn't in the grammar
pub fault_answered : (hash : Hash) (first old new : KnownPass) (text : List ℕ) (fault : SqlSyntax) (answer : Answer) → HasCounted first old answer.number → Later old new → Gains [] 0 0 old new
    → statement_of text ≡ Err fault → answer.reply.items ≡ syntax_reply fault → IsAnswered hash first new (Sql text) answer
fault_answered hash first old new text fault answer c l g is says =
    told_answered hash first old new text answer c l g (λ items m. inl (record { fault = fault; is = is; told = says }))
    (subst (λ (t : List ℕ). ReadsBy first.view.least.durable (Sql text) answer.number t) (sym says) (fault-reads first.view.least.durable text answer.number fault))
    (ap (λ (t : List ℕ). tells_tx t answer.number) says ∙ fault-not-placed fault answer.number)

-- a statement that asks for nothing to be placed, by what stands behind the first transactions that the pass has seen
pub shown_answered : (hash : Hash) (first old new : KnownPass) (text : List ℕ) (said : Form) (given : Result SqlOut SqlError) (answer : Answer)
    → HasCounted first old answer.number → Later old new → Gains [] 0 0 old new → statement_of text ≡ Ok said → answer.number ≤ length new.view.seen
    → AnswerIs (take answer.number (history_of new.view.seen)) said given → IsShown given answer.reply.items → IsAnswered hash first new (Sql text) answer
shown_answered hash first old new text said given answer c l g is seen judged told =
    told_answered hash first old new text answer c l g
    (λ items m.
    let front : take answer.number (history_of items) ≡ take answer.number (history_of new.view.seen) = history_taken new items answer.number m seen in
    inr (inl (record { said = said; is = is; answer = given; judged = subst (λ (h : List Transaction). AnswerIs h said given) (sym front) judged; told = told })))
    (told-reads first.view.least.durable text answer.number given answer.reply.items told)
    (told-not-placed given answer.reply.items answer.number told)

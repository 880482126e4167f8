-- What a commit's receipt or error makes of its line.
use Rattle.std.proofs.Common.{◌≡◌, ◌≤◌, ◌∷◌, ℕ, ℤ, List, [], map, inl, inr, true, false, Option, Some, None, refl, ap, sym, ◌∙◌, subst, arith}
use Rattle.im_dealing.specs.declared.answers.Answer.{Answer}
use Rattle.im_dealing.specs.declared.errors.LineError.TheVariants as line
use Rattle.im_digest.specs.Digests.{Hash}
use Rattle.im_draft.specs.Drafts.{entry_of, AreEntries, AreFree}
use Rattle.im_draft.specs.declared.drafts.Draft.{Draft}
use Rattle.im_report.proofs.PlacedLemmas.{place-not-placed, tx-placed}
use Rattle.im_report.specs.Reads.{place_reply}
use Rattle.im_report.specs.Replies.{tx_reply}
use Rattle.im_report.specs.Report.{tells_tx}
use Rattle.im_script.specs.declared.commands.Command.{Command}
use Rattle.im_script.specs.declared.commands.Command.TheVariants.{Set}
use Rattle.im_session.proofs.StepLemmas.{Asks, counted_here, late_stuck, refused_late, refused_step, tx_step, unplaced_stuck}
use Rattle.im_session.specs.Answered.{IsAnswered, IsRefusal, IsUnanswered, as_answered, fault_of}
use Rattle.im_store.specs.Commits.{Explains, HasPlaced, IsRefusedDurably, faults_of_error, number_told}
use Rattle.im_store.specs.Gains.{Gains}
use Rattle.im_store.specs.declared.errors.CommitError.{CommitError}
use Rattle.im_store.specs.declared.errors.CommitError.TheVariants.{DiskFault, Exists, Full, Memory, Missing, Modified, Stopped}
use Rattle.im_table.specs.Known.{KnownPass}
use Rattle.im_table.specs.Passes.{Later}
use Rattle.im_tx.specs.Asked.{Asked}
use Rattle.im_versions.specs.declared.refusals.PlaceError.{PlaceError}
use Rattle.im_versions.specs.declared.refusals.PlaceError.TheVariants as place

-- ---- a line of either kind

-- it was placed, and its text couldn't be made
pub placed_unanswered : (time : Option ℤ) (asked : Asked) (first old new : KnownPass) (read n : ℕ) (command : Command) → Asks first old new read command asked
    → HasPlaced time asked old new n → Later old new → Gains (n ∷ []) 0 0 old new → IsUnanswered first new command line.Memory
placed_unanswered time asked first old new read n command a p l g session =
    late_stuck time asked first old new read n session command line.Memory a p l g.own (omega (arith, g.leaves)) (omega (arith, g.faults, a.counted.gains.faults))

-- an error without a reply
pub commit_unanswered : (time : Option ℤ) (asked : Asked) (first old new : KnownPass) (read : ℕ) (command : Command) (error : CommitError) → Asks first old new read command asked
    → Explains time asked old new error → Later old new → Gains (number_told error) 0 (faults_of_error error) old new → IsUnanswered first new command (fault_of error)
commit_unanswered time asked first old new read command (Missing key at) a e l g session =
    unplaced_stuck first old new read session command line.Memory a.counted l g.own (omega (arith, g.leaves)) (omega (arith, g.faults, a.counted.gains.faults))
    (λ is. absurd (cc (is)))
commit_unanswered time asked first old new read command (Exists key tx at) a e l g session =
    unplaced_stuck first old new read session command line.Memory a.counted l g.own (omega (arith, g.leaves)) (omega (arith, g.faults, a.counted.gains.faults))
    (λ is. absurd (cc (is)))
commit_unanswered time asked first old new read command (Modified key tx at) a e l g session =
    unplaced_stuck first old new read session command line.Memory a.counted l g.own (omega (arith, g.leaves)) (omega (arith, g.faults, a.counted.gains.faults))
    (λ is. absurd (cc (is)))
commit_unanswered time asked first old new read command (Full at) a e l g session =
    unplaced_stuck first old new read session command line.Memory a.counted l g.own (omega (arith, g.leaves)) (omega (arith, g.faults, a.counted.gains.faults))
    (λ is. absurd (cc (is)))
commit_unanswered time asked first old new read command (DiskFault None) a e l g session =
    unplaced_stuck first old new read session command line.DiskFault a.counted l g.own (omega (arith, g.leaves)) e.1
    (λ is. refused_late asked first old new read e.0.at e.0.why command a e.0.judged)
commit_unanswered time asked first old new read command (DiskFault (Some n)) a e l g session =
    late_stuck time asked first old new read n session command line.DiskFault a e.0 l g.own (omega (arith, g.leaves)) e.1
commit_unanswered time asked first old new read command (Stopped faults None) a e l g session =
    unplaced_stuck first old new read session command line.DiskFault a.counted l g.own (omega (arith, g.leaves)) (let some = e.1.some in let known = e.1.known in omega (arith, some, known))
    (λ is. refused_late asked first old new read e.0.at e.0.why command a e.0.judged)
commit_unanswered time asked first old new read command (Stopped faults (Some n)) a e l g session =
    late_stuck time asked first old new read n session command line.DiskFault a e.0 l g.own (omega (arith, g.leaves)) (let some = e.1.some in let known = e.1.known in omega (arith, some, known))
commit_unanswered time asked first old new read command (Memory None) a e l g session =
    unplaced_stuck first old new read session command line.Memory a.counted l g.own (omega (arith, g.leaves)) (omega (arith, g.faults, a.counted.gains.faults))
    (λ is. absurd (cc (is)))
commit_unanswered time asked first old new read command (Memory (Some n)) a e l g session =
    late_stuck time asked first old new read n session command line.Memory a e l g.own (omega (arith, g.leaves)) (omega (arith, g.faults, a.counted.gains.faults))

-- ---- a `set` or `del`

-- it asks for its entries, behind all that its pass knew to be durable
set_asks : (asked : Asked) (old new : KnownPass) (drafts : List Draft) → AreFree drafts → AreEntries drafts → asked.entries ≡ map entry_of drafts
    → Asks old old new old.view.least.durable (Set asked.pres drafts) asked
set_asks asked old new drafts free are same = record { counted = counted_here old; asks = λ items m. (free, are, same, refl) }

-- a receipt: the reply is `tx` and its number; where its text can't be kept the transaction is one that isn't told
pub receipt_answered : (hash : Hash) (time : Option ℤ) (asked : Asked) (old new : KnownPass) (answer : Answer) (drafts : List Draft) → AreFree drafts → AreEntries drafts → asked.entries ≡ map entry_of drafts
    → HasPlaced time asked old new answer.number → answer.number ≤ new.view.least.durable → Later old new → Gains (answer.number ∷ []) 0 0 old new → answer.reply.items ≡ tx_reply answer.number
    → IsAnswered hash old new (Set asked.pres drafts) answer
receipt_answered hash time asked old new answer drafts free are same p durable l g says =
    let read : ℕ = old.view.least.durable in
    let command : Command = Set asked.pres drafts in
    let told : tells_tx answer.reply.items answer.number ≡ true = ap (λ (t : List ℕ). tells_tx t answer.number) says ∙ tx-placed answer.number in
    record {
      step = λ session. tx_step hash time asked old old new read (as_answered session command answer) (counted_here old) p durable l g told (λ n f. refl) tt
          (λ items m s. inr (free, inr (are, inr (omega (arith, p.above), s.admitted, s.writes ∙ same, says)))) (λ items m. tt);
      else_stuck = placed_unanswered time asked old old new read answer.number command (set_asks asked old new drafts free are same) p l g;
    }

-- and where its text couldn't be made
pub receipt_unanswered : (time : Option ℤ) (asked : Asked) (old new : KnownPass) (n : ℕ) (drafts : List Draft) → AreFree drafts → AreEntries drafts → asked.entries ≡ map entry_of drafts
    → HasPlaced time asked old new n → Later old new → Gains (n ∷ []) 0 0 old new → IsUnanswered old new (Set asked.pres drafts) line.Memory
receipt_unanswered time asked old new n drafts free are same p l g =
    placed_unanswered time asked old old new old.view.least.durable n (Set asked.pres drafts) (set_asks asked old new drafts free are same) p l g

-- a refusal behind so many transactions, which are durable
refusal_one : (hash : Hash) (asked : Asked) (old new : KnownPass) (why : PlaceError) (at : ℕ) (answer : Answer) (drafts : List Draft) → AreFree drafts → AreEntries drafts → (why ≡ place.Memory → ⊥)
    → IsRefusedDurably asked old new why at → Later old new → Gains [] 0 0 old new → answer.number ≡ at → answer.reply.items ≡ place_reply why → IsAnswered hash old new (Set asked.pres drafts) answer
refusal_one hash asked old new why at answer drafts free are known r l g number says =
    let read : ℕ = old.view.least.durable in
    let command : Command = Set asked.pres drafts in
    let here : IsRefusedDurably asked old new why answer.number = subst (λ (n : ℕ). IsRefusedDurably asked old new why n) (sym number) r in
    let other : tells_tx answer.reply.items answer.number ≡ false = ap (λ (t : List ℕ). tells_tx t answer.number) says ∙ place-not-placed why answer.number known in
    record {
      step = λ session. refused_step hash asked old old new read why (as_answered session command answer) (counted_here old) here l g other (λ n f. refl) tt
          (λ items m refused. inr (free, inr (are, inl (why, refused, says)))) (λ items m. tt);
      else_stuck = λ session. unplaced_stuck old old new read session command line.Memory (counted_here old) l g.own (omega (arith, g.leaves)) (omega (arith, g.faults)) (λ is. absurd (cc (is)));
    }

pub refusal_answered : (hash : Hash) (time : Option ℤ) (asked : Asked) (old new : KnownPass) (error : CommitError) (answer : Answer) (drafts : List Draft) → AreFree drafts → AreEntries drafts
    → Explains time asked old new error → Later old new → Gains (number_told error) 0 (faults_of_error error) old new → IsRefusal error answer → IsAnswered hash old new (Set asked.pres drafts) answer
refusal_answered hash time asked old new (Missing key at) answer drafts free are e l g says = refusal_one hash asked old new (place.Missing key) at answer drafts free are (λ q. cc q) e l g says.0 says.1
refusal_answered hash time asked old new (Exists key tx at) answer drafts free are e l g says = refusal_one hash asked old new (place.Exists key tx) at answer drafts free are (λ q. cc q) e l g says.0 says.1
refusal_answered hash time asked old new (Modified key tx at) answer drafts free are e l g says = refusal_one hash asked old new (place.Modified key tx) at answer drafts free are (λ q. cc q) e l g says.0 says.1
refusal_answered hash time asked old new (Full at) answer drafts free are e l g says = refusal_one hash asked old new place.Full at answer drafts free are (λ q. cc q) e l g says.0 says.1
refusal_answered hash time asked old new (DiskFault placed) answer drafts free are e l g says = absurd says
refusal_answered hash time asked old new (Stopped faults placed) answer drafts free are e l g says = absurd says
refusal_answered hash time asked old new (Memory placed) answer drafts free are e l g says = absurd says

-- an error without a reply
pub error_unanswered : (time : Option ℤ) (asked : Asked) (old new : KnownPass) (error : CommitError) (drafts : List Draft) → AreFree drafts → AreEntries drafts → asked.entries ≡ map entry_of drafts
    → Explains time asked old new error → Later old new → Gains (number_told error) 0 (faults_of_error error) old new → IsUnanswered old new (Set asked.pres drafts) (fault_of error)
error_unanswered time asked old new error drafts free are same e l g =
    commit_unanswered time asked old old new old.view.least.durable (Set asked.pres drafts) error (set_asks asked old new drafts free are same) e l g

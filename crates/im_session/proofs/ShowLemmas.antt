-- What a command that places and links nothing is answered, and what it is where memory runs out.
use Rattle.std.proofs.Common.{◌≡◌, ◌⊎◌, ◌-◌, inl, inr, ◌≤◌, ℕ, List, [], length, take, Option, Some, None, Result, IfErr, IsErrAnd, false, refl, ap, sym, ◌∙◌, subst, arith}
use Rattle.std.proofs.lemmas.Bool.{both_ways}
use Rattle.im_dealing.proofs.GrowLemmas.{history_taken}
use Rattle.im_dealing.specs.Lines.{MayBecome}
use Rattle.im_dealing.specs.declared.answers.Answer.{Answer}
use Rattle.im_dealing.specs.declared.errors.LineError.{LineError}
use Rattle.im_dealing.specs.declared.errors.LineError.TheVariants.{Memory}
use Rattle.im_report.specs.Messages.{IsReadBack}
use Rattle.im_digest.specs.Digests.{Hash}
use Rattle.im_draft.specs.Drafts.{AreFree, IsReserved, Refuses}
use Rattle.im_draft.specs.declared.drafts.Draft.{Draft}
use Rattle.im_draft.specs.declared.preconditions.Pre.{Pre}
use Rattle.im_draft.specs.declared.refusals.PrepareError.{PrepareError}
use Rattle.im_model.specs.declared.transactions.Transaction.{Transaction}
use Rattle.im_octet.proofs.Common.{if-err}
use Rattle.im_report.proofs.PlacedLemmas.{get-not-placed, history-not-placed, linked-not-placed, refused-not-placed, reserved-not-placed, scanned-not-placed}
use Rattle.im_report.specs.Reads.{IsGetAnswer, IsHistoryAnswer, IsReadAt, IsScanAnswer}
use Rattle.im_report.specs.Replies.{linked_reply, refused_reply, reserved_reply}
use Rattle.im_report.specs.Report.{IsAnswer, IsSetAnswer, ReadsBy, floor_by, tells_tx}
use Rattle.im_script.specs.declared.commands.Command.{Command}
use Rattle.im_script.specs.declared.commands.Command.TheVariants.{Set, Get, Scan, History, Header, State, Prove, Advance, Item, Link, Sql}
use Rattle.im_session.proofs.StepLemmas.{link_step, shown_step, slack_kept, stuck_none}
use Rattle.im_session.specs.Answered.{IsAnswered, IsUnanswered}
use Rattle.im_store.proofs.GainLemmas.{gains_before, gains_same, later_self}
use Rattle.im_store.specs.Gains.{Gains}
use Rattle.im_store.specs.Growth.{IsLinked}
use Rattle.im_table.proofs.PassLemmas.{later_both}
use Rattle.im_table.specs.Histories.{history_of}
use Rattle.im_table.specs.Known.{KnownPass}
use Rattle.im_table.specs.Passes.{Later}
use Rattle.im_table.specs.declared.items.LogItem.{LogItem}
use Rattle.im_versions.specs.Versions.{versions_of}
use Rattle.im_wire.specs.Lines.{is_open}

-- where memory runs out, and nothing was placed or linked
pub shown_unanswered : (old new : KnownPass) (command : Command) → Later old new → Gains [] 0 0 old new → IsUnanswered old new command Memory
shown_unanswered old new command l g session = stuck_none old new (record { session = session; command = command }) 0 l g (slack_kept old new l g)

pub short_unanswered : (old new : KnownPass) (command : Command) (given : Result Answer LineError) → IsErrAnd given (λ why. why ≡ Memory) → Later old new → Gains [] 0 0 old new
    → IfErr given (λ why. IsUnanswered old new command why)
short_unanswered old new command given short l g = if-err (λ why. IsUnanswered old new command why) given Memory short (shown_unanswered old new command l g)

-- the same behind two calls
pub short_behind : (old mid new : KnownPass) (command : Command) (given : Result Answer LineError) → IsErrAnd given (λ why. why ≡ Memory)
    → Later old mid → Later mid new → Gains [] 0 0 old mid → Gains [] 0 0 mid new → IfErr given (λ why. IsUnanswered old new command why)
short_behind old mid new command given short l m g k = short_unanswered old new command given short (later_both old mid new l m) (gains_before 0 0 old mid new g k)

-- what is shown at a number that was durable as the line loaded it first
pub shown_answered : (hash : Hash) (old mid new : KnownPass) (command : Command) (answer : Answer) → Later old mid → Later mid new → Gains [] 0 0 old mid → Gains [] 0 0 mid new
    → mid.view.least.durable ≡ answer.number → old.view.least.durable ≤ answer.number → ((n f : ℕ) → floor_by command n f ≡ f) → tells_tx answer.reply.items answer.number ≡ false
    → ReadsBy old.view.least.durable command answer.number answer.reply.items
    → ((items : List LogItem) → MayBecome new items → IsAnswer hash (history_of items) command answer.number answer.reply.items)
    → ((items : List LogItem) → MayBecome new items → IsReadBack hash (take answer.number (history_of items)) command answer.reply.items)
    → IsAnswered hash old new command answer
shown_answered hash old mid new command answer l m g k is above floor none reads said again = record {
  step = λ session. shown_step hash old mid new (record { line = record { session = session; command = command }; number = answer.number; reply = answer.reply.items }) l m g k is above none floor reads said again;
  else_stuck = shown_unanswered old new command (later_both old mid new l m) (gains_before 0 0 old mid new g k);
}

-- a reply that isn't open needs no reading
pub closed_again : (hash : Hash) (history : List Transaction) (c : Command) (reply : List ℕ) → is_open reply ≡ false → IsReadBack hash history c reply
closed_again hash history (Set pres drafts) reply closed = tt
closed_again hash history (Get key at) reply closed = tt
closed_again hash history (Scan prefix at) reply closed = tt
closed_again hash history (History key) reply closed = tt
closed_again hash history (Header k) reply closed = tt
closed_again hash history State reply closed = λ is_now. absurd (both_ways (is_open reply) closed is_now)
closed_again hash history (Prove s t) reply closed = λ is_now. absurd (both_ways (is_open reply) closed is_now)
closed_again hash history (Advance s t) reply closed = λ is_now. absurd (both_ways (is_open reply) closed is_now)
closed_again hash history (Item t i None) reply closed = λ is_now. absurd (both_ways (is_open reply) closed is_now)
closed_again hash history (Item t i (Some s)) reply closed = λ is_now. absurd (both_ways (is_open reply) closed is_now)
closed_again hash history (Link count) reply closed = tt
closed_again hash history (Sql text) reply closed = tt

-- what is read of the first n transactions that the pass has seen is read of those of each list that it may become
pub said_of_each : (P : List Transaction → Type 0) (p : KnownPass) (items : List LogItem) (n : ℕ) → MayBecome p items → n ≤ length p.view.seen → P (take n (history_of p.view.seen)) → P (take n (history_of items))
said_of_each P p items n m within said = subst P (sym (history_taken p items n m within)) said

-- what a `set` or `del` is answered before it reaches the disk
abbrev pub IsUnasked : List Draft → List ℕ → Type 0
IsUnasked drafts reply =
    ((i : ℕ) × IsReserved drafts i × (reply ≡ reserved_reply i)) ⊎ (AreFree drafts × ((why : PrepareError) × Refuses drafts why × (reply ≡ refused_reply why)))

unasked_not_placed : (drafts : List Draft) (reply : List ℕ) (n : ℕ) → IsUnasked drafts reply → tells_tx reply n ≡ false
unasked_not_placed drafts reply n (inl (i, is, e)) = ap (λ (t : List ℕ). tells_tx t n) e ∙ reserved-not-placed i n
unasked_not_placed drafts reply n (inr (free, (why, refuses, e))) =
    ap (λ (t : List ℕ). tells_tx t n) e ∙ refused-not-placed why n (λ m. subst (λ (w : PrepareError). Refuses drafts w) m refuses)

unasked_answer : (history : List Transaction) (pres : List Pre) (drafts : List Draft) (n : ℕ) (reply : List ℕ) → IsUnasked drafts reply → IsSetAnswer history pres drafts n reply
unasked_answer history pres drafts n reply (inl reserved) = inl reserved
unasked_answer history pres drafts n reply (inr (free, refused)) = inr (free, inl refused)

pub unasked_answered : (hash : Hash) (old new : KnownPass) (pres : List Pre) (drafts : List Draft) (answer : Answer) → Later old new → Gains [] 0 0 old new → new.view.least.durable ≡ answer.number
    → old.view.least.durable ≤ answer.number → IsUnasked drafts answer.reply.items → IsAnswered hash old new (Set pres drafts) answer
unasked_answered hash old new pres drafts answer l g is above says =
    shown_answered hash old new new (Set pres drafts) answer l (later_self new) g (gains_same new) is above (λ n f. refl) (unasked_not_placed drafts answer.reply.items answer.number says) tt
    (λ items m. unasked_answer (history_of items) pres drafts answer.number answer.reply.items says) (λ items m. tt)

-- `link`
pub linked_answered : (hash : Hash) (old mid new : KnownPass) (count before size : ℕ) (answer : Answer) → Later old mid → Later mid new → Gains [] 0 0 old mid → IsLinked mid new count before size
    → Gains [] (size - before) 0 mid new → mid.view.least.durable ≡ answer.number → old.view.least.durable ≤ answer.number → answer.reply.items ≡ linked_reply → IsAnswered hash old new (Link count) answer
linked_answered hash old mid new count before size answer l m g linked k is above says =
    let whole : Later old new = later_both old mid new l m in
    let gains : Gains [] (size - before) 0 old new = gains_before (size - before) 0 old mid new g k in
    let none : tells_tx answer.reply.items answer.number ≡ false = ap (λ (t : List ℕ). tells_tx t answer.number) says ∙ linked-not-placed answer.number in
    record {
      step = λ session. link_step hash old mid new (record { line = record { session = session; command = Link count }; number = answer.number; reply = answer.reply.items }) count before size l m g linked k is above refl none
          (λ items may. says) (λ items may. tt);
      else_stuck = λ session. stuck_none old new (record { session = session; command = Link count }) (size - before) whole gains
          (omega (arith, gains.leaves, l.linked, linked.known, linked.grows, linked.shown));
    }

-- the same where memory for the reply ran out
pub linked_unanswered : (old mid new : KnownPass) (count before size : ℕ) (given : Result Answer LineError) → IsErrAnd given (λ why. why ≡ Memory) → Later old mid → Later mid new → Gains [] 0 0 old mid
    → IsLinked mid new count before size → Gains [] (size - before) 0 mid new → IfErr given (λ why. IsUnanswered old new (Link count) why)
linked_unanswered old mid new count before size given short l m g linked k =
    let whole : Later old new = later_both old mid new l m in
    let gains : Gains [] (size - before) 0 old new = gains_before (size - before) 0 old mid new g k in
    if-err (λ why. IsUnanswered old new (Link count) why) given Memory short
    (λ session. stuck_none old new (record { session = session; command = Link count }) (size - before) whole gains (omega (arith, gains.leaves, l.linked, linked.known, linked.grows, linked.shown)))

-- `get`, `scan`, `history`, by what stands behind the first transactions
pub got_answered : (hash : Hash) (old mid new : KnownPass) (key : List ℕ) (at : Option ℕ) (answer : Answer) → Later old mid → Later mid new → Gains [] 0 0 old mid → Gains [] 0 0 mid new
    → mid.view.least.durable ≡ answer.number → old.view.least.durable ≤ answer.number → answer.number ≤ length new.view.seen
    → IsReadAt (take answer.number (history_of new.view.seen)) at (IsGetAnswer key) answer.reply.items → IsAnswered hash old new (Get key at) answer
got_answered hash old mid new key at answer l m g k is above seen says =
    shown_answered hash old mid new (Get key at) answer l m g k is above (λ n f. refl)
    (get-not-placed (take answer.number (history_of new.view.seen)) key at answer.reply.items answer.number says) tt
    (λ items may. said_of_each (λ (h : List Transaction). IsReadAt h at (IsGetAnswer key) answer.reply.items) new items answer.number may seen says) (λ items may. tt)

pub scanned_answered : (hash : Hash) (old mid new : KnownPass) (prefix : List ℕ) (at : Option ℕ) (answer : Answer) → Later old mid → Later mid new → Gains [] 0 0 old mid → Gains [] 0 0 mid new
    → mid.view.least.durable ≡ answer.number → old.view.least.durable ≤ answer.number → answer.number ≤ length new.view.seen
    → IsReadAt (take answer.number (history_of new.view.seen)) at (IsScanAnswer prefix) answer.reply.items → IsAnswered hash old new (Scan prefix at) answer
scanned_answered hash old mid new prefix at answer l m g k is above seen says =
    shown_answered hash old mid new (Scan prefix at) answer l m g k is above (λ n f. refl)
    (scanned-not-placed (take answer.number (history_of new.view.seen)) prefix at answer.reply.items answer.number says) tt
    (λ items may. said_of_each (λ (h : List Transaction). IsReadAt h at (IsScanAnswer prefix) answer.reply.items) new items answer.number may seen says) (λ items may. tt)

pub versions_answered : (hash : Hash) (old mid new : KnownPass) (key : List ℕ) (answer : Answer) → Later old mid → Later mid new → Gains [] 0 0 old mid → Gains [] 0 0 mid new
    → mid.view.least.durable ≡ answer.number → old.view.least.durable ≤ answer.number → answer.number ≤ length new.view.seen
    → IsHistoryAnswer key (take answer.number (history_of new.view.seen)) answer.reply.items → IsAnswered hash old new (History key) answer
versions_answered hash old mid new key answer l m g k is above seen says =
    shown_answered hash old mid new (History key) answer l m g k is above (λ n f. refl)
    (ap (λ (t : List ℕ). tells_tx t answer.number) says ∙ history-not-placed (versions_of (take answer.number (history_of new.view.seen)) key) answer.number) tt
    (λ items may. said_of_each (λ (h : List Transaction). IsHistoryAnswer key h answer.reply.items) new items answer.number may seen says) (λ items may. tt)

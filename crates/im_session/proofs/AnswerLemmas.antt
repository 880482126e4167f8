-- What the commands that show headers and proofs are answered.
use Rattle.std.proofs.Common.{◌≡◌, ◌⊎◌, ◌<◌, ◌≤◌, ℕ, List, [], length, map, slice_index_or, take, Option, Some, None, codes, false, true, unwrap_or, refl, ap, ap₂, sym, ◌∙◌, subst, arith, inl, inr}
use Rattle.std.proofs.lemmas.Bool.{both_ways}
use Rattle.std.proofs.lemmas.List.{length-take-le}
use Rattle.im_dealing.specs.Lines.{MayBecome}
use Rattle.im_dealing.specs.Shown.{IsRefusedBetween}
use Rattle.im_dealing.specs.declared.answers.Answer.{Answer}
use Rattle.im_report.proofs.ShownLemmas.{no-entry-closed}
use Rattle.im_report.specs.Messages.{IsReadBack, item_between}
use Rattle.im_digest.specs.Digests.{Hash}
use Rattle.im_model.specs.Entries.{entry_digest}
use Rattle.im_model.specs.History.{header_of, transaction_of}
use Rattle.im_model.specs.declared.entries.Entry.{Entry}
use Rattle.im_model.specs.declared.headers.Header.{Header}
use Rattle.im_model.specs.declared.transactions.Transaction.{Transaction}
use Rattle.im_proof.specs.Between.{anchor_between, dual_between, no_entry}
use Rattle.im_proof.specs.Built.{path_of}
use Rattle.im_proof.specs.declared.proofs.DualProof.{DualProof}
use Rattle.im_report.proofs.PlacedLemmas.{beyond-not-placed, message-not-placed, no-entry-not-placed, other-letter, shown-not-placed}
use Rattle.im_report.specs.Replies.{advance_reply, beyond_reply, header_reply, item_reply, item_shown, no_entry_reply, prove_reply, shown_header, state_reply}
use Rattle.im_report.specs.Report.{tells_tx}
use Rattle.im_script.specs.declared.commands.Command.TheVariants as asks
use Rattle.im_session.proofs.ProvedLemmas.{advance_said, anchor_taken, dual_taken, entries_seen, few_taken, header_beyond, header_said, header_zero, item_said, no_item_said, prove_said, refused_said, state_empty, state_said, state_taken}
use Rattle.im_session.proofs.ShowLemmas.{closed_again, shown_answered}
use Rattle.im_session.specs.Answered.{IsAnswered}
use Rattle.im_store.specs.Gains.{Gains}
use Rattle.im_store.specs.Loads.{SawDurable}
use Rattle.im_store.specs.Reading.{AnswersAdvance, AnswersDual, AnswersEntry, AnswersHeader, AreDurable, HasFewer}
use Rattle.im_store.specs.declared.answers.Advance.{Advance}
use Rattle.im_store.specs.declared.answers.ProvedEntry.{ProvedEntry}
use Rattle.im_table.specs.Histories.{history_of}
use Rattle.im_table.specs.Known.{KnownPass}
use Rattle.im_table.specs.Passes.{Later}
use Rattle.im_table.specs.declared.items.LogItem.{LogItem}
use Rattle.im_wire.specs.Lines.{is_open}
use Rattle.im_wire.specs.Messages.{HasMessage}
use Rattle.im_wire.specs.Texts.{text}
use Rattle.im_wire.specs.declared.messages.Message.{Message}
use Rattle.im_wire.specs.declared.messages.Message.TheVariants as says

-- A pass behind a look at what is durable, which gave this number, and behind further steps that placed and linked nothing.
pub record HasLooked (old mid new : KnownPass) (number : ℕ) : Type 0 where
  pub first : Later old mid
  pub then : Later mid new
  pub first_gains : Gains [] 0 0 old mid
  pub then_gains : Gains [] 0 0 mid new
  pub is : mid.view.least.durable ≡ number
  pub above : old.view.least.durable ≤ number

-- by the look, and by the steps that followed
pub looked : (old mid new : KnownPass) (number : ℕ) → Later old mid → Gains [] 0 0 old mid → SawDurable old mid number × (mid.view.least.durable ≡ number) × (old.view.least.durable ≤ number) → Later mid new → Gains [] 0 0 mid new
    → HasLooked old mid new number
looked old mid new number l g saw m k = record { first = l; then = m; first_gains = g; then_gains = k; is = saw.1; above = saw.2 }

looked_durable : (old mid new : KnownPass) (number : ℕ) → HasLooked old mid new number → number ≤ new.view.least.durable
looked_durable old mid new number l = let up = l.then.durable in omega (arith, l.is, up)

-- the reply to `header`
abbrev pub SaysHeader : Hash → KnownPass → ℕ → ℕ → List ℕ → Type 0
SaysHeader hash p n k reply =
    ((k ≡ 0) × (reply ≡ codes "refused order 0 0"))
    ⊎ (((1 ≤ k) × (n < k) × (reply ≡ beyond_reply n))
    ⊎ ((1 ≤ k) × (k ≤ n) × (k ≤ length p.view.seen) × (reply ≡ shown_header hash (header_of hash (history_of p.view.seen) k))))

header_unplaced : (hash : Hash) (p : KnownPass) (n k : ℕ) (reply : List ℕ) → SaysHeader hash p n k reply → tells_tx reply n ≡ false
header_unplaced hash p n k reply (inl (none, e)) = other-letter 114 _ reply n refl e
header_unplaced hash p n k reply (inr (inl (some, beyond, e))) = ap (λ (r : List ℕ). tells_tx r n) e ∙ beyond-not-placed n n
header_unplaced hash p n k reply (inr (inr (some, within, seen, e))) = ap (λ (r : List ℕ). tells_tx r n) e ∙ shown-not-placed hash (header_of hash (history_of p.view.seen) k) n

header_each : (hash : Hash) (p : KnownPass) (n k : ℕ) (reply : List ℕ) → n ≤ p.view.least.durable → SaysHeader hash p n k reply → (items : List LogItem) → MayBecome p items → reply ≡ header_reply hash (take n (history_of items)) k
header_each hash p n k reply durable (inl (none, e)) items m = e ∙ header_zero hash (take n (history_of items)) k none
header_each hash p n k reply durable (inr (inl (some, beyond, e))) items m = e ∙ header_beyond hash p items n k m durable some beyond
header_each hash p n k reply durable (inr (inr (some, within, seen, e))) items m = e ∙ header_said hash p items n k m durable some within seen

pub header_answered : (hash : Hash) (old mid new : KnownPass) (k : ℕ) (answer : Answer) → HasLooked old mid new answer.number → SaysHeader hash new answer.number k answer.reply.items → IsAnswered hash old new (asks.Header k) answer
header_answered hash old mid new k answer l says =
    shown_answered hash old mid new (asks.Header k) answer l.first l.then l.first_gains l.then_gains l.is l.above (λ n f. refl) (header_unplaced hash new answer.number k answer.reply.items says) tt
    (header_each hash new answer.number k answer.reply.items (looked_durable old mid new answer.number l) says) (λ items m. tt)

-- where the store gave the header, and it is shown
pub header_told : (hash : Hash) (old mid new : KnownPass) (k : ℕ) (answer : Answer) (header : Header) → HasLooked old mid new answer.number → 1 ≤ k → k ≤ answer.number → AnswersHeader hash mid new k header
    → answer.reply.items ≡ shown_header hash header → IsAnswered hash old new (asks.Header k) answer
header_told hash old mid new k answer header l some within a e =
    header_answered hash old mid new k answer l (inr (inr (some, within, a.durable.seen, e ∙ ap (shown_header hash) a.header_is)))

-- the reply to `state`
abbrev pub SaysState : Hash → KnownPass → ℕ → List ℕ → Type 0
SaysState hash p n reply =
    ((n ≡ 0) × (reply ≡ codes "refused empty"))
    ⊎ ((1 ≤ n) × (n ≤ length p.view.seen) × (reply ≡ text (says.State (header_of hash (history_of p.view.seen) n))) × HasMessage reply (says.State (header_of hash (history_of p.view.seen) n)))

state_unplaced : (hash : Hash) (p : KnownPass) (n : ℕ) (reply : List ℕ) → SaysState hash p n reply → tells_tx reply n ≡ false
state_unplaced hash p n reply (inl (none, e)) = other-letter 114 _ reply n refl e
state_unplaced hash p n reply (inr (some, seen, e, again)) = ap (λ (r : List ℕ). tells_tx r n) e ∙ message-not-placed (says.State (header_of hash (history_of p.view.seen) n)) n

state_each : (hash : Hash) (p : KnownPass) (n : ℕ) (reply : List ℕ) → n ≤ p.view.least.durable → SaysState hash p n reply → (items : List LogItem) → MayBecome p items → reply ≡ state_reply hash (take n (history_of items))
state_each hash p n reply durable (inl (none, e)) items m =
    e ∙ state_empty hash (take n (history_of items)) (ap (λ (i : ℕ). length (take i (history_of items))) none)
state_each hash p n reply durable (inr (some, seen, e, again)) items m = e ∙ state_said hash p items n m durable some seen

state_again : (hash : Hash) (p : KnownPass) (n : ℕ) (reply : List ℕ) → n ≤ p.view.least.durable → SaysState hash p n reply → (items : List LogItem) → MayBecome p items
    → IsReadBack hash (take n (history_of items)) asks.State reply
state_again hash p n reply durable (inl (none, e)) items m = closed_again hash (take n (history_of items)) asks.State reply (ap is_open e)
state_again hash p n reply durable (inr (some, seen, e, again)) items m =
    λ _. subst (λ (x : Header). HasMessage reply (says.State x)) (state_taken hash p items n m durable some seen) again

pub state_answered : (hash : Hash) (old mid new : KnownPass) (answer : Answer) → HasLooked old mid new answer.number → SaysState hash new answer.number answer.reply.items → IsAnswered hash old new asks.State answer
state_answered hash old mid new answer l says =
    let durable = looked_durable old mid new answer.number l in
    shown_answered hash old mid new asks.State answer l.first l.then l.first_gains l.then_gains l.is l.above (λ n f. refl) (state_unplaced hash new answer.number answer.reply.items says) tt
    (state_each hash new answer.number answer.reply.items durable says) (state_again hash new answer.number answer.reply.items durable says)

pub state_told : (hash : Hash) (old mid new : KnownPass) (answer : Answer) (header : Header) → HasLooked old mid new answer.number → 1 ≤ answer.number → AnswersHeader hash mid new answer.number header
    → answer.reply.items ≡ text (says.State header) → HasMessage answer.reply.items (says.State header) → IsAnswered hash old new asks.State answer
state_told hash old mid new answer header l some a e again =
    state_answered hash old mid new answer l
    (inr (some, a.durable.seen, e ∙ ap (λ (h : Header). text (says.State h)) a.header_is, subst (λ (h : Header). HasMessage answer.reply.items (says.State h)) a.header_is again))

-- two that are in order, and that the pass has seen
pub record AreSeen (p : KnownPass) (n s t : ℕ) : Type 0 where
  pub some : 1 ≤ s
  pub order : s ≤ t
  pub within : t ≤ n
  pub seen : t ≤ length p.view.seen

-- the reply to `prove`
abbrev pub SaysProof : Hash → KnownPass → ℕ → ℕ → ℕ → List ℕ → Type 0
SaysProof hash p n s t reply =
    IsRefusedBetween n s t reply
    ⊎ (AreSeen p n s t × (reply ≡ text (says.Dual (dual_between hash (history_of p.view.seen) s t))) × HasMessage reply (says.Dual (dual_between hash (history_of p.view.seen) s t)))

proof_unplaced : (hash : Hash) (p : KnownPass) (n s t : ℕ) (reply : List ℕ) → SaysProof hash p n s t reply → tells_tx reply n ≡ false
proof_unplaced hash p n s t reply (inl refused) = refused.unplaced
proof_unplaced hash p n s t reply (inr (are, e, again)) = ap (λ (r : List ℕ). tells_tx r n) e ∙ message-not-placed (says.Dual (dual_between hash (history_of p.view.seen) s t)) n

proof_each : (hash : Hash) (p : KnownPass) (n s t : ℕ) (reply : List ℕ) → n ≤ p.view.least.durable → SaysProof hash p n s t reply → (items : List LogItem) → MayBecome p items → reply ≡ prove_reply hash (take n (history_of items)) s t
unfolding prove_reply
proof_each hash p n s t reply durable (inl refused) items m =
    refused_said p items n s t reply (text (says.Dual (dual_between hash (take n (history_of items)) s t))) m durable refused.says
proof_each hash p n s t reply durable (inr (are, e, again)) items m = e ∙ prove_said hash p items n s t m durable are.some are.order are.within are.seen

proof_again : (hash : Hash) (p : KnownPass) (n s t : ℕ) (reply : List ℕ) → n ≤ p.view.least.durable → SaysProof hash p n s t reply → (items : List LogItem) → MayBecome p items
    → IsReadBack hash (take n (history_of items)) (asks.Prove s t) reply
proof_again hash p n s t reply durable (inl refused) items m = closed_again hash (take n (history_of items)) (asks.Prove s t) reply refused.closed
proof_again hash p n s t reply durable (inr (are, e, again)) items m =
    λ _. subst (λ (d : DualProof). HasMessage reply (says.Dual d)) (dual_taken hash p items n s t m durable are.some are.order are.within are.seen) again

pub proof_answered : (hash : Hash) (old mid new : KnownPass) (s t : ℕ) (answer : Answer) → HasLooked old mid new answer.number → SaysProof hash new answer.number s t answer.reply.items → IsAnswered hash old new (asks.Prove s t) answer
proof_answered hash old mid new s t answer l says =
    let durable = looked_durable old mid new answer.number l in
    shown_answered hash old mid new (asks.Prove s t) answer l.first l.then l.first_gains l.then_gains l.is l.above (λ n f. refl) (proof_unplaced hash new answer.number s t answer.reply.items says) tt
    (proof_each hash new answer.number s t answer.reply.items durable says) (proof_again hash new answer.number s t answer.reply.items durable says)

-- two that the store found durable
are_seen : (mid new : KnownPass) (n s t : ℕ) → t ≤ n → AreDurable mid new s t → AreSeen new n s t
are_seen mid new n s t within a = record { some = a.some; order = a.order; within = within; seen = a.seen }

pub proof_told : (hash : Hash) (old mid new : KnownPass) (s t : ℕ) (answer : Answer) (dual : DualProof) → HasLooked old mid new answer.number → t ≤ answer.number → AnswersDual hash mid new s t dual
    → answer.reply.items ≡ text (says.Dual dual) → HasMessage answer.reply.items (says.Dual dual) → IsAnswered hash old new (asks.Prove s t) answer
proof_told hash old mid new s t answer dual l within a e again =
    proof_answered hash old mid new s t answer l
    (inr (are_seen mid new answer.number s t within a.durable, e ∙ ap (λ (d : DualProof). text (says.Dual d)) a.dual_is, subst (λ (d : DualProof). HasMessage answer.reply.items (says.Dual d)) a.dual_is again))

-- the reply to `advance`
abbrev pub advance_of : Hash → List Transaction → ℕ → ℕ → Message
advance_of hash history s t = says.Advance (dual_between hash history s t) (anchor_between hash history s t)

abbrev pub SaysAdvance : Hash → KnownPass → ℕ → ℕ → ℕ → List ℕ → Type 0
SaysAdvance hash p n s t reply =
    IsRefusedBetween n s t reply ⊎ (AreSeen p n s t × (reply ≡ text (advance_of hash (history_of p.view.seen) s t)) × HasMessage reply (advance_of hash (history_of p.view.seen) s t))

advance_unplaced : (hash : Hash) (p : KnownPass) (n s t : ℕ) (reply : List ℕ) → SaysAdvance hash p n s t reply → tells_tx reply n ≡ false
advance_unplaced hash p n s t reply (inl refused) = refused.unplaced
advance_unplaced hash p n s t reply (inr (are, e, again)) = ap (λ (r : List ℕ). tells_tx r n) e ∙ message-not-placed (advance_of hash (history_of p.view.seen) s t) n

advance_each : (hash : Hash) (p : KnownPass) (n s t : ℕ) (reply : List ℕ) → n ≤ p.view.least.durable → SaysAdvance hash p n s t reply → (items : List LogItem) → MayBecome p items → reply ≡ advance_reply hash (take n (history_of items)) s t
unfolding advance_reply
advance_each hash p n s t reply durable (inl refused) items m = refused_said p items n s t reply (text (advance_of hash (take n (history_of items)) s t)) m durable refused.says
advance_each hash p n s t reply durable (inr (are, e, again)) items m = e ∙ advance_said hash p items n s t m durable are.some are.order are.within are.seen

advance_again : (hash : Hash) (p : KnownPass) (n s t : ℕ) (reply : List ℕ) → n ≤ p.view.least.durable → SaysAdvance hash p n s t reply → (items : List LogItem) → MayBecome p items
    → IsReadBack hash (take n (history_of items)) (asks.Advance s t) reply
advance_again hash p n s t reply durable (inl refused) items m = closed_again hash (take n (history_of items)) (asks.Advance s t) reply refused.closed
advance_again hash p n s t reply durable (inr (are, e, again)) items m =
    let same : advance_of hash (history_of p.view.seen) s t ≡ advance_of hash (take n (history_of items)) s t =
    ap₂ (λ (d : DualProof) (a : Option DualProof). says.Advance d a) (dual_taken hash p items n s t m durable are.some are.order are.within are.seen) (anchor_taken hash p items n s t m durable are.some are.order are.within are.seen) in
    λ _. subst (HasMessage reply) same again

pub advance_answered : (hash : Hash) (old mid new : KnownPass) (s t : ℕ) (answer : Answer) → HasLooked old mid new answer.number → SaysAdvance hash new answer.number s t answer.reply.items
    → IsAnswered hash old new (asks.Advance s t) answer
advance_answered hash old mid new s t answer l says =
    let durable = looked_durable old mid new answer.number l in
    shown_answered hash old mid new (asks.Advance s t) answer l.first l.then l.first_gains l.then_gains l.is l.above (λ n f. refl) (advance_unplaced hash new answer.number s t answer.reply.items says) tt
    (advance_each hash new answer.number s t answer.reply.items durable says) (advance_again hash new answer.number s t answer.reply.items durable says)

pub advance_told : (hash : Hash) (old mid new : KnownPass) (s t : ℕ) (answer : Answer) (advance : Advance) → HasLooked old mid new answer.number → t ≤ answer.number → AnswersAdvance hash mid new s t advance
    → answer.reply.items ≡ text (says.Advance advance.dual advance.anchor) → HasMessage answer.reply.items (says.Advance advance.dual advance.anchor) → IsAnswered hash old new (asks.Advance s t) answer
advance_told hash old mid new s t answer advance l within a e again =
    let same : says.Advance advance.dual advance.anchor ≡ advance_of hash (history_of new.view.seen) s t = ap₂ (λ (d : DualProof) (x : Option DualProof). says.Advance d x) a.dual_is a.anchor_is in
    advance_answered hash old mid new s t answer l (inr (are_seen mid new answer.number s t within a.durable, e ∙ ap text same, subst (HasMessage answer.reply.items) same again))

-- the reply to `item`
abbrev pub SaysItem : Hash → KnownPass → ℕ → ℕ → ℕ → ℕ → List ℕ → Type 0
SaysItem hash p n t i s reply =
    IsRefusedBetween n t s reply
    ⊎ ((AreSeen p n t s × (length (transaction_of (history_of p.view.seen) t).entries ≤ i) × (reply ≡ no_entry_reply (length (transaction_of (history_of p.view.seen) t).entries)))
    ⊎ (AreSeen p n t s × (i < length (transaction_of (history_of p.view.seen) t).entries) × (reply ≡ text (item_between hash (history_of p.view.seen) t i s)) × HasMessage reply (item_between hash (history_of p.view.seen) t i s)))

item_unplaced : (hash : Hash) (p : KnownPass) (n t i s : ℕ) (reply : List ℕ) → SaysItem hash p n t i s reply → tells_tx reply n ≡ false
item_unplaced hash p n t i s reply (inl refused) = refused.unplaced
item_unplaced hash p n t i s reply (inr (inl (are, beyond, e))) = ap (λ (r : List ℕ). tells_tx r n) e ∙ no-entry-not-placed (length (transaction_of (history_of p.view.seen) t).entries) n
item_unplaced hash p n t i s reply (inr (inr (are, inside, e, again))) = ap (λ (r : List ℕ). tells_tx r n) e ∙ message-not-placed (item_between hash (history_of p.view.seen) t i s) n

item_each : (hash : Hash) (p : KnownPass) (n t i s : ℕ) (reply : List ℕ) → n ≤ p.view.least.durable → SaysItem hash p n t i s reply → (items : List LogItem) → MayBecome p items
    → reply ≡ item_reply hash (take n (history_of items)) t i s
unfolding item_reply item_shown
item_each hash p n t i s reply durable (inl refused) items m = refused_said p items n t s reply _ m durable refused.says
item_each hash p n t i s reply durable (inr (inl (are, beyond, e))) items m = e ∙ no_item_said hash p items n t i s m durable are.some are.order are.within are.seen beyond
item_each hash p n t i s reply durable (inr (inr (are, inside, e, again))) items m = e ∙ item_said hash p items n t i s m durable are.some are.order are.within are.seen inside

-- the message is the same of the first n of each list
item_same : (hash : Hash) (p : KnownPass) (n t i s : ℕ) → n ≤ p.view.least.durable → AreSeen p n t s → (items : List LogItem) → MayBecome p items
    → item_between hash (history_of p.view.seen) t i s ≡ item_between hash (take n (history_of items)) t i s
item_same hash p n t i s durable are items m =
    let said : DualProof → List Entry → Message = λ dual entries. says.Item dual (slice_index_or entries i no_entry) i (path_of hash (map (entry_digest hash) entries) i) in
    let within : t ≤ n = omega (arith, are.order, are.within) in
    let seen : t ≤ length p.view.seen = omega (arith, are.order, are.seen) in
    ap₂ said (dual_taken hash p items n t s m durable are.some are.order are.within are.seen) (entries_seen p items n t m are.some within seen)

item_read : (hash : Hash) (p : KnownPass) (n t i s : ℕ) (reply : List ℕ) → n ≤ p.view.least.durable → SaysItem hash p n t i s reply → (items : List LogItem) → MayBecome p items
    → is_open reply ≡ true → HasMessage reply (item_between hash (take n (history_of items)) t i s)
item_read hash p n t i s reply durable (inl refused) items m = λ now. absurd (both_ways (is_open reply) refused.closed now)
item_read hash p n t i s reply durable (inr (inl (are, beyond, e))) items m =
    λ now. absurd (both_ways (is_open reply) (ap is_open e ∙ no-entry-closed (length (transaction_of (history_of p.view.seen) t).entries)) now)
item_read hash p n t i s reply durable (inr (inr (are, inside, e, again))) items m = λ _. subst (HasMessage reply) (item_same hash p n t i s durable are items m) again

pub item_answered_named : (hash : Hash) (old mid new : KnownPass) (t i s : ℕ) (answer : Answer) → HasLooked old mid new answer.number → SaysItem hash new answer.number t i s answer.reply.items
    → IsAnswered hash old new (asks.Item t i (Some s)) answer
item_answered_named hash old mid new t i s answer l says =
    let durable = looked_durable old mid new answer.number l in
    shown_answered hash old mid new (asks.Item t i (Some s)) answer l.first l.then l.first_gains l.then_gains l.is l.above (λ n f. refl) (item_unplaced hash new answer.number t i s answer.reply.items says) tt
    (item_each hash new answer.number t i s answer.reply.items durable says) (item_read hash new answer.number t i s answer.reply.items durable says)

-- under the last durable one
pub item_answered_last : (hash : Hash) (old mid new : KnownPass) (t i : ℕ) (answer : Answer) → HasLooked old mid new answer.number → SaysItem hash new answer.number t i answer.number answer.reply.items
    → IsAnswered hash old new (asks.Item t i None) answer
item_answered_last hash old mid new t i answer l says =
    let n : ℕ = answer.number in
    let durable = looked_durable old mid new n l in
    shown_answered hash old mid new (asks.Item t i None) answer l.first l.then l.first_gains l.then_gains l.is l.above (λ k f. refl) (item_unplaced hash new n t i n answer.reply.items says) tt
    (item_each hash new n t i n answer.reply.items durable says)
    (λ items m. (let size : length (take n (history_of items)) ≡ n = length-take-le n (history_of items) (few_taken new items n m durable) in
    subst (λ (k : ℕ). is_open answer.reply.items ≡ true → HasMessage answer.reply.items (item_between hash (take n (history_of items)) t i k)) (sym size) (item_read hash new n t i n answer.reply.items durable says items m)))

pub item_answered : (hash : Hash) (old mid new : KnownPass) (t i : ℕ) (under : Option ℕ) (answer : Answer) → HasLooked old mid new answer.number
    → SaysItem hash new answer.number t i (unwrap_or under answer.number) answer.reply.items → IsAnswered hash old new (asks.Item t i under) answer
item_answered hash old mid new t i None answer l says = item_answered_last hash old mid new t i answer l says
item_answered hash old mid new t i (Some s) answer l says = item_answered_named hash old mid new t i s answer l says

-- the numbers are refused
pub item_refused : (hash : Hash) (old mid new : KnownPass) (t i s : ℕ) (under : Option ℕ) (answer : Answer) → HasLooked old mid new answer.number → s ≡ unwrap_or under answer.number
    → IsRefusedBetween answer.number t s answer.reply.items → IsAnswered hash old new (asks.Item t i under) answer
item_refused hash old mid new t i s under answer l is refused =
    item_answered hash old mid new t i under answer l (subst (λ (k : ℕ). SaysItem hash new answer.number t i k answer.reply.items) is (inl refused))

-- the store gave the entry
pub item_told : (hash : Hash) (old mid new : KnownPass) (t i s : ℕ) (under : Option ℕ) (answer : Answer) (item : ProvedEntry) → HasLooked old mid new answer.number → s ≡ unwrap_or under answer.number → s ≤ answer.number
    → AnswersEntry hash mid new t i s item
    → answer.reply.items ≡ text (says.Item item.dual item.entry item.index item.path) → HasMessage answer.reply.items (says.Item item.dual item.entry item.index item.path) → IsAnswered hash old new (asks.Item t i under) answer
item_told hash old mid new t i s under answer item l is within a e again =
    let h : List Transaction = history_of new.view.seen in
    let dual : DualProof = dual_between hash h t s in
    let entry : Entry = slice_index_or (transaction_of h t).entries i no_entry in
    let same : says.Item item.dual item.entry item.index item.path ≡ item_between hash h t i s =
    ap (λ (d : DualProof). says.Item d item.entry item.index item.path) a.dual_is
    ∙ (ap (λ (x : Entry). says.Item dual x item.index item.path) a.entry_is
    ∙ (ap (λ (j : ℕ). says.Item dual entry j item.path) a.index_is ∙ ap (λ (p : List (List ℕ)). says.Item dual entry i p) a.path_is)) in
    item_answered hash old mid new t i under answer l
    (subst (λ (k : ℕ). SaysItem hash new answer.number t i k answer.reply.items) is
    (inr (inr (are_seen mid new answer.number t s within a.durable, a.within, e ∙ ap text same, subst (HasMessage answer.reply.items) same again))))

-- the transaction has fewer entries
pub no_item_told : (hash : Hash) (old mid new : KnownPass) (t i s : ℕ) (under : Option ℕ) (answer : Answer) (width : ℕ) → HasLooked old mid new answer.number → s ≡ unwrap_or under answer.number → s ≤ answer.number
    → HasFewer mid new t i s width → answer.reply.items ≡ no_entry_reply width → IsAnswered hash old new (asks.Item t i under) answer
no_item_told hash old mid new t i s under answer width l is within a e =
    let few : length (transaction_of (history_of new.view.seen) t).entries ≤ i = omega (arith, a.width_is, a.fewer) in
    item_answered hash old mid new t i under answer l
    (subst (λ (k : ℕ). SaysItem hash new answer.number t i k answer.reply.items) is
    (inr (inl (are_seen mid new answer.number t s within a.durable, few, e ∙ ap no_entry_reply a.width_is))))

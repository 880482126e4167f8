-- Headers and proofs of the pass's list are those of each list that it may become.
use Rattle.std.proofs.Common.{◌≡◌, ◌<◌, ◌≤◌, ◌-◌, ◌==◌, ◌||◌, ℕ, List, Bool, true, false, if◌then◌else◌, length, take, nat_lt, Option, ap, ap₂, sym, ◌∙◌, subst, arith, codes}
use Rattle.std.proofs.lemmas.Bool.{le-ltb, lt-ltb}
use Rattle.std.proofs.lemmas.List.{get_or-take, length-take-le, take_all}
use Rattle.im_dealing.proofs.GrowLemmas.{front_length, history_taken}
use Rattle.im_dealing.proofs.RefusedLemmas.{not_zero}
use Rattle.im_dealing.specs.Lines.{MayBecome}
use Rattle.im_digest.specs.Digests.{Hash}
use Rattle.im_dual.proofs.FrontLemmas.{front-anchor, front-between}
use Rattle.im_model.proofs.HeaderLemmas.{header-prefix}
use Rattle.im_model.specs.History.{header_of, no_transaction, transaction_of}
use Rattle.im_model.specs.declared.entries.Entry.{Entry}
use Rattle.im_model.specs.declared.headers.Header.{Header}
use Rattle.im_model.specs.declared.transactions.Transaction.{Transaction}
use Rattle.im_proof.specs.Between.{anchor_between, dual_between}
use Rattle.im_proof.specs.declared.proofs.DualProof.{DualProof}
use Rattle.im_report.specs.Replies.{advance_reply, beyond_reply, between_reply, header_reply, item_reply, item_shown, no_entry_reply, order_reply, prove_reply, shown_header, state_reply}
use Rattle.im_store.proofs.ProveLemmas.{transaction_front}
use Rattle.im_table.proofs.HistoryLemmas.{history_length}
use Rattle.im_table.specs.Histories.{history_of}
use Rattle.im_table.specs.Known.{KnownPass}
use Rattle.im_table.specs.declared.items.LogItem.{LogItem}
use Rattle.im_wire.specs.Texts.{text}
use Rattle.im_wire.specs.declared.messages.Message.TheVariants as says

-- all that the pass has seen is the first part of each list that it may become
seen_taken : (p : KnownPass) (items : List LogItem) → MayBecome p items → take (length p.view.seen) (history_of items) ≡ history_of p.view.seen
seen_taken p items m =
    history_taken p items (length p.view.seen) m (omega arith) ∙ take_all (length p.view.seen) (history_of p.view.seen) (omega (arith, history_length p.view.seen))

seen_within : (p : KnownPass) (items : List LogItem) → MayBecome p items → length p.view.seen ≤ length (history_of items)
seen_within p items m = omega (arith, front_length p.view.seen items m.begins, history_length items)

-- a header that the pass has seen
pub header_seen : (hash : Hash) (p : KnownPass) (items : List LogItem) (k : ℕ) → MayBecome p items → 1 ≤ k → k ≤ length p.view.seen → header_of hash (history_of p.view.seen) k ≡ header_of hash (history_of items) k
header_seen hash p items k m some within =
    ap (λ (h : List Transaction). header_of hash h k) (sym (seen_taken p items m)) ∙ header-prefix hash (history_of items) k (length p.view.seen) some within (seen_within p items m)

-- and a dual proof, and an anchor
pub dual_seen : (hash : Hash) (p : KnownPass) (items : List LogItem) (s t : ℕ) → MayBecome p items → 1 ≤ s → s ≤ t → t ≤ length p.view.seen
    → dual_between hash (history_of p.view.seen) s t ≡ dual_between hash (history_of items) s t
dual_seen hash p items s t m some order within =
    ap (λ (h : List Transaction). dual_between hash h s t) (sym (seen_taken p items m))
    ∙ front-between hash (history_of items) s t (length p.view.seen) m.history some order within (seen_within p items m)

pub anchor_seen : (hash : Hash) (p : KnownPass) (items : List LogItem) (s t : ℕ) → MayBecome p items → 1 ≤ s → s ≤ t → t ≤ length p.view.seen
    → anchor_between hash (history_of p.view.seen) s t ≡ anchor_between hash (history_of items) s t
anchor_seen hash p items s t m some order within =
    ap (λ (h : List Transaction). anchor_between hash h s t) (sym (seen_taken p items m))
    ∙ front-anchor hash (history_of items) s t (length p.view.seen) m.history some order within (seen_within p items m)

-- the first n, of which all are durable
pub few_taken : (p : KnownPass) (items : List LogItem) (n : ℕ) → MayBecome p items → n ≤ p.view.least.durable → n ≤ length (history_of items)
few_taken p items n m durable = omega (arith, durable, m.enough, history_length items)

-- what it has seen stands in the first n of each list, where these are durable
pub state_taken : (hash : Hash) (p : KnownPass) (items : List LogItem) (n : ℕ) → MayBecome p items → n ≤ p.view.least.durable → 1 ≤ n → n ≤ length p.view.seen
    → header_of hash (history_of p.view.seen) n ≡ header_of hash (take n (history_of items)) (length (take n (history_of items)))
state_taken hash p items n m durable some seen =
    let h : List Transaction = history_of items in
    let few : n ≤ length h = few_taken p items n m durable in
    let size : length (take n h) ≡ n = length-take-le n h few in
    header_seen hash p items n m some seen ∙ (sym (header-prefix hash h n n some (omega arith) few) ∙ ap (header_of hash (take n h)) (sym size))

pub dual_taken : (hash : Hash) (p : KnownPass) (items : List LogItem) (n s t : ℕ) → MayBecome p items → n ≤ p.view.least.durable → 1 ≤ s → s ≤ t → t ≤ n → t ≤ length p.view.seen
    → dual_between hash (history_of p.view.seen) s t ≡ dual_between hash (take n (history_of items)) s t
dual_taken hash p items n s t m durable some order within seen =
    dual_seen hash p items s t m some order seen ∙ sym (front-between hash (history_of items) s t n m.history some order within (few_taken p items n m durable))

pub anchor_taken : (hash : Hash) (p : KnownPass) (items : List LogItem) (n s t : ℕ) → MayBecome p items → n ≤ p.view.least.durable → 1 ≤ s → s ≤ t → t ≤ n → t ≤ length p.view.seen
    → anchor_between hash (history_of p.view.seen) s t ≡ anchor_between hash (take n (history_of items)) s t
anchor_taken hash p items n s t m durable some order within seen =
    anchor_seen hash p items s t m some order seen ∙ sym (front-anchor hash (history_of items) s t n m.history some order within (few_taken p items n m durable))

-- the reply to `header`, of a header among the first n
pub header_said : (hash : Hash) (p : KnownPass) (items : List LogItem) (n k : ℕ) → MayBecome p items → n ≤ p.view.least.durable → 1 ≤ k → k ≤ n → k ≤ length p.view.seen
    → shown_header hash (header_of hash (history_of p.view.seen) k) ≡ header_reply hash (take n (history_of items)) k
unfolding header_reply
header_said hash p items n k m durable some within seen =
    let h : List Transaction = history_of items in
    let few : n ≤ length h = few_taken p items n m durable in
    let size : length (take n h) ≡ n = length-take-le n h few in
    let shown : header_of hash (history_of p.view.seen) k ≡ header_of hash (take n h) k = header_seen hash p items k m some seen ∙ sym (header-prefix hash h k n some within few) in
    let near : nat_lt (length (take n h)) k ≡ false = le-ltb (length (take n h)) k (omega (arith, size, within)) in
    ap (shown_header hash) shown
    ∙ (sym (ap (λ (b : Bool). if b then beyond_reply (length (take n h)) else shown_header hash (header_of hash (take n h) k)) near)
    ∙ sym (ap (λ (b : Bool). if b then codes "refused order 0 0" else (if nat_lt (length (take n h)) k then beyond_reply (length (take n h)) else shown_header hash (header_of hash (take n h) k))) (not_zero k some)))

-- the reply to `state`
pub state_said : (hash : Hash) (p : KnownPass) (items : List LogItem) (n : ℕ) → MayBecome p items → n ≤ p.view.least.durable → 1 ≤ n → n ≤ length p.view.seen
    → text (says.State (header_of hash (history_of p.view.seen) n)) ≡ state_reply hash (take n (history_of items))
unfolding state_reply
state_said hash p items n m durable some seen =
    let h : List Transaction = history_of items in
    let size : length (take n h) ≡ n = length-take-le n h (few_taken p items n m durable) in
    ap (λ (x : Header). text (says.State x)) (state_taken hash p items n m durable some seen)
    ∙ sym (ap (λ (b : Bool). if b then codes "refused empty" else text (says.State (header_of hash (take n h) (length (take n h))))) (not_zero (length (take n h)) (omega (arith, size, some))))

-- the reply to `header`, of a number beyond them; and to `header 0`
pub header_beyond : (hash : Hash) (p : KnownPass) (items : List LogItem) (n k : ℕ) → MayBecome p items → n ≤ p.view.least.durable → 1 ≤ k → n < k → beyond_reply n ≡ header_reply hash (take n (history_of items)) k
unfolding header_reply
header_beyond hash p items n k m durable some beyond =
    let h : List Transaction = history_of items in
    let size : length (take n h) ≡ n = length-take-le n h (few_taken p items n m durable) in
    let far : nat_lt (length (take n h)) k ≡ true = lt-ltb (length (take n h)) k (omega (arith, size, beyond)) in
    ap beyond_reply (sym size)
    ∙ (sym (ap (λ (b : Bool). if b then beyond_reply (length (take n h)) else shown_header hash (header_of hash (take n h) k)) far)
    ∙ sym (ap (λ (b : Bool). if b then codes "refused order 0 0" else (if nat_lt (length (take n h)) k then beyond_reply (length (take n h)) else shown_header hash (header_of hash (take n h) k))) (not_zero k some)))

pub header_zero : (hash : Hash) (history : List Transaction) (k : ℕ) → k ≡ 0 → codes "refused order 0 0" ≡ header_reply hash history k
unfolding header_reply
header_zero hash history k none = ap (λ (i : ℕ). if i == 0 then codes "refused order 0 0" else (if nat_lt (length history) i then beyond_reply (length history) else shown_header hash (header_of hash history i))) (sym none)

pub state_empty : (hash : Hash) (history : List Transaction) → length history ≡ 0 → codes "refused empty" ≡ state_reply hash history
unfolding state_reply
state_empty hash history none = ap (λ (i : ℕ). if i == 0 then codes "refused empty" else text (says.State (header_of hash history (length history)))) (sym none)

-- what is shown between two numbers that are in order
between_shown : (history : List Transaction) (s t : ℕ) (shown : List ℕ) → 1 ≤ s → s ≤ t → t ≤ length history → shown ≡ between_reply history s t shown
between_shown history s t shown some order within =
    let ordered : (s == 0 || nat_lt t s) ≡ false = ap (λ (b : Bool). b || nat_lt t s) (not_zero s some) ∙ le-ltb t s order in
    sym (ap (λ (b : Bool). if b then beyond_reply (length history) else shown) (le-ltb (length history) t within))
    ∙ sym (ap (λ (b : Bool). if b then order_reply s t else (if nat_lt (length history) t then beyond_reply (length history) else shown)) ordered)

-- the reply to `prove`
pub prove_said : (hash : Hash) (p : KnownPass) (items : List LogItem) (n s t : ℕ) → MayBecome p items → n ≤ p.view.least.durable → 1 ≤ s → s ≤ t → t ≤ n → t ≤ length p.view.seen
    → text (says.Dual (dual_between hash (history_of p.view.seen) s t)) ≡ prove_reply hash (take n (history_of items)) s t
unfolding prove_reply
prove_said hash p items n s t m durable some order within seen =
    let h : List Transaction = history_of items in
    let few : n ≤ length h = few_taken p items n m durable in
    let size : length (take n h) ≡ n = length-take-le n h few in
    let dual : dual_between hash (history_of p.view.seen) s t ≡ dual_between hash (take n h) s t = dual_taken hash p items n s t m durable some order within seen in
    ap (λ (d : DualProof). text (says.Dual d)) dual ∙ between_shown (take n h) s t (text (says.Dual (dual_between hash (take n h) s t))) some order (omega (arith, size, within))

-- the reply to `advance`
pub advance_said : (hash : Hash) (p : KnownPass) (items : List LogItem) (n s t : ℕ) → MayBecome p items → n ≤ p.view.least.durable → 1 ≤ s → s ≤ t → t ≤ n → t ≤ length p.view.seen
    → text (says.Advance (dual_between hash (history_of p.view.seen) s t) (anchor_between hash (history_of p.view.seen) s t)) ≡ advance_reply hash (take n (history_of items)) s t
unfolding advance_reply
advance_said hash p items n s t m durable some order within seen =
    let h : List Transaction = history_of items in
    let few : n ≤ length h = few_taken p items n m durable in
    let size : length (take n h) ≡ n = length-take-le n h few in
    let dual : dual_between hash (history_of p.view.seen) s t ≡ dual_between hash (take n h) s t = dual_taken hash p items n s t m durable some order within seen in
    let anchor : anchor_between hash (history_of p.view.seen) s t ≡ anchor_between hash (take n h) s t = anchor_taken hash p items n s t m durable some order within seen in
    ap₂ (λ (d : DualProof) (a : Option DualProof). text (says.Advance d a)) dual anchor
    ∙ between_shown (take n h) s t (text (says.Advance (dual_between hash (take n h) s t) (anchor_between hash (take n h) s t))) some order (omega (arith, size, within))

-- the entries of a transaction that the pass has seen
pub entries_seen : (p : KnownPass) (items : List LogItem) (n t : ℕ) → MayBecome p items → 1 ≤ t → t ≤ n → t ≤ length p.view.seen
    → (transaction_of (history_of p.view.seen) t).entries ≡ (transaction_of (take n (history_of items)) t).entries
entries_seen p items n t m some within seen =
    let far : transaction_of (history_of items) t ≡ transaction_of (history_of p.view.seen) t = transaction_front p.view.seen items t m.begins some seen in
    let near : transaction_of (take n (history_of items)) t ≡ transaction_of (history_of items) t = get_or-take n (history_of items) (t - 1) no_transaction (omega (arith, some, within)) in
    ap (λ (x : Transaction). x.entries) (sym (near ∙ far))

-- the reply to `item`, of an entry that is there, and of one that isn't
pub item_said : (hash : Hash) (p : KnownPass) (items : List LogItem) (n t i s : ℕ) → MayBecome p items → n ≤ p.view.least.durable → 1 ≤ t → t ≤ s → s ≤ n → s ≤ length p.view.seen
    → i < length (transaction_of (history_of p.view.seen) t).entries
    → item_shown hash (dual_between hash (history_of p.view.seen) t s) (transaction_of (history_of p.view.seen) t).entries i ≡ item_reply hash (take n (history_of items)) t i s
unfolding item_reply
item_said hash p items n t i s m durable some order within seen inside =
    let h : List Transaction = history_of items in
    let few : n ≤ length h = few_taken p items n m durable in
    let size : length (take n h) ≡ n = length-take-le n h few in
    let entries : List Entry = (transaction_of (take n h) t).entries in
    let same : (transaction_of (history_of p.view.seen) t).entries ≡ entries = entries_seen p items n t m some (omega (arith, order, within)) (omega (arith, order, seen)) in
    let dual : dual_between hash (history_of p.view.seen) t s ≡ dual_between hash (take n h) t s = dual_taken hash p items n t s m durable some order within seen in
    let there : nat_lt i (length entries) ≡ true = lt-ltb i (length entries) (subst (λ (es : List Entry). i < length es) same inside) in
    ap₂ (λ (d : DualProof) (es : List Entry). item_shown hash d es i) dual same
    ∙ (sym (ap (λ (b : Bool). if b then item_shown hash (dual_between hash (take n h) t s) entries i else no_entry_reply (length entries)) there)
    ∙ between_shown (take n h) t s (if nat_lt i (length entries) then item_shown hash (dual_between hash (take n h) t s) entries i else no_entry_reply (length entries)) some order (omega (arith, size, within)))

pub no_item_said : (hash : Hash) (p : KnownPass) (items : List LogItem) (n t i s : ℕ) → MayBecome p items → n ≤ p.view.least.durable → 1 ≤ t → t ≤ s → s ≤ n → s ≤ length p.view.seen
    → length (transaction_of (history_of p.view.seen) t).entries ≤ i → no_entry_reply (length (transaction_of (history_of p.view.seen) t).entries) ≡ item_reply hash (take n (history_of items)) t i s
unfolding item_reply
no_item_said hash p items n t i s m durable some order within seen beyond =
    let h : List Transaction = history_of items in
    let few : n ≤ length h = few_taken p items n m durable in
    let size : length (take n h) ≡ n = length-take-le n h few in
    let entries : List Entry = (transaction_of (take n h) t).entries in
    let same : (transaction_of (history_of p.view.seen) t).entries ≡ entries = entries_seen p items n t m some (omega (arith, order, within)) (omega (arith, order, seen)) in
    let none : nat_lt i (length entries) ≡ false = le-ltb i (length entries) (subst (λ (es : List Entry). length es ≤ i) same beyond) in
    ap (λ (es : List Entry). no_entry_reply (length es)) same
    ∙ (sym (ap (λ (b : Bool). if b then item_shown hash (dual_between hash (take n h) t s) entries i else no_entry_reply (length entries)) none)
    ∙ between_shown (take n h) t s (if nat_lt i (length entries) then item_shown hash (dual_between hash (take n h) t s) entries i else no_entry_reply (length entries)) some order (omega (arith, size, within)))

-- what is refused between two numbers is refused of each list
pub refused_said : (p : KnownPass) (items : List LogItem) (n s t : ℕ) (reply shown : List ℕ) → MayBecome p items → n ≤ p.view.least.durable
    → ((history : List Transaction) (other : List ℕ) → length history ≡ n → reply ≡ between_reply history s t other) → reply ≡ between_reply (take n (history_of items)) s t shown
refused_said p items n s t reply shown m durable refused = refused (take n (history_of items)) shown (length-take-le n (history_of items) (few_taken p items n m durable))

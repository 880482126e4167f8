-- What proofs are built of.
use Rattle.std.proofs.Common.{◌≡◌, ◌≤◌, ◌<◌, ◌+◌, ◌-◌, ◌∙◌, [], ◌∷◌, ℕ, zero, suc, List, Option, Some, length, take, slice_get, get_or, ap, arith, sym, subst}
use Rattle.std.proofs.lemmas.List.{get_or_default}
use mathlib.Core.List.{IsPrefix}
use Rattle.im_book.specs.Booked.{last_bl}
use Rattle.im_digest.specs.Digests.{Hash}
use Rattle.im_dual.specs.Kept.{header_at, no_header}
use Rattle.im_dual.proofs.RecordLemmas.{bl-of}
use Rattle.im_levels.specs.Leveled.{IsLeveled, Stored}
use Rattle.im_linker.specs.Trees.{IsTreeOf}
use Rattle.im_linker.proofs.TreeLemmas.{tree_front}
use Rattle.im_model.specs.History.{alhs_of, header_of, last_bl_or, no_transaction, transaction_of, Follow, IsHistory}
use Rattle.im_model.specs.declared.headers.Header.{Header}
use Rattle.im_model.specs.declared.transactions.Transaction.{Transaction}
use Rattle.im_proof.specs.Between.{anchor_between, dual_between}
use Rattle.im_proof.specs.Built.{headers_of}
use Rattle.im_proof.specs.declared.proofs.DualProof.{DualProof}
use Rattle.im_proof.proofs.HeaderLemmas.{headers-length, headers-nth}
use Rattle.im_table.specs.Histories.{history_of}
use Rattle.im_table.specs.declared.items.LogItem.{LogItem}
use Rattle.im_table.specs.Known.{KnownPass}
use Rattle.im_table.proofs.HistoryLemmas.{history_front, history_length}
use Rattle.im_store.specs.Gains.{HasStepped}
use Rattle.im_store.specs.Proving.{IsProvedOver}
use Rattle.im_store.specs.Errors.{item_error}
use Rattle.im_store.specs.Reading.{AreDurable, AreLoaded, ExplainsEntry, ExplainsProve}
use Rattle.im_store.specs.declared.errors.ProveError.{ProveError}
use Rattle.im_store.specs.declared.errors.ProveError.TheVariants as proves
use Rattle.im_table.proofs.FrontLemmas.{get_front}
use Rattle.im_store.proofs.GainLemmas.{follows_self, saw_durable_on}
use Rattle.im_store.proofs.GrowLemmas.{get_here}

-- the tree of each transaction is no larger than that of the last one
bl_least : (n bl : ℕ) (txs : List Transaction) → Follow n bl txs → bl ≤ last_bl_or bl txs
bl_least n bl [] f = omega arith
bl_least n bl (tx ∷ txs) f = omega (arith, f.1, bl_least (n + 1) tx.bl txs f.2)

bl_rises : (n bl : ℕ) (txs : List Transaction) (k : ℕ) → Follow n bl txs → k < length txs → (get_or txs k no_transaction).bl ≤ last_bl_or bl txs
bl_rises n bl [] k f lt = absurd (omega (arith, lt))
bl_rises n bl (tx ∷ txs) zero f lt = bl_least (n + 1) tx.bl txs f.2
bl_rises n bl (tx ∷ txs) (suc k) f lt = bl_rises (n + 1) tx.bl txs k f.2 (omega (arith, lt))

pub bl_within : (history : List Transaction) (n : ℕ) → IsHistory history → 1 ≤ n → n ≤ length history → (transaction_of history n).bl ≤ last_bl history
bl_within history n h some within = bl_rises 0 0 history (n - 1) h.follow (omega (arith, some, within))

-- a transaction has few entries
entries_follow : (n bl : ℕ) (txs : List Transaction) (k : ℕ) → Follow n bl txs → k < length txs → length (get_or txs k no_transaction).entries ≤ 1024
entries_follow n bl [] k f lt = absurd (omega (arith, lt))
entries_follow n bl (tx ∷ txs) zero f lt = f.0.few
entries_follow n bl (tx ∷ txs) (suc k) f lt = entries_follow (n + 1) tx.bl txs k f.2 (omega (arith, lt))

pub entries_few : (items : List LogItem) (n : ℕ) → IsHistory (history_of items) → 1 ≤ n → n ≤ length items → length (transaction_of (history_of items) n).entries ≤ 1024
entries_few items n h some within = entries_follow 0 0 (history_of items) (n - 1) h.follow (omega (arith, some, within, history_length items))

-- the tree of a front part, which is no smaller than the last transaction's and no larger than the list, proves each transaction
pub proved_over : (hash : Hash) (front items : List LogItem) (tree : Stored) (n : ℕ) → IsHistory (history_of items) → IsPrefix front items → IsTreeOf hash front tree
    → last_bl (history_of items) ≤ tree.size → 1 ≤ n → n ≤ length items → IsProvedOver hash items tree n
proved_over hash front items tree n history begins leaves over some within = record {
  history = history;
  leaves = tree_front hash front items tree begins leaves;
  some = some;
  within = within;
  over = (let le = bl_within (history_of items) n history some (omega (arith, within, history_length items)) in omega (arith, le, over));
}

-- what a proof is built of: a history, its headers, and the leaves of its tree
pub built_of : (made hash : Hash) (items : List LogItem) (tree : Stored) (n : ℕ) (headers : List Header) → made ≡ hash → headers ≡ headers_of hash (history_of items)
    → IsProvedOver hash items tree n
    → (history : List Transaction) × IsHistory history × (headers ≡ headers_of made history) × IsLeveled made (take tree.size (alhs_of made history)) tree
built_of made hash items tree n headers same are over = (
  history_of items,
  over.history,
  are ∙ ap (λ (h : Hash). headers_of h (history_of items)) (sym same),
  subst (λ (h : Hash). IsLeveled h (take tree.size (alhs_of h (history_of items))) tree) (sym same) over.leaves,
)

-- the tree of its target is no larger
pub built_under : (hash : Hash) (items : List LogItem) (tree : Stored) (n : ℕ) (headers : List Header) → headers ≡ headers_of hash (history_of items) → IsProvedOver hash items tree n
    → (header_at headers n).bl_tx_id ≤ tree.size
built_under hash items tree n headers are over =
    let within : n ≤ length (history_of items) = omega (arith, over.within, history_length items) in
    let is : header_at headers n ≡ header_of hash (history_of items) n =
    ap (λ (l : List Header). header_at l n) are ∙ headers-nth hash (history_of items) n no_header over.some within in
    omega (arith, ap (λ (h : Header). h.bl_tx_id) is, bl-of hash (history_of items) n, over.over)

-- a dual proof, and an anchor, that are those of each history with these headers
pub one_dual : (made hash : Hash) (history : List Transaction) (s t : ℕ) (headers : List Header) (proof : DualProof) → made ≡ hash → IsHistory history
    → headers ≡ headers_of hash history → ((h : List Transaction) → IsHistory h → headers ≡ headers_of made h → proof ≡ dual_between made h s t)
    → proof ≡ dual_between hash history s t
one_dual made hash history s t headers proof same is are each =
    each history is (are ∙ ap (λ (x : Hash). headers_of x history) (sym same)) ∙ ap (λ (x : Hash). dual_between x history s t) same

pub one_anchor : (made hash : Hash) (history : List Transaction) (s t : ℕ) (headers : List Header) (anchor : Option DualProof) → made ≡ hash → IsHistory history
    → headers ≡ headers_of hash history → ((h : List Transaction) → IsHistory h → headers ≡ headers_of made h → anchor ≡ anchor_between made h s t)
    → anchor ≡ anchor_between hash history s t
one_anchor made hash history s t headers anchor same is are each =
    each history is (are ∙ ap (λ (x : Hash). headers_of x history) (sym same)) ∙ ap (λ (x : Hash). anchor_between x history s t) same

-- the headers of a list have its length
pub headers_within : (hash : Hash) (items : List LogItem) (headers : List Header) → headers ≡ headers_of hash (history_of items) → length headers ≡ length items
headers_within hash items headers are = ap (λ (l : List Header). length l) are ∙ headers-length hash (history_of items) ∙ history_length items

-- a transaction that was read of a list's history
pub transaction_read : (items : List LogItem) (txs : List Transaction) (n : ℕ) (tx : Transaction) → txs ≡ history_of items → 1 ≤ n → n ≤ length items
    → tx ≡ get_or txs (n - 1) tx → tx ≡ transaction_of (history_of items) n
transaction_read items txs n tx same some within is =
    is ∙ ap (λ (l : List Transaction). get_or l (n - 1) tx) same
    ∙ get_or_default (history_of items) (n - 1) tx no_transaction (omega (arith, some, within, history_length items))

-- an element by its place
get_is : (xs : List Transaction) (k : ℕ) (x d : Transaction) → slice_get xs k ≡ Some x → get_or xs k d ≡ x
get_is [] k x d is = absurd cc
get_is (y ∷ xs) zero x d is = cc (is)
get_is (y ∷ xs) (suc k) x d is = get_is xs k x d is

-- a transaction of a front part
pub transaction_front : (xs ys : List LogItem) (n : ℕ) → IsPrefix xs ys → 1 ≤ n → n ≤ length xs → transaction_of (history_of ys) n ≡ transaction_of (history_of xs) n
transaction_front xs ys n begins some within =
    let x : Transaction = transaction_of (history_of xs) n in
    let here : slice_get (history_of xs) (n - 1) ≡ Some x = get_here (history_of xs) (n - 1) no_transaction (omega (arith, some, within, history_length xs)) in
    get_is (history_of ys) (n - 1) x no_transaction (get_front (history_of xs) (history_of ys) (n - 1) x (history_front xs ys begins) here)

-- what was loaded before a step is durable behind it
pub durable_on : (old mid new : KnownPass) (s t : ℕ) → AreLoaded old mid s t → HasStepped 0 mid new → new.view.looks.durable ≡ mid.view.looks.durable
    → t ≤ length new.view.seen → AreDurable old new s t
durable_on old mid new s t loaded step same seen = record {
  durable = loaded.durable;
  saw = saw_durable_on old old mid new loaded.durable (follows_self old) loaded.saw step.later same;
  some = loaded.some;
  order = loaded.order;
  within = loaded.within;
  seen = seen;
}

pub known_durable : (old mid : KnownPass) (s t : ℕ) → AreLoaded old mid s t → t ≤ mid.view.least.durable
known_durable old mid s t loaded = omega (arith, loaded.within, loaded.saw.known)

-- a refusal of two numbers, as one of an entry
pub entry_explained : (old new : KnownPass) (number index state : ℕ) (error : ProveError) → ExplainsProve old new number state error
    → ExplainsEntry old new number index state (item_error error)
entry_explained old new number index state (proves.Order s t) e = e
entry_explained old new number index state (proves.Beyond durable) e = e
entry_explained old new number index state proves.Memory e = tt

-- The calls of a store as steps of the machine.
use Rattle.std.proofs.Common.{◌≡◌, ◌≤◌, ◌<◌, ◌+◌, ◌-◌, ◌++◌, ◌∷◌, [], ◌∙◌, ℕ, zero, suc, ℤ, List, Option, None, Some, length, map, take, slice_get, get_or, replicate, max, true, refl, ap, sym, subst, arith, inl, Bool, if◌then◌else◌}
use Rattle.std.proofs.lemmas.Bool.{eq-eqb}
use Rattle.std.proofs.lemmas.List.{get_or-take, length-take-le, take-map, take_more}
use Rattle.std.specs.Prelude.{slice_index_or}
use Rattle.im_digest.specs.Digests.{Hash}
use Rattle.im_dual.proofs.FrontLemmas.{front-anchor, front-between}
use Rattle.im_format.proofs.HeldRecords.{tx_of}
use Rattle.im_machine.specs.Answers.{IsShown}
use Rattle.im_machine.specs.Machines.{raised, Machine}
use Rattle.im_machine.specs.Runs.{Run}
use Rattle.im_machine.specs.Steps.{Places}
use Rattle.im_machine.specs.declared.events.Event.TheVariants as on
use Rattle.im_machine.specs.declared.outputs.Output.TheVariants as tells
use Rattle.im_machine.specs.declared.questions.KeyQuestion.{KeyQuestion}
use Rattle.im_machine.specs.declared.questions.ProofQuestion.TheVariants as asks
use Rattle.im_machine.specs.declared.words.Word.TheVariants.{Failed, Indexed, Placed}
use Rattle.im_model.specs.Entries.{entry_digest}
use Rattle.im_model.specs.History.{header_of, no_transaction, transaction_of, IsHistory}
use Rattle.im_model.specs.declared.entries.Entry.{Entry}
use Rattle.im_model.specs.declared.transactions.Transaction.{Transaction}
use Rattle.im_model.proofs.HeaderLemmas.{header-prefix}
use Rattle.im_proof.specs.Between.{anchor_between, dual_between, no_entry}
use Rattle.im_proof.specs.Built.{path_of}
use Rattle.im_proof.specs.declared.proofs.DualProof.{DualProof}
use Rattle.im_table.specs.Histories.{history_of}
use Rattle.im_table.specs.Known.{KnownPass}
use Rattle.im_table.specs.declared.items.LogItem.{LogItem}
use Rattle.im_table.proofs.HistoryLemmas.{history_length}
use Rattle.im_tx.specs.Asked.{Asked}
use Rattle.im_versions.specs.Admits.{place_refusal}
use Rattle.im_versions.specs.declared.refusals.PlaceError.{PlaceError}
use Rattle.im_versions.specs.declared.versions.Version.{Version}
use Rattle.im_store.specs.Commits.{HasPlaced, IsRefusedAt}
use Rattle.im_store_laws.specs.Events.{AreIndexSteps, AreLinkSteps, IsAckStep, IsLoadStep, IsLookStep, IsPlaceStep, IsProveStep, IsRefusalStep, IsSnapStep}
use Rattle.im_store.specs.Loads.{SawDurable}
use Rattle.im_store.specs.Proving.{ProvesEntry}
use Rattle.im_store.specs.declared.answers.ProvedEntry.{ProvedEntry}

-- the transaction of an item
got : (xs : List LogItem) (k : ℕ) (x : LogItem) (d : Transaction) → slice_get xs k ≡ Some x → get_or (history_of xs) k d ≡ x.tx
got [] k x d is = absurd cc
got (y ∷ xs) zero x d is = cc (is)
got (y ∷ xs) (suc k) x d is = got xs k x d is

-- the history of the first items
front_history : (xs : List LogItem) (k : ℕ) → take k (history_of xs) ≡ history_of (take k xs)
front_history xs k = take-map (λ (x : LogItem). x.tx) k xs

pub place_event : (hash : Hash) (time : Option ℤ) (asked : Asked) (old new : KnownPass) (n : ℕ) → HasPlaced time asked old new n
    → IsPlaceStep hash (history_of new.view.seen) asked n
place_event hash time asked old new n p m session up placed linked =
    let h : List Transaction = history_of new.view.seen in
    let t : Transaction = transaction_of h n in
    let some : 1 ≤ n = omega (arith, p.above) in
    let within : n ≤ length h = omega (arith, p.within, history_length new.view.seen) in
    let is : t ≡ p.at.item.tx = got new.view.seen (n - 1) p.at.item no_transaction p.at.item_is in
    let entries : asked.entries ≡ t.entries = sym (ap (λ (x : Transaction). x.entries) is ∙ p.at.entries_are) in
    let tx : Transaction = tx_of t.ts asked.entries m.linked in
    let same : tx ≡ t = ap (λ (es : List Entry). tx_of t.ts es m.linked) entries ∙ ap (λ (b : ℕ). tx_of t.ts t.entries b) linked in
    let last : n - 1 + 1 ≡ n = omega (arith, some) in
    let below : n - 1 < length h = omega (arith, some, within) in
    let grown : m.placed ++ tx ∷ [] ≡ take n h =
    ap (λ (l : List Transaction). l ++ tx ∷ []) placed ∙ ap (λ (x : Transaction). take (n - 1) h ++ x ∷ []) same
    ∙ sym (take_more h (n - 1) no_transaction below) ∙ ap (λ (k : ℕ). take k h) last in
    let number : length m.placed + 1 ≡ n =
    ap (λ (l : List Transaction). length l + 1) placed ∙ ap (λ (k : ℕ). k + 1) (length-take-le (n - 1) h (omega (arith, below))) ∙ last in
    let header : header_of hash (m.placed ++ tx ∷ []) (length m.placed + 1) ≡ header_of hash h n =
    ap (λ (l : List Transaction). header_of hash l (length m.placed + 1)) grown ∙ ap (λ (k : ℕ). header_of hash (take n h) k) number
    ∙ header-prefix hash h n n some (omega arith) within in
    let none : place_refusal m.placed asked.pres ≡ None =
    ap (λ (l : List Transaction). place_refusal l asked.pres) (placed ∙ front_history new.view.seen (n - 1)) ∙ p.at.admitted in
    let next : Machine = record m { placed = take n h } in
    inl (
      up,
      subst (λ (o : Option PlaceError). Places hash m tx o (tells.Placed (header_of hash h n)) next) (sym none)
          (ap tells.Placed (sym header), ap (λ (l : List Transaction). record m { placed = l }) (sym grown)),
    )

pub refusal_event : (hash : Hash) (asked : Asked) (old new : KnownPass) (why : PlaceError) (at : ℕ) → IsRefusedAt asked old new why at
    → IsRefusalStep hash (history_of new.view.seen) asked why at
refusal_event hash asked old new why at r m session ts up placed =
    let h : List Transaction = history_of new.view.seen in
    let tx : Transaction = tx_of ts asked.entries m.linked in
    let within : at ≤ length h = omega (arith, r.within, history_length new.view.seen) in
    let count : at ≡ length m.placed = sym (ap (λ (l : List Transaction). length l) placed ∙ length-take-le at h within) in
    let some : place_refusal m.placed asked.pres ≡ Some why =
    ap (λ (l : List Transaction). place_refusal l asked.pres) (placed ∙ front_history new.view.seen at) ∙ r.refused in
    inl (up, subst (λ (o : Option PlaceError). Places hash m tx o (tells.Refused why at) m) (sym some) (ap (tells.Refused why) count, refl))

-- the header of the last of the first transactions that a machine holds
first_header : (hash : Hash) (history placed : List Transaction) (n : ℕ) → 1 ≤ n → n ≤ length history → take n placed ≡ take n history
    → header_of hash history n ≡ header_of hash (take n placed) n
first_header hash history placed n some within first =
    sym (ap (λ (l : List Transaction). header_of hash l n) first ∙ header-prefix hash history n n some (omega arith) within)

pub ack_event : (hash : Hash) (history : List Transaction) (n : ℕ) → 1 ≤ n → n ≤ length history → IsAckStep hash history n
ack_event hash history n some within m session shows durable =
    inl (
      (shows.up, record { some = some; order = omega arith; within = durable }),
      (ap tells.Header (first_header hash history m.placed n some within shows.first), refl),
    )

pub header_event : (hash : Hash) (history : List Transaction) (k : ℕ) → 1 ≤ k → k ≤ length history
    → IsProveStep hash history k (asks.Header k) (tells.Header (header_of hash history k))
header_event hash history k some within m session shows durable =
    inl (
      (shows.up, record { some = some; order = omega arith; within = durable }),
      (ap tells.Header (first_header hash history m.placed k some within shows.first), refl),
    )

-- a dual proof of the first transactions that a machine holds
first_dual : (hash : Hash) (history placed : List Transaction) (s t : ℕ) → IsHistory history → 1 ≤ s → s ≤ t → t ≤ length history → take t placed ≡ take t history
    → dual_between hash history s t ≡ dual_between hash (take t placed) s t
first_dual hash history placed s t h some order within first =
    sym (ap (λ (l : List Transaction). dual_between hash l s t) first ∙ front-between hash history s t t h some order (omega arith) within)

first_anchor : (hash : Hash) (history placed : List Transaction) (s t : ℕ) → IsHistory history → 1 ≤ s → s ≤ t → t ≤ length history → take t placed ≡ take t history
    → anchor_between hash history s t ≡ anchor_between hash (take t placed) s t
first_anchor hash history placed s t h some order within first =
    sym (ap (λ (l : List Transaction). anchor_between hash l s t) first ∙ front-anchor hash history s t t h some order (omega arith) within)

pub dual_event : (hash : Hash) (history : List Transaction) (s t : ℕ) → IsHistory history → 1 ≤ s → s ≤ t → t ≤ length history
    → IsProveStep hash history t (asks.Dual s t) (tells.Dual (dual_between hash history s t))
dual_event hash history s t h some order within m session shows durable =
    inl (
      (shows.up, record { some = some; order = order; within = durable }),
      (ap tells.Dual (first_dual hash history m.placed s t h some order within shows.first), refl),
    )

pub advance_event : (hash : Hash) (history : List Transaction) (s t : ℕ) → IsHistory history → 1 ≤ s → s ≤ t → t ≤ length history
    → IsProveStep hash history t (asks.Advance s t) (tells.Advance (dual_between hash history s t) (anchor_between hash history s t))
advance_event hash history s t h some order within m session shows durable =
    let dual = first_dual hash history m.placed s t h some order within shows.first in
    let anchor = first_anchor hash history m.placed s t h some order within shows.first in
    inl (
      (shows.up, record { some = some; order = order; within = durable }),
      (
        ap (λ (d : DualProof). tells.Advance d (anchor_between hash history s t)) dual
            ∙ ap (λ (a : Option DualProof). tells.Advance (dual_between hash (take t m.placed) s t) a) anchor,
        refl,
      ),
    )

-- a transaction among the first that a machine holds
first_transaction : (history placed : List Transaction) (k n : ℕ) → 1 ≤ k → k ≤ n → take n placed ≡ take n history → transaction_of placed k ≡ transaction_of history k
first_transaction history placed k n some order first =
    let below : k - 1 < n = omega (arith, some, order) in
    sym (get_or-take n placed (k - 1) no_transaction below) ∙ ap (λ (l : List Transaction). get_or l (k - 1) no_transaction) first
    ∙ get_or-take n history (k - 1) no_transaction below

pub item_event : (hash : Hash) (history : List Transaction) (number index state : ℕ) (item : ProvedEntry) → IsHistory history → 1 ≤ number → number ≤ state → state ≤ length history
    → index < length (transaction_of history number).entries → ProvesEntry hash history number index state item
    → IsProveStep hash history state (asks.Item number index state) (tells.Item item.dual item.entry item.path)
item_event hash history number index state item h some order within few proves m session shows durable =
    let same : transaction_of history number ≡ transaction_of m.placed number = sym (first_transaction history m.placed number state some order shows.first) in
    let dual : DualProof = dual_between hash (take state m.placed) number state in
    let entry : Entry = slice_index_or (transaction_of m.placed number).entries index no_entry in
    let dual_is : item.dual ≡ dual = proves.dual_is ∙ first_dual hash history m.placed number state h some order within shows.first in
    let entry_is : item.entry ≡ entry = proves.entry_is ∙ ap (λ (t : Transaction). slice_index_or t.entries index no_entry) same in
    let path_is = proves.path_is ∙ ap (λ (t : Transaction). path_of hash (map (entry_digest hash) t.entries) index) same in
    inl (
      (shows.up, (record { some = some; order = order; within = durable }, subst (λ (t : Transaction). index < length t.entries) same few)),
      (
        ap (λ (d : DualProof). tells.Item d item.entry item.path) dual_is ∙ ap (λ (e : Entry). tells.Item dual e item.path) entry_is
            ∙ ap (λ (p : List (List ℕ)). tells.Item dual entry p) path_is,
        refl,
      ),
    )

pub snap_event : (hash : Hash) (history : List Transaction) (n : ℕ) (question : KeyQuestion) (versions : List Version) → IsSnapStep hash history n question versions
snap_event hash history n question versions m session shows indexed shown =
    inl (
      (shows.up, indexed),
      ((versions, refl, subst (λ (l : List Transaction). IsShown l question versions) (sym shows.first) shown), refl),
    )

-- a leaf more, and again
links_run : (hash : Hash) (k : ℕ) (m : Machine) (after : ℕ) → m.up ≡ true → m.linked + k ≡ after → after ≤ m.durable
    → Run hash m (replicate k on.Link) (replicate k tells.Done) (record m { linked = after })
links_run hash zero m after up is durable = ap (λ (n : ℕ). record m { linked = n }) (omega (arith, is))
links_run hash (suc k) m after up is durable =
    let next : Machine = record m { linked = m.linked + 1 } in
    (next, inl ((up, omega (arith, is, durable)), (refl, refl)), links_run hash k next after up (omega (arith, is)) durable)

pub links_event : (hash : Hash) (before after : ℕ) → before ≤ after → AreLinkSteps hash before after
links_event hash before after le m up linked durable = links_run hash (after - before) m after up (omega (arith, linked, le)) durable

indexes_run : (hash : Hash) (k : ℕ) (m : Machine) (after : ℕ) → m.up ≡ true → m.indexed + k ≡ after → after ≤ m.durable
    → Run hash m (replicate k on.Index) (replicate k tells.Done) (record m { indexed = after })
indexes_run hash zero m after up is durable = ap (λ (n : ℕ). record m { indexed = n }) (omega (arith, is))
indexes_run hash (suc k) m after up is durable =
    let next : Machine = record m { indexed = m.indexed + 1 } in
    (next, inl ((up, omega (arith, is, durable)), (refl, refl)), indexes_run hash k next after up (omega (arith, is)) durable)

pub indexes_event : (hash : Hash) (before after : ℕ) → before ≤ after → AreIndexSteps hash before after
indexes_event hash before after le m up indexed durable = indexes_run hash (after - before) m after up (omega (arith, indexed, le)) durable

-- what a session is told is all that it was told, where it was told no more before
raised_to : (sessions : ℕ → ℕ) (session n : ℕ) → sessions session ≤ n → raised sessions session n session ≡ n
raised_to sessions session n le =
    let most : max (sessions session) n ≡ n = omega (arith, le) in
    ap (λ (b : Bool). if b then max (sessions session) n else sessions session) (eq-eqb session session refl) ∙ most

pub load_event : (hash : Hash) (old new : KnownPass) (number : ℕ) → SawDurable old new number → IsLoadStep hash old.view.least.durable number new.view.least.durable
load_event hash old new number saw m session up durable told =
    let next : ℕ → Machine = λ n. record m { sessions = raised m.sessions session n } in (
      inl (up, (ap tells.Word (sym durable), ap next (sym durable))),
      raised_to m.sessions session number (omega (arith, told, saw.least)),
      saw.known,
    )

pub look_placed : (hash : Hash) (number : ℕ) → IsLookStep hash Placed number
look_placed hash number m session up is = inl (up, (ap tells.Word (sym is), refl))

pub look_indexed : (hash : Hash) (number : ℕ) → IsLookStep hash Indexed number
look_indexed hash number m session up is = inl (up, (ap tells.Word (sym is), refl))

pub look_failed : (hash : Hash) (number : ℕ) → IsLookStep hash Failed number
look_failed hash number m session up is = inl (up, (ap tells.Word (sym is), refl))

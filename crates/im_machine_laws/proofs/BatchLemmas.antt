-- There are records for each next batch, and they are the only ones.
use Rattle.std.proofs.Common.{◌≡◌, ◌≤◌, ◌+◌, ◌*◌, ◌^◌, ◌++◌, ◌∷◌, ◌∙◌, [], ℕ, List, length, map, take, drop, get_or, All, refl, sym, ap, subst, arith}
use Rattle.std.proofs.lemmas.List.Elements.{All-drop, All-head, All-tail, All-take}
use Rattle.im_digest.specs.Digests.{Hash}
use Rattle.im_format.specs.Places.{log_end, AreAppended, ArePut}
use Rattle.im_format.specs.Records.{AreRecords, AreReferences}
use Rattle.im_format.specs.declared.records.Record.{Record}
use Rattle.im_format.specs.declared.references.ValueRef.{ValueRef}
use Rattle.im_format.proofs.EndLemmas.{log_end_append, log_end_same, references_below}
use Rattle.im_model.specs.History.{alh_of, IsEntry, IsHistory, IsTransaction}
use Rattle.im_model.specs.declared.entries.Entry.{Entry}
use Rattle.im_model.specs.declared.transactions.Transaction.{Transaction}
use Rattle.im_model.proofs.HistoryLemmas.{Follow-at}
use Rattle.im_journal.proofs.Limits.{IsSmall}

-- the references of values that are put at the end of one log
abbrev refs_for : Hash → List Entry → List ValueRef → List ValueRef
refs_for hash [] before = []
refs_for hash (entry ∷ entries) before =
    let ref : ValueRef = record { hval = hash entry.value; len = length entry.value; log = 0; at = log_end 0 before } in
    ref ∷ refs_for hash entries (before ++ ref ∷ [])

-- they follow each other
refs-appended : (hash : Hash) (id i : ℕ) (entries : List Entry) (before : List ValueRef) → AreAppended 1 id i before (refs_for hash entries before)
refs-appended hash id i [] before = tt
refs-appended hash id i (entry ∷ entries) before =
    let ref : ValueRef = record { hval = hash entry.value; len = length entry.value; log = 0; at = log_end 0 before } in
    (omega arith, refl, refs-appended hash id (i + 1) entries (before ++ ref ∷ []))

-- and fit the values, where there is room
refs-fit : (hash : Hash) (id : ℕ) (entries : List Entry) (before : List ValueRef) → All IsEntry entries → log_end 0 before + 4096 * length entries ≤ id * 2 ^ 22
    → AreReferences hash id entries (refs_for hash entries before)
refs-fit hash id [] before each room = tt
refs-fit hash id (entry ∷ entries) before each room =
    let ref : ValueRef = record { hval = hash entry.value; len = length entry.value; log = 0; at = log_end 0 before } in
    let short : length entry.value ≤ 4096 = (All-head IsEntry entry entries each).value_short in
    let end : log_end 0 (before ++ ref ∷ []) ≡ log_end 0 before + length entry.value = log_end_same 0 before ref refl (omega arith) in (
      record { hval = refl; len = refl; log = omega arith; room = omega (arith, room, short) },
      refs-fit hash id entries (before ++ ref ∷ []) (All-tail IsEntry entry entries each) (omega (arith, room, short, end)),
    )

all-small : (history : List Transaction) → IsHistory history → All IsSmall history
all-small history is = λ i d less.
    let tx : IsTransaction (0 + i) (get_or history i d) = Follow-at 0 0 history i d is.follow less in
    record { few = tx.few; entries = tx.entries }

-- records of transactions, behind others with these references
abbrev records_for : Hash → List Transaction → ℕ → List Transaction → List ValueRef → List Record
records_for hash placed id [] before = []
records_for hash placed id (tx ∷ txs) before =
    let refs : List ValueRef = refs_for hash tx.entries before in
    record { tx = tx; refs = refs; alh = alh_of hash placed id } ∷ records_for hash placed (id + 1) txs (before ++ refs)

records-txs : (hash : Hash) (placed : List Transaction) (id : ℕ) (txs : List Transaction) (before : List ValueRef) → map (λ r. r.tx) (records_for hash placed id txs before) ≡ txs
records-txs hash placed id [] before = refl
records-txs hash placed id (tx ∷ txs) before = ap (λ (l : List Transaction). tx ∷ l) (records-txs hash placed (id + 1) txs (before ++ refs_for hash tx.entries before))

records-put : (hash : Hash) (placed : List Transaction) (id : ℕ) (txs : List Transaction) (before : List ValueRef) → ArePut 1 id before (records_for hash placed id txs before)
records-put hash placed id [] before = tt
records-put hash placed id (tx ∷ txs) before =
    (refs-appended hash id 0 tx.entries before, records-put hash placed (id + 1) txs (before ++ refs_for hash tx.entries before))

records-fit : (hash : Hash) (placed : List Transaction) (id : ℕ) (txs : List Transaction) (before : List ValueRef) → All IsSmall txs → log_end 0 before ≤ id * 2 ^ 22
    → AreRecords hash placed (id + 1) (records_for hash placed (id + 1) txs before)
records-fit hash placed id [] before each room = tt
records-fit hash placed id (tx ∷ txs) before each room =
    let small : IsSmall tx = All-head IsSmall tx txs each in
    let few : length tx.entries ≤ 1024 = small.few in
    let refs : List ValueRef = refs_for hash tx.entries before in
    let fit : AreReferences hash (id + 1) tx.entries refs = refs-fit hash (id + 1) tx.entries before small.entries (omega (arith, room, few)) in
    let behind : log_end 0 refs ≤ (id + 1) * 2 ^ 22 = references_below hash (id + 1) 0 tx.entries refs fit in (
      record { refs = fit; alh = refl },
      records-fit hash placed (id + 1) txs (before ++ refs) (All-tail IsSmall tx txs each) (omega (arith, room, behind, log_end_append 0 before refs)),
    )

-- the records of the next transactions of a history
pub record HasRecords (hash : Hash) (placed txs : List Transaction) (durable : ℕ) (before : List ValueRef) : Type 0 where
  pub rs : List Record
  pub transactions_are : map (λ r. r.tx) rs ≡ txs
  pub records_are : AreRecords hash placed (durable + 1) rs
  pub put : ArePut 1 (durable + 1) before rs

pub records-there : (hash : Hash) (placed : List Transaction) (durable count : ℕ) (before : List ValueRef) → IsHistory placed → log_end 0 before ≤ durable * 2 ^ 22
    → HasRecords hash placed (take count (drop durable placed)) durable before
records-there hash placed durable count before is room =
    let txs : List Transaction = take count (drop durable placed) in
    let small : All IsSmall txs = All-take IsSmall count (drop durable placed) (All-drop IsSmall durable placed (all-small placed is)) in
    record {
      rs = records_for hash placed (durable + 1) txs before;
      transactions_are = records-txs hash placed (durable + 1) txs before;
      records_are = records-fit hash placed durable txs before small room;
      put = records-put hash placed (durable + 1) txs before;
    }

-- two references of one value at one place
same-ref : (a b : ValueRef) → a.hval ≡ b.hval → a.len ≡ b.len → a.log ≡ b.log → a.at ≡ b.at → a ≡ b
same-ref a b hval len log at =
    let one : List ℕ → ValueRef = λ h. record { hval = h; len = a.len; log = a.log; at = a.at } in
    let two : ℕ → ValueRef = λ n. record { hval = b.hval; len = n; log = a.log; at = a.at } in
    let three : ℕ → ValueRef = λ n. record { hval = b.hval; len = b.len; log = n; at = a.at } in
    let four : ℕ → ValueRef = λ n. record { hval = b.hval; len = b.len; log = b.log; at = n } in
    ap one hval ∙ ap two len ∙ ap three log ∙ ap four at

refs-once : (hash : Hash) (w id i k : ℕ) (before : List ValueRef) (entries : List Entry) (a b : List ValueRef) → AreReferences hash k entries a → AreReferences hash k entries b
    → AreAppended w id i before a → AreAppended w id i before b → a ≡ b
refs-once hash w id i k before [] [] [] fit_a fit_b put_a put_b = refl
refs-once hash w id i k before [] [] (y ∷ b) fit_a fit_b put_a put_b = absurd fit_b
refs-once hash w id i k before [] (x ∷ a) b fit_a fit_b put_a put_b = absurd fit_a
refs-once hash w id i k before (e ∷ entries) [] b fit_a fit_b put_a put_b = absurd fit_a
refs-once hash w id i k before (e ∷ entries) (x ∷ a) [] fit_a fit_b put_a put_b = absurd fit_b
refs-once hash w id i k before (e ∷ entries) (x ∷ a) (y ∷ b) fit_a fit_b put_a put_b =
    let log : x.log ≡ y.log = put_a.0 ∙ sym put_b.0 in
    let at : x.at ≡ y.at = put_a.1 ∙ ap (λ (n : ℕ). log_end n before) log ∙ sym put_b.1 in
    let first : x ≡ y = same-ref x y (fit_a.0.hval ∙ sym fit_b.0.hval) (fit_a.0.len ∙ sym fit_b.0.len) log at in
    let put_same : AreAppended w id (i + 1) (before ++ x ∷ []) b = subst (λ (r : ValueRef). AreAppended w id (i + 1) (before ++ r ∷ []) b) (sym first) put_b.2 in
    ap (λ (r : ValueRef). r ∷ a) first ∙ ap (λ (l : List ValueRef). y ∷ l) (refs-once hash w id (i + 1) k (before ++ x ∷ []) entries a b fit_a.1 fit_b.1 put_a.2 put_same)

-- two records of one transaction
same-record : (a b : Record) → a.tx ≡ b.tx → a.refs ≡ b.refs → a.alh ≡ b.alh → a ≡ b
same-record a b tx refs alh =
    let one : Transaction → Record = λ t. record { tx = t; refs = a.refs; alh = a.alh } in
    let two : List ValueRef → Record = λ l. record { tx = b.tx; refs = l; alh = a.alh } in
    let three : List ℕ → Record = λ d. record { tx = b.tx; refs = b.refs; alh = d } in
    ap one tx ∙ ap two refs ∙ ap three alh

pub records-once : (hash : Hash) (placed : List Transaction) (w id : ℕ) (before : List ValueRef) (a b : List Record) → map (λ r. r.tx) a ≡ map (λ r. r.tx) b
    → AreRecords hash placed id a → AreRecords hash placed id b → ArePut w id before a → ArePut w id before b → a ≡ b
records-once hash placed w id before [] [] txs fit_a fit_b put_a put_b = refl
records-once hash placed w id before [] (y ∷ b) txs fit_a fit_b put_a put_b = absurd (omega (arith, ap (λ (l : List Transaction). length l) txs))
records-once hash placed w id before (x ∷ a) [] txs fit_a fit_b put_a put_b = absurd (omega (arith, ap (λ (l : List Transaction). length l) txs))
records-once hash placed w id before (x ∷ a) (y ∷ b) txs fit_a fit_b put_a put_b =
    let tx : x.tx ≡ y.tx = cc in
    let rest : map (λ r. r.tx) a ≡ map (λ r. r.tx) b = cc in
    let fit_y : AreReferences hash id x.tx.entries y.refs = subst (λ (t : Transaction). AreReferences hash id t.entries y.refs) (sym tx) fit_b.0.refs in
    let refs : x.refs ≡ y.refs = refs-once hash w id 0 id before x.tx.entries x.refs y.refs fit_a.0.refs fit_y put_a.0 put_b.0 in
    let first : x ≡ y = same-record x y tx refs (fit_a.0.alh ∙ sym fit_b.0.alh) in
    let put_same : ArePut w (id + 1) (before ++ x.refs) b = subst (λ (l : List ValueRef). ArePut w (id + 1) (before ++ l) b) (sym refs) put_b.1 in
    ap (λ (r : Record). r ∷ a) first ∙ ap (λ (l : List Record). y ∷ l) (records-once hash placed w (id + 1) (before ++ x.refs) a b rest fit_a.1 fit_b.1 put_a.1 put_same)

-- The limits of a history keep the ends of the files small.
use Rattle.std.proofs.Common.{◌≡◌, ℕ, suc, zero, ◌+◌, ◌*◌, ◌^◌, ◌≤◌, ◌<◌, List, [], ◌∷◌, ◌++◌, length, map, drop, refl, sym, ◌∙◌, ap, subst, arith, length-append, length-take, get_or, eq-eqb, ne_eqb, ◌-◌, if◌then◌else◌}
use Rattle.std.proofs.lemmas.List.Elements.{All-nil, All-cons, All-head, All-tail, All-take, All-drop, All-push}
use Rattle.std.proofs.lemmas.List.{length-map}
use Rattle.std.specs.Prelude.{All}
use Rattle.im_digest.specs.Digests.{Hash}
use Rattle.im_model.specs.History.{Follow, IsEntry, IsHistory}
use Rattle.im_model.specs.History.{alh_of, alhs_from, alhs_of, first_alh, next_header}
use Rattle.im_model.specs.Headers.{alh, alh_string}
use Rattle.im_model.specs.declared.entries.Entry.{Entry}
use Rattle.im_model.specs.declared.transactions.Transaction.{Transaction}
use Rattle.im_disk.proofs.Tearing.{decide_same}
use Rattle.im_format.specs.Batches.{joined}
use Rattle.im_format.specs.Places.{log_end, refs_of}
use Rattle.im_format.specs.Records.{AreRecords, AreReferences, entries_octets, entry_octets, record_octets, records_octets}
use Rattle.im_format.specs.declared.records.Record.{Record}
use Rattle.im_format.specs.declared.references.ValueRef.{ValueRef}
use Rattle.im_journal.specs.Holding.{AreFirst, AreNext, ends_of}
use Rattle.im_record.specs.Writing.{IsWhole}
use Rattle.im_journal.specs.Pieces.{end_of}
use Rattle.im_journal.specs.declared.ends.Ends.{Ends}
use Rattle.im_journal.proofs.Placing.{ends_in, records_in}
use Rattle.im_format.proofs.LengthLemmas.{length-attributes, length-entry, length-record}

-- the entries of a transaction within the limits
pub record IsSmall (tx : Transaction) : Type 0 where
  pub few : length tx.entries ≤ 1024
  pub entries : All IsEntry tx.entries

follow_small : (n bl : ℕ) (txs : List Transaction) → Follow n bl txs → All IsSmall txs
follow_small n bl [] f = All-nil IsSmall
follow_small n bl (tx ∷ txs) f = All-cons IsSmall tx txs (record { few = f.0.few; entries = f.0.entries }) (follow_small (n + 1) tx.bl txs f.2)

small_of : (rs : List Record) → All IsSmall (map (λ r. r.tx) rs) → All (λ r. IsSmall r.tx) rs
small_of [] all = All-nil (λ r. IsSmall r.tx)
small_of (r ∷ rs) all =
    All-cons (λ r. IsSmall r.tx) r rs (All-head IsSmall r.tx (map (λ r. r.tx) rs) all) (small_of rs (All-tail IsSmall r.tx (map (λ r. r.tx) rs) all))

pub first_small : (hash : Hash) (history : List Transaction) (batches : List (List Record)) (durable : ℕ) (ends : Ends) → AreFirst hash history batches durable ends
    → All (λ r. IsSmall r.tx) (joined batches)
first_small hash history batches durable ends first =
    small_of (joined batches) (subst (All IsSmall) (sym first.transactions_are) (All-take IsSmall durable history (follow_small 0 0 history first.history_is.follow)))

pub next_small : (hash : Hash) (history : List Transaction) (batches : List (List Record)) (durable : ℕ) (rs : List Record) → IsHistory history → AreNext hash history batches durable rs
    → All (λ r. IsSmall r.tx) rs
next_small hash history batches durable rs h next =
    small_of rs (subst (All IsSmall) (sym next.transactions_are) (All-take IsSmall (length rs) (drop durable history) (All-drop IsSmall durable history (follow_small 0 0 history h.follow))))

same_number : (hash : Hash) (id : ℕ) (entries : List Entry) (refs : List ValueRef) → AreReferences hash id entries refs → length refs ≡ length entries
same_number hash id [] [] are = refl
same_number hash id [] (ref ∷ refs) are = absurd are
same_number hash id (entry ∷ entries) [] are = absurd are
same_number hash id (entry ∷ entries) (ref ∷ refs) are = ap suc (same_number hash id entries refs are.1)

-- records of a history have a reference for each entry
pub all_whole : (hash : Hash) (history : List Transaction) (id : ℕ) (rs : List Record) → AreRecords hash history id rs → All (λ r. IsSmall r.tx) rs → All IsWhole rs
all_whole hash history id [] are small = All-nil IsWhole
all_whole hash history id (r ∷ rs) are small =
    let head = All-head (λ r. IsSmall r.tx) r rs small in
    All-cons IsWhole r rs (record { refs = same_number hash id r.tx.entries r.refs are.0.refs; few = omega (arith, head.few) })
    (all_whole hash history (id + 1) rs are.1 (All-tail (λ r. IsSmall r.tx) r rs small))

entries_short : (hash : Hash) (id : ℕ) (entries : List Entry) (refs : List ValueRef) → ((octets : List ℕ) → length (hash octets) ≡ 32) → AreReferences hash id entries refs → All IsEntry entries
    → length (entries_octets entries refs) ≤ 1100 * length entries
entries_short hash id [] [] digests are all = omega arith
entries_short hash id [] (ref ∷ refs) digests are all = absurd are
entries_short hash id (entry ∷ entries) [] digests are all = absurd are
entries_short hash id (entry ∷ entries) (ref ∷ refs) digests are all =
    let head = All-head IsEntry entry entries all in
    let md : length entry.md ≤ 2 = omega (arith, ap length head.md, length-attributes head.deleted head.non_indexable) in
    let hval : length ref.hval ≡ 32 = ap length are.0.hval ∙ digests entry.value in
    omega (arith, length-entry entry ref hval, md, head.key_short, hval, length-append (entry_octets entry ref) (entries_octets entries refs), entries_short hash id entries refs digests are.1 (All-tail IsEntry entry entries all))

all_short : (hash : Hash) (alhs : List (List ℕ)) (txs : List Transaction) → ((octets : List ℕ) → length (hash octets) ≡ 32) → All (λ (x : List ℕ). length x ≤ 32) alhs
    → All (λ (x : List ℕ). length x ≤ 32) (alhs_from hash alhs txs)
all_short hash alhs [] digests all = all
all_short hash alhs (tx ∷ txs) digests all =
    let P : List ℕ → Type 0 = λ x. length x ≤ 32 in
    let x = alh hash (next_header hash alhs tx) in
    all_short hash (alhs ++ x ∷ []) txs digests (All-push P alhs x all (omega (arith, digests (alh_string hash (next_header hash alhs tx)))))

get_short : (xs : List (List ℕ)) (i : ℕ) → All (λ (x : List ℕ). length x ≤ 32) xs → length (get_or xs i []) ≤ 32
get_short [] i all = omega arith
get_short (x ∷ xs) zero all = All-head (λ (x : List ℕ). length x ≤ 32) x xs all
get_short (x ∷ xs) (suc i) all = get_short xs i (All-tail (λ (x : List ℕ). length x ≤ 32) x xs all)

alh_short : (hash : Hash) (history : List Transaction) (k : ℕ) → ((octets : List ℕ) → length (hash octets) ≡ 32) → length (alh_of hash history k) ≤ 32
alh_short hash history k digests = decide_same k 0
    (λ none. subst (λ t. length (if t then first_alh hash else get_or (alhs_of hash history) (k - 1) []) ≤ 32) (sym (eq-eqb k 0 none)) (omega (arith, digests [])))
    (λ some. subst (λ t. length (if t then first_alh hash else get_or (alhs_of hash history) (k - 1) []) ≤ 32) (sym (ne_eqb k 0 some)) (get_short (alhs_of hash history) (k - 1) (all_short hash [] history digests (All-nil (λ (x : List ℕ). length x ≤ 32)))))

-- the records of a history are at most so long
pub records_short : (hash : Hash) (history : List Transaction) (id : ℕ) (rs : List Record) → ((octets : List ℕ) → length (hash octets) ≡ 32) → AreRecords hash history id rs → All (λ r. IsSmall r.tx) rs
    → length (records_octets id rs) ≤ 1126460 * length rs
records_short hash history id [] digests are small = omega arith
records_short hash history id (r ∷ rs) digests are small =
    let head = All-head (λ r. IsSmall r.tx) r rs small in
    let alh : length r.alh ≤ 32 = omega (arith, ap length are.0.alh, alh_short hash history id digests) in
    omega (
      arith,
      length-record id r,
      alh,
      head.few,
      entries_short hash id r.tx.entries r.refs digests are.0.refs head.entries,
      length-append (record_octets id r) (records_octets (id + 1) rs),
      records_short hash history (id + 1) rs digests are.1 (All-tail (λ r. IsSmall r.tx) r rs small),
    )

-- batches that aren't empty are at most as many as their records
pub batches_few : (batches : List (List Record)) → All (λ batch. 1 ≤ length batch) batches → length batches ≤ length (joined batches)
batches_few [] all = omega arith
batches_few (batch ∷ batches) all =
    omega (arith, All-head (λ batch. 1 ≤ length batch) batch batches all, length-append batch (joined batches), batches_few batches (All-tail (λ batch. 1 ≤ length batch) batch batches all))

module _ (hash : Hash) (history : List Transaction) (batches : List (List Record)) (durable : ℕ) (ends : Ends) (first : AreFirst hash history batches durable ends) where
  -- the number of the records
  pub first_number : length (joined batches) ≡ durable
  first_number = omega (arith, ap length first.transactions_are, length-map (joined batches) (λ (r : Record). r.tx), length-take durable history, first.placed)

  pub durable_few : durable ≤ 1048576
  durable_few = omega (arith, first.placed, first.history_is.few)

  value_room : (v : ℕ) → log_end v (refs_of (joined batches)) < 2 ^ 61
  value_room v =
      let le = ends_in v (1048576 * 2 ^ 22) (refs_of (joined batches)) (records_in hash history 1 1048576 (joined batches) first.records_are (omega (arith, first_number, durable_few))) in
      omega (arith, le)

  room_of : (k : ℕ) → end_of (ends_of batches) k < 2 ^ 61
  room_of zero = omega (arith, records_short hash history 1 (joined batches) first.digests first.records_are (first_small hash history batches durable ends first), first_number, durable_few)
  room_of (suc zero) = omega (arith, batches_few batches first.filled, first_number, durable_few)
  room_of (suc (suc zero)) = value_room 0
  room_of (suc (suc (suc zero))) = value_room 1
  room_of (suc (suc (suc (suc zero)))) = value_room 2
  room_of (suc (suc (suc (suc (suc zero))))) = value_room 3
  room_of (suc (suc (suc (suc (suc (suc k)))))) = omega arith

  -- no end comes near the greatest number
  pub ends_room : (k : ℕ) → end_of ends k < 2 ^ 61
  ends_room k = subst (λ (e : Ends). end_of e k < 2 ^ 61) (sym first.ends_are) (room_of k)

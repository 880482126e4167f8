-- The front of a history, and records that follow each other.
use Rattle.std.proofs.Common.{◌≡◌, ℕ, suc, zero, ◌+◌, ◌-◌, ◌≤◌, ◌<◌, List, [], ◌∷◌, ◌++◌, length, get_or, take, refl, sym, ◌∙◌, ap, subst, arith, length-append, append_assoc, if◌then◌else◌, ◌==◌}
use Rattle.std.proofs.lemmas.List.{append-nil}
use Rattle.im_digest.specs.Digests.{Hash}
use Rattle.im_model.specs.Headers.{alh}
use Rattle.im_model.specs.History.{alh_of, alhs_from, first_alh, next_header}
use Rattle.im_model.proofs.HeaderLemmas.{alhs_from-first}
use Rattle.im_model.specs.declared.transactions.Transaction.{Transaction}
use Rattle.im_format.specs.Batches.{joined}
use Rattle.im_format.specs.Places.{refs_of, AreAppended, ArePut}
use Rattle.im_format.specs.Records.{AreRecords, record_octets, records_octets}
use Rattle.im_format.specs.declared.records.Record.{Record}
use Rattle.im_format.specs.declared.references.ValueRef.{ValueRef}

-- the Alh of a front part are the same
alhs_front : (hash : Hash) (alhs : List (List ℕ)) (txs : List Transaction) (n i : ℕ) → i < length alhs + n
    → get_or (alhs_from hash alhs (take n txs)) i [] ≡ get_or (alhs_from hash alhs txs) i []
alhs_front hash alhs txs zero i lt = sym (alhs_from-first hash alhs txs i [] (omega (arith, lt)))
alhs_front hash alhs [] (suc n) i lt = refl
alhs_front hash alhs (tx ∷ txs) (suc n) i lt =
    let one : List (List ℕ) = alh hash (next_header hash alhs tx) ∷ [] in
    alhs_front hash (alhs ++ one) txs n i (omega (arith, lt, length-append alhs one))

-- the Alh of number k depends on the first k transactions alone
pub alh_front : (hash : Hash) (history : List Transaction) (n k : ℕ) → 1 ≤ k → k ≤ n → alh_of hash (take n history) k ≡ alh_of hash history k
alh_front hash history n k one le = ap (λ (x : List ℕ). if k == 0 then first_alh hash else x) (alhs_front hash [] history n (k - 1) (omega (arith, one, le)))

-- records of a history are those of its front part that has them
pub records_front : (hash : Hash) (history : List Transaction) (n id : ℕ) (rs : List Record) → 1 ≤ id → id + length rs ≤ n + 1
    → AreRecords hash history id rs → AreRecords hash (take n history) id rs
records_front hash history n id [] one le h = tt
records_front hash history n id (r ∷ rs) one le h = (
  record { refs = h.0.refs; alh = h.0.alh ∙ sym (alh_front hash history n id one (omega (arith, le))) },
  records_front hash history n (id + 1) rs (omega (arith, one)) (omega (arith, le)) h.1,
)

pub records_both : (hash : Hash) (history : List Transaction) (id : ℕ) (a b : List Record) → AreRecords hash history id a → AreRecords hash history (id + length a) b
    → AreRecords hash history id (a ++ b)
records_both hash history id [] b first second = subst (λ (k : ℕ). AreRecords hash history k b) (omega arith) second
records_both hash history id (r ∷ a) b first second = (
  first.0,
  records_both hash history (id + 1) a b first.1 (subst (λ (k : ℕ). AreRecords hash history k b) (omega arith) second),
)

pub octets_more : (id : ℕ) (a b : List Record) → records_octets id (a ++ b) ≡ records_octets id a ++ records_octets (id + length a) b
octets_more id [] b = ap (λ (k : ℕ). records_octets k b) (omega arith)
octets_more id (r ∷ a) b =
    let after : id + 1 + length a ≡ id + suc (length a) = omega arith in
    ap (λ (l : List ℕ). record_octets id r ++ l) (octets_more (id + 1) a b ∙ ap (λ (k : ℕ). records_octets (id + 1) a ++ records_octets k b) after)
    ∙ sym (append_assoc (record_octets id r) (records_octets (id + 1) a) (records_octets (id + suc (length a)) b))

pub refs_more : (a b : List Record) → refs_of (a ++ b) ≡ refs_of a ++ refs_of b
refs_more [] b = refl
refs_more (r ∷ a) b = ap (λ (l : List ValueRef). r.refs ++ l) (refs_more a b) ∙ sym (append_assoc r.refs (refs_of a) (refs_of b))

pub joined_more : (batches : List (List Record)) (batch : List Record) → joined (batches ++ batch ∷ []) ≡ joined batches ++ batch
joined_more [] batch = append-nil batch
joined_more (b ∷ bs) batch = ap (λ (l : List Record). b ++ l) (joined_more bs batch) ∙ sym (append_assoc b (joined bs) batch)

-- the values of one transaction more
pub put_more : (w id : ℕ) (before : List ValueRef) (rs : List Record) (r : Record) → ArePut w id before rs → AreAppended w (id + length rs) 0 (before ++ refs_of rs) r.refs → ArePut w id before (rs ++ r ∷ [])
put_more w id before [] r put last =
    let P : ℕ → Type 0 = λ n. AreAppended w n 0 before r.refs in
    let Q : List ValueRef → Type 0 = λ b. AreAppended w (id + 0) 0 b r.refs in
    let same : id + 0 ≡ id = omega arith in
    (subst P same (subst Q (append-nil before) last), tt)
put_more w id before (x ∷ rs) r put last =
    let P : ℕ → Type 0 = λ n. AreAppended w n 0 ((before ++ x.refs) ++ refs_of rs) r.refs in
    let Q : List ValueRef → Type 0 = λ b. AreAppended w (id + length (x ∷ rs)) 0 b r.refs in
    let same : id + length (x ∷ rs) ≡ id + 1 + length rs = omega arith in
    (put.0, put_more w (id + 1) (before ++ x.refs) rs r put.1 (subst P same (subst Q (sym (append_assoc before x.refs (refs_of rs))) last)))

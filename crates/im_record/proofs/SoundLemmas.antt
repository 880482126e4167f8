-- The records of a history are within the limits of one.
use Rattle.std.proofs.Common.{◌≡◌, ◌≤◌, ◌+◌, ◌-◌, ◌==◌, ℕ, Bool, false, List, [], ◌∷◌, ◌++◌, length, arith, sym, ◌∙◌, ap, subst, zero-add, if◌then◌else◌}
use Rattle.std.specs.Prelude.{All, slice_index_or}
use Rattle.std.proofs.lemmas.Bool.{ne_eqb}
use Rattle.std.proofs.lemmas.List.Elements.{All-push}
use Rattle.im_digest.specs.Digests.{Hash}
use Rattle.im_model.specs.Headers.{alh, alh_string}
use Rattle.im_model.specs.History.{IsHistory, IsTransaction, alh_of, alhs_from, alhs_of, first_alh, next_header, no_transaction, transaction_of}
use Rattle.im_model.specs.declared.transactions.Transaction.{Transaction}
use Rattle.im_model.proofs.HistoryLemmas.{Follow-at, length-alhs_of}
use Rattle.im_format.specs.Records.{IsRecord}
use Rattle.im_format.specs.declared.records.Record.{Record}
use Rattle.im_record.specs.Back.{IsSound}

-- each Alh is a digest
alhs-digests : (hash : Hash) (alhs : List (List ℕ)) (txs : List Transaction) → ((octets : List ℕ) → length (hash octets) ≡ 32)
    → All (λ a. length a ≡ 32) alhs → All (λ a. length a ≡ 32) (alhs_from hash alhs txs)
alhs-digests hash alhs [] sizes all = all
alhs-digests hash alhs (tx ∷ txs) sizes all =
    alhs-digests hash (alhs ++ alh hash (next_header hash alhs tx) ∷ []) txs sizes
    (All-push (λ (a : List ℕ). length a ≡ 32) alhs (alh hash (next_header hash alhs tx)) all (sizes (alh_string hash (next_header hash alhs tx))))

alh-digest : (hash : Hash) (history : List Transaction) (id : ℕ) → ((octets : List ℕ) → length (hash octets) ≡ 32) → 1 ≤ id → id ≤ length history
    → length (alh_of hash history id) ≡ 32
alh-digest hash history id sizes some within =
    let given : (id == 0) ≡ false = ne_eqb id 0 (λ z. omega (arith, z)) in
    ap (λ (b : Bool). length (if b then first_alh hash else slice_index_or (alhs_of hash history) (id - 1) [])) given
    ∙ alhs-digests hash [] history sizes (λ k d h. absurd (omega arith)) (id - 1) [] (omega (arith, length-alhs_of hash history))

-- the record of a transaction of a history
pub history-sound : (hash : Hash) (history : List Transaction) (id : ℕ) (r : Record) → ((octets : List ℕ) → length (hash octets) ≡ 32) → IsHistory history
    → 1 ≤ id → id ≤ length history → r.tx ≡ transaction_of history id → IsRecord hash history id r → IsSound hash id r
history-sound hash history id r sizes h some within same is =
    let before : 0 + (id - 1) ≡ id - 1 = zero-add (id - 1) in
    record {
      first = some;
      few = omega (arith, h.few);
      tx = subst (λ (t : Transaction). IsTransaction (id - 1) t) (sym same)
          (subst (λ (m : ℕ). IsTransaction m (transaction_of history id)) before
          (Follow-at 0 0 history (id - 1) no_transaction h.follow (omega arith)));
      refs = is.refs;
      alh = ap length is.alh ∙ alh-digest hash history id sizes some within;
    }

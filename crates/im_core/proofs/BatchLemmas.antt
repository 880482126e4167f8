-- The records of a batch, made one behind the other.
use Rattle.std.proofs.Common.{◌≡◌, ◌<◌, ◌≤◌, ◌+◌, ◌-◌, ◌∙◌, ℕ, List, [], ◌∷◌, ◌++◌, length, map, take, drop, get_or, sym, ap, subst, arith, append-nil, append_assoc, length-append, length-drop}
use Rattle.std.proofs.lemmas.List.{get_or-drop, map_push, take_more}
use Rattle.im_book.specs.Booked.{Booked, IsBook}
use Rattle.im_core.specs.Staged.{AreBehind}
use Rattle.im_digest.specs.Digests.{Hash}
use Rattle.im_format.specs.Batches.{joined}
use Rattle.im_format.specs.Places.{refs_of, AreAppended, ArePut}
use Rattle.im_format.specs.Records.{AreRecords, IsRecord}
use Rattle.im_format.specs.declared.records.Record.{Record}
use Rattle.im_format.specs.declared.references.ValueRef.{ValueRef}
use Rattle.im_journal.specs.Holding.{AreFirst}
use Rattle.im_journal.specs.declared.ends.Ends.{Ends}
use Rattle.im_journal.proofs.Prefixes.{put_more, records_both, refs_more}
use Rattle.im_journal.proofs.Rooms.{ends_behind, room_behind}
use Rattle.im_model.specs.Headers.{alh}
use Rattle.im_model.specs.History.{alh_of, header_of, no_transaction, transaction_of, IsTransaction}
use Rattle.im_model.specs.declared.transactions.Transaction.{Transaction}
use Rattle.im_model.proofs.HeaderLemmas.{alh_of-next}
use Rattle.im_model.proofs.HistoryLemmas.{Follow-at}
use Rattle.im_vlog.specs.Ends.{AreEnds, HaveRoom}

-- the records so far are those of the transactions behind the first `durable` ones up to number `before`, and the value logs end there
pub record AreMade (hash : Hash) (placed : List Transaction) (durable before : ℕ) (ends : Ends) (log_ends : List ℕ) (rs : List Record) : Type 0 where
  pub count : length rs ≡ before - durable
  pub transactions : map (λ r. r.tx) rs ≡ take (before - durable) (drop durable placed)
  pub records : AreRecords hash placed (durable + 1) rs
  pub put : (batches : List (List Record)) → AreFirst hash placed batches durable ends → ArePut 1 (durable + 1) (refs_of (joined batches)) rs
  pub now : (batches : List (List Record)) → AreFirst hash placed batches durable ends → AreEnds log_ends (refs_of (joined batches) ++ refs_of rs)
  pub room : HaveRoom (before + 1) log_ends

pub made-none : (hash : Hash) (placed : List Transaction) (batches : List (List Record)) (durable : ℕ) (ends : Ends) → AreFirst hash placed batches durable ends
    → AreMade hash placed durable durable ends ends.values []
made-none hash placed batches durable ends first =
    let none : 0 ≡ durable - durable = omega arith in
    record {
      count = none;
      transactions = ap (λ (n : ℕ). take n (drop durable placed)) none;
      records = tt;
      put = λ other is. tt;
      now = λ other is. subst (λ (l : List ValueRef). AreEnds ends.values l) (sym (append-nil (refs_of (joined other)))) (ends_behind hash placed other durable ends is);
      room = room_behind hash placed batches durable ends first;
    }

pub made-more : (hash : Hash) (placed : List Transaction) (durable before : ℕ) (ends : Ends) (log_ends log_now : List ℕ) (rs : List Record) (r : Record)
    → AreMade hash placed durable before ends log_ends rs → durable ≤ before → before < length placed
    → r.tx ≡ transaction_of placed (before + 1) → IsRecord hash placed (before + 1) r
    → ((first : List ValueRef) → AreEnds log_ends first → AreAppended 1 (before + 1) 0 first r.refs)
    → ((first : List ValueRef) → AreEnds log_ends first → AreEnds log_now (first ++ r.refs)) → HaveRoom (before + 1 + 1) log_now
    → AreMade hash placed durable (before + 1) ends log_now (rs ++ r ∷ [])
made-more hash placed durable before ends log_ends log_now rs r made order within tx_is is put now room =
    let rest : List Transaction = drop durable placed in
    let one : List Record = r ∷ [] in
    let count : length rs ≡ before - durable = made.count in
    let number : durable + 1 + length rs ≡ before + 1 = omega (arith, count, order) in
    let spot : durable + (before - durable) ≡ before = omega (arith, order) in
    let place : before + 1 - 1 ≡ before = omega arith in
    let further : before - durable + 1 ≡ before + 1 - durable = omega (arith, order) in
    let here : r.tx ≡ get_or rest (before - durable) no_transaction =
    tx_is ∙ ap (λ (i : ℕ). get_or placed i no_transaction) place
    ∙ sym (get_or-drop durable placed (before - durable) no_transaction ∙ ap (λ (i : ℕ). get_or placed i no_transaction) spot) in
    let more : refs_of (rs ++ one) ≡ refs_of rs ++ r.refs = refs_more rs one ∙ ap (λ (l : List ValueRef). refs_of rs ++ l) (append-nil r.refs) in
    record {
      count = length-append rs one ∙ omega (arith, count, order);
      transactions =
          map_push (λ (x : Record). x.tx) rs r
          ∙ ap (λ (l : List Transaction). l ++ r.tx ∷ []) made.transactions
          ∙ ap (λ (t : Transaction). take (before - durable) rest ++ t ∷ []) here
          ∙ sym (take_more rest (before - durable) no_transaction (omega (arith, length-drop durable placed, order, within)))
          ∙ ap (λ (n : ℕ). take n rest) further;
      records = records_both hash placed (durable + 1) rs one made.records (subst (λ (n : ℕ). IsRecord hash placed n r) (sym number) is, tt);
      put = λ batches first.
          put_more 1 (durable + 1) (refs_of (joined batches)) rs r (made.put batches first)
          (subst (λ (n : ℕ). AreAppended 1 n 0 (refs_of (joined batches) ++ refs_of rs) r.refs) (sym number) (put (refs_of (joined batches) ++ refs_of rs) (made.now batches first)));
      now = λ batches first.
          let refs : List ValueRef = refs_of (joined batches) in
          subst (λ (l : List ValueRef). AreEnds log_now l) (append_assoc refs (refs_of rs) r.refs ∙ ap (λ (l : List ValueRef). refs ++ l) (sym more))
          (now (refs ++ refs_of rs) (made.now batches first));
      room = room;
    }

pub made-all : (hash : Hash) (placed : List Transaction) (batches : List (List Record)) (durable before last : ℕ) (ends : Ends) (log_ends : List ℕ) (rs : List Record) → before ≡ last
    → AreMade hash placed durable before ends log_ends rs → AreFirst hash placed batches durable ends → AreBehind hash placed batches durable last rs
made-all hash placed batches durable before last ends log_ends rs all made first = record {
  transactions_are = made.transactions ∙ ap (λ (n : ℕ). take (n - durable) (drop durable placed)) all;
  records_are = made.records;
  put = made.put batches first;
}

-- a placed transaction has few entries
pub tx-few : (hash : Hash) (book : Booked) (number : ℕ) → IsBook hash book → 1 ≤ number → number ≤ length book.transactions → length (transaction_of book.transactions number).entries ≤ 1024
tx-few hash book number is some within =
    let tx : IsTransaction (0 + (number - 1)) (transaction_of book.transactions number) = Follow-at 0 0 book.transactions (number - 1) no_transaction is.history.follow (omega (arith, some, within)) in
    tx.few

-- the Alh of a number is that of its header
pub alh-is : (hash : Hash) (history : List Transaction) (number : ℕ) → 1 ≤ number → number ≤ length history → alh hash (header_of hash history number) ≡ alh_of hash history number
alh-is hash history number some within =
    let next : number - 1 + 1 ≡ number = omega (arith, some) in
    subst (λ (n : ℕ). alh hash (header_of hash history n) ≡ alh_of hash history n) next (sym (alh_of-next hash history (number - 1) (omega (arith, some, within))))

-- A history that goes on: what a journal holds of it stays.
use Rattle.std.proofs.Common.{◌≡◌, ◌≤◌, ◌+◌, ◌∙◌, ℕ, List, [], ◌∷◌, ◌++◌, length, take, drop, refl, sym, ap, subst, arith, append_assoc, length-append, length-drop}
use Rattle.std.proofs.lemmas.List.{drop-append-le, take_at, take-append-le}
use Rattle.std.specs.Prelude.{Option}
use Rattle.im_digest.specs.Digests.{Hash}
use Rattle.im_disk.specs.Disk.{Files, Images, Told}
use Rattle.im_disk.proofs.Leaving.{if_told}
use Rattle.im_model.specs.History.{alh_of, IsHistory}
use Rattle.im_model.specs.declared.transactions.Transaction.{Transaction}
use Rattle.im_format.specs.Batches.{joined}
use Rattle.im_format.specs.Records.{AreRecords}
use Rattle.im_format.specs.Standing.{Stands, StandsFrom}
use Rattle.im_format.specs.declared.records.Record.{Record}
use Rattle.im_journal.specs.Durable.{HoldsDurable}
use Rattle.im_journal.specs.Holding.{AreFirst, AreNext}
use Rattle.im_journal.specs.Kept.{IsAtRest, IsInBatch, Kept}
use Rattle.im_journal.specs.declared.ends.Ends.{Ends}
use Rattle.im_journal.proofs.Limits.{first_number}
use Rattle.im_journal.proofs.Prefixes.{alh_front}

-- the records of batches, and of batches behind them
pub joined_both : (a b : List (List Record)) → joined (a ++ b) ≡ joined a ++ joined b
joined_both [] b = refl
joined_both (batch ∷ a) b = ap (λ (l : List Record). batch ++ l) (joined_both a b) ∙ sym (append_assoc batch (joined a) (joined b))

-- what follows doesn't change an Alh
pub alh_longer : (hash : Hash) (history more : List Transaction) (k : ℕ) → 1 ≤ k → k ≤ length history → alh_of hash history k ≡ alh_of hash (history ++ more) k
alh_longer hash history more k one le =
    ap (λ (h : List Transaction). alh_of hash h k) (sym (take_at history more (length history) refl))
    ∙ alh_front hash (history ++ more) (length history) k one le

-- nor the records
pub records_longer : (hash : Hash) (history more : List Transaction) (id : ℕ) (rs : List Record) → 1 ≤ id → id + length rs ≤ length history + 1
    → AreRecords hash history id rs → AreRecords hash (history ++ more) id rs
records_longer hash history more id [] one le are = tt
records_longer hash history more id (r ∷ rs) one le are = (
  record { refs = are.0.refs; alh = are.0.alh ∙ alh_longer hash history more id one (omega (arith, le)) },
  records_longer hash history more (id + 1) rs (omega (arith, one)) (omega (arith, le)) are.1,
)

-- nor what the files hold
first_longer : (hash : Hash) (history more : List Transaction) (batches : List (List Record)) (durable : ℕ) (ends : Ends) → IsHistory (history ++ more)
    → AreFirst hash history batches durable ends → AreFirst hash (history ++ more) batches durable ends
first_longer hash history more batches durable ends is first = record {
  digests = first.digests;
  history_is = is;
  placed = omega (arith, first.placed, length-append history more);
  transactions_are = first.transactions_are ∙ sym (take-append-le durable history more first.placed);
  records_are = records_longer hash history more 1 (joined batches) (omega arith) (omega (arith, first_number hash history batches durable ends first, first.placed)) first.records_are;
  filled = first.filled;
  ends_are = first.ends_are;
}

-- nor what may be added to it
next_longer : (hash : Hash) (history more : List Transaction) (batches : List (List Record)) (durable : ℕ) (rs : List Record)
    → AreNext hash history batches durable rs → AreNext hash (history ++ more) batches durable rs
next_longer hash history more batches durable rs next =
    let begun : durable ≤ length history = omega (arith, next.placed) in
    let rest : List Transaction = drop durable history in
    let few : length rs ≤ length rest = omega (arith, next.placed, length-drop durable history) in
    record {
      some = next.some;
      placed = omega (arith, next.placed, length-append history more);
      transactions_are = next.transactions_are ∙ sym (take-append-le (length rs) rest more few)
          ∙ ap (λ (l : List Transaction). take (length rs) l) (sym (drop-append-le durable history more begun));
      records_are = records_longer hash history more (durable + 1) rs (omega arith) (omega (arith, next.placed)) next.records_are;
      logs = next.logs;
      put = next.put;
    }

pub rest_longer : {D : Type 0} (told : D → Option Told) (hash : Hash) (history more : List Transaction) (batches : List (List Record)) (k : Kept D) → IsHistory (history ++ more)
    → IsAtRest told hash history batches k → IsAtRest told hash (history ++ more) batches k
rest_longer told hash history more batches k is rest = record {
  idle = rest.idle;
  first = first_longer hash history more batches k.durable k.ends is rest.first;
  resting = rest.resting;
}

pub batch_longer : {D : Type 0} (told : D → Option Told) (hash : Hash) (history more : List Transaction) (batches : List (List Record)) (rs : List Record) (k : Kept D) → IsHistory (history ++ more)
    → IsInBatch told hash history batches rs k → IsInBatch told hash (history ++ more) batches rs k
batch_longer told hash history more batches rs k is mid = record {
  first = first_longer hash history more batches k.durable k.ends is mid.first;
  next = next_longer hash history more batches k.durable rs mid.next;
  pieces = mid.pieces;
  ends = mid.ends;
  count = mid.count;
  at = mid.at;
}

-- nor which images stand for a front part of it
pub front_longer : (hash : Hash) (history more : List Transaction) (least : ℕ) (image : Files) → StandsFrom hash least history image → StandsFrom hash least (history ++ more) image
front_longer hash history more least image from = record {
  count = from.count;
  no_fewer = from.no_fewer;
  no_more = omega (arith, from.no_more, length-append history more);
  stands = subst (λ (l : List Transaction). Stands hash image l) (sym (take-append-le from.count history more from.no_more)) from.stands;
}

pub held_longer : {D : Type 0} (told : D → Option Told) (hash : Hash) (history more : List Transaction) (batches : List (List Record)) (k : Kept D) → IsHistory (history ++ more)
    → HoldsDurable told hash history batches k → HoldsDurable told hash (history ++ more) batches k
held_longer told hash history more batches k is held = record {
  first = first_longer hash history more batches k.durable k.ends is held.first;
  reads = held.reads;
  images = if_told (λ t. (image : Files) → Images t image → StandsFrom hash k.durable history image) (λ t. (image : Files) → Images t image → StandsFrom hash k.durable (history ++ more) image)
      (λ t h image now. front_longer hash history more k.durable image (h image now)) (told k.disk) held.images;
}

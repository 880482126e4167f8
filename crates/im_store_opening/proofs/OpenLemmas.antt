-- What was found, as a store is opened.
use Rattle.std.proofs.Common.{◌≡◌, ◌∷◌, [], ◌∙◌, ℕ, zero, suc, List, length, take, true, Option, Some, IfSome, refl, ap, sym, subst, arith}
use Rattle.std.proofs.Math.Seq.{take-length}
use Rattle.std.specs.List.{All}
use Rattle.im_digest.specs.Digests.{Hash}
use Rattle.im_disk.specs.Disk.{after, seen, Told}
use Rattle.im_disk.specs.Grown.{Grows}
use Rattle.im_disk.specs.Moments.{Leaves}
use Rattle.im_disk.specs.declared.calls.Call.TheVariants.{Synced}
use Rattle.im_format.specs.Batches.{gate_of, spans_of}
use Rattle.im_format.specs.Records.{AreRecords}
use Rattle.im_format.specs.Standing.{HasBatches, Stands}
use Rattle.im_format.specs.declared.records.Record.{Record}
use Rattle.im_journal.specs.Holding.{IsResting, ends_of}
use Rattle.im_journal.specs.Kept.{IsAtRest, Kept}
use Rattle.im_journal.specs.Phases.{IsSafe}
use Rattle.im_journal.specs.Pieces.{end_of}
use Rattle.im_journal.specs.declared.ends.Ends.{Ends}
use Rattle.im_journal.proofs.Mids.{first_at}
use Rattle.im_journal.proofs.Turns.{stands, stands_batches}
use Rattle.im_levels.specs.Leveled.{IsLeveled, Stored}
use Rattle.im_linker.specs.Trees.{IsTreeOf}
use Rattle.im_model.specs.History.{alhs_of, IsHistory}
use Rattle.im_model.specs.declared.transactions.Transaction.{Transaction}
use Rattle.im_model.proofs.HistoryLemmas.{length-alhs_of}
use Rattle.im_opening.specs.Cut.{IsOpenedBy, repaired}
use Rattle.im_opening.specs.Opening.{IsOneHistory}
use Rattle.im_opening.specs.Opens.{Opens}
use Rattle.im_opening.specs.Reach.{txs_of}
use Rattle.im_opening.specs.declared.found.FoundHistory.{FoundHistory}
use Rattle.im_opening.proofs.OpensLemmas.{same-count}
use Rattle.im_proof.specs.Built.{headers_of}
use Rattle.im_seated_book.specs.Seats.{HaveReferences}
use Rattle.im_table.specs.Histories.{history_of}
use Rattle.im_table.specs.declared.items.LogItem.{LogItem}
use Rattle.im_table.proofs.HistoryLemmas.{history_length}
use Rattle.im_book.specs.Booked.{Booked, IsBook}
use Rattle.im_store.specs.Found.{items_of}
use Rattle.im_store.specs.Names.{Naming}
use Rattle.im_store.proofs.OpenLemmas.{found_referred}
use Rattle.im_store_opening.specs.Opened.{OpensAs}

-- the history and the marks of items that were found
pub found_history : (rs : List Record) → history_of (items_of rs) ≡ txs_of rs
found_history [] = refl
found_history (r ∷ rs) = ap (λ (l : List Transaction). r.tx ∷ l) (found_history rs)

pub found_marked : (rs : List Record) → All (λ (x : LogItem). x.found ≡ true) (items_of rs)
found_marked [] k d lt = absurd (omega (arith, lt))
found_marked (r ∷ rs) zero d lt = refl
found_marked (r ∷ rs) (suc k) d lt = found_marked rs k d (omega (arith, lt))

-- the journal ends at the gate behind any batches that reads give
module _ {D : Type 0} (told : D → Option Told) (hash : Hash) (history : List Transaction) (batches : List (List Record)) (k : Kept D) (rest : IsAtRest told hash history batches k) where
  own_batches : (t : Told) → IsResting batches k.ends t → HasBatches (seen t) batches
  own_batches t rests =
      let own = first_at hash history batches k.durable k.ends rest.first in
      let safe : IsSafe (end_of (ends_of batches)) (spans_of batches) (gate_of (length batches)) (seen t) =
      subst (λ (e : Ends). IsSafe (end_of e) (spans_of batches) (gate_of (length batches)) (seen t)) rest.first.ends_are rests.here in
      subst (λ (b : List (List Record)). HasBatches (seen t) b) (stands_batches hash history batches k.durable own (seen t) safe) (stands hash history batches k.durable own (seen t) safe).there

  pub gate_behind : (t : Told) → told k.disk ≡ Some t → (others : List (List Record)) → HasBatches (seen t) others → k.ends.commits ≡ gate_of (length others)
  gate_behind t is others held =
      let rests : IsResting batches k.ends t = subst (λ (o : Option Told). IfSome o (IsResting batches k.ends)) is rest.resting in
      ap (λ (e : Ends). e.commits) rest.first.ends_are ∙ ap gate_of (same-count (seen t) batches others (own_batches t rests) held)

-- what names a store, by what opening its disk gave
module _ {D : Type 0} (told : D → Option Told) (faults : D → ℕ) (hash : Hash) (before now : D) (gate : ℕ) (rs : List Record)
    (opens : Opens told faults hash before now gate (txs_of rs))
    (behind : (t : Told) → told now ≡ Some t → (batches : List (List Record)) → HasBatches (seen t) batches → gate ≡ gate_of (length batches)) where
  -- the calls of opening, by the gate behind any batches that reads give now
  opened_calls : (synced : Option Told) → synced ≡ told now → (t : Told) → told before ≡ Some t → (batches : List (List Record)) → IfSome synced (λ s. HasBatches (seen s) batches)
      → IsOpenedBy (gate_of (length batches)) t synced
  opened_calls synced same t is batches held =
      let opened = opens.calls t is in
      let H : Option Told → Type 0 = λ o. IfSome o (λ s. HasBatches (seen s) batches) in
      let at : gate ≡ gate_of (length batches) = behind (repaired opened.0 gate (after Synced t)) opened.2 batches (subst H (same ∙ opened.2) held) in
      subst (λ (o : Option Told). IsOpenedBy (gate_of (length batches)) t o) (sym same) (subst (λ (g : ℕ). IsOpenedBy g t (told now)) at opened)

  -- and by the gate behind those that reads gave before, under a hash that is this one
  closed_calls : (digest : Hash) → digest ≡ hash → (synced : Option Told) → synced ≡ told now → (t : Told) (other : List Transaction) → told before ≡ Some t → (there : Stands digest (seen t) other)
      → IsOpenedBy (gate_of (length there.batches)) t synced
  closed_calls digest one synced same t other is there =
      let W : Hash → Type 0 = λ h. (s : Stands h (seen t) other) → gate ≡ gate_of (length s.batches) in
      let at : gate ≡ gate_of (length there.batches) = subst W (sym one) (λ s. opens.gate_is t other is s) there in
      let G : ℕ → Type 0 = λ g. IsOpenedBy g t (told now) in
      subst (λ (o : Option Told). IsOpenedBy (gate_of (length there.batches)) t o) (sym same) (subst G at (opens.calls t is))

  pub found_opens : (n : Naming) → n.found ≡ items_of rs → n.digest ≡ hash → n.synced ≡ told now → n.faults ≡ faults now → IsHistory (txs_of rs) → AreRecords hash (txs_of rs) 1 rs
      → OpensAs (told before) (faults before) n
  found_opens n found digest synced failed history records =
      let same : txs_of rs ≡ history_of n.found = sym (ap (λ (l : List LogItem). history_of l) found ∙ found_history rs) in
      record {
        stands = λ t is. subst (λ (h : Hash). Stands h (seen t) (history_of n.found)) (sym digest)
            (subst (λ (l : List Transaction). Stands hash (seen t) l) same (opens.stands t is));
        one = λ t other is there. sym same ∙ opens.one t other is (subst (λ (h : Hash). Stands h (seen t) other) digest there);
        moments = λ t is. subst (λ (o : Option Told). Leaves (λ image. Stands n.digest image (history_of n.found)) (Some (after Synced t)) o) (sym synced)
            (subst (λ (h : Hash). Leaves (λ image. Stands h image (history_of n.found)) (Some (after Synced t)) (told now)) (sym digest)
            (subst (λ (l : List Transaction). Leaves (λ image. Stands hash image l) (Some (after Synced t)) (told now)) same (opens.moments t is)));
        calls = opened_calls n.synced synced;
        closed = closed_calls n.digest digest n.synced synced;
        grows = subst (λ (o : Option Told). Grows (told before) o) (sym synced) opens.grows;
        same = failed ∙ opens.same;
        marked = subst (λ (l : List LogItem). All (λ x. x.found ≡ true) l) (sym found) (found_marked rs);
        history = subst (λ (l : List Transaction). IsHistory l) same history;
        referred = subst (λ (l : List LogItem). HaveReferences n.digest 1 l) (sym found)
            (subst (λ (h : Hash). HaveReferences h 1 (items_of rs)) (sym digest) (found_referred hash (txs_of rs) 1 rs records));
      }

-- the words and parts of it
module _ (hash : Hash) (found : FoundHistory) (one : IsOneHistory hash found) where
  whole_history : txs_of found.records.items ≡ history_of (items_of found.records.items)
  whole_history = sym (found_history found.records.items)

  pub whole_tree : (tree : Stored) → IsLeveled hash found.alhs.items tree → tree.size ≡ length found.alhs.items
      → IsTreeOf hash (items_of found.records.items) tree × (tree.size ≡ length (items_of found.records.items))
  whole_tree tree leveled size =
      let items = items_of found.records.items in
      let all : List (List ℕ) = alhs_of hash (history_of items) in
      let alhs : found.alhs.items ≡ all = one.alhs ∙ ap (λ (l : List Transaction). alhs_of hash l) whole_history in
      let count : length all ≡ length items = length-alhs_of hash (history_of items) ∙ history_length items in
      let here : tree.size ≡ length all = size ∙ ap (λ (l : List (List ℕ)). length l) alhs in
      let front : found.alhs.items ≡ take tree.size all = alhs ∙ sym (ap (λ (k : ℕ). take k all) here ∙ take-length all) in
      (subst (λ (l : List (List ℕ)). IsLeveled hash l tree) front leveled, here ∙ count)

  pub whole_book : (book : Booked) → book.transactions ≡ history_of (items_of found.records.items) → book.headers ≡ found.headers.items → book.alhs ≡ found.alhs.items
      → IsBook hash book
  whole_book book transactions headers alhs =
      let same : txs_of found.records.items ≡ book.transactions = whole_history ∙ sym transactions in
      record {
        history = subst (λ (l : List Transaction). IsHistory l) same one.history;
        headers = headers ∙ one.headers ∙ ap (λ (l : List Transaction). headers_of hash l) same;
        alhs = alhs ∙ one.alhs ∙ ap (λ (l : List Transaction). alhs_of hash l) same;
      }

  pub whole_records : AreRecords hash (history_of (items_of found.records.items)) 1 found.records.items
  whole_records = subst (λ (l : List Transaction). AreRecords hash l 1 found.records.items) whole_history one.records

-- What lies under the locks as a store is opened.
use Rattle.std.proofs.Common.{◌≡◌, ◌+◌, ◌++◌, ◌∷◌, [], ◌∙◌, ◌≤◌, ℕ, ℤ, List, length, map, take, Option, Some, None, IfSome, refl, ap, sym, subst, arith}
use Rattle.std.proofs.Math.Seq.{drop-length, take-length}
use Rattle.std.proofs.lemmas.List.{append-nil, length-map}
use Rattle.std.specs.List.{All}
use Rattle.im_digest.specs.Digests.{Hash}
use Rattle.im_disk.specs.Disk.{Told}
use Rattle.im_format.specs.Batches.{joined}
use Rattle.im_format.specs.Places.{refs_of}
use Rattle.im_format.specs.Records.{AreRecords}
use Rattle.im_format.specs.declared.records.Record.{Record}
use Rattle.im_format.specs.declared.references.ValueRef.{ValueRef}
use Rattle.im_journal.specs.Kept.{IsAtRest, Kept}
use Rattle.im_journal.proofs.Rooms.{ends_behind, room_behind}
use Rattle.im_model.specs.History.{last_bl_or, Follow, IsHistory}
use Rattle.im_model.specs.declared.transactions.Transaction.{Transaction}
use Rattle.im_edge.specs.Clocks.{AddsTimes}
use Rattle.im_edge.proofs.Times.{times-none}
use Rattle.im_index.specs.Indexed.{Indexed, IsIndexOf}
use Rattle.im_seated_book.specs.Seats.{HasTimed, HaveReferences, HoldsItems}
use Rattle.im_seated_index.specs.Seats.{HasTaken}
use Rattle.im_seated_journal.specs.Seats.{refs_in, ServesItems}
use Rattle.im_seated_journal.proofs.StartLemmas.{rests_serve}
use Rattle.im_table.specs.Histories.{history_of, GoesOn}
use Rattle.im_table.specs.References.{references_of}
use Rattle.im_table.specs.declared.items.LogItem.{LogItem}
use Rattle.im_table.proofs.HistoryLemmas.{history_length}
use Rattle.im_vlog.specs.Ends.{AreEnds, HaveRoom}
use Rattle.im_book.specs.Booked.{last_bl, Booked, IsBook}
use Rattle.im_store.specs.Found.{items_of}
use Rattle.im_store.specs.Names.{Unnamed}

-- the references of items that were found
pub found_refs : (rs : List Record) → refs_in (items_of rs) ≡ map (λ (r : Record). r.refs) rs
found_refs [] = refl
found_refs (r ∷ rs) = ap (λ (l : List (List ValueRef)). r.refs ∷ l) (found_refs rs)

pub found_references : (rs : List Record) → references_of (items_of rs) ≡ refs_of rs
found_references [] = refl
found_references (r ∷ rs) = ap (λ (l : List ValueRef). r.refs ++ l) (found_references rs)

pub found_count : (rs : List Record) → length (items_of rs) ≡ length rs
found_count rs = length-map rs _

pub found_referred : (hash : Hash) (history : List Transaction) (n : ℕ) (rs : List Record) → AreRecords hash history n rs → HaveReferences hash n (items_of rs)
found_referred hash history n [] are = tt
found_referred hash history n (r ∷ rs) are = (are.0.refs, found_referred hash history (n + 1) rs are.1)

-- a list goes on behind itself by nothing
pub goes_none : (items : List LogItem) → GoesOn items items
goes_none items = record { rest = []; begins = sym (append-nil items); fresh = λ k d lt. absurd (omega (arith, lt)) }

module _ {D : Type 0} (told : D → Option Told) (faults : D → ℕ) (hash : Hash) (rs : List Record) (batches : List (List Record)) (k : Kept D)
    (joined_is : joined batches ≡ rs) (rest : IsAtRest told hash (history_of (items_of rs)) batches k) (all : k.durable ≡ length rs) where
  -- the journal serves what was found
  pub opened_serves : (before : ℕ) (synced : Option Told) → k.failures ≡ 0 → faults k.disk ≡ before → told k.disk ≡ synced
      → ServesItems told faults hash (items_of rs) synced before (items_of rs) k
  opened_serves before synced sound same now =
      let items = items_of rs in
      let refs : map (λ (r : Record). r.refs) (joined batches) ≡ refs_in items = ap (λ (l : List Record). map (λ (r : Record). r.refs) l) joined_is ∙ sym (found_refs rs) in
      subst (λ (n : ℕ). ServesItems told faults hash items synced n items k) same
      (subst (λ (o : Option Told). ServesItems told faults hash items o (faults k.disk) items k) now
      (rests_serve told faults hash items batches k rest refs (all ∙ sym (found_count rs)) sound))

  -- the book holds it, and the value logs end behind it
  pub opened_holds : (book : Booked) (refs : List (List ValueRef)) → book.transactions ≡ history_of (items_of rs) → IsBook hash book → refs ≡ map (λ (x : LogItem). x.refs) (items_of rs)
      → AreRecords hash (history_of (items_of rs)) 1 rs → HoldsItems hash (items_of rs) (items_of rs) book refs k.ends.values
  opened_holds book refs transactions is_book same records =
      let history = history_of (items_of rs) in
      let behind = ends_behind hash history batches k.durable k.ends rest.first in
      let here : refs_of (joined batches) ≡ references_of (items_of rs) = ap (λ (l : List Record). refs_of l) joined_is ∙ sym (found_references rs) in
      let number : k.durable + 1 ≡ length (items_of rs) + 1 = omega (arith, all, found_count rs) in
      record {
        transactions = transactions;
        is_book = is_book;
        goes_on = goes_none (items_of rs);
        refs_are = same;
        referred = found_referred hash history 1 rs records;
        ends_are = subst (λ (l : List ValueRef). AreEnds k.ends.values l) here behind;
        room = subst (λ (n : ℕ). HaveRoom n k.ends.values) number (room_behind hash history batches k.durable k.ends rest.first);
      }

-- the tree that the last transaction was placed over is no larger than the history
last_within : (n bl : ℕ) (txs : List Transaction) → Follow n bl txs → bl ≤ n → last_bl_or bl txs ≤ n + length txs
last_within n bl [] f le = omega (arith, le)
last_within n bl (tx ∷ txs) f le = omega (arith, last_within (n + 1) tx.bl txs f.2 (omega (arith, f.0.linked)))

pub bl_below : (history : List Transaction) → IsHistory history → last_bl history ≤ length history
bl_below history h = omega (arith, last_within 0 0 history h.follow (omega arith))

-- no time was given of what was found
pub found_timed : (time : Option ℤ) (given : Option (List ℤ)) (items : List LogItem) → HasTimed time time given given items items
found_timed time given items = record {
  same = refl;
  timed = subst (λ (l : List LogItem). IfSome time (λ t. All (λ ts. ts ≡ t) (map (λ (x : LogItem). x.tx.ts) l))) (sym (drop-length items)) (none time);
  given = subst (λ (l : List LogItem). AddsTimes given given (map (λ (x : LogItem). x.tx.ts) l)) (sym (drop-length items)) (times-none given);
}
  where
    none : (o : Option ℤ) → IfSome o (λ t. All (λ ts. ts ≡ t) [])
    none None = tt
    none (Some t) = λ k d lt. absurd (omega (arith, lt))

-- an index of the whole has taken all of it
pub found_taken : (items : List LogItem) (index : Indexed) → IsIndexOf index (history_of items) → HasTaken items index × (index.taken ≡ length items)
found_taken items index is =
    let whole : take index.taken (history_of items) ≡ history_of items = ap (λ (n : ℕ). take n (history_of items)) is.taken ∙ take-length (history_of items) in
    (subst (λ (l : List Transaction). IsIndexOf index l) (sym whole) is, is.taken ∙ history_length items)

-- what is seen of an opened store is seen of each that is equal
module _ {H D C : Type 0} {a b : Unnamed H D C} where
  pub same_table : a ≡ b → a.table ≡ b.table
  same_table e = ap (λ (o : Unnamed H D C). o.table) e

  pub same_found : a ≡ b → a.found ≡ b.found
  same_found e = ap (λ (o : Unnamed H D C). o.found) e

  pub same_logs : a ≡ b → a.logs ≡ b.logs
  same_logs e = ap (λ (o : Unnamed H D C). o.logs) e

  pub same_hash : a ≡ b → a.hash ≡ b.hash
  same_hash e = ap (λ (o : Unnamed H D C). o.hash) e

  pub same_disk : a ≡ b → a.disk ≡ b.disk
  same_disk e = ap (λ (o : Unnamed H D C). o.disk) e

  pub same_clock : a ≡ b → a.clock ≡ b.clock
  same_clock e = ap (λ (o : Unnamed H D C). o.clock) e

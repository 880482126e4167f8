-- Lists that the one list may have grown to, and passes behind several calls.
use Rattle.std.proofs.Common.{◌≡◌, ◌≤◌, ℕ, List, [], ◌∷◌, length, take, zero, suc, ◌-◌, Some, slice_get, slice_index_or, ap, sym, ◌∙◌, arith, length-append}
use Rattle.std.proofs.lemmas.List.{take-append-le}
use mathlib.Core.List.{IsPrefix}
use Rattle.im_dealing.specs.Lines.{MayBecome}
use Rattle.im_model.specs.History.{no_transaction, transaction_of}
use Rattle.im_octet.proofs.Common.{some-is}
use Rattle.im_table.proofs.FrontLemmas.{prefix_trans}
use Rattle.im_table.proofs.HistoryLemmas.{history_front, history_length}
use Rattle.im_table.specs.Histories.{history_of}
use Rattle.im_table.specs.Known.{KnownPass}
use Rattle.im_table.specs.Passes.{Later}
use Rattle.im_table.specs.declared.items.LogItem.{LogItem}

-- what may come of a pass may come of it as it was before
pub may_before : (old new : KnownPass) (items : List LogItem) → Later old new → MayBecome new items → MayBecome old items
may_before old new items l m = record {
  begins = prefix_trans old.view.seen new.view.seen items l.seen m.begins;
  enough = omega (arith, l.durable, m.enough);
  history = m.history;
}

-- the first n of a list and of one that begins with it, where it has so many
pub take_front : {X : Type 0} (xs ys : List X) (n : ℕ) → IsPrefix xs ys → n ≤ length xs → take n ys ≡ take n xs
take_front xs ys n p le = ap (take n) (sym p.1) ∙ take-append-le n xs p.0 le

-- the first n transactions that the pass has seen are those of each list that it may become
pub history_taken : (p : KnownPass) (items : List LogItem) (n : ℕ) → MayBecome p items → n ≤ length p.view.seen → take n (history_of items) ≡ take n (history_of p.view.seen)
history_taken p items n m le =
    take_front (history_of p.view.seen) (history_of items) n (history_front p.view.seen items m.begins) (omega (arith, history_length p.view.seen))

-- a front part is no longer than its list
pub front_length : (xs ys : List LogItem) → IsPrefix xs ys → length xs ≤ length ys
front_length xs ys p = omega (arith, ap length (sym p.1), length-append xs p.0)

-- the transaction of an item by its place
tx_at : (items : List LogItem) (k : ℕ) (item : LogItem) → slice_get items k ≡ Some item → slice_index_or (history_of items) k no_transaction ≡ item.tx
tx_at [] k item e = cc
tx_at (x ∷ items) zero item e = ap (λ (y : LogItem). y.tx) (some-is x item e)
tx_at (x ∷ items) (suc k) item e = tx_at items k item e

-- and by its number
pub transaction_at : (items : List LogItem) (n : ℕ) (item : LogItem) → slice_get items (n - 1) ≡ Some item → transaction_of (history_of items) n ≡ item.tx
transaction_at items n item e = tx_at items (n - 1) item e

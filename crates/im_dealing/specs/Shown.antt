-- What a session reads behind the first n transactions of its pass's list.
use Rattle.std.specs.Prelude.{◌≡◌, ◌≤◌, ℕ, List, length, take, false}
use Rattle.im_index.specs.Indexed.{Indexed, IsSnapshotOf}
use Rattle.im_model.specs.declared.transactions.Transaction.{Transaction}
use Rattle.im_report.specs.Replies.{between_reply}
use Rattle.im_report.specs.Report.{tells_tx}
use Rattle.im_table.specs.Histories.{history_of}
use Rattle.im_table.specs.Known.{KnownPass}
use Rattle.im_wire.specs.Lines.{is_open}

-- the snapshot stands for the first n transactions, which the pass has seen
pub record ShowsKeys (p : KnownPass) (n : ℕ) (keys : Indexed) : Type 0 where
  pub seen : n ≤ length p.view.seen
  pub shows : IsSnapshotOf keys (take n (history_of p.view.seen))

-- The reply to two numbers that aren't in order, or of which the second is beyond the first n transactions. It is no message, and isn't `tx`.
pub record IsRefusedBetween (n s t : ℕ) (reply : List ℕ) : Type 0 where
  pub says : (history : List Transaction) (other : List ℕ) → length history ≡ n → reply ≡ between_reply history s t other
  pub closed : is_open reply ≡ false
  pub unplaced : tells_tx reply n ≡ false

use Rattle.std.proofs.Common.{◌≤◌, List, take, subst, sym}
use Rattle.std.specs.Prelude.{IfOk}
use Rattle.im_model.specs.declared.transactions.Transaction.{Transaction}
use Rattle.im_table.specs.Histories.{history_of}
use Rattle.im_index.specs.Indexed.{Indexed, IsSnapshotOf}
use Rattle.im_seated_index.specs.Seats.{HasTaken}
use Rattle.im_seated_index.proofs.SeatLemmas.{shown_first}
use Rattle.im_seated_index.proofs.seated.SeatedIndex.snapshot.Goals as goal

pub returns : goal.returns
returns g c items h =
    let n = c.args.n in
    let here = subst (λ (i : Indexed). HasTaken items i) (sym c.self.view_is) h in
    let few = subst (λ (i : Indexed). n ≤ i.taken) (sym c.self.view_is) c.requires in
    let index = c.self.inside.index in
    subst (λ (l : List Transaction). IfOk c.snapshot.result (λ snapshot. IsSnapshotOf snapshot l)) (shown_first items index n few)
    (c.snapshot.ensures.history (take index.taken (history_of items)) here)

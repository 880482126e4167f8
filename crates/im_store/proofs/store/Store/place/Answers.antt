use Rattle.std.proofs.Common.{rules, ◌≡◌, ◌∙◌, List, length, ap}
use Rattle.im_table.specs.declared.items.LogItem.{LogItem}
use Rattle.im_store.proofs.PlaceLemmas.{not_placed}
use Rattle.im_store.proofs.CommitLemmas.{placed_now}
use Rattle.im_store.proofs.GainLemmas.{gains_none, gains_number}
use Rattle.im_store.proofs.store.Store.place.Goals as goal

pub returns-in-Ok-clause-gains : goal.returns-in-Ok-clause-gains
returns-in-Ok-clause-gains g c = gains_number c.in-Ok.id c.args.pass.now c.place.new.pass c.in-Ok.ensures.placed.put.adds

pub returns-in-Ok-clause-placed : goal.returns-in-Ok-clause-placed
returns-in-Ok-clause-placed g c =
    let above = c.place.ensures.above in
    placed_now g.N.TipName.time c.args.prepared c.args.pass.now _ _ c.in-Ok.id c.place.new.pass above.0 above.1 c.in-Ok.ensures.placed

pub returns-in-Ok-clause-looks : goal.returns-in-Ok-clause-looks
returns-in-Ok-clause-looks g c = (_, c.place.ensures.looks)

pub returns-clause-gains : goal.returns-clause-gains
returns-clause-gains g c = gains_none c.args.pass.now c.place.new.pass c.in-Err.ensures.err.1

pub returns-clause-refused : goal.returns-clause-refused
returns-clause-refused g c =
    let above = c.place.ensures.above in
    let same = c.in-Err.ensures.err.0 in
    let now : c.deref.result.now ≡ c.place.new.self = search rules in
    let at = c.len.ensures ∙ ap (λ (l : List LogItem). length l) (now ∙ same) in
    not_placed g.N.TipName.time c.args.prepared c.args.pass.now _ c.in-Err.why c.len.result c.place.new.pass c.unplaced.result c.unplaced.ensures above.0 above.1
    c.place.ensures.history at (c.place.ensures.seen ∙ same) c.in-Err.ensures.refused

pub returns-clause-looks : goal.returns-clause-looks
returns-clause-looks g c = (_, c.place.ensures.looks)

use Rattle.std.proofs.Common.{◌≡◌, ◌∙◌, List, ap, sym}
use Rattle.std.proofs.lemmas.Iterator.Adapters.{YieldsList-from_vec}
use Rattle.std.proofs.lemmas.Iterator.Consumers.{YieldsList-end}
use Rattle.std.proofs.lemmas.List.{map-id}
use Rattle.im_format.specs.declared.records.Record.{Record}
use Rattle.im_store.specs.Found.{items_of}
use Rattle.im_store_opening.proofs.parts.found_items.Goals as goal

pub returns : goal.returns
returns c =
    let records : List Record = c.args.records.items in
    let gives = c.into_iter-record-iterator.ensures.into_iter_gives in
    let each = YieldsList-from_vec {s = c.into_iter-record-iterator.result} records gives.0 (gives.1 ∙ c.args.records.ok.0) in
    let end = YieldsList-end each c.loop-record.yielded c.loop-record.record-iterator c.loop-record.yielded_by c.next.result c.next.new.self c.in-None.is c.next.ensures.steps in
    let all : c.loop-record.yielded ≡ records = sym (map-id c.loop-record.yielded) ∙ end.0 in
    c.loop-record.invariant ∙ ap (λ (rs : List Record). items_of rs) all

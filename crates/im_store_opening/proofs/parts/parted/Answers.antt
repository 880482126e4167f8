use Rattle.std.proofs.Common.{◌≡◌, ◌∙◌, List, map, ap, sym}
use Rattle.std.proofs.lemmas.Iterator.Adapters.{YieldsList-from_vec}
use Rattle.std.proofs.lemmas.Iterator.Consumers.{YieldsList-end}
use Rattle.std.proofs.lemmas.List.{map-id}
use Rattle.im_table.specs.Histories.{history_of}
use Rattle.im_table.specs.declared.items.LogItem.{LogItem}
use Rattle.im_store_opening.proofs.parts.parted.Goals as goal

pub returns-clause-transactions : goal.returns-clause-transactions
returns-clause-transactions c =
    let items : List LogItem = c.args.items.items in
    let gives = c.into_iter-item-iterator.ensures.into_iter_gives in
    let each = YieldsList-from_vec {s = c.into_iter-item-iterator.result} items gives.0 (gives.1 ∙ c.args.items.ok.0) in
    let end = YieldsList-end each c.loop-item.yielded c.loop-item.item-iterator c.loop-item.yielded_by c.next.result c.next.new.self c.in-None.is c.next.ensures.steps in
    let all : c.loop-item.yielded ≡ items = sym (map-id c.loop-item.yielded) ∙ end.0 in
    c.loop-item.invariant.0 ∙ ap (λ (l : List LogItem). history_of l) all

pub returns-clause-refs : goal.returns-clause-refs
returns-clause-refs c =
    let items : List LogItem = c.args.items.items in
    let gives = c.into_iter-item-iterator.ensures.into_iter_gives in
    let each = YieldsList-from_vec {s = c.into_iter-item-iterator.result} items gives.0 (gives.1 ∙ c.args.items.ok.0) in
    let end = YieldsList-end each c.loop-item.yielded c.loop-item.item-iterator c.loop-item.yielded_by c.next.result c.next.new.self c.in-None.is c.next.ensures.steps in
    let all : c.loop-item.yielded ≡ items = sym (map-id c.loop-item.yielded) ∙ end.0 in
    c.loop-item.invariant.1 ∙ ap (λ (l : List LogItem). map (λ (x : LogItem). x.refs) l) all

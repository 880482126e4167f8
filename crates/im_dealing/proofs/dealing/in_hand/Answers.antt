use Rattle.std.proofs.Common.{◌≡◌, ◌∙◌, map, ap, sym}
use Rattle.std.proofs.lemmas.Iterator.Adapters.{YieldsList-from_vec}
use Rattle.std.proofs.lemmas.Iterator.Consumers.{YieldsList-end}
use Rattle.std.proofs.lemmas.List.{map-id}
use Rattle.im_dealing.proofs.dealing.in_hand.Goals as goal

pub returns : goal.returns
returns c =
    let hands = c.args.hands.items in
    let gives = c.into_iter-hand-iterator.ensures.into_iter_gives in
    let each = YieldsList-from_vec {s = c.into_iter-hand-iterator.result} hands gives.0 (gives.1 ∙ c.args.hands.ok.0) in
    let end = YieldsList-end each c.loop-hand.yielded c.loop-hand.hand-iterator c.loop-hand.yielded_by c.next.result c.next.new.self c.in-None.is c.next.ensures.steps in
    let all : c.loop-hand.yielded ≡ hands = sym (map-id c.loop-hand.yielded) ∙ end.0 in
    c.loop-hand.invariant ∙ ap (λ hs. map (λ hand. hand.items) hs) all

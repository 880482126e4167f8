use Rattle.std.proofs.Common.{◌≡◌, ◌∙◌, [], ◌∷◌, List, Vec, Global, All, sym, subst}
use Rattle.std.proofs.lemmas.Iterator.Adapters.{YieldsList-from_vec}
use Rattle.std.proofs.lemmas.Iterator.Consumers.{YieldsList-end}
use Rattle.std.proofs.lemmas.List.{map-id}
use Rattle.std.proofs.lemmas.List.Elements.{All-head}
use Rattle.im_octet.proofs.Common.{all-left, all-right}
use Rattle.im_hash_ahead.specs.Facts.{AreFacts}
use Rattle.im_hash_ahead.specs.declared.near.NearPart.{NearPart}
use Rattle.im_hash_ahead.proofs.near.place_each.Goals as goal

pub loop-parts-preserved : goal.loop-parts-preserved
loop-parts-preserved c hash all kept =
    let P : Vec NearPart Global → Type 0 = λ parts. All (λ part. AreFacts hash part.facts) parts.items in
    let before : List (Vec NearPart Global) = c.loop-parts.yielded in
    let next : Vec NearPart Global = c.in-Some.parts in
    c.place.ensures hash (All-head P next [] (all-right P before (next ∷ []) all))
    (c.loop-parts.invariant hash (all-left P before (next ∷ []) all) kept)

pub returns : goal.returns
returns c hash all kept =
    let P : Vec NearPart Global → Type 0 = λ parts. All (λ part. AreFacts hash part.facts) parts.items in
    let items : List (Vec NearPart Global) = c.args.lists.items in
    let gives = c.into_iter-parts-iterator.ensures.into_iter_gives in
    let each = YieldsList-from_vec {s = c.into_iter-parts-iterator.result} items gives.0 (gives.1 ∙ c.args.lists.ok.0) in
    let end = YieldsList-end each c.loop-parts.yielded c.loop-parts.parts-iterator c.loop-parts.yielded_by c.next.result c.next.new.self c.in-None.is c.next.ensures.steps in
    let same : c.loop-parts.yielded ≡ items = sym (map-id c.loop-parts.yielded) ∙ end.0 in
    c.loop-parts.invariant hash (subst (All P) (sym same) all) kept

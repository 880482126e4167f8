use Rattle.std.proofs.Common.{◌≡◌, ◌∙◌, [], ◌∷◌, List, Vec, Global, All, sym, subst}
use Rattle.std.proofs.lemmas.Iterator.Adapters.{YieldsList-from_vec}
use Rattle.std.proofs.lemmas.Iterator.Consumers.{YieldsList-end}
use Rattle.std.proofs.lemmas.List.{map-id}
use Rattle.std.proofs.lemmas.List.Elements.{All-head}
use Rattle.im_octet.proofs.Common.{all-left, all-right}
use Rattle.im_hash_ahead.specs.Facts.{AreFacts}
use Rattle.im_hash_ahead.specs.declared.facts.Fact.{Fact}
use Rattle.im_hash_ahead.proofs.rows.Rows.add.Goals as goal

pub loop-part-preserved : goal.loop-part-preserved
loop-part-preserved c hash all far =
    let P : Vec Fact Global → Type 0 = λ part. AreFacts hash part.items in
    let before : List (Vec Fact Global) = c.loop-part.yielded in
    let next : Vec Fact Global = c.in-Some.part in
    c.in_ok-add_part.ensures hash (All-head P next [] (all-right P before (next ∷ []) all))
    (c.loop-part.invariant hash (all-left P before (next ∷ []) all) far)

pub returns : goal.returns
returns c hash made far =
    let P : Vec Fact Global → Type 0 = λ part. AreFacts hash part.items in
    let items : List (Vec Fact Global) = c.args.parts.items in
    let gives = c.into_iter-part-iterator.ensures.into_iter_gives in
    let each = YieldsList-from_vec {s = c.into_iter-part-iterator.result} items gives.0 (gives.1 ∙ c.args.parts.ok.0) in
    let end = YieldsList-end each c.loop-part.yielded c.loop-part.part-iterator c.loop-part.yielded_by c.next.result c.next.new.self c.in-None.is c.next.ensures.steps in
    let all : c.loop-part.yielded ≡ items = sym (map-id c.loop-part.yielded) ∙ end.0 in
    c.loop-part.invariant hash (subst (All P) (sym all) made) far

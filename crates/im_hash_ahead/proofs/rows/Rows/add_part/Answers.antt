use Rattle.std.proofs.Common.{◌≡◌, ◌∙◌, [], ◌∷◌, List, sym, subst}
use Rattle.std.proofs.lemmas.Iterator.Adapters.{YieldsList-from_vec}
use Rattle.std.proofs.lemmas.Iterator.Consumers.{YieldsList-end}
use Rattle.std.proofs.lemmas.List.{map-id}
use Rattle.std.proofs.lemmas.List.Elements.{All-head}
use Rattle.im_octet.proofs.Common.{all-left, all-right}
use Rattle.im_hash_ahead.specs.Facts.{AreFacts, IsFact}
use Rattle.im_hash_ahead.specs.declared.facts.Fact.{Fact}
use Rattle.im_hash_ahead.proofs.rows.Rows.add_part.Goals as goal

pub loop-fact-preserved : goal.loop-fact-preserved
loop-fact-preserved c hash all far =
    let before : List Fact = c.loop-fact.yielded in
    let next : Fact = c.in-Some.fact in
    c.in_ok-add.ensures hash (c.loop-fact.invariant hash (all-left (IsFact hash) before (next ∷ []) all) far)
    (All-head (IsFact hash) next [] (all-right (IsFact hash) before (next ∷ []) all))

pub returns : goal.returns
returns c hash made far =
    let items : List Fact = c.args.part.items in
    let gives = c.into_iter-fact-iterator.ensures.into_iter_gives in
    let each = YieldsList-from_vec {s = c.into_iter-fact-iterator.result} items gives.0 (gives.1 ∙ c.args.part.ok.0) in
    let end = YieldsList-end each c.loop-fact.yielded c.loop-fact.fact-iterator c.loop-fact.yielded_by c.next.result c.next.new.self c.in-None.is c.next.ensures.steps in
    let all : c.loop-fact.yielded ≡ items = sym (map-id c.loop-fact.yielded) ∙ end.0 in
    c.loop-fact.invariant hash (subst (AreFacts hash) (sym all) made) far

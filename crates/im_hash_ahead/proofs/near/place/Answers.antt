use Rattle.std.proofs.Common.{◌≡◌, ◌∙◌, [], ◌∷◌, List, All, sym, subst}
use Rattle.std.proofs.lemmas.Iterator.Adapters.{YieldsList-from_vec}
use Rattle.std.proofs.lemmas.Iterator.Consumers.{YieldsList-end}
use Rattle.std.proofs.lemmas.List.{map-id}
use Rattle.std.proofs.lemmas.List.Elements.{All-head, All-set}
use Rattle.im_octet.proofs.Common.{all-left, all-right}
use Rattle.im_hash_ahead.specs.Facts.{AreFacts}
use Rattle.im_hash_ahead.specs.declared.near.NearPart.{NearPart}
use Rattle.im_hash_ahead.proofs.near.place.Goals as goal

pub loop-part-preserved-then-number-len : goal.loop-part-preserved-then-number-len
loop-part-preserved-then-number-len c hash all kept =
    let P : NearPart → Type 0 = λ part. AreFacts hash part.facts in
    let before : List NearPart = c.loop-part.yielded in
    let next : NearPart = c.in-Some.part in
    All-set (AreFacts hash) c.loop-part.near.items next.number c.replace.new.dest
    (subst (AreFacts hash) (sym c.replace.ensures.after) (All-head P next [] (all-right P before (next ∷ []) all)))
    (c.loop-part.invariant hash (all-left P before (next ∷ []) all) kept)

pub loop-part-preserved : goal.loop-part-preserved
loop-part-preserved c hash all kept =
    let P : NearPart → Type 0 = λ part. AreFacts hash part.facts in
    c.loop-part.invariant hash (all-left P c.loop-part.yielded (c.in-Some.part ∷ []) all) kept

pub returns : goal.returns
returns c hash all kept =
    let P : NearPart → Type 0 = λ part. AreFacts hash part.facts in
    let items : List NearPart = c.args.parts.items in
    let gives = c.into_iter-part-iterator.ensures.into_iter_gives in
    let each = YieldsList-from_vec {s = c.into_iter-part-iterator.result} items gives.0 (gives.1 ∙ c.args.parts.ok.0) in
    let end = YieldsList-end each c.loop-part.yielded c.loop-part.part-iterator c.loop-part.yielded_by c.next.result c.next.new.self c.in-None.is c.next.ensures.steps in
    let same : c.loop-part.yielded ≡ items = sym (map-id c.loop-part.yielded) ∙ end.0 in
    c.loop-part.invariant hash (subst (All P) (sym same) all) kept

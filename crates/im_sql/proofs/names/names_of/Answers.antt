use Rattle.std.proofs.Common.{Bor, ◌∷◌, [], ◌++◌, List, ℕ, map, ap, ◌∙◌, arith}
use Rattle.std.proofs.lemmas.List.{map_push, map-id, take_all}
use Rattle.im_sql.proofs.MapLemmas.{map-step}
use Rattle.im_sql.proofs.names.names_of.Goals as goal

abbrev octets : Bor (List ℕ) → List ℕ
octets lent = lent.now

abbrev name : List ℕ → List ℕ
name n = n

pub loop-name-preserved : goal.loop-name-preserved
loop-name-preserved c =
    let lent : List (Bor (List ℕ)) = c.loop-name.lent.items in
    map-step name c.args.names.now c.loop-name.name-index c.name-item.result [] (map octets lent) (map octets c.push.new.self.items)
    c.loop-name-test.true c.name-item.is c.loop-name.invariant
    (ap (map octets) c.in_ok-push.ensures.items ∙ map_push octets lent c.as_slice.result ∙ ap (λ (last : List ℕ). map octets lent ++ last ∷ []) c.as_slice.ensures)

pub returns : goal.returns
returns c = c.loop-name.invariant ∙ ap (map name) (take_all c.loop-name.name-index c.args.names.now (omega arith)) ∙ map-id c.args.names.now

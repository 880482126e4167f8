use Rattle.std.proofs.Common.{ℕ, List, [], ◌∷◌, ◌++◌, map, take, ap, sym, ◌∙◌, arith}
use Rattle.std.proofs.lemmas.List.{map_more, take_all}
use Rattle.im_hashed.proofs.places.digests_of.Goals as goal

pub loop-octets-preserved : goal.loop-octets-preserved
loop-octets-preserved g c =
    let digest : List ℕ → List ℕ = g.H.Hash32.digest c.args.hash.now in
    c.in_ok-push.ensures.items
    ∙ ap (λ (digests : List (List ℕ)). digests ++ c.digest_of.result ∷ []) c.loop-octets.invariant
    ∙ ap (λ (d : List ℕ). map digest (take c.loop-octets.octets-index c.args.strings.now) ++ d ∷ []) (c.digest_of.ensures ∙ ap digest c.octets-item.is)
    ∙ sym (map_more digest c.args.strings.now c.loop-octets.octets-index c.octets-item.result c.loop-octets-test.true)

pub returns : goal.returns
returns g c =
    c.loop-octets.invariant
    ∙ ap (map (g.H.Hash32.digest c.args.hash.now)) (take_all c.loop-octets.octets-index c.args.strings.now (omega (arith, c.loop-octets-test.false)))

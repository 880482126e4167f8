use Rattle.std.proofs.Common.{◌≡◌, ◌<◌, ℕ, Option, length, sym, subst, ◌∙◌}
use Rattle.std.specs.Prelude.{IfSome}
use Rattle.im_pairs.specs.Pairs.{IsPair}
use Rattle.im_octet.specs.Places.{place_in}
use Rattle.im_hashed.specs.Places.{string_at}
use Rattle.im_hashed.specs.declared.pairs.Pair.{Pair}
use Rattle.im_hashed.proofs.PlaceLemmas.{places-suc, pair-found, none-found, places-empty, digest-at, string-there, all-there, earlier-there}
use Rattle.im_hashed.proofs.pairs.find_pair.Goals as goal

pub loop-k-init : goal.loop-k-init
loop-k-init g c = places-empty (g.H.Hash32.digest c.args.hash.now) c.args.strings.now c.new-places.result c.new-places.ensures.empty

pub unlike-requires-clause-earlier : goal.unlike-requires-clause-earlier
unlike-requires-clause-earlier g c =
    let less = string-there (g.H.Hash32.digest c.args.hash.now) c.args.strings.now c.deref-digest-items.result.now c.loop-k.k (c.deref-digest-items.ensures.value ∙ c.in_ok-digests.ensures) c.loop-k-test.true in
    earlier-there (g.H.Hash32.digest c.args.hash.now) c.args.strings.now c.loop-k.k c.as_slice.result.now (place_in c.loop-k.places) c.in_ok-earlier.earlier less c.loop-k.invariant c.in_ok-earlier.ensures.earlier

pub unlike-requires-clause-here : goal.unlike-requires-clause-here
unlike-requires-clause-here g c =
    string-there (g.H.Hash32.digest c.args.hash.now) c.args.strings.now c.deref-digest-items.result.now c.loop-k.k (c.deref-digest-items.ensures.value ∙ c.in_ok-digests.ensures) c.loop-k-test.true

pub pair_at-requires-clause-one : goal.pair_at-requires-clause-one
pair_at-requires-clause-one g c =
    let less = string-there (g.H.Hash32.digest c.args.hash.now) c.args.strings.now c.deref-digest-items.result.now c.loop-k.k (c.deref-digest-items.ensures.value ∙ c.in_ok-digests.ensures) c.loop-k-test.true in
    subst (λ (o : Option ℕ). IfSome o (λ i. i < length c.args.strings.now)) c.in-Some.ensures.some.0
    (earlier-there (g.H.Hash32.digest c.args.hash.now) c.args.strings.now c.loop-k.k c.as_slice.result.now (place_in c.loop-k.places) c.in_ok-earlier.earlier less c.loop-k.invariant c.in_ok-earlier.ensures.earlier)

pub pair_at-requires-clause-other : goal.pair_at-requires-clause-other
pair_at-requires-clause-other g c =
    string-there (g.H.Hash32.digest c.args.hash.now) c.args.strings.now c.deref-digest-items.result.now c.loop-k.k (c.deref-digest-items.ensures.value ∙ c.in_ok-digests.ensures) c.loop-k-test.true

pub returns-in-Some-clause-found : goal.returns-in-Some-clause-found
returns-in-Some-clause-found g c =
    let less = string-there (g.H.Hash32.digest c.args.hash.now) c.args.strings.now c.deref-digest-items.result.now c.loop-k.k (c.deref-digest-items.ensures.value ∙ c.in_ok-digests.ensures) c.loop-k-test.true in
    let put = digest-at (g.H.Hash32.digest c.args.hash.now) c.args.strings.now c.deref-digest-items.result.now c.loop-k.k c.as_slice.result.now (c.deref-digest-items.ensures.value ∙ c.in_ok-digests.ensures) less c.as_slice.ensures in
    subst (λ (p : Pair). IsPair (g.H.Hash32.digest c.args.hash.now) p.x p.y c.args.strings.now) (sym c.in_ok-pair_at.ensures)
    (pair-found (g.H.Hash32.digest c.args.hash.now) c.args.strings.now c.loop-k.k c.in-Some.i c.as_slice.result.now (place_in c.loop-k.places) less put c.loop-k.invariant
    (sym c.in_ok-earlier.ensures.earlier ∙ c.in-Some.ensures.some.0) c.in-Some.ensures.some.1)

pub loop-k-preserved : goal.loop-k-preserved
loop-k-preserved g c =
    let less = string-there (g.H.Hash32.digest c.args.hash.now) c.args.strings.now c.deref-digest-items.result.now c.loop-k.k (c.deref-digest-items.ensures.value ∙ c.in_ok-digests.ensures) c.loop-k-test.true in
    let put = digest-at (g.H.Hash32.digest c.args.hash.now) c.args.strings.now c.deref-digest-items.result.now c.loop-k.k c.as_slice.result.now (c.deref-digest-items.ensures.value ∙ c.in_ok-digests.ensures) less c.as_slice.ensures in
    places-suc (g.H.Hash32.digest c.args.hash.now) c.args.strings.now c.loop-k.k c.as_slice.result.now (place_in c.loop-k.places) (place_in c.put.new.places) put
    (subst (λ (o : Option ℕ). IfSome o (λ i. string_at c.args.strings.now i ≡ string_at c.args.strings.now c.loop-k.k)) c.in_ok-earlier.ensures.earlier c.in_default.ensures.none)
    c.in_ok-earlier.ensures.after c.loop-k.invariant

pub returns-clause-none : goal.returns-clause-none
returns-clause-none g c =
    none-found (g.H.Hash32.digest c.args.hash.now) c.args.strings.now c.loop-k.k (place_in c.loop-k.places)
    (all-there (g.H.Hash32.digest c.args.hash.now) c.args.strings.now c.deref-digest-items.result.now c.loop-k.k (c.deref-digest-items.ensures.value ∙ c.in_ok-digests.ensures) c.loop-k.auto.k-end c.loop-k-test.false)
    c.loop-k.invariant

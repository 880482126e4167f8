use Rattle.std.proofs.Common.{arith, sym, subst, ◌∙◌}
use Rattle.std.proofs.lemmas.List.{take_all}
use Rattle.im_draft.specs.Drafts.{HaveDistinctKeys}
use Rattle.im_octet.specs.Places.{place_in}
use Rattle.im_tx.proofs.PlaceLemmas.{ArePlaces-suc, key-at}
use Rattle.im_tx.proofs.distinct.check_distinct.Goals as goal

pub loop-place-preserved : goal.loop-place-preserved
loop-place-preserved c =
    let drafts = c.args.drafts.now in
    let n = c.loop-place.place in
    let key = c.as_slice.result.now in
    ArePlaces-suc drafts n key (place_in c.loop-place.places) (place_in c.put.new.places) c.loop-place-test.true
    (key-at drafts n c.index-drafts-place.result key c.loop-place-test.true c.index-drafts-place.is c.as_slice.ensures)
    (sym c.in_ok-i.ensures.earlier ∙ c.in_default.is) c.in_ok-i.ensures.after c.loop-place.invariant

pub returns-clause-ok : goal.returns-clause-ok
returns-clause-ok c = subst HaveDistinctKeys (take_all c.loop-place.place c.args.drafts.now (omega arith)) c.loop-place.invariant.distinct

use Rattle.std.proofs.Common.{ap, subst, sym}
use Rattle.std.proofs.lemmas.Result.{IfErr-weaker, IfOk-weaker}
use Rattle.im_digest.specs.Digests.{Hash}
use Rattle.im_opening.specs.Opens.{FailsToOpen}
use Rattle.im_opening.specs.Reach.{txs_of}
use Rattle.im_opening.specs.declared.errors.OpenError.{OpenError}
use Rattle.im_opening.specs.declared.errors.OpenError.TheVariants.{Memory}
use Rattle.im_opening.proofs.OpensLemmas.{fails-behind}
use Rattle.im_store.specs.Names.{naming_of}
use Rattle.im_store_opening.proofs.OpenLemmas.{found_opens, gate_behind}
use Rattle.im_store_opening.proofs.opening.open.Goals as goal

pub returns-in-Ok-clause-opens : goal.returns-in-Ok-clause-opens
returns-in-Ok-clause-opens g c =
    let hash : Hash = g.H.Hash32.digest c.args.hash.now in
    let told = g.D.Disk.told in
    let faults = g.D.Disk.faults in
    let journal = c.in-Ok.recovered.journal in
    let rs = c.in-Ok.recovered.found.records.items in
    let rests = c.in-Ok.ensures.rests in
    IfOk-weaker c.opened_over.result _ _
    (λ opened all. found_opens told faults hash c.args.disk journal.disk journal.ends.commits rs c.in-Ok.ensures.opens
    (gate_behind told hash (txs_of rs) rests.batches journal rests.rests)
    (naming_of g.H.Hash32.digest told faults g.C.Clock.constant g.C.Clock.given opened) all.0 (ap g.H.Hash32.digest all.1) (ap told all.2) (ap faults all.2) c.in-Ok.ensures.found.history c.in-Ok.ensures.found.records)
    c.opened_over.ensures.found

pub returns-in-Ok-clause-failed : goal.returns-in-Ok-clause-failed
returns-in-Ok-clause-failed g c =
    let hash : Hash = g.H.Hash32.digest c.args.hash.now in
    let told = g.D.Disk.told in
    let faults = g.D.Disk.faults in
    let journal = c.in-Ok.recovered.journal in
    let behind = fails-behind told faults hash c.args.disk journal.disk journal.ends.commits (txs_of c.in-Ok.recovered.found.records.items) c.in-Ok.ensures.opens in
    IfErr-weaker c.opened_over.result _ _
    (λ failed back. subst (λ (why : OpenError). FailsToOpen told faults hash c.args.disk failed.disk why) (sym back.2)
    (subst (λ d. FailsToOpen told faults hash c.args.disk d Memory) (sym back.0) behind))
    c.opened_over.ensures.back

pub returns-in-Ok-clause-back : goal.returns-in-Ok-clause-back
returns-in-Ok-clause-back g c = IfErr-weaker c.opened_over.result _ _ (λ failed back. back.1) c.opened_over.ensures.back

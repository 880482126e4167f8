use Rattle.std.proofs.Common.{◌≡◌, ◌∙◌, List, Option, length, refl, sym, subst}
use Rattle.std.proofs.lemmas.List.{length-map}
use Rattle.std.proofs.lemmas.Result.{IfOk-weaker}
use Rattle.im_core.specs.Opened.{OpensTo}
use Rattle.im_core.specs.declared.store.OpenStore.{OpenStore}
use Rattle.im_core.proofs.OpenLemmas.{opens-to}
use Rattle.im_digest.specs.Digests.{Hash}
use Rattle.im_disk.specs.Disk.{seen, Told}
use Rattle.im_disk.specs.Recorded.{told_by}
use Rattle.im_format.specs.Standing.{Stands}
use Rattle.im_format.specs.declared.records.Record.{Record}
use Rattle.im_model.specs.declared.transactions.Transaction.{Transaction}
use Rattle.im_opening.specs.Reach.{txs_of}
use Rattle.im_core.proofs.opening.open_on.Goals as goal

pub store_of-requires : goal.store_of-requires
store_of-requires g c = c.in-Ok.ensures.found

pub returns-in-Ok : goal.returns-in-Ok
returns-in-Ok g c =
    let hash : Hash = g.H.Hash32.digest c.args.hash.now in
    let t : Told = told_by c.args.disk in
    let recovered = c.in-Ok.recovered in
    let records : List Record = recovered.found.records.items in
    let history : List Transaction = txs_of records in
    let ens = c.in-Ok.ensures in
    let stands : Stands hash (seen t) history = ens.opens.stands t refl in
    let count : length history ≡ length records = length-map records (λ (r : Record). r.tx) in
    IfOk-weaker c.store_of.result _ _
    (λ store over. opens-to hash c.args.disk recovered.journal history recovered.journal.ends.commits store over stands (ens.held t history refl stands)
    (ens.opens.gate_is t history refl stands) (ens.opens.calls t refl) (ens.rests.all ∙ sym count) ens.fresh.0)
    c.store_of.ensures

pub returns-in-Err : goal.returns-in-Err
returns-in-Err g c =
    let hash : Hash = g.H.Hash32.digest c.args.hash.now in
    let t : Told = told_by c.args.disk in
    IfOk-weaker c.not_opened.result _ _
    (λ store both. subst (λ (o : Option OpenStore). OpensTo hash t o) (sym both.0) (λ history stands. c.in-Err.ensures.failed.sound t history both.1.0 refl stands both.1.1))
    c.not_opened.ensures

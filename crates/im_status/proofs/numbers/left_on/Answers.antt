use Rattle.std.proofs.Common.{◌≡◌, ◌∙◌, List, ap, arith, length, refl}
use Rattle.im_digest.specs.Digests.{Hash}
use Rattle.im_model.specs.History.{alhs_of}
use Rattle.im_model.specs.declared.transactions.Transaction.{Transaction}
use Rattle.im_model.proofs.HistoryLemmas.{length-alhs_of}
use Rattle.im_opening.specs.Reach.{txs_of}
use Rattle.im_status.proofs.numbers.left_on.Goals as goal

-- the Alh that were found are those of the history for which the files stand
pub returns-in-Ok : goal.returns-in-Ok
returns-in-Ok g c = λ history stands.
    let hash : Hash = g.H.Hash32.digest c.args.hash.now in
    let same : txs_of c.in-Ok.recovered.found.records.items ≡ history = c.in-Ok.ensures.opens.one _ history refl stands in
    let alhs : c.in-Ok.recovered.found.alhs.items ≡ alhs_of hash history = c.in-Ok.ensures.found.alhs ∙ ap (λ (h : List Transaction). alhs_of hash h) same in (
      omega (arith, c.len-count.ensures, c.in-Ok.recovered.found.alhs.ok.0, ap length alhs, length-alhs_of hash history),
      c.alh_of-alh.ensures history (c.deref.ensures.value ∙ alhs),
    )

use Rattle.std.proofs.Common.{refl, sym, subst}
use Rattle.im_core.specs.Opened.{IsStoreOver}
use Rattle.im_core.specs.declared.store.OpenStore.{OpenStore}
use Rattle.im_opening.specs.Reach.{txs_of}
use Rattle.im_core.proofs.opening.store_of.Goals as goal

pub returns-in-Ok : goal.returns-in-Ok
returns-in-Ok g c =
    subst (λ (s : OpenStore). IsStoreOver (g.H.Hash32.digest c.args.hash.now) c.args.recovered.journal (txs_of c.args.recovered.found.records.items) s) (sym c.store_over.ensures)
    (record { lists = c.in-Ok.ensures; journal_is = refl; failures = refl; stopped = refl })

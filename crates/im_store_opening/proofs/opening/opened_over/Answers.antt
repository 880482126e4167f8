use Rattle.std.proofs.Common.{◌∙◌, List, subst, sym}
use Rattle.im_digest.specs.Digests.{Hash}
use Rattle.im_journal.specs.Kept.{IsAtRest}
use Rattle.im_model.specs.declared.transactions.Transaction.{Transaction}
use Rattle.im_store_opening.proofs.OpenLemmas.{found_history}
use Rattle.im_store_opening.proofs.opening.opened_over.Goals as goal

-- the journal is at rest behind what was found
pub of-requires : goal.of-requires
of-requires g c =
    let hash : Hash = g.H.Hash32.digest c.args.hash.now in
    let rs = c.args.found.records.items in
    let found = c.requires.rests in
    record {
      records = rs;
      batches = found.batches;
      joined_is = found.joined_is;
      rests = subst (λ (l : List Transaction). IsAtRest g.D.Disk.told hash l found.batches c.args.journal) (sym (found_history rs)) found.rests;
      all = found.all;
      going = c.requires.going;
      parts_are = c.in-Ok.ensures;
    }

pub returns-in-Ok-clause-found : goal.returns-in-Ok-clause-found
returns-in-Ok-clause-found g c =
    (c.of.ensures.found ∙ c.in-Ok.ensures.found, c.of.ensures.given.0, c.of.ensures.disk)

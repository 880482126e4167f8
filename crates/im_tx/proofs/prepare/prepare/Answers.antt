use Rattle.std.proofs.Common.{◌∙◌, subst}
use Rattle.im_draft.specs.Drafts.{AreEntries}
use Rattle.im_tx.proofs.AskedLemmas.{asked_from_drafts}
use Rattle.im_tx.proofs.prepare.prepare.Goals as goal

pub new-requires : goal.new-requires
new-requires c =
    asked_from_drafts c.args.drafts.items c.from_vec.result c.args.pres
    (c.from_vec.ensures ∙ c.in_ok-entries.ensures) (subst AreEntries c.deref.ensures.value c.in_ok-check.ensures.ok)

use Rattle.std.proofs.Common.{sym, ◌∙◌}
use Rattle.im_model.specs.Entries.{entry_digest}
use Rattle.im_mtree.specs.PathChecks.{path_checks}
use Rattle.im_mtree.proofs.CheckLemmas.{fail_append}
use Rattle.im_proof.specs.Duals.{as_faults}
use Rattle.im_client.specs.LineChecks.{dual_line_checks}
use Rattle.im_client.specs.declared.faults.LineFault.TheVariants.{Path}
use Rattle.im_client.proofs.checks.check_item_line.Goals as goal

pub returns : goal.returns
returns g c =
    let hash = g.H.Hash32.digest c.args.hash.now in
    c.check_entry.ensures
    ∙ sym (fail_append (dual_line_checks hash c.args.kept.header.now c.args.dual.now)
    (as_faults Path (path_checks hash (entry_digest hash c.args.entry.now) c.args.index c.args.dual.now.source.nentries c.args.path.now c.args.dual.now.source.eh))
    (sym c.in_ok-check_dual_line.ensures))

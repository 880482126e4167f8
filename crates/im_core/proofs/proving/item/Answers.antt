use Rattle.std.proofs.Common.{ℕ, List, ap, ◌∙◌, slice_index_or}
use Rattle.im_machine.specs.declared.outputs.Output.{Output}
use Rattle.im_machine.specs.declared.outputs.Output.TheVariants as says
use Rattle.im_model.specs.declared.entries.Entry.{Entry}
use Rattle.im_proof.specs.Between.{no_entry}
use Rattle.im_core.proofs.proving.item.Goals as goal

pub returns-in-Ok : goal.returns-in-Ok
returns-in-Ok g c =
    let with_entry : Entry → Output = λ e. says.Item c.args.dual e c.in-Ok.path in
    let with_path : List (List ℕ) → Output = λ ds. says.Item c.args.dual (slice_index_or c.args.entries.now c.args.index no_entry) ds in
    ap with_entry c.in-Ok.ensures.entry ∙ ap with_path c.in-Ok.ensures.path

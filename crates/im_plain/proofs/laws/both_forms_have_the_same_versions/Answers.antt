use Rattle.std.proofs.Common.{◌∙◌, sym}
use Rattle.im_plain.proofs.laws.both_forms_have_the_same_versions.Goals as goal

pub versions-requires : goal.versions-requires
versions-requires c = (c.requires.0, c.requires.1, c.requires.3)

pub versions-requires-2 : goal.versions-requires-2
versions-requires-2 c = (c.requires.0, c.requires.2, c.requires.3)

pub returns : goal.returns
returns c = c.in_ok-by_runs.ensures c.requires.0 c.requires.1 c.requires.3 ∙ sym (c.in_ok-by_list.ensures c.requires.0 c.requires.2 c.requires.3)

use Rattle.std.proofs.Common.{◌∙◌, sym}
use Rattle.im_plain.proofs.laws.both_forms_get_the_same.Goals as goal

pub get-requires : goal.get-requires
get-requires c = (c.requires.0, c.requires.1, c.requires.3)

pub get-requires-2 : goal.get-requires-2
get-requires-2 c = (c.requires.0, c.requires.2, c.requires.3)

pub returns : goal.returns
returns c = c.in_ok-by_runs.ensures c.requires.0 c.requires.1 c.requires.3 ∙ sym (c.in_ok-by_list.ensures c.requires.0 c.requires.2 c.requires.3)

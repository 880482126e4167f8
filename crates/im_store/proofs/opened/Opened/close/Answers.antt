use Rattle.std.proofs.Common.{◌∙◌}
use Rattle.im_store.proofs.OpenLemmas.{same_clock, same_disk}
use Rattle.im_store.proofs.opened.Opened.close.Goals as goal

pub returns : goal.returns
returns g c = (c.into_disk.ensures ∙ same_disk c.self.view_is, same_clock c.self.view_is)

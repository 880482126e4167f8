use Rattle.im_disk.proofs.Tearing.{seen_left}
use Rattle.im_disk.proofs.laws.reads_give_an_image.Goals as goal

pub returns : goal.returns
returns c = λ t within. seen_left t.first t.calls within

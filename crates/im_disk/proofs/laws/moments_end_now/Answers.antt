use Rattle.im_disk.proofs.Tearing.{left_now, now_left}
use Rattle.im_disk.proofs.laws.moments_end_now.Goals as goal

pub returns : goal.returns
returns c = λ t image. (left_now t.first t.calls image, now_left t.first t.calls image)

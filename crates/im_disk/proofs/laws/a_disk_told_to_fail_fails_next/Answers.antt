use Rattle.im_disk.proofs.Recording.{fails_then}
use Rattle.im_disk.proofs.laws.a_disk_told_to_fail_fails_next.Goals as goal

pub returns : goal.returns
returns c = λ d. fails_then d

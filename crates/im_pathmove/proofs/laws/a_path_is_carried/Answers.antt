use Rattle.im_pathmove.proofs.CarryLemmas.{carry}
use Rattle.im_pathmove.proofs.laws.a_path_is_carried.Goals as goal

pub returns : goal.returns
returns c = λ hash leaf first strings terms path m n i size long some grows digests on l. carry hash size leaf first strings long m n terms some grows digests on i path l.within l.long l.digests l.gives l.among

use Rattle.std.proofs.lemmas.Nat.{be_bytes_8}
use Rattle.std.proofs.Common.{rules}
use Rattle.im_octet.specs.Fields.{field8}
use Rattle.im_octet.proofs.reader.number8.Goals as goal

pub returns : goal.returns
unfolding field8
returns c = be_bytes_8 c.args.octets c.from_be_bytes.result (search rules) (search rules) c.from_be_bytes.ensures

use Rattle.std.proofs.Common.{arith, sym}
use Rattle.std.proofs.lemmas.List.{get_or_past}
use Rattle.im_index.proofs.shared.octet_at.Goals as goal

pub returns-else-place-key : goal.returns-else-place-key
returns-else-place-key c = sym (get_or_past c.args.key.now c.args.place 0 (omega arith))

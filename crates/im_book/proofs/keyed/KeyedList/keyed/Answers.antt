use Rattle.std.proofs.Common.{ap, arith, length}
use Rattle.im_book.specs.Keyed.{Keyed}
use Rattle.im_book.proofs.keyed.KeyedList.keyed.Goals as goal

pub returns-clause-within : goal.returns-clause-within
returns-clause-within c =
    let size = ap (λ (k : Keyed). length k.transactions) c.self.view_is in
    omega (arith, c.taken.ensures, c.self.invariant.within, size)

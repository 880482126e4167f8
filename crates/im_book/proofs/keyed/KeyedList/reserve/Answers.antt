use Rattle.std.proofs.Common.{List, subst, sym}
use Rattle.im_model.specs.declared.transactions.Transaction.{Transaction}
use Rattle.im_book.specs.Keyed.{IsKeyed}
use Rattle.im_book.proofs.keyed.KeyedList.reserve.Goals as goal

pub invariant_of-self : goal.invariant_of-self
invariant_of-self c = subst (λ (ts : List Transaction). IsKeyed c.self.inside.keys ts) (sym c.reserve.ensures.items) c.self.invariant

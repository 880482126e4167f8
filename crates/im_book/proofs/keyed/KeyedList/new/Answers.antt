use Rattle.im_book.proofs.KeyedLemmas.{keyed-new}
use Rattle.im_book.proofs.keyed.KeyedList.new.Goals as goal

pub invariant_of-result : goal.invariant_of-result
invariant_of-result c = keyed-new c.new.result c.args.transactions.items c.new.ensures

use Rattle.std.proofs.Common.{ap, arith}
use Rattle.im_book.specs.Keyed.{Keyed}
use Rattle.im_book.proofs.KeyedLemmas.{keyed-more}
use Rattle.im_book.proofs.keyed.KeyedList.push.Goals as goal

pub push_reserved-requires : goal.push_reserved-requires
push_reserved-requires c = omega (arith, ap (λ (k : Keyed). k.room) c.self.view_is, c.requires)

pub invariant_of-self : goal.invariant_of-self
invariant_of-self c = keyed-more c.self.inside.keys c.self.inside.transactions.items c.push_reserved.new.self.items c.args.tx c.self.invariant c.push_reserved.ensures.items

use Rattle.std.proofs.Common.{rules}
use Rattle.im_tests_seats.proofs.StartLemmas.{holds_none}
use Rattle.im_tests_seats.proofs.seats.shared_over.Goals as goal

pub new-book-requires-clause-items : goal.new-book-requires-clause-items
new-book-requires-clause-items g c =
    holds_none g.N.TipName.digest g.N.TipName.found _ _ _ _ c.requires.names.1 (search rules) c.empty.ensures.transactions (c.empty.ensures.book g.N.TipName.digest) (search rules) (search rules)

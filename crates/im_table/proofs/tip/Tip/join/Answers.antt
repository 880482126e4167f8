use Rattle.std.proofs.Common.{rules, [], arith}
use Rattle.im_table.proofs.ReferenceLemmas.{found_lawful}
use Rattle.im_table.proofs.LoadLemmas.{compares}
use Rattle.im_table.proofs.ShareLemmas.{joins}
use Rattle.im_table.proofs.tip.Tip.join.Goals as goal

pub join_seat-requires : goal.join_seat-requires
join_seat-requires g c =
    let none = found_lawful g.L.Law.allows c.self.inside.table.shared.key.logs g.L.Law.allows_found [] (λ k d lt. absurd (omega arith)) in
    (search rules, search rules, c.other.invariant, search rules, joins _ _ _ _ _ _ none)

pub load-requires : goal.load-requires
load-requires g c = (search rules, search rules, compares _ _ _ _ _)

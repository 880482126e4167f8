use Rattle.std.proofs.Common.{nat_lt, nat_eq, ◌&&◌, ◌||◌, rules}
use Rattle.std.proofs.lemmas.List.Sorted.{IsPartitionPoint-from_clause}
use Rattle.im_facts.specs.declared.facts.EntryFact.{EntryFact}
use Rattle.im_facts.proofs.SearchLemmas.{entries-parted}
use Rattle.im_facts.proofs.facts.entry_place.Goals as goal

pub returns-clause-point : goal.returns-clause-point
returns-clause-point c = λ entry.
    let p = λ (y : EntryFact). nat_lt y.tx c.args.tx || (nat_eq y.tx c.args.tx && nat_lt y.index c.args.index) in
    IsPartitionPoint-from_clause p _ _ c.partition_point.ensures.partitioned (entries-parted c.args.facts.now (record { tx = c.args.tx; index = c.args.index; entry = entry }) c.requires) (λ a r q k. search rules)

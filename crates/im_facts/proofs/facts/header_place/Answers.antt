use Rattle.std.proofs.Common.{nat_lt, rules}
use Rattle.std.proofs.lemmas.List.Sorted.{IsPartitionPoint-from_clause}
use Rattle.im_model.specs.declared.headers.Header.{Header}
use Rattle.im_facts.proofs.SearchLemmas.{headers-parted}
use Rattle.im_facts.proofs.facts.header_place.Goals as goal

pub returns-clause-point : goal.returns-clause-point
returns-clause-point c =
    let p = λ (y : Header). nat_lt y.id c.args.header.now.id in
    IsPartitionPoint-from_clause p _ _ c.partition_point.ensures.partitioned (headers-parted c.args.headers.now c.args.header.now c.requires) (λ a r q k. search rules)

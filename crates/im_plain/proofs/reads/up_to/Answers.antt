use Rattle.std.proofs.Common.{nat_le, rules, sym, subst}
use Rattle.std.proofs.lemmas.List.Sorted.{IsPartitionPoint-from_clause}
use Rattle.std.specs.List.Sorted.{IsPartitionedBy}
use Rattle.im_versions.specs.declared.versions.Version.{Version}
use Rattle.im_index.proofs.FrontLemmas.{front-versions, versions-parted}
use Rattle.im_plain.proofs.reads.up_to.Goals as goal

pub returns : goal.returns
returns c = λ history is.
    let p = λ (v : Version). nat_le v.tx c.args.n in
    let parted = subst (IsPartitionedBy p) (sym is) (versions-parted history c.args.n) in
    let point = IsPartitionPoint-from_clause p _ _ c.partition_point-end.ensures.partitioned parted (λ a r q k. search rules) in
    front-versions history _ c.args.n _ is c.partition_point-end.ensures.bound point

use Rattle.std.proofs.Common.{◌-◌, List, arith, drop, rules, take}
use Rattle.std.proofs.lemmas.List.Sorted.{IsPartitionPoint-from_clause}
use Rattle.im_versions.specs.Versions.{is_of}
use Rattle.im_versions.specs.declared.versions.Version.{Version}
use Rattle.im_index.proofs.BlockLemmas.{block-other, block-own, own-parted}
use Rattle.im_index.proofs.blocks.sought_len.Goals as goal

pub returns-clause-own : goal.returns-clause-own
returns-clause-own c =
    let key = c.args.key.now in
    let versions : List Version = c.args.versions.now in
    let from = c.doubled-from.result.0 in
    let to = c.doubled-from.result.1 in
    let p = λ (v : Version). is_of key v in
    let point = IsPartitionPoint-from_clause p (take (to - from) (drop from versions)) _ c.partition_point-further.ensures.partitioned
    (own-parted key versions from (to - from) (omega arith) c.requires.sorted c.requires.first) (λ a r q k. search rules) in
    block-own key versions from (to - from) _ (omega arith) c.doubled-from.ensures.own (omega arith) point

pub returns-clause-other : goal.returns-clause-other
returns-clause-other c =
    let key = c.args.key.now in
    let versions : List Version = c.args.versions.now in
    let from = c.doubled-from.result.0 in
    let to = c.doubled-from.result.1 in
    let p = λ (v : Version). is_of key v in
    let point = IsPartitionPoint-from_clause p (take (to - from) (drop from versions)) _ c.partition_point-further.ensures.partitioned
    (own-parted key versions from (to - from) (omega arith) c.requires.sorted c.requires.first) (λ a r q k. search rules) in
    block-other key versions from (to - from) to _ (omega arith) c.doubled-from.ensures.within (omega arith) c.doubled-from.ensures.other point

use Rattle.std.proofs.Common.{arith, rules, sym, ◌∙◌}
use Rattle.std.proofs.lemmas.List.Sorted.{IsPartitionPoint-from_clause}
use Rattle.im_versions.specs.declared.versions.Version.{Version}
use Rattle.im_index.proofs.BlockLemmas.{block-parted, block-whole}
use Rattle.im_index.proofs.FrontLemmas.{front-filter}
use Rattle.im_index.proofs.NewestLemmas.{is_within}
use Rattle.im_index.proofs.blocks.block_upto.Goals as goal

pub returns-then-is_within : goal.returns-then-is_within
returns-then-is_within c =
    let v : Version = c.index-block-last.result in
    block-whole c.requires.own.0 c.args.n _ c.args.block.now v c.requires.sorted c.requires.own.1 (omega arith) c.index-block-last.is
    (sym c.is_within.ensures ∙ c.if-is_within.true)

pub returns : goal.returns
returns c =
    let p = λ (v : Version). is_within c.args.n v in
    let parted = block-parted c.requires.own.0 c.args.n c.args.block.now c.requires.sorted c.requires.own.1 in
    let point = IsPartitionPoint-from_clause p _ _ c.partition_point-end.ensures.partitioned parted (λ a r q k. search rules) in
    front-filter p c.args.block.now _ c.partition_point-end.ensures.bound point

use Rattle.std.proofs.Common.{◌-◌, length, take, drop, rules}
use Rattle.std.proofs.lemmas.List.Sorted.{IsPartitionPoint-from_clause}
use Rattle.im_sqlsound.proofs.SayLemmas.{behind-all}
use Rattle.im_sqlsound.proofs.UnderLemmas.{is_before, is_under, parted-before, under-rest}
use Rattle.im_sqlsound.proofs.said.under.Goals as goal

pub returns : goal.returns
returns c =
    let front = c.args.front.now in
    let shown = c.args.shown.now in
    let rising = c.requires.2.rising in
    let from = c.partition_point-from.result in
    let count = c.partition_point-count.result in
    let rest = take (length shown - from) (drop from shown) in
    let point = IsPartitionPoint-from_clause (is_before front) shown from c.partition_point-from.ensures.partitioned (parted-before front shown rising) (λ a r q k. search rules) in
    under-rest front shown rest from count (behind-all from shown) rising c.partition_point-from.ensures.bound point c.partition_point-count.ensures.bound
    (λ parted. IsPartitionPoint-from_clause (is_under front) rest count c.partition_point-count.ensures.partitioned parted (λ a r q k. search rules))

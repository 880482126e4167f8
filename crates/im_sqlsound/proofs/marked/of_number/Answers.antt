use Rattle.std.proofs.Common.{◌-◌, length, take, drop, rules}
use Rattle.std.proofs.lemmas.List.Sorted.{IsPartitionPoint-from_clause}
use Rattle.im_sqlsound.proofs.HangLemmas.{is_earlier, is_upto, parted-earlier, number-rest}
use Rattle.im_sqlsound.proofs.SayLemmas.{behind-all}
use Rattle.im_sqlsound.proofs.marked.of_number.Goals as goal

pub returns : goal.returns
returns c =
    let tx = c.args.tx in
    let vs = c.args.changes.now in
    let from = c.partition_point-from.result in
    let count = c.partition_point-count.result in
    let rest = take (length vs - from) (drop from vs) in
    let point = IsPartitionPoint-from_clause (is_earlier tx) vs from c.partition_point-from.ensures.partitioned (parted-earlier tx vs c.requires) (λ a r q k. search rules) in
    number-rest tx vs rest from count (behind-all from vs) c.requires point c.partition_point-count.ensures.bound
    (λ parted. IsPartitionPoint-from_clause (is_upto tx) rest count c.partition_point-count.ensures.partitioned parted (λ a r q k. search rules))

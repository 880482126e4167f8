use Rattle.std.proofs.Common.{◌≡◌, ◌++◌, take}
use Rattle.im_octet.proofs.PartLemmas.{on-err, part_between, part_front, part_within}
use Rattle.im_format.specs.Records.{entries_octets, head_octets, record_octets}
use Rattle.im_record.proofs.writing.push_record.Goals as goal

pub returns-in_err-push_head-clause-part : goal.returns-in_err-push_head-clause-part
unfolding record_octets
returns-in_err-push_head-clause-part c =
    let part = c.in_err-push_head.ensures.part in
    let head = head_octets c.args.id c.args.kept.now.tx in
    let entries = entries_octets c.args.kept.now.tx.entries c.args.kept.now.refs in
    let first = part_front c.args.out.now.items c.push_head.new.out.items head entries part.0 part.1 in
    on-err c.from_residual.result (part_within c.args.out.now.items c.push_head.new.out.items head entries c.args.kept.now.alh first.0 first.1)

pub returns-in_err-push_entries-clause-part : goal.returns-in_err-push_entries-clause-part
unfolding record_octets
returns-in_err-push_entries-clause-part c =
    let part = c.in_err-push_entries.ensures.part in
    let added : c.push_entries.new.out.items ≡ c.push_head.new.out.items ++ take part.0 (entries_octets c.args.kept.now.tx.entries c.args.kept.now.refs) = cc part.1 in
    on-err c.from_residual-in_err-push_entries.result
    (part_between c.args.out.now.items c.push_head.new.out.items c.push_entries.new.out.items (head_octets c.args.id c.args.kept.now.tx) (entries_octets c.args.kept.now.tx.entries c.args.kept.now.refs) c.args.kept.now.alh part.0 c.in_ok-push_head.ensures.whole added)

use Rattle.im_octet.specs.Fields.{field2}
use Rattle.im_octet.proofs.PartLemmas.{fifth-err, on-err, part-of-five}
use Rattle.std.proofs.Common.{length}
use Rattle.im_format.specs.Records.{entry_octets, reference_octets}
use Rattle.im_record.proofs.writing.push_entry.Goals as goal

pub returns-in_err-push_fields-clause-part : goal.returns-in_err-push_fields-clause-part
unfolding entry_octets
returns-in_err-push_fields-clause-part c =
    let part = c.in_err-push_fields.ensures.part in
    on-err c.from_residual.result
    (part-of-five c.args.out.now.items c.push_fields.new.out.items (field2 (length c.args.entry.now.md)) c.args.entry.now.md (field2 (length c.args.entry.now.key)) c.args.entry.now.key (reference_octets c.args.reference.now) part.0 part.1)

pub returns-clause-part : goal.returns-clause-part
unfolding entry_octets
returns-clause-part c =
    fifth-err c.push_reference.result c.args.out.now.items c.push_fields.new.out.items c.push_reference.new.out.items (field2 (length c.args.entry.now.md)) c.args.entry.now.md (field2 (length c.args.entry.now.key)) c.args.entry.now.key (reference_octets c.args.reference.now)
    c.in_ok-push_fields.ensures.whole c.push_reference.ensures.part

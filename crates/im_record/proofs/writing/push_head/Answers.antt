use Rattle.std.proofs.Common.{rules, ◌≡◌, ◌∙◌, ◌++◌, length, refl}
use Rattle.im_octet.specs.Fields.{field4, field8, signed_field8}
use Rattle.im_octet.proofs.PartLemmas.{on-err, part_none}
use Rattle.im_record.proofs.PartLemmas.{added-behind, part_one_of_four, part_two_of_four, part_three_of_four}
use Rattle.im_format.specs.Records.{head_octets}
use Rattle.im_record.proofs.writing.push_head.Goals as goal

pub returns-in_err-extend_from_slice-clause-part : goal.returns-in_err-extend_from_slice-clause-part
returns-in_err-extend_from_slice-clause-part c = on-err c.from_residual.result (part_none _ _ _ c.in_err-extend_from_slice.ensures.items)

pub returns-in_err-extend_from_slice-2-clause-part : goal.returns-in_err-extend_from_slice-2-clause-part
unfolding head_octets
returns-in_err-extend_from_slice-2-clause-part c =
    let one : c.extend_from_slice.new.self.items ≡ c.args.out.now.items ++ field8 c.args.id = added-behind c.args.out.now.items c.extend_from_slice.new.self.items _ (field8 c.args.id) c.args.out.now.items refl c.in_ok-extend_from_slice.ensures.items (c.eight.ensures) in
    on-err c.from_residual-in_err-extend_from_slice-2.result (part_one_of_four _ _ (field8 c.args.id) (signed_field8 c.args.tx.now.ts) (field8 c.args.tx.now.bl) (field4 (length c.args.tx.now.entries)) (c.in_err-extend_from_slice-2.ensures.items ∙ one))

pub returns-in_err-extend_from_slice-3-clause-part : goal.returns-in_err-extend_from_slice-3-clause-part
unfolding head_octets
returns-in_err-extend_from_slice-3-clause-part c =
    let one : c.extend_from_slice.new.self.items ≡ c.args.out.now.items ++ field8 c.args.id = added-behind c.args.out.now.items c.extend_from_slice.new.self.items _ (field8 c.args.id) c.args.out.now.items refl c.in_ok-extend_from_slice.ensures.items (c.eight.ensures) in
    let signed : c.signed_eight.result ≡ signed_field8 c.args.tx.now.ts = search rules in
    let two : c.extend_from_slice-2.new.self.items ≡ c.args.out.now.items ++ field8 c.args.id ++ signed_field8 c.args.tx.now.ts = added-behind c.extend_from_slice.new.self.items c.extend_from_slice-2.new.self.items _ (signed_field8 c.args.tx.now.ts) _ one c.in_ok-extend_from_slice-2.ensures.items signed in
    on-err c.from_residual-in_err-extend_from_slice-3.result (part_two_of_four _ _ (field8 c.args.id) (signed_field8 c.args.tx.now.ts) (field8 c.args.tx.now.bl) (field4 (length c.args.tx.now.entries)) (c.in_err-extend_from_slice-3.ensures.items ∙ two))

pub returns-clause-part : goal.returns-clause-part
unfolding head_octets
returns-clause-part c =
    let one : c.extend_from_slice.new.self.items ≡ c.args.out.now.items ++ field8 c.args.id = added-behind c.args.out.now.items c.extend_from_slice.new.self.items _ (field8 c.args.id) c.args.out.now.items refl c.in_ok-extend_from_slice.ensures.items (c.eight.ensures) in
    let signed : c.signed_eight.result ≡ signed_field8 c.args.tx.now.ts = search rules in
    let two : c.extend_from_slice-2.new.self.items ≡ c.args.out.now.items ++ field8 c.args.id ++ signed_field8 c.args.tx.now.ts = added-behind c.extend_from_slice.new.self.items c.extend_from_slice-2.new.self.items _ (signed_field8 c.args.tx.now.ts) _ one c.in_ok-extend_from_slice-2.ensures.items signed in
    let three : c.extend_from_slice-3.new.self.items ≡ c.args.out.now.items ++ field8 c.args.id ++ signed_field8 c.args.tx.now.ts ++ field8 c.args.tx.now.bl = added-behind c.extend_from_slice-2.new.self.items c.extend_from_slice-3.new.self.items _ (field8 c.args.tx.now.bl) _ two c.in_ok-extend_from_slice-3.ensures.items (c.eight-2.ensures) in
    part_three_of_four c.extend_from_slice-4.result c.args.out.now.items c.extend_from_slice-3.new.self.items c.extend_from_slice-4.new.self.items _ (field8 c.args.id) (signed_field8 c.args.tx.now.ts) (field8 c.args.tx.now.bl) (field4 (length c.args.tx.now.entries)) three c.extend_from_slice-4.ensures.items

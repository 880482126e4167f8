use Rattle.std.proofs.Common.{◌≡◌, ◌∙◌, ◌++◌, ◌∷◌, [], refl}
use Rattle.im_octet.specs.Fields.{field4, field8}
use Rattle.im_octet.proofs.PartLemmas.{on-err, part_none}
use Rattle.im_record.proofs.PartLemmas.{added-behind, part_one_of_four, part_two_of_four, part_three_of_four}
use Rattle.im_format.specs.Records.{reference_octets}
use Rattle.im_record.proofs.writing.push_reference.Goals as goal

pub returns-in_err-extend_from_slice-clause-part : goal.returns-in_err-extend_from_slice-clause-part
returns-in_err-extend_from_slice-clause-part c = on-err c.from_residual.result (part_none _ _ _ c.in_err-extend_from_slice.ensures.items)

pub returns-in_err-extend_from_slice-2-clause-part : goal.returns-in_err-extend_from_slice-2-clause-part
unfolding reference_octets
returns-in_err-extend_from_slice-2-clause-part c =
    let one : c.extend_from_slice.new.self.items ≡ c.args.out.now.items ++ c.args.reference.now.hval = c.in_ok-extend_from_slice.ensures.items in
    on-err c.from_residual-in_err-extend_from_slice-2.result (part_one_of_four _ _ (c.args.reference.now.hval) (field4 c.args.reference.now.len) (c.args.reference.now.log ∷ []) (field8 c.args.reference.now.at) (c.in_err-extend_from_slice-2.ensures.items ∙ one))

pub returns-in_err-extend_from_slice-3-clause-part : goal.returns-in_err-extend_from_slice-3-clause-part
unfolding reference_octets
returns-in_err-extend_from_slice-3-clause-part c =
    let one : c.extend_from_slice.new.self.items ≡ c.args.out.now.items ++ c.args.reference.now.hval = c.in_ok-extend_from_slice.ensures.items in
    let two : c.extend_from_slice-2.new.self.items ≡ c.args.out.now.items ++ c.args.reference.now.hval ++ field4 c.args.reference.now.len = added-behind c.extend_from_slice.new.self.items c.extend_from_slice-2.new.self.items _ (field4 c.args.reference.now.len) _ one c.in_ok-extend_from_slice-2.ensures.items c.four.ensures in
    on-err c.from_residual-in_err-extend_from_slice-3.result (part_two_of_four _ _ (c.args.reference.now.hval) (field4 c.args.reference.now.len) (c.args.reference.now.log ∷ []) (field8 c.args.reference.now.at) (c.in_err-extend_from_slice-3.ensures.items ∙ two))

pub returns-clause-part : goal.returns-clause-part
unfolding reference_octets
returns-clause-part c =
    let one : c.extend_from_slice.new.self.items ≡ c.args.out.now.items ++ c.args.reference.now.hval = c.in_ok-extend_from_slice.ensures.items in
    let two : c.extend_from_slice-2.new.self.items ≡ c.args.out.now.items ++ c.args.reference.now.hval ++ field4 c.args.reference.now.len = added-behind c.extend_from_slice.new.self.items c.extend_from_slice-2.new.self.items _ (field4 c.args.reference.now.len) _ one c.in_ok-extend_from_slice-2.ensures.items c.four.ensures in
    let three : c.extend_from_slice-3.new.self.items ≡ c.args.out.now.items ++ c.args.reference.now.hval ++ field4 c.args.reference.now.len ++ (c.args.reference.now.log ∷ []) = added-behind c.extend_from_slice-2.new.self.items c.extend_from_slice-3.new.self.items _ (c.args.reference.now.log ∷ []) _ two c.in_ok-extend_from_slice-3.ensures.items refl in
    part_three_of_four c.extend_from_slice-4.result c.args.out.now.items c.extend_from_slice-3.new.self.items c.extend_from_slice-4.new.self.items _ (c.args.reference.now.hval) (field4 c.args.reference.now.len) (c.args.reference.now.log ∷ []) (field8 c.args.reference.now.at) three c.extend_from_slice-4.ensures.items

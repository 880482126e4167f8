use Rattle.std.proofs.Common.{◌≡◌, ◌∙◌, ◌++◌, ℕ, List, length, refl, ap}
use Rattle.im_octet.specs.Fields.{field2}
use Rattle.im_octet.proofs.PartLemmas.{on-err, part_none}
use Rattle.im_record.proofs.PartLemmas.{added-behind, part_one_of_four, part_two_of_four, part_three_of_four}
use Rattle.im_record.proofs.writing.push_fields.Goals as goal

pub returns-in_err-extend_from_slice-clause-part : goal.returns-in_err-extend_from_slice-clause-part
returns-in_err-extend_from_slice-clause-part c = on-err c.from_residual.result (part_none _ _ _ c.in_err-extend_from_slice.ensures.items)

pub returns-in_err-extend_from_slice-2-clause-part : goal.returns-in_err-extend_from_slice-2-clause-part
returns-in_err-extend_from_slice-2-clause-part c =
    let one : c.extend_from_slice.new.self.items ≡ c.args.out.now.items ++ field2 (length c.args.entry.now.md) = added-behind c.args.out.now.items c.extend_from_slice.new.self.items _ (field2 (length c.args.entry.now.md)) c.args.out.now.items refl c.in_ok-extend_from_slice.ensures.items (c.two.ensures ∙ ap (λ (l : List ℕ). field2 (length l)) c.as_slice-md.ensures.value) in
    on-err c.from_residual-in_err-extend_from_slice-2.result (part_one_of_four _ _ (field2 (length c.args.entry.now.md)) (c.args.entry.now.md) (field2 (length c.args.entry.now.key)) (c.args.entry.now.key) (c.in_err-extend_from_slice-2.ensures.items ∙ one))

pub returns-in_err-extend_from_slice-3-clause-part : goal.returns-in_err-extend_from_slice-3-clause-part
returns-in_err-extend_from_slice-3-clause-part c =
    let one : c.extend_from_slice.new.self.items ≡ c.args.out.now.items ++ field2 (length c.args.entry.now.md) = added-behind c.args.out.now.items c.extend_from_slice.new.self.items _ (field2 (length c.args.entry.now.md)) c.args.out.now.items refl c.in_ok-extend_from_slice.ensures.items (c.two.ensures ∙ ap (λ (l : List ℕ). field2 (length l)) c.as_slice-md.ensures.value) in
    let two : c.extend_from_slice-2.new.self.items ≡ c.args.out.now.items ++ field2 (length c.args.entry.now.md) ++ c.args.entry.now.md = added-behind c.extend_from_slice.new.self.items c.extend_from_slice-2.new.self.items _ (c.args.entry.now.md) _ one c.in_ok-extend_from_slice-2.ensures.items (c.as_slice-md.ensures.value) in
    on-err c.from_residual-in_err-extend_from_slice-3.result (part_two_of_four _ _ (field2 (length c.args.entry.now.md)) (c.args.entry.now.md) (field2 (length c.args.entry.now.key)) (c.args.entry.now.key) (c.in_err-extend_from_slice-3.ensures.items ∙ two))

pub returns-clause-part : goal.returns-clause-part
returns-clause-part c =
    let one : c.extend_from_slice.new.self.items ≡ c.args.out.now.items ++ field2 (length c.args.entry.now.md) = added-behind c.args.out.now.items c.extend_from_slice.new.self.items _ (field2 (length c.args.entry.now.md)) c.args.out.now.items refl c.in_ok-extend_from_slice.ensures.items (c.two.ensures ∙ ap (λ (l : List ℕ). field2 (length l)) c.as_slice-md.ensures.value) in
    let two : c.extend_from_slice-2.new.self.items ≡ c.args.out.now.items ++ field2 (length c.args.entry.now.md) ++ c.args.entry.now.md = added-behind c.extend_from_slice.new.self.items c.extend_from_slice-2.new.self.items _ (c.args.entry.now.md) _ one c.in_ok-extend_from_slice-2.ensures.items (c.as_slice-md.ensures.value) in
    let three : c.extend_from_slice-3.new.self.items ≡ c.args.out.now.items ++ field2 (length c.args.entry.now.md) ++ c.args.entry.now.md ++ field2 (length c.args.entry.now.key) = added-behind c.extend_from_slice-2.new.self.items c.extend_from_slice-3.new.self.items _ (field2 (length c.args.entry.now.key)) _ two c.in_ok-extend_from_slice-3.ensures.items (c.two-2.ensures ∙ ap (λ (l : List ℕ). field2 (length l)) c.as_slice-key.ensures.value) in
    part_three_of_four c.extend_from_slice-4.result c.args.out.now.items c.extend_from_slice-3.new.self.items c.extend_from_slice-4.new.self.items _ (field2 (length c.args.entry.now.md)) (c.args.entry.now.md) (field2 (length c.args.entry.now.key)) (c.args.entry.now.key) three c.extend_from_slice-4.ensures.items

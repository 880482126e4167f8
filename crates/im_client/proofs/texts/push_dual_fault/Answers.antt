use Rattle.im_client.specs.Texts.{dual_fault_text}
use Rattle.im_client.proofs.TextLemmas.{said}
use Rattle.im_client.proofs.texts.push_dual_fault.Goals as goal

pub returns-in-Source : goal.returns-in-Source
unfolding dual_fault_text
returns-in-Source c = said c.push_header_fault.result _ _ dual_fault_text _ _ c.in-Source.is c.push_header_fault.ensures

pub returns-in-Target : goal.returns-in-Target
unfolding dual_fault_text
returns-in-Target c = said c.push_header_fault-in-Target.result _ _ dual_fault_text _ _ c.in-Target.is c.push_header_fault-in-Target.ensures

pub returns-in-Order : goal.returns-in-Order
unfolding dual_fault_text
returns-in-Order c = said c.push_numbers.result _ _ dual_fault_text _ _ c.in-Order.is c.push_numbers.ensures

pub returns-in-Shrink : goal.returns-in-Shrink
unfolding dual_fault_text
returns-in-Shrink c = said c.push_numbers-in-Shrink.result _ _ dual_fault_text _ _ c.in-Shrink.is c.push_numbers-in-Shrink.ensures

pub returns-in-InclusionLength : goal.returns-in-InclusionLength
unfolding dual_fault_text
returns-in-InclusionLength c = said c.push_numbers-in-InclusionLength.result _ _ dual_fault_text _ _ c.in-InclusionLength.is c.push_numbers-in-InclusionLength.ensures

pub returns-in-InclusionRoot : goal.returns-in-InclusionRoot
unfolding dual_fault_text
returns-in-InclusionRoot c = said c.push_digests.result _ _ dual_fault_text _ _ c.in-InclusionRoot.is c.push_digests.ensures

pub returns-in-ConsistencyLength : goal.returns-in-ConsistencyLength
unfolding dual_fault_text
returns-in-ConsistencyLength c = said c.push_numbers-in-ConsistencyLength.result _ _ dual_fault_text _ _ c.in-ConsistencyLength.is c.push_numbers-in-ConsistencyLength.ensures

pub returns-in-ConsistencyOld : goal.returns-in-ConsistencyOld
unfolding dual_fault_text
returns-in-ConsistencyOld c = said c.push_digests-in-ConsistencyOld.result _ _ dual_fault_text _ _ c.in-ConsistencyOld.is c.push_digests-in-ConsistencyOld.ensures

pub returns-in-ConsistencyNew : goal.returns-in-ConsistencyNew
unfolding dual_fault_text
returns-in-ConsistencyNew c = said c.push_digests-in-ConsistencyNew.result _ _ dual_fault_text _ _ c.in-ConsistencyNew.is c.push_digests-in-ConsistencyNew.ensures

pub returns-in-LastLength : goal.returns-in-LastLength
unfolding dual_fault_text
returns-in-LastLength c = said c.push_numbers-in-LastLength.result _ _ dual_fault_text _ _ c.in-LastLength.is c.push_numbers-in-LastLength.ensures

pub returns-in-LastRoot : goal.returns-in-LastRoot
unfolding dual_fault_text
returns-in-LastRoot c = said c.push_digests-in-LastRoot.result _ _ dual_fault_text _ _ c.in-LastRoot.is c.push_digests-in-LastRoot.ensures

pub returns-in-BlAlh : goal.returns-in-BlAlh
unfolding dual_fault_text
returns-in-BlAlh c = said c.push_digests-in-BlAlh.result _ _ dual_fault_text _ _ c.in-BlAlh.is c.push_digests-in-BlAlh.ensures

pub returns-in-LinearLength : goal.returns-in-LinearLength
unfolding dual_fault_text
returns-in-LinearLength c = said c.push_numbers-in-LinearLength.result _ _ dual_fault_text _ _ c.in-LinearLength.is c.push_numbers-in-LinearLength.ensures

pub returns-in-LinearStart : goal.returns-in-LinearStart
unfolding dual_fault_text
returns-in-LinearStart c = said c.push_digests-in-LinearStart.result _ _ dual_fault_text _ _ c.in-LinearStart.is c.push_digests-in-LinearStart.ensures

pub returns-in-LinearEnd : goal.returns-in-LinearEnd
unfolding dual_fault_text
returns-in-LinearEnd c = said c.push_digests-in-LinearEnd.result _ _ dual_fault_text _ _ c.in-LinearEnd.is c.push_digests-in-LinearEnd.ensures

pub returns-in-AdvanceLength : goal.returns-in-AdvanceLength
unfolding dual_fault_text
returns-in-AdvanceLength c = said c.push_numbers-in-AdvanceLength.result _ _ dual_fault_text _ _ c.in-AdvanceLength.is c.push_numbers-in-AdvanceLength.ensures

pub returns-in-AdvanceCount : goal.returns-in-AdvanceCount
unfolding dual_fault_text
returns-in-AdvanceCount c = said c.push_numbers-in-AdvanceCount.result _ _ dual_fault_text _ _ c.in-AdvanceCount.is c.push_numbers-in-AdvanceCount.ensures

pub returns-in-AdvancePathLength : goal.returns-in-AdvancePathLength
unfolding dual_fault_text
returns-in-AdvancePathLength c = said c.push_numbers_of.result _ _ dual_fault_text _ _ c.in-AdvancePathLength.is c.push_numbers_of.ensures

pub returns-in-AdvancePathRoot : goal.returns-in-AdvancePathRoot
unfolding dual_fault_text
returns-in-AdvancePathRoot c = said c.push_digests_of.result _ _ dual_fault_text _ _ c.in-AdvancePathRoot.is c.push_digests_of.ensures

pub returns-in-AdvanceEnd : goal.returns-in-AdvanceEnd
unfolding dual_fault_text
returns-in-AdvanceEnd c = said c.push_digests-in-AdvanceEnd.result _ _ dual_fault_text _ _ c.in-AdvanceEnd.is c.push_digests-in-AdvanceEnd.ensures

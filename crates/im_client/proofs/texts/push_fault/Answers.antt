use Rattle.im_client.specs.Texts.{fault_text}
use Rattle.im_client.proofs.TextLemmas.{said}
use Rattle.im_client.proofs.texts.push_fault.Goals as goal

pub returns-in-State : goal.returns-in-State
unfolding fault_text
returns-in-State c = said c.push_header_fault.result _ _ fault_text _ _ c.in-State.is c.push_header_fault.ensures

pub returns-in-StateId : goal.returns-in-StateId
unfolding fault_text
returns-in-StateId c = said c.push_numbers.result _ _ fault_text _ _ c.in-StateId.is c.push_numbers.ensures

pub returns-in-StateAlh : goal.returns-in-StateAlh
unfolding fault_text
returns-in-StateAlh c = said c.push_digests.result _ _ fault_text _ _ c.in-StateAlh.is c.push_digests.ensures

pub returns-in-SourceId : goal.returns-in-SourceId
unfolding fault_text
returns-in-SourceId c = said c.push_numbers-in-SourceId.result _ _ fault_text _ _ c.in-SourceId.is c.push_numbers-in-SourceId.ensures

pub returns-in-SourceAlh : goal.returns-in-SourceAlh
unfolding fault_text
returns-in-SourceAlh c = said c.push_digests-in-SourceAlh.result _ _ fault_text _ _ c.in-SourceAlh.is c.push_digests-in-SourceAlh.ensures

pub returns-in-TargetId : goal.returns-in-TargetId
unfolding fault_text
returns-in-TargetId c = said c.push_numbers-in-TargetId.result _ _ fault_text _ _ c.in-TargetId.is c.push_numbers-in-TargetId.ensures

pub returns-in-TargetAlh : goal.returns-in-TargetAlh
unfolding fault_text
returns-in-TargetAlh c = said c.push_digests-in-TargetAlh.result _ _ fault_text _ _ c.in-TargetAlh.is c.push_digests-in-TargetAlh.ensures

pub returns-in-Dual : goal.returns-in-Dual
unfolding fault_text
returns-in-Dual c = said c.push_dual_fault.result _ _ fault_text _ _ c.in-Dual.is c.push_dual_fault.ensures

pub returns-in-AnchorSourceId : goal.returns-in-AnchorSourceId
unfolding fault_text
returns-in-AnchorSourceId c = said c.push_numbers-in-AnchorSourceId.result _ _ fault_text _ _ c.in-AnchorSourceId.is c.push_numbers-in-AnchorSourceId.ensures

pub returns-in-AnchorTargetId : goal.returns-in-AnchorTargetId
unfolding fault_text
returns-in-AnchorTargetId c = said c.push_numbers-in-AnchorTargetId.result _ _ fault_text _ _ c.in-AnchorTargetId.is c.push_numbers-in-AnchorTargetId.ensures

pub returns-in-AnchorSourceAlh : goal.returns-in-AnchorSourceAlh
unfolding fault_text
returns-in-AnchorSourceAlh c = said c.push_digests-in-AnchorSourceAlh.result _ _ fault_text _ _ c.in-AnchorSourceAlh.is c.push_digests-in-AnchorSourceAlh.ensures

pub returns-in-AnchorTargetAlh : goal.returns-in-AnchorTargetAlh
unfolding fault_text
returns-in-AnchorTargetAlh c = said c.push_digests-in-AnchorTargetAlh.result _ _ fault_text _ _ c.in-AnchorTargetAlh.is c.push_digests-in-AnchorTargetAlh.ensures

pub returns-in-Path : goal.returns-in-Path
unfolding fault_text
returns-in-Path c = said c.push_path_fault.result _ _ fault_text _ _ c.in-Path.is c.push_path_fault.ensures

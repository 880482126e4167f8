use Rattle.im_client.specs.Texts.{path_fault_text}
use Rattle.im_client.proofs.TextLemmas.{said}
use Rattle.im_client.proofs.texts.push_path_fault.Goals as goal

pub returns-in-Length : goal.returns-in-Length
unfolding path_fault_text
returns-in-Length c = said c.push_numbers-in-Length.result _ _ path_fault_text _ _ c.in-Length.is c.push_numbers-in-Length.ensures

pub returns-in-Root : goal.returns-in-Root
unfolding path_fault_text
returns-in-Root c = said c.push_digests.result _ _ path_fault_text _ _ c.in-Root.is c.push_digests.ensures

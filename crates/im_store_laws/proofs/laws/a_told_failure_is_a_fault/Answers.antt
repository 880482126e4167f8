use Rattle.im_store_laws.proofs.OpenEvents.{fault_event}
use Rattle.im_store_laws.proofs.laws.a_told_failure_is_a_fault.Goals as goal

pub returns : goal.returns
returns c = λ hash v n less few. fault_event hash v.least.failed n less few

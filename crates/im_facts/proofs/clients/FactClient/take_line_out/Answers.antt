use Rattle.std.proofs.Common.{refl, inl}
use Rattle.im_client.specs.declared.faults.LineFault.TheVariants.{Syntax}
use Rattle.im_facts.specs.Verdicts.{Passed, Refused}
use Rattle.im_facts.proofs.clients.FactClient.take_line_out.Goals as goal

pub take_said-requires-clause-says : goal.take_said-requires-clause-says
take_said-requires-clause-says g c = rw c.in-Ok-Some.field-0-is at c.in-Ok-Some.ensures

pub returns-in-Ok-None-clause-told : goal.returns-in-Ok-None-clause-told
returns-in-Ok-None-clause-told g c = λ known knows. (Passed, (rw c.in-Ok-None.field-0-is at c.in-Ok-None.ensures), refl, knows, refl)

pub returns-in-Err-Syntax-clause-told : goal.returns-in-Err-Syntax-clause-told
returns-in-Err-Syntax-clause-told g c = λ known knows. (Refused Syntax, inl (rw c.in-Err-Syntax.field-0-is at c.in-Err-Syntax.ensures, refl), refl, knows, refl)

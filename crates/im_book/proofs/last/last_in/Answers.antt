use Rattle.std.proofs.Common.{ap, sym}
use Rattle.im_versions.specs.Versions.{is_written, version_number}
use Rattle.im_book.proofs.last.last_in.Goals as goal

pub returns-in-Some-clause-number : goal.returns-in-Some-clause-number
returns-in-Some-clause-number g c = λ history is. ap version_number (sym (c.in-Some.ensures.value history is))

pub returns-in-Some-clause-live : goal.returns-in-Some-clause-live
returns-in-Some-clause-live g c = λ history is. ap is_written (sym (c.in-Some.ensures.value history is))

pub returns-in-None-clause-number : goal.returns-in-None-clause-number
returns-in-None-clause-number g c = λ history is. ap version_number (sym (c.in-None.ensures.value history is))

pub returns-in-None-clause-live : goal.returns-in-None-clause-live
returns-in-None-clause-live g c = λ history is. ap is_written (sym (c.in-None.ensures.value history is))

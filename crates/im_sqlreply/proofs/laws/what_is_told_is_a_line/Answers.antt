use Rattle.im_sqlreply.proofs.TextLemmas.{syntax-begins, syntax-lacks}
use Rattle.im_sqlreply.proofs.ToldLemmas.{told-begins, told-lacks}
use Rattle.im_sqlreply.proofs.laws.what_is_told_is_a_line.Goals as goal

pub returns-clause-shown : goal.returns-clause-shown
returns-clause-shown c history said answer reply formed is shown = told-lacks history said answer reply formed is shown

pub returns-clause-fault : goal.returns-clause-fault
returns-clause-fault c fault = syntax-lacks fault

pub returns-clause-begins : goal.returns-clause-begins
returns-clause-begins c answer reply shown = told-begins answer reply shown

pub returns-clause-fault_begins : goal.returns-clause-fault_begins
returns-clause-fault_begins c fault = syntax-begins fault

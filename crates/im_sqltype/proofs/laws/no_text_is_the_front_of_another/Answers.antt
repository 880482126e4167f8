use Rattle.std.proofs.Common.{[], ◌∙◌, sym}
use Rattle.std.proofs.lemmas.List.{append-nil}
use Rattle.im_sqltype.specs.Texts.{value_text, row_text}
use Rattle.im_sqltype.proofs.FrontLemmas.{value-front, row-front}
use Rattle.im_sqltype.proofs.laws.no_text_is_the_front_of_another.Goals as goal

pub returns-clause-value : goal.returns-clause-value
returns-clause-value c = λ kind v w rest p q e. (value-front kind v w rest [] p q (sym e ∙ sym (append-nil (value_text w)))).0

pub returns-clause-value_end : goal.returns-clause-value_end
returns-clause-value_end c = λ kind v w rest p q e. (value-front kind v w rest [] p q (sym e ∙ sym (append-nil (value_text w)))).1

pub returns-clause-row : goal.returns-clause-row
returns-clause-row c = λ kinds vs ws rest p q e. (row-front kinds vs ws rest [] p q (sym e ∙ sym (append-nil (row_text ws)))).0

pub returns-clause-row_end : goal.returns-clause-row_end
returns-clause-row_end c = λ kinds vs ws rest p q e. (row-front kinds vs ws rest [] p q (sym e ∙ sym (append-nil (row_text ws)))).1

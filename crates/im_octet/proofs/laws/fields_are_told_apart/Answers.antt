use Rattle.im_octet.proofs.FieldLemmas.{same-field2, same-field4, same-field8, same-signed8}
use Rattle.im_octet.proofs.laws.fields_are_told_apart.Goals as goal

pub returns-clause-two : goal.returns-clause-two
returns-clause-two c = λ m n p q e. same-field2 m n p q e

pub returns-clause-four : goal.returns-clause-four
returns-clause-four c = λ m n p q e. same-field4 m n p q e

pub returns-clause-eight : goal.returns-clause-eight
returns-clause-eight c = λ m n p q e. same-field8 m n p q e

pub returns-clause-signed : goal.returns-clause-signed
returns-clause-signed c = λ y z p q e. same-signed8 y z p q e

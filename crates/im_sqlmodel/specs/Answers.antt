-- The answer of a statement where it counts these transactions. A statement that writes is judged after all of them.
use Rattle.std.specs.Prelude.{List, true, false, Result}
use Rattle.im_model.specs.declared.transactions.Transaction.{Transaction}
use Rattle.im_sqlparse.specs.declared.statements.Form.{Form}
use Rattle.im_sqlparse.specs.declared.statements.Form.TheVariants as form
use Rattle.im_sqlmodel.specs.Creations.{CreateTableIs, CreateIndexIs}
use Rattle.im_sqlmodel.specs.Selects.{SelectIs}
use Rattle.im_sqlmodel.specs.Writes.{inserted, erased, WriteIs}
use Rattle.im_sqlmodel.specs.declared.answers.SqlError.{SqlError}
use Rattle.im_sqlmodel.specs.declared.answers.SqlOut.{SqlOut}

abbrev pub AnswerIs : List Transaction → Form → Result SqlOut SqlError → Type 0
AnswerIs history (form.CreateTable c) answer = CreateTableIs history c answer
AnswerIs history (form.CreateIndex c) answer = CreateIndexIs history c answer
AnswerIs history (form.Upsert s) answer = WriteIs history s.table (inserted history false s) answer
AnswerIs history (form.Insert s) answer = WriteIs history s.table (inserted history true s) answer
AnswerIs history (form.Delete s) answer = WriteIs history s.table (erased history s) answer
AnswerIs history (form.Select s) answer = SelectIs history s answer

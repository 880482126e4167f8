use Rattle.std.proofs.Common.{◌≡◌, ◌⊎◌, Err, take, sym, subst, ◌∙◌}
use Rattle.im_sqlparse.specs.Formed.{IsStatement}
use Rattle.im_sqlparse.specs.declared.statements.Form.{Form}
use Rattle.im_sqlmodel.specs.Answers.{AnswerIs}
use Rattle.im_sqlmodel.specs.declared.answers.SqlError.TheVariants as error
use Rattle.im_sql.proofs.run.run.Goals as goal

pub create_table-requires-clause-formed : goal.create_table-requires-clause-formed
create_table-requires-clause-formed g c = subst IsStatement (sym c.form.ensures.value ∙ c.in-CreateTable.is) c.form.ensures.formed

pub create_index-requires-clause-formed : goal.create_index-requires-clause-formed
create_index-requires-clause-formed g c = subst IsStatement (sym c.form.ensures.value ∙ c.in-CreateIndex.is) c.form.ensures.formed

pub insert-requires-clause-formed : goal.insert-requires-clause-formed
insert-requires-clause-formed g c = subst IsStatement (sym c.form.ensures.value ∙ c.in-Upsert.is) c.form.ensures.formed

pub insert-requires-in-Insert-clause-formed : goal.insert-requires-in-Insert-clause-formed
insert-requires-in-Insert-clause-formed g c = subst IsStatement (sym c.form.ensures.value ∙ c.in-Insert.is) c.form.ensures.formed

pub delete-requires-clause-formed : goal.delete-requires-clause-formed
delete-requires-clause-formed g c = subst IsStatement (sym c.form.ensures.value ∙ c.in-Delete.is) c.form.ensures.formed

pub returns-in-CreateTable : goal.returns-in-CreateTable
returns-in-CreateTable g c = λ history stands few is kept.
    subst (λ (said : Form). (c.create_table.result ≡ Err error.Memory) ⊎ AnswerIs (take c.args.n history) said c.create_table.result) (sym (sym c.form.ensures.value ∙ c.in-CreateTable.is)) (c.create_table.ensures history stands few is kept)

pub returns-in-CreateIndex : goal.returns-in-CreateIndex
returns-in-CreateIndex g c = λ history stands few is kept.
    subst (λ (said : Form). (c.create_index.result ≡ Err error.Memory) ⊎ AnswerIs (take c.args.n history) said c.create_index.result) (sym (sym c.form.ensures.value ∙ c.in-CreateIndex.is)) (c.create_index.ensures history stands few is kept)

pub returns-in-Upsert : goal.returns-in-Upsert
returns-in-Upsert g c = λ history stands few is kept.
    subst (λ (said : Form). (c.insert.result ≡ Err error.Memory) ⊎ AnswerIs (take c.args.n history) said c.insert.result) (sym (sym c.form.ensures.value ∙ c.in-Upsert.is)) (c.insert.ensures history stands few is kept)

pub returns-in-Insert : goal.returns-in-Insert
returns-in-Insert g c = λ history stands few is kept.
    subst (λ (said : Form). (c.insert-in-Insert.result ≡ Err error.Memory) ⊎ AnswerIs (take c.args.n history) said c.insert-in-Insert.result) (sym (sym c.form.ensures.value ∙ c.in-Insert.is)) (c.insert-in-Insert.ensures history stands few is kept)

pub returns-in-Delete : goal.returns-in-Delete
returns-in-Delete g c = λ history stands few is kept.
    subst (λ (said : Form). (c.delete.result ≡ Err error.Memory) ⊎ AnswerIs (take c.args.n history) said c.delete.result) (sym (sym c.form.ensures.value ∙ c.in-Delete.is)) (c.delete.ensures history stands few is kept)

pub returns-in-Select : goal.returns-in-Select
returns-in-Select g c = λ history stands few is kept.
    subst (λ (said : Form). (c.select.result ≡ Err error.Memory) ⊎ AnswerIs (take c.args.n history) said c.select.result) (sym (sym c.form.ensures.value ∙ c.in-Select.is)) (c.select.ensures history stands few is kept)

-- What a statement reads of a session's pass, and asks for.
use Rattle.std.specs.Prelude.{◌≤◌, ℕ, [], length, take, Ok}
use Rattle.im_sqlmodel.specs.Answers.{AnswerIs}
use Rattle.im_sqlmodel.specs.declared.answers.SqlOut.TheVariants as out
use Rattle.im_sqlparse.specs.Formed.{IsStatement}
use Rattle.im_sqlparse.specs.declared.statements.Form.{Form}
use Rattle.im_store.specs.Gains.{Gains}
use Rattle.im_table.specs.Histories.{history_of}
use Rattle.im_table.specs.Known.{KnownPass}
use Rattle.im_table.specs.Passes.{Later}
use Rattle.im_tx.specs.Asked.{Asked}

-- a line counted so many transactions behind an earlier moment of its pass, no fewer than the pass knew then to be durable, and has placed, linked and told
-- nothing since
pub record HasCounted (first now : KnownPass) (read : ℕ) : Type 0 where
  pub later : Later first now
  pub gains : Gains [] 0 0 first now
  pub least : first.view.least.durable ≤ read
  pub known : read ≤ now.view.least.durable

-- the statement asks for this behind the first transactions that the pass has seen, so many of them
pub record AsksBehind (p : KnownPass) (said : Form) (read : ℕ) (asked : Asked) : Type 0 where
  pub formed : IsStatement said
  pub seen : read ≤ length p.view.seen
  pub asks : AnswerIs (take read (history_of p.view.seen)) said (Ok (out.Write asked))

-- How an answer is told that asks for nothing to be placed.
use Rattle.std.specs.Prelude.{◌≡◌, ◌≢◌, ℕ, List, Result, Ok, Err}
use Rattle.im_sqlmodel.specs.declared.answers.SqlError.{SqlError}
use Rattle.im_sqlmodel.specs.declared.answers.SqlError.TheVariants as error
use Rattle.im_sqlmodel.specs.declared.answers.SqlOut.{SqlOut}
use Rattle.im_sqlmodel.specs.declared.answers.SqlOut.TheVariants as out
use Rattle.im_sqlreply.specs.Replies.{error_reply, none_reply, rows_reply}

-- the reply tells rows, that there is nothing to write, or what is wrong; no reply tells want of memory, or what is to be placed
abbrev pub IsShown : Result SqlOut SqlError → List ℕ → Type 0
IsShown (Ok (out.Rows rows)) reply = reply ≡ rows_reply rows
IsShown (Ok (out.Write asked)) reply = ⊥
IsShown (Ok out.Nothing) reply = reply ≡ none_reply
IsShown (Err fault) reply = (fault ≢ error.Memory) × (reply ≡ error_reply fault)

-- What a statement of SQL is answered: by what it says, by what it read, and by what was placed for it.
use Rattle.std.specs.Prelude.{◌≡◌, ◌⊎◌, ℕ, ◌<◌, ◌≤◌, ◌-◌, List, ◌++◌, take, Some, None, Result, Ok, Err, codes}
use Rattle.std.specs.Fmt.{decimal}
use Rattle.im_model.specs.History.{transaction_of}
use Rattle.im_model.specs.declared.transactions.Transaction.{Transaction}
use Rattle.im_tx.specs.Asked.{Asked}
use Rattle.im_versions.specs.Admits.{place_refusal}
use Rattle.im_versions.specs.declared.refusals.PlaceError.{PlaceError}
use Rattle.im_versions.specs.declared.refusals.PlaceError.TheVariants.{Memory, Full, Missing, Exists, Modified}
use Rattle.im_sqlparse.specs.Statements.{statement_of}
use Rattle.im_sqlparse.specs.declared.errors.SqlSyntax.{SqlSyntax}
use Rattle.im_sqlparse.specs.declared.statements.Form.{Form}
use Rattle.im_sqlmodel.specs.Answers.{AnswerIs}
use Rattle.im_sqlmodel.specs.declared.answers.SqlError.{SqlError}
use Rattle.im_sqlmodel.specs.declared.answers.SqlOut.{SqlOut}
use Rattle.im_sqlmodel.specs.declared.answers.SqlOut.TheVariants as out
use Rattle.im_sqlreply.specs.Replies.{syntax_reply}
use Rattle.im_sqlreply.specs.Shown.{IsShown}
use Rattle.im_report.specs.Reads.{bare_or_hex}
use Rattle.im_report.specs.Replies.{full_reply, tx_reply}

-- ---- the replies to what asks for something to be placed; each tells behind how many transactions the statement was judged

-- it was placed: `tx <id> read <n>`
unfoldable pub tx_read_reply : ℕ → ℕ → List ℕ
tx_read_reply n read = tx_reply n ++ codes " read " ++ decimal read

-- it wasn't, since this key was written later, by transaction tx: `conflict K tx <m> read <n>`
unfoldable pub conflict_reply : List ℕ → ℕ → ℕ → List ℕ
conflict_reply key tx read = codes "conflict " ++ bare_or_hex key ++ codes " tx " ++ decimal tx ++ codes " read " ++ decimal read

-- it wasn't, since there are as many transactions as there may be: `full read <n>`
unfoldable pub full_read_reply : ℕ → List ℕ
full_read_reply read = full_reply ++ codes " read " ++ decimal read

-- the reply to what wasn't placed. A statement asks for no key to be live or missing, and want of memory has no reply
abbrev pub IsUnplacedReply : PlaceError → ℕ → List ℕ → Type 0
IsUnplacedReply Memory read reply = ⊥
IsUnplacedReply Full read reply = reply ≡ full_read_reply read
IsUnplacedReply (Missing key) read reply = ⊥
IsUnplacedReply (Exists key tx) read reply = ⊥
IsUnplacedReply (Modified key tx) read reply = reply ≡ conflict_reply key tx read

-- ---- what a statement asks for

-- the text is a statement that asks, behind the first transactions, so many of them, for these entries under these preconditions
pub record AsksToWrite (history : List Transaction) (text : List ℕ) (read : ℕ) (asked : Asked) : Type 0 where
  pub said : Form
  pub is : statement_of text ≡ Ok said
  pub asks : AnswerIs (take read history) said (Ok (out.Write asked))

-- number n has the entries that were asked for behind fewer transactions, and each precondition held after the n - 1 before it
pub record IsPlacedAs (history : List Transaction) (asked : Asked) (read n : ℕ) (reply : List ℕ) : Type 0 where
  pub behind : read < n
  pub admitted : place_refusal (take (n - 1) history) asked.pres ≡ None
  pub writes : (transaction_of history n).entries ≡ asked.entries
  pub told : reply ≡ tx_read_reply n read

-- by what stands after n transactions, no fewer than were read, there are as many as there may be, or the first precondition doesn't hold that is told: its
-- key was written behind what was read
pub record IsRefusedAs (history : List Transaction) (asked : Asked) (read n : ℕ) (reply : List ℕ) : Type 0 where
  pub within : read ≤ n
  pub why : PlaceError
  pub refused : place_refusal (take n history) asked.pres ≡ Some why
  pub told : IsUnplacedReply why read reply

-- ---- the reply to a line at n

-- the text isn't in the grammar
pub record IsFaultTold (text reply : List ℕ) : Type 0 where
  pub fault : SqlSyntax
  pub is : statement_of text ≡ Err fault
  pub told : reply ≡ syntax_reply fault

-- after n transactions the statement is answered with rows, or with what is wrong, or there is nothing to write
pub record IsAnswerTold (history : List Transaction) (text : List ℕ) (n : ℕ) (reply : List ℕ) : Type 0 where
  pub said : Form
  pub is : statement_of text ≡ Ok said
  pub answer : Result SqlOut SqlError
  pub judged : AnswerIs (take n history) said answer
  pub told : IsShown answer reply

-- something is to be written, as judged after `read` transactions: it was placed as number n, or refused by what stands after n
pub record IsWriteTold (history : List Transaction) (text : List ℕ) (n : ℕ) (reply : List ℕ) : Type 0 where
  pub read : ℕ
  pub asked : Asked
  pub asks : AsksToWrite history text read asked
  pub told : IsPlacedAs history asked read n reply ⊎ IsRefusedAs history asked read n reply

-- The reply to `sql` at n. Where another transaction has written a guarded key behind what was read, that is told; how often a statement was judged
-- before its reply isn't said.
abbrev pub IsSqlAnswer : List Transaction → List ℕ → ℕ → List ℕ → Type 0
IsSqlAnswer history text n reply = IsFaultTold text reply ⊎ (IsAnswerTold history text n reply ⊎ IsWriteTold history text n reply)

-- the reply tells behind how many transactions what it writes was judged
abbrev pub IsReadTold : List ℕ → ℕ → ℕ → Type 0
IsReadTold reply n read =
    (reply ≡ tx_read_reply n read) ⊎ (((key : List ℕ) × (tx : ℕ) × (reply ≡ conflict_reply key tx read)) ⊎ (reply ≡ full_read_reply read))

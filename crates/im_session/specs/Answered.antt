-- What the answer of one command, or want of one, makes of a pass.
use Rattle.std.specs.Prelude.{◌≡◌, ℕ, List}
use Rattle.im_dealing.specs.Lines.{IsStep, IsStuck}
use Rattle.im_dealing.specs.declared.answers.Answer.{Answer}
use Rattle.im_dealing.specs.declared.errors.LineError.{LineError}
use Rattle.im_dealing.specs.declared.errors.LineError.TheVariants as line
use Rattle.im_dealing.specs.declared.errors.LineError.TheVariants.{Memory}
use Rattle.im_digest.specs.Digests.{Hash}
use Rattle.im_report.specs.Report.{Answered}
use Rattle.im_script.specs.declared.commands.Command.{Command}
use Rattle.im_report.specs.Reads.{place_reply}
use Rattle.im_report.specs.Statements.{conflict_reply, full_read_reply}
use Rattle.im_store.specs.declared.errors.CommitError.{CommitError}
use Rattle.im_store.specs.declared.errors.CommitError.TheVariants.{DiskFault, Exists, Full, Missing, Modified, Stopped}
use Rattle.im_store.specs.declared.errors.CommitError.TheVariants as fails
use Rattle.im_versions.specs.declared.refusals.PlaceError.TheVariants as place
use Rattle.im_table.specs.Known.{KnownPass}

-- a line of whatever session, with this command, and its answer
abbrev pub as_answered : List ℕ → Command → Answer → Answered
as_answered session command answer = record { line = record { session = session; command = command }; number = answer.number; reply = answer.reply.items }

-- the command was answered; where its text can't be kept for want of memory, it is as if it had got no answer
pub record IsAnswered (hash : Hash) (old new : KnownPass) (command : Command) (answer : Answer) : Type 0 where
  pub step : (session : List ℕ) → IsStep hash old new (as_answered session command answer)
  pub else_stuck : (session : List ℕ) → IsStuck old new (record { session = session; command = command }) Memory

-- the reply of a commit that was refused behind so many transactions, which are its number; the device's answers and want of memory have none
abbrev pub IsRefusal : CommitError → Answer → Type 0
IsRefusal (Missing key at) answer = (answer.number ≡ at) × (answer.reply.items ≡ place_reply (place.Missing key))
IsRefusal (Exists key tx at) answer = (answer.number ≡ at) × (answer.reply.items ≡ place_reply (place.Exists key tx))
IsRefusal (Modified key tx at) answer = (answer.number ≡ at) × (answer.reply.items ≡ place_reply (place.Modified key tx))
IsRefusal (Full at) answer = (answer.number ≡ at) × (answer.reply.items ≡ place_reply place.Full)
IsRefusal (DiskFault placed) answer = ⊥
IsRefusal (Stopped faults placed) answer = ⊥
IsRefusal (fails.Memory placed) answer = ⊥

-- the reply to a statement whose commit was refused, judged behind so many transactions: a statement asks for no key to be live or missing
abbrev pub IsStatementRefusal : ℕ → CommitError → Answer → Type 0
IsStatementRefusal read (Missing key at) answer = ⊥
IsStatementRefusal read (Exists key tx at) answer = ⊥
IsStatementRefusal read (Modified key tx at) answer = (answer.number ≡ at) × (answer.reply.items ≡ conflict_reply key tx read)
IsStatementRefusal read (Full at) answer = (answer.number ≡ at) × (answer.reply.items ≡ full_read_reply read)
IsStatementRefusal read (DiskFault placed) answer = ⊥
IsStatementRefusal read (Stopped faults placed) answer = ⊥
IsStatementRefusal read (fails.Memory placed) answer = ⊥

-- a commit whose preconditions are those of a statement: no other refusal comes
abbrev pub IsOfStatement : CommitError → Type 0
IsOfStatement (Missing key at) = ⊥
IsOfStatement (Exists key tx at) = ⊥
IsOfStatement (Modified key tx at) = Unit {0}
IsOfStatement (Full at) = Unit {0}
IsOfStatement (DiskFault placed) = Unit {0}
IsOfStatement (Stopped faults placed) = Unit {0}
IsOfStatement (fails.Memory placed) = Unit {0}

-- why a commit without a receipt has no reply
abbrev pub fault_of : CommitError → LineError
fault_of (Missing key at) = Memory
fault_of (Exists key tx at) = Memory
fault_of (Modified key tx at) = Memory
fault_of (Full at) = Memory
fault_of (DiskFault placed) = line.DiskFault
fault_of (Stopped faults placed) = line.DiskFault
fault_of (fails.Memory placed) = Memory

-- it got no answer
abbrev pub IsUnanswered : KnownPass → KnownPass → Command → LineError → Type 0
IsUnanswered old new command why = (session : List ℕ) → IsStuck old new (record { session = session; command = command }) why

-- Which steps of the machine over events the calls of a store are. Each says of every machine that holds what the call found that
-- the event is allowed there, and answers and leaves just that.
use Rattle.std.specs.Prelude.{◌≡◌, ◌≤◌, ◌-◌, ℕ, ℤ, List, take, replicate, true}
use Rattle.im_digest.specs.Digests.{Hash}
use Rattle.im_machine.specs.Answers.{word_of, IsShown}
use Rattle.im_machine.specs.Machines.{raised, Machine}
use Rattle.im_machine.specs.Runs.{Run}
use Rattle.im_machine.specs.Steps.{Steps}
use Rattle.im_machine.specs.declared.events.Event.TheVariants as on
use Rattle.im_machine.specs.declared.outputs.Output.{Output}
use Rattle.im_machine.specs.declared.outputs.Output.TheVariants as tells
use Rattle.im_machine.specs.declared.questions.KeyQuestion.{KeyQuestion}
use Rattle.im_machine.specs.declared.questions.ProofQuestion.{ProofQuestion}
use Rattle.im_machine.specs.declared.words.Word.{Word}
use Rattle.im_machine.specs.declared.words.Word.TheVariants.{Durable}
use Rattle.im_model.specs.History.{header_of, transaction_of}
use Rattle.im_model.specs.declared.transactions.Transaction.{Transaction}
use Rattle.im_tx.specs.Asked.{Asked}
use Rattle.im_versions.specs.declared.refusals.PlaceError.{PlaceError}
use Rattle.im_versions.specs.declared.versions.Version.{Version}

-- the machine is open, and its first n transactions are those of this history
pub record HoldsFirst (m : Machine) (history : List Transaction) (n : ℕ) : Type 0 where
  pub up : m.up ≡ true
  pub first : take n m.placed ≡ take n history

-- Place, behind the transactions before number n of this history, over its tree: it is placed, and its header told
abbrev pub IsPlaceStep : Hash → List Transaction → Asked → ℕ → Type 0
IsPlaceStep hash history asked n =
    (m : Machine) (session : ℕ) → m.up ≡ true → m.placed ≡ take (n - 1) history → m.linked ≡ (transaction_of history n).bl
    → Steps hash m (on.Place session (transaction_of history n).ts asked) (tells.Placed (header_of hash history n)) (record m { placed = take n history })

-- Place, behind the first transactions of this history, so many of them: it is refused for this reason
abbrev pub IsRefusalStep : Hash → List Transaction → Asked → PlaceError → ℕ → Type 0
IsRefusalStep hash history asked why at =
    (m : Machine) (session : ℕ) (ts : ℤ) → m.up ≡ true → m.placed ≡ take at history
    → Steps hash m (on.Place session ts asked) (tells.Refused why at) m

-- Ack of number n: its header is told
abbrev pub IsAckStep : Hash → List Transaction → ℕ → Type 0
IsAckStep hash history n =
    (m : Machine) (session : ℕ) → HoldsFirst m history n → n ≤ m.durable → Steps hash m (on.Ack session n) (tells.Header (header_of hash history n)) m

-- Prove, of numbers up to n: this is told
abbrev pub IsProveStep : Hash → List Transaction → ℕ → ProofQuestion → Output → Type 0
IsProveStep hash history n question output =
    (m : Machine) (session : ℕ) → HoldsFirst m history n → n ≤ m.durable → Steps hash m (on.Prove session question) output m

-- Snap, behind the first n transactions: these versions are told
abbrev pub IsSnapStep : Hash → List Transaction → ℕ → KeyQuestion → List Version → Type 0
IsSnapStep hash history n question versions =
    (m : Machine) (session : ℕ) → HoldsFirst m history n → n ≤ m.indexed → IsShown (take n history) question versions
    → Steps hash m (on.Snap session n question) (tells.Versions versions) m

-- Link, once for each leaf from one size to another
abbrev pub AreLinkSteps : Hash → ℕ → ℕ → Type 0
AreLinkSteps hash before after =
    (m : Machine) → m.up ≡ true → m.linked ≡ before → after ≤ m.durable
    → Run hash m (replicate (after - before) on.Link) (replicate (after - before) tells.Done) (record m { linked = after })

-- Index, once for each transaction from one number to another
abbrev pub AreIndexSteps : Hash → ℕ → ℕ → Type 0
AreIndexSteps hash before after =
    (m : Machine) → m.up ≡ true → m.indexed ≡ before → after ≤ m.durable
    → Run hash m (replicate (after - before) on.Index) (replicate (after - before) tells.Done) (record m { indexed = after })

-- Load of the word durable, by a session that was told no more than `before`: this number is told, and it is all that the session was told
-- then, no more than `after`
abbrev pub IsLoadStep : Hash → ℕ → ℕ → ℕ → Type 0
IsLoadStep hash before number after =
    (m : Machine) (session : ℕ) → m.up ≡ true → m.durable ≡ number → m.sessions session ≤ before
    → Steps hash m (on.Load session Durable) (tells.Word number) (record m { sessions = raised m.sessions session number })
    × (raised m.sessions session number session ≡ number) × (number ≤ after)

-- Load of another word: this number is told, and nothing changes
abbrev pub IsLookStep : Hash → Word → ℕ → Type 0
IsLookStep hash word number =
    (m : Machine) (session : ℕ) → m.up ≡ true → word_of m word ≡ number → Steps hash m (on.Load session word) (tells.Word number) m

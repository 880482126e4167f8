-- What becomes of a line, and what a client answers. A verdict is said of a definition alone: no program holds one, since
-- an accepted message moves into what the client keeps.
use Rattle.std.specs.Prelude.{◌≡◌, ◌⊎◌, ℕ, List, [], ◌∷◌, Option, Some, None}
use Rattle.im_wire.specs.declared.messages.Message.{Message}
use Rattle.im_wire.specs.declared.messages.Message.TheVariants as says
use Rattle.im_client.specs.declared.faults.LineFault.{LineFault}
use Rattle.im_facts.specs.declared.taken.Shown.{Shown}
use Rattle.im_facts.specs.declared.taken.Shown.TheVariants as shows
use Rattle.im_facts.specs.declared.taken.Taken.{Taken}
use Rattle.im_facts.specs.declared.taken.Taken.TheVariants as took

-- it is passed over; its message is accepted; it is refused by the first check that fails; or every check holds, but a fact
-- is unlike a kept one, and two unequal strings of one digest tell why
pub data Verdict : Type 0 where
  Passed : Verdict
  Accepted : (message : Message) → Verdict
  Refused : (fault : LineFault) → Verdict
  Forked : (x y : List ℕ) → Verdict

-- what an accepted message shows, as its line tells it
abbrev pub shown_of : Message → Shown
shown_of (says.State header) = shows.State header.id
shown_of (says.Dual dual) = shows.Dual dual.source.id dual.target.id
shown_of (says.Advance dual anchor) = shows.Advance dual.source.id dual.target.id
shown_of (says.Item dual entry index path) = shows.Item dual.source.id index

-- the answer of a client to a line
abbrev pub taken_of : Verdict → Option Taken
taken_of Passed = None
taken_of (Accepted message) = Some (took.Accepted (shown_of message))
taken_of (Refused fault) = Some (took.Refused fault)
taken_of (Forked x y) = Some (took.Forked x y)

-- the line was forked
abbrev pub IsForked : Verdict → Type 0
IsForked Passed = ⊥
IsForked (Accepted message) = ⊥
IsForked (Refused fault) = ⊥
IsForked (Forked x y) = Unit {0}

-- two verdicts are one, but for the strings of a fork
abbrev pub IsSameVerdict : Verdict → Verdict → Type 0
IsSameVerdict a b = (a ≡ b) ⊎ (IsForked a × IsForked b)

-- so of lists of them, one by one
abbrev pub AreSameVerdicts : List Verdict → List Verdict → Type 0
AreSameVerdicts [] [] = Unit {0}
AreSameVerdicts [] (b ∷ others) = ⊥
AreSameVerdicts (a ∷ more) [] = ⊥
AreSameVerdicts (a ∷ more) (b ∷ others) = IsSameVerdict a b × AreSameVerdicts more others

-- the accepted messages among verdicts, in order
abbrev pub messages_of : List Verdict → List Message
messages_of [] = []
messages_of (Passed ∷ verdicts) = messages_of verdicts
messages_of (Accepted message ∷ verdicts) = message ∷ messages_of verdicts
messages_of (Refused fault ∷ verdicts) = messages_of verdicts
messages_of (Forked x y ∷ verdicts) = messages_of verdicts

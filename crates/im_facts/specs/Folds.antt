-- What a client makes of messages and of lines: the answer to each, and the fold over them, from what it knows on.
use Rattle.std.specs.Prelude.{◌≡◌, ◌⊎◌, ℕ, List, [], ◌∷◌, ◌++◌, if◌then◌else◌, Option, Some, None, Err}
use Rattle.im_digest.specs.Digests.{Hash}
use Rattle.im_mtree.specs.Checks.{first_fail}
use Rattle.im_pairs.specs.Pairs.{IsPair}
use Rattle.im_hashed.specs.Messages.{strings_of}
use Rattle.im_wire.specs.Lines.{IsLine}
use Rattle.im_wire.specs.declared.messages.Message.{Message}
use Rattle.im_client.specs.Lines.{IsBad}
use Rattle.im_client.specs.LineChecks.{line_checks}
use Rattle.im_client.specs.declared.faults.LineFault.TheVariants.{Syntax}
use Rattle.im_facts.specs.Accepted.{Passes, IsAccepted}
use Rattle.im_facts.specs.Facts.{Known, Differs}
use Rattle.im_facts.specs.News.{is_old, with_accepted}
use Rattle.im_facts.specs.Verdicts.{Verdict, Passed, Accepted, Refused, Forked, shown_of}
use Rattle.im_facts.specs.declared.taken.Taken.{Taken}
use Rattle.im_facts.specs.declared.taken.Taken.TheVariants as took

-- a message is forked: it passes, some fact that it shows is unlike a kept one, and two unequal strings of one digest are
-- among those hashed in checking the noted messages and this one. Which two is free.
pub record IsForkedBy (hash : Hash) (known : Known) (message : Message) (x y : List ℕ) : Type 0 where
  pub passes : Passes hash known message
  pub differs : Differs known message
  pub pair : IsPair hash x y (strings_of hash (known.messages ++ message ∷ []))

-- the answer to a message: it is accepted, with what it shows; refused by the first check that fails; or forked
abbrev pub IsTakenAs : Hash → Known → Message → Taken → Type 0
IsTakenAs hash known message (took.Accepted shown) = IsAccepted hash known message × (shown ≡ shown_of message)
IsTakenAs hash known message (took.Refused fault) = first_fail (line_checks hash known.state message) ≡ Err fault
IsTakenAs hash known message (took.Forked x y) = IsForkedBy hash known message x y

-- what is known behind an answer: only an accepted message that isn't old changes it
abbrev pub known_behind : Known → Message → Taken → Known
known_behind known message (took.Accepted shown) = with_accepted known message
known_behind known message (took.Refused fault) = known
known_behind known message (took.Forked x y) = known

-- the accepted message, which is handed out
abbrev pub accepted_behind : Message → Taken → Option Message
accepted_behind message (took.Accepted shown) = Some message
accepted_behind message (took.Refused fault) = None
accepted_behind message (took.Forked x y) = None

-- what becomes of a line, by what is known before it
abbrev pub IsVerdict : Hash → Known → List ℕ → Verdict → Type 0
IsVerdict hash known line Passed = IsLine line None
IsVerdict hash known line (Accepted message) = IsLine line (Some message) × IsAccepted hash known message
IsVerdict hash known line (Refused fault) =
    (IsBad line × (fault ≡ Syntax))
    ⊎ ((message : Message) × IsLine line (Some message) × (first_fail (line_checks hash known.state message) ≡ Err fault))
IsVerdict hash known line (Forked x y) = (message : Message) × IsLine line (Some message) × IsForkedBy hash known message x y

-- what is known behind a line
abbrev pub known_by : Known → Verdict → Known
known_by known Passed = known
known_by known (Accepted message) = with_accepted known message
known_by known (Refused fault) = known
known_by known (Forked x y) = known

-- the accepted message of a line
abbrev pub accepted_by : Verdict → Option Message
accepted_by Passed = None
accepted_by (Accepted message) = Some message
accepted_by (Refused fault) = None
accepted_by (Forked x y) = None

-- the one message that is kept of a line, as a list
abbrev pub kept_by : Known → Verdict → List Message
kept_by known Passed = []
kept_by known (Accepted message) = if is_old known message then [] else message ∷ []
kept_by known (Refused fault) = []
kept_by known (Forked x y) = []

-- and behind lines
abbrev pub known_by_all : Known → List Verdict → Known
known_by_all known [] = known
known_by_all known (verdict ∷ verdicts) = known_by_all (known_by known verdict) verdicts

-- the messages that are kept of lines, in order
abbrev pub kept_by_all : Known → List Verdict → List Message
kept_by_all known [] = []
kept_by_all known (verdict ∷ verdicts) = kept_by known verdict ++ kept_by_all (known_by known verdict) verdicts

-- what becomes of lines, one after the other. A forked line leaves what is known, so the lines behind it have verdicts too;
-- that a run tells none of them is said where runs are.
abbrev pub AreVerdicts : Hash → Known → List (List ℕ) → List Verdict → Type 0
AreVerdicts hash known [] [] = Unit {0}
AreVerdicts hash known [] (verdict ∷ verdicts) = ⊥
AreVerdicts hash known (line ∷ lines) [] = ⊥
AreVerdicts hash known (line ∷ lines) (verdict ∷ verdicts) =
    IsVerdict hash known line verdict × AreVerdicts hash (known_by known verdict) lines verdicts

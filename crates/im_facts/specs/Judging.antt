-- A message that was judged, before anything is put in: the answer to it, and copies of what it adds.
use Rattle.std.specs.Prelude.{◌≡◌, true, false, Option, Some, None}
use Rattle.im_digest.specs.Digests.{Hash}
use Rattle.im_wire.specs.declared.messages.Message.{Message}
use Rattle.im_facts.specs.Accepted.{IsAccepted}
use Rattle.im_facts.specs.Copies.{AreCopies}
use Rattle.im_facts.specs.Facts.{Known, with_message}
use Rattle.im_facts.specs.Folds.{IsTakenAs, known_behind}
use Rattle.im_facts.specs.News.{is_old}
use Rattle.im_facts.specs.declared.copies.Copies.{Copies}
use Rattle.im_facts.specs.declared.judged.Judged.{Judged}
use Rattle.im_facts.specs.declared.taken.Taken.{Taken}

-- copies of what an accepted message adds, and none where it is old
abbrev pub AreNews : Known → Message → Option Copies → Type 0
AreNews known message None = is_old known message ≡ true
AreNews known message (Some copies) = (is_old known message ≡ false) × AreCopies known.state message copies

-- an accepted message that is put in: it is known behind the answer
pub record IsAdded (hash : Hash) (known : Known) (message : Message) (taken : Taken) (copies : Copies) : Type 0 where
  pub accepted : IsAccepted hash known message
  pub behind : known_behind known message taken ≡ with_message known message
  pub are : AreCopies known.state message copies

-- what is added behind an answer, if something is
abbrev pub Adds : Hash → Known → Message → Taken → Option Copies → Type 0
Adds hash known message taken None = known_behind known message taken ≡ known
Adds hash known message taken (Some copies) = IsAdded hash known message taken copies

-- a message was judged
pub record IsJudged (hash : Hash) (known : Known) (message : Message) (judged : Judged) : Type 0 where
  pub taken : IsTakenAs hash known message judged.taken
  pub adds : Adds hash known message judged.taken judged.copies

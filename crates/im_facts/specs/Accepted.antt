-- Messages that a client accepts, one after the other.
use Rattle.std.specs.Prelude.{◌≡◌, List, [], ◌∷◌, All, Ok}
use Rattle.im_digest.specs.Digests.{Hash}
use Rattle.im_mtree.specs.Checks.{first_fail}
use Rattle.im_wire.specs.Fits.{IsMessage}
use Rattle.im_wire.specs.declared.messages.Message.{Message}
use Rattle.im_client.specs.LineChecks.{line_checks}
use Rattle.im_facts.specs.Facts.{Known, nothing, with_message, known_after, Agrees}

-- a message passes every check under the kept state
abbrev pub Passes : Hash → Known → Message → Type 0
Passes hash known message = first_fail (line_checks hash known.state message) ≡ Ok tt

-- it is accepted: it passes, and no fact that it shows is unlike a kept one
pub record IsAccepted (hash : Hash) (known : Known) (message : Message) : Type 0 where
  pub passes : Passes hash known message
  pub agrees : Agrees known message

-- messages that are accepted one after the other
abbrev pub AreAccepted : Hash → Known → List Message → Type 0
AreAccepted hash known [] = Unit {0}
AreAccepted hash known (message ∷ messages) = IsAccepted hash known message × AreAccepted hash (with_message known message) messages

-- what a client knows under this hash function: the messages that it has notes of have the ranges of their types, were accepted one
-- after the other from nothing on, and led to it. One that accepted anything under another function is none.
pub record IsClient (hash : Hash) (known : Known) : Type 0 where
  pub fit : All IsMessage known.messages
  pub accepted : AreAccepted hash nothing known.messages
  pub led : known ≡ known_after nothing known.messages

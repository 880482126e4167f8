-- What a line says to a client: a bad one says nothing, and an accepted message may lead to another state.
use Rattle.std.specs.Prelude.{ℕ, List, Option, Some, None}
use Rattle.im_model.specs.declared.headers.Header.{Header}
use Rattle.im_wire.specs.Lines.{IsLine}
use Rattle.im_wire.specs.declared.messages.Message.{Message}
use Rattle.im_wire.specs.declared.messages.Message.TheVariants as says

-- the line says no message, and isn't passed over
abbrev pub IsBad : List ℕ → Type 0
IsBad line = (message : Option Message) → IsLine line message → ⊥

-- the state behind an accepted message: a state becomes the kept one where none is kept, and the target of
-- an advance does; nothing else changes it
abbrev pub state_with : Option Header → Message → Option Header
state_with None (says.State header) = Some header
state_with (Some kept) (says.State header) = Some kept
state_with kept (says.Dual dual) = kept
state_with kept (says.Advance dual anchor) = Some dual.target
state_with kept (says.Item dual entry index path) = kept

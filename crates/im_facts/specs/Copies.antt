-- What a client adds of a message, copied before anything moves.
use Rattle.std.specs.Prelude.{◌≡◌, Option, Some, None}
use Rattle.std.specs.Option.{option_to_list}
use Rattle.im_model.specs.declared.headers.Header.{Header}
use Rattle.im_wire.specs.declared.messages.Message.{Message}
use Rattle.im_client.specs.Lines.{state_with}
use Rattle.im_facts.specs.Facts.{headers_shown, entries_shown}
use Rattle.im_facts.specs.declared.copies.Copies.{Copies}

-- the state behind another, where there is one
abbrev pub followed : Option Header → Option Header → Option Header
followed state None = state
followed state (Some header) = Some header

-- the next state of a message under the kept one
abbrev pub Follows : Option Header → Message → Option Header → Type 0
Follows state message next = followed state next ≡ state_with state message

-- copies of all that the message shows
pub record AreCopies (state : Option Header) (message : Message) (copies : Copies) : Type 0 where
  pub next : Follows state message copies.state
  pub headers : copies.headers.items ≡ headers_shown message
  pub entry : option_to_list copies.entry ≡ entries_shown message

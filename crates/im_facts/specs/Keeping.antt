-- What a client is to its callers. It keeps no message that a line said: of each that it needs it keeps the place of that line,
-- and of one that was handed to it the message.
use Rattle.std.specs.Prelude.{◌≡◌, List, [], ◌∷◌, ◌++◌, Option, Some, None}
use Rattle.std.specs.Option.{option_to_list}
use Rattle.im_digest.specs.Digests.{Hash}
use Rattle.im_model.specs.declared.headers.Header.{Header}
use Rattle.im_wire.specs.Lines.{IsLine}
use Rattle.im_wire.specs.declared.messages.Message.{Message}
use Rattle.im_facts.specs.Accepted.{IsClient}
use Rattle.im_facts.specs.Copies.{followed}
use Rattle.im_facts.specs.Facts.{Known, with_entries, with_headers}
use Rattle.im_facts.specs.declared.copies.Copies.{Copies}
use Rattle.im_facts.specs.declared.facts.EntryFact.{EntryFact}
use Rattle.im_facts.specs.declared.notes.Note.{Note}
use Rattle.im_facts.specs.declared.notes.Note.TheVariants as noted

-- what it keeps: the state, the facts by rising place, and a note of each message that it needs, in order
pub record Kept : Type 0 where
  pub state : Option Header
  pub headers : List Header
  pub entries : List EntryFact
  pub notes : List Note

-- its hash function, and what it keeps
pub record Keeping (H : Type 0) : Type 0 where
  pub hash : H
  pub kept : Kept

-- nothing
abbrev pub none_kept : Kept
none_kept = record { state = None; headers = []; entries = []; notes = [] }

-- a note is of a message: it is that message, or a line that says it. Law `a_client_knows_one_thing`: it is of one.
abbrev pub IsOf : Note → Message → Type 0
IsOf (noted.Told told) message = told.value ≡ message
IsOf (noted.Line line) message = IsLine line.now (Some message)

-- notes are of messages, one by one
abbrev pub AreOf : List Note → List Message → Type 0
AreOf [] [] = Unit {0}
AreOf [] (message ∷ messages) = ⊥
AreOf (note ∷ notes) [] = ⊥
AreOf (note ∷ notes) (message ∷ messages) = IsOf note message × AreOf notes messages

-- what is known by what is kept, where the notes are of these messages
abbrev pub known_of : Kept → List Message → Known
known_of kept messages = record { state = kept.state; headers = kept.headers; entries = kept.entries; messages = messages }

-- this is what is known by what is kept
pub record Knows (kept : Kept) (known : Known) : Type 0 where
  pub notes : AreOf kept.notes known.messages
  pub is : known_of kept known.messages ≡ known

-- what is kept was led to by messages that were accepted one after the other from nothing on, under this hash function
abbrev pub IsLed : Hash → Kept → Type 0
IsLed hash kept = (known : Known) × Knows kept known × IsClient hash known

-- what is kept behind a message of which this is a note, and these are copies
abbrev pub kept_with : Kept → Note → Copies → Kept
kept_with kept note copies = record {
  state = followed kept.state copies.state;
  headers = with_headers kept.headers copies.headers.items;
  entries = with_entries kept.entries (option_to_list copies.entry);
  notes = kept.notes ++ note ∷ [];
}

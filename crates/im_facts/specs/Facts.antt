-- What a client knows by the messages that it accepted: its state, and as facts each header that they showed, by its
-- number, and each entry, by the number of its transaction and its index there.
use Rattle.std.specs.Prelude.{◌≡◌, ◌≢◌, ◌⊎◌, ◌<◌, ◌&&◌, ◌||◌, ℕ, Bool, List, [], ◌∷◌, ◌++◌, nat_eq, nat_lt, if◌then◌else◌, All, AllPairs, Contains, Option, Some, None, IfSome, option_map}
use Rattle.std.specs.List.{find}
use Rattle.im_model.specs.declared.entries.Entry.{Entry}
use Rattle.im_model.specs.declared.headers.Header.{Header}
use Rattle.im_proof.specs.declared.proofs.DualProof.{DualProof}
use Rattle.im_wire.specs.declared.messages.Message.{Message}
use Rattle.im_wire.specs.declared.messages.Message.TheVariants as says
use Rattle.im_client.specs.Lines.{state_with}
use Rattle.im_facts.specs.declared.facts.EntryFact.{EntryFact}

-- the kept header of number t
abbrev pub known_header : List Header → ℕ → Option Header
known_header headers t = find (λ (header : Header). nat_eq header.id t) headers

-- the kept entry i of transaction t
abbrev pub entry_at : List EntryFact → ℕ → ℕ → Option Entry
entry_at facts t i = option_map (λ (fact : EntryFact). fact.entry) (find (λ (fact : EntryFact). nat_eq fact.tx t && nat_eq fact.index i) facts)

-- one header has a lower number
abbrev pub is_lower : Header → Header → Bool
is_lower a b = nat_lt a.id b.id

-- they have one number
abbrev pub is_level : Header → Header → Bool
is_level a b = nat_eq a.id b.id

-- an entry's place lies before another's: an earlier transaction, or a lower index in the same
abbrev pub is_before : EntryFact → EntryFact → Bool
is_before a b = nat_lt a.tx b.tx || (nat_eq a.tx b.tx && nat_lt a.index b.index)

-- they have one place
abbrev pub is_beside : EntryFact → EntryFact → Bool
is_beside a b = nat_eq a.tx b.tx && nat_eq a.index b.index

-- a list in this order with one fact more; one that is kept for the same place stays, and the other isn't taken
abbrev pub with_fact : {X : Type 0} → (X → X → Bool) → (X → X → Bool) → List X → X → List X
with_fact before beside [] fact = fact ∷ []
with_fact before beside (kept ∷ facts) fact =
    if before kept fact then kept ∷ with_fact before beside facts fact
    else (if beside kept fact then kept ∷ facts else fact ∷ kept ∷ facts)

-- with several, one after the other
abbrev pub with_facts : {X : Type 0} → (X → X → Bool) → (X → X → Bool) → List X → List X → List X
with_facts before beside facts [] = facts
with_facts before beside facts (fact ∷ more) = with_facts before beside (with_fact before beside facts fact) more

-- headers with others, by rising number
abbrev pub with_headers : List Header → List Header → List Header
with_headers headers more = with_facts is_lower is_level headers more

-- entries with others, by rising place
abbrev pub with_entries : List EntryFact → List EntryFact → List EntryFact
with_entries facts more = with_facts is_before is_beside facts more

-- the headers of a dual proof
abbrev pub both_headers : DualProof → List Header
both_headers p = p.source ∷ p.target ∷ []

-- those of an anchor, if there is one
abbrev pub anchor_headers : Option DualProof → List Header
anchor_headers None = []
anchor_headers (Some anchor) = both_headers anchor

-- the headers that a message shows
abbrev pub headers_shown : Message → List Header
headers_shown (says.State header) = header ∷ []
headers_shown (says.Dual dual) = both_headers dual
headers_shown (says.Advance dual anchor) = both_headers dual ++ anchor_headers anchor
headers_shown (says.Item dual entry index path) = both_headers dual

-- the entries that it shows: an item's, which is one of its source
abbrev pub entries_shown : Message → List EntryFact
entries_shown (says.State header) = []
entries_shown (says.Dual dual) = []
entries_shown (says.Advance dual anchor) = []
entries_shown (says.Item dual entry index path) = record { tx = dual.source.id; index = index; entry = entry } ∷ []

-- what a client knows: its state, the facts by rising place, and the accepted messages that it has notes of, in order: each
-- one that showed something new or moved the state
pub record Known : Type 0 where
  pub state : Option Header
  pub headers : List Header
  pub entries : List EntryFact
  pub messages : List Message

-- nothing
abbrev pub nothing : Known
nothing = record { state = None; headers = []; entries = []; messages = [] }

-- what is known behind an accepted message that is kept: the facts that it shows are added, and its state is followed: the
-- first state becomes the kept one, and the target of an advance does
abbrev pub with_message : Known → Message → Known
with_message known message = record {
  state = state_with known.state message;
  headers = with_headers known.headers (headers_shown message);
  entries = with_entries known.entries (entries_shown message);
  messages = known.messages ++ message ∷ [];
}

-- what is known behind messages, one after the other
abbrev pub known_after : Known → List Message → Known
known_after known [] = known
known_after known (message ∷ messages) = known_after (with_message known message) messages

-- a header is the kept one of its number, where one is kept
abbrev pub IsAlike : List Header → Header → Type 0
IsAlike headers header = IfSome (known_header headers header.id) (λ kept. kept ≡ header)

-- an entry is the kept one of its place, where one is kept
abbrev pub IsEntryAlike : List EntryFact → EntryFact → Type 0
IsEntryAlike facts fact = IfSome (entry_at facts fact.tx fact.index) (λ kept. kept ≡ fact.entry)

-- no fact that a message shows is unlike the kept one of its place
pub record Agrees (known : Known) (message : Message) : Type 0 where
  pub headers : All (IsAlike known.headers) (headers_shown message)
  pub entries : All (IsEntryAlike known.entries) (entries_shown message)

-- a header that a message shows is unlike the kept one of its number
pub record HeaderDiffers (known : Known) (message : Message) : Type 0 where
  pub shown : Header
  pub is_shown : Contains (headers_shown message) shown
  pub kept : Header
  pub is_kept : known_header known.headers shown.id ≡ Some kept
  pub unlike : kept ≢ shown

-- an entry that it shows is unlike the kept one of its place
pub record EntryDiffers (known : Known) (message : Message) : Type 0 where
  pub shown : EntryFact
  pub is_shown : Contains (entries_shown message) shown
  pub kept : Entry
  pub is_kept : entry_at known.entries shown.tx shown.index ≡ Some kept
  pub unlike : kept ≢ shown.entry

-- some fact that a message shows is unlike the kept one of its place
abbrev pub Differs : Known → Message → Type 0
Differs known message = HeaderDiffers known message ⊎ EntryDiffers known message

-- an entry's place lies before another's, as a fact
abbrev pub IsBefore : EntryFact → EntryFact → Type 0
IsBefore a b = (a.tx < b.tx) ⊎ ((a.tx ≡ b.tx) × (a.index < b.index))

-- the facts rise by their places, so each place has one at most
pub record IsRising (known : Known) : Type 0 where
  pub headers : AllPairs (λ (a b : Header). a.id < b.id) known.headers
  pub entries : AllPairs IsBefore known.entries

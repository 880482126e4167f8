-- What holds of all that a client knows, collisions aside: each kept header is opened under its state, and each kept entry
-- lies under the kept header of its transaction. Where a definition has `strings`, each string that is hashed on the way
-- is among these.
use Rattle.std.specs.Prelude.{◌≡◌, ◌⊎◌, ◌<◌, ℕ, List, All, Some}
use Rattle.im_digest.specs.Digests.{Hash}
use Rattle.im_model.specs.Entries.{entry_digest, entry_strings, EntryFits}
use Rattle.im_model.specs.Headers.{alh, header_strings}
use Rattle.im_model.specs.declared.headers.Header.{Header}
use Rattle.im_pairs.specs.Leads.{Leads}
use Rattle.im_pairs.specs.Pairs.{AreAmong, HasPair}
use Rattle.im_pairs.specs.Ranges.{HeaderFits}
use Rattle.im_carried.specs.Opened.{IsOpened}
use Rattle.im_hashed.specs.Messages.{strings_of}
use Rattle.im_facts.specs.Facts.{Known, nothing, known_header}
use Rattle.im_facts.specs.declared.facts.EntryFact.{EntryFact}

-- a header is opened under the state, by its number and its Alh
pub record HoldsHeader (hash : Hash) (state : Header) (strings : List (List ℕ)) (header : Header) : Type 0 where
  pub fits : HeaderFits header
  pub opened : IsOpened hash state header.id (alh hash header) strings
  pub shown : AreAmong (header_strings hash header) strings

-- an entry lies under a header: a path of its index leads from its digest to the header's root of entries
pub record LiesUnder (hash : Hash) (header : Header) (strings : List (List ℕ)) (fact : EntryFact) : Type 0 where
  pub fits : EntryFits fact.entry
  pub path : List (List ℕ)
  pub leads : Leads hash header.nentries fact.index (entry_digest hash fact.entry) path header.eh strings
  pub shown : AreAmong (entry_strings hash fact.entry) strings

-- an entry lies under the kept header of its transaction
abbrev pub HoldsEntry : Hash → List Header → List (List ℕ) → EntryFact → Type 0
HoldsEntry hash headers strings fact =
    (header : Header) × (known_header headers fact.tx ≡ Some header) × LiesUnder hash header strings fact

-- all that is known holds under this state, which is itself the kept header of its number
pub record HoldsUnder (hash : Hash) (state : Header) (known : Known) (strings : List (List ℕ)) : Type 0 where
  pub is : known.state ≡ Some state
  pub kept : known_header known.headers state.id ≡ Some state
  pub tree : state.bl_tx_id < state.id
  pub headers : All (HoldsHeader hash state strings) known.headers
  pub entries : All (HoldsEntry hash known.headers strings) known.entries

-- all that is known holds: nothing is known, or it holds under the state
abbrev pub HoldsKnown : Hash → Known → List (List ℕ) → Type 0
HoldsKnown hash known strings = (known ≡ nothing) ⊎ ((state : Header) × HoldsUnder hash state known strings)

-- it does, or two unequal strings of one digest are among those hashed in checking the noted messages
abbrev pub HoldsOrPair : Hash → Known → Type 0
HoldsOrPair hash known = HoldsKnown hash known (strings_of hash known.messages) ⊎ HasPair hash (strings_of hash known.messages)

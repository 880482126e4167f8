-- Whether a message shows a client something new, or moves its state: else the client keeps nothing of it.
use Rattle.std.specs.Prelude.{Bool, true, false, ◌&&◌, nat_eq, if◌then◌else◌, List, Option, Some, None, is_some}
use Rattle.im_model.specs.declared.headers.Header.{Header}
use Rattle.im_proof.specs.declared.proofs.DualProof.{DualProof}
use Rattle.im_wire.specs.declared.messages.Message.{Message}
use Rattle.im_wire.specs.declared.messages.Message.TheVariants as says
use Rattle.im_facts.specs.Facts.{Known, known_header, entry_at, with_message}
use Rattle.im_facts.specs.declared.facts.EntryFact.{EntryFact}

-- a header is kept for this one's number
abbrev pub knows_header : List Header → Header → Bool
knows_header headers header = is_some (known_header headers header.id)

-- so of both headers of a dual proof
abbrev pub knows_both : List Header → DualProof → Bool
knows_both headers dual = knows_header headers dual.source && knows_header headers dual.target

-- and of those of an anchor, if there is one
abbrev pub knows_anchor : List Header → Option DualProof → Bool
knows_anchor headers None = true
knows_anchor headers (Some anchor) = knows_both headers anchor

-- and of each header that a message shows
abbrev pub knows_headers : List Header → Message → Bool
knows_headers headers (says.State header) = knows_header headers header
knows_headers headers (says.Dual dual) = knows_both headers dual
knows_headers headers (says.Advance dual anchor) = knows_both headers dual && knows_anchor headers anchor
knows_headers headers (says.Item dual entry index path) = knows_both headers dual

-- an entry is kept for the place of the one that a message shows, if it shows one
abbrev pub knows_entries : List EntryFact → Message → Bool
knows_entries facts (says.State header) = true
knows_entries facts (says.Dual dual) = true
knows_entries facts (says.Advance dual anchor) = true
knows_entries facts (says.Item dual entry index path) = is_some (entry_at facts dual.source.id index)

-- a message leaves the state as it is, where it is accepted: there is one, and it isn't led to another transaction
abbrev pub leaves : Option Header → Message → Bool
leaves None message = false
leaves (Some state) (says.State header) = true
leaves (Some state) (says.Dual dual) = true
leaves (Some state) (says.Advance dual anchor) = nat_eq dual.source.id dual.target.id
leaves (Some state) (says.Item dual entry index path) = true

-- it leaves the state and shows nothing new
abbrev pub is_old : Known → Message → Bool
is_old known message = (leaves known.state message && knows_headers known.headers message) && knows_entries known.entries message

-- what is known behind an accepted message: one that is old isn't kept, and changes nothing; any other is
abbrev pub with_accepted : Known → Message → Known
with_accepted known message = if is_old known message then known else with_message known message

-- What a JSON value (RFC 8259), and a text of one, says as a message. Of equal names in an object the last
-- counts, and other members than those named here have no say.
use Rattle.std.specs.Prelude.{◌≡◌, ℕ, ◌^◌, List, codes, if◌then◌else◌, Option, Some, None, is_some}
use Rattle.std.specs.Str.{bytes_eq, IsUtf8}
use Rattle.serde_json.specs.Data.{Data}
use Rattle.serde_json.specs.Read.{read}
use Rattle.serde_json.specs.Find.{as_str, as_null}
use Rattle.im_wire.specs.Gives.{◌>>=◌}
use Rattle.im_wire.specs.Fields.{number_of, signed_of, octets_of, digest_of, digests_of, digest_lists_of, field}
use Rattle.im_model.specs.declared.headers.Header.{Header}
use Rattle.im_model.specs.declared.entries.Entry.{Entry}
use Rattle.im_proof.specs.declared.proofs.AdvanceProof.{AdvanceProof}
use Rattle.im_proof.specs.declared.proofs.DualProof.{DualProof}
use Rattle.im_wire.specs.declared.messages.Message.{Message}
use Rattle.im_wire.specs.declared.messages.Message.TheVariants.{State, Dual, Advance, Item}

-- a header
unfoldable pub header_of_data : Data → Option Header
header_of_data d = do
  bl_root ← field (codes "blRoot") digest_of d
  bl_tx_id ← field (codes "blTxId") (number_of (2 ^ 64)) d
  eh ← field (codes "eh") digest_of d
  id ← field (codes "id") (number_of (2 ^ 64)) d
  md ← field (codes "md") (octets_of 0 256) d
  nentries ← field (codes "nentries") (number_of (2 ^ 32)) d
  prev_alh ← field (codes "prevAlh") digest_of d
  ts ← field (codes "ts") signed_of d
  version ← field (codes "version") (number_of (2 ^ 16)) d
  Some (record { id = id; ts = ts; bl_tx_id = bl_tx_id; bl_root = bl_root; prev_alh = prev_alh; version = version; md = md; nentries = nentries; eh = eh })

-- an entry within the limits: a key of 1 to 1024 octets, metadata of at most 256, a value of at most 4096
unfoldable pub entry_of_data : Data → Option Entry
entry_of_data d = do
  key ← field (codes "key") (octets_of 1 1024) d
  md ← field (codes "md") (octets_of 0 256) d
  value ← field (codes "value") (octets_of 0 4096) d
  Some (record { md = md; key = key; value = value })

-- a linear advance
unfoldable pub advance_proof_of : Data → Option AdvanceProof
advance_proof_of d = do
  inclusions ← field (codes "inclusions") digest_lists_of d
  terms ← field (codes "terms") digests_of d
  Some (record { terms = terms; inclusions = inclusions })

-- a dual proof
unfoldable pub dual_proof_of : Data → Option DualProof
dual_proof_of d = do
  consistency ← field (codes "consistency") digests_of d
  inclusion ← field (codes "inclusion") digests_of d
  last_inclusion ← field (codes "lastInclusion") digests_of d
  linear ← field (codes "linear") digests_of d
  linear_advance ← field (codes "linearAdvance") advance_proof_of d
  source ← field (codes "source") header_of_data d
  target ← field (codes "target") header_of_data d
  target_bl_tx_alh ← field (codes "targetBlTxAlh") digest_of d
  Some (record { source = source; target = target; inclusion = inclusion; consistency = consistency; target_bl_tx_alh = target_bl_tx_alh; last_inclusion = last_inclusion; linear = linear; linear_advance = linear_advance })

-- an anchor, or none where the value is null
unfoldable pub anchor_of : Data → Option (Option DualProof)
anchor_of d =
    if is_some (as_null d) then Some None
    else (do
      dual ← dual_proof_of d
      Some (Some dual))

-- the message that is a state
unfoldable pub state_message : Data → Option Message
state_message d = do
  header ← field (codes "header") header_of_data d
  Some (State header)

-- the message that is a dual proof
unfoldable pub dual_message : Data → Option Message
dual_message d = do
  dual ← field (codes "dual") dual_proof_of d
  Some (Dual dual)

-- the message that is an advance
unfoldable pub advance_message : Data → Option Message
advance_message d = do
  anchor ← field (codes "anchor") anchor_of d
  dual ← field (codes "dual") dual_proof_of d
  Some (Advance dual anchor)

-- the message that is an item
unfoldable pub item_message : Data → Option Message
item_message d = do
  dual ← field (codes "dual") dual_proof_of d
  entry ← field (codes "entry") entry_of_data d
  index ← field (codes "index") (number_of (2 ^ 32)) d
  path ← field (codes "path") digests_of d
  Some (Item dual entry index path)

-- the message of that type
unfoldable pub message_as : List ℕ → Data → Option Message
message_as kind d =
    if bytes_eq kind (codes "state") then state_message d
    else (if bytes_eq kind (codes "dual") then dual_message d
    else (if bytes_eq kind (codes "advance") then advance_message d
    else (if bytes_eq kind (codes "item") then item_message d
    else None)))

-- the message of the type that the value names
unfoldable pub message_of : Data → Option Message
message_of d = do
  kind ← field (codes "type") as_str d
  message_as kind d

-- a text in UTF-8 that reads as one JSON value, and the value as the message
abbrev pub HasMessage : List ℕ → Message → Type 0
HasMessage text m = IsUtf8 text × ((d : Data) × (read text ≡ Some d) × (message_of d ≡ Some m))

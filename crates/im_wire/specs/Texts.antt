-- The one text of a message that is written: compact JSON (RFC 8259), members in rising octet order of their
-- names, octets as lower-case hex.
use Rattle.std.specs.Prelude.{ℕ, List, map, codes, Option, Some, None}
use Rattle.hex.specs.Hex.{encode_lower}
use Rattle.serde_json.specs.Data.{Data, null, number, unsigned, string, array, object, member, no_members}
use Rattle.serde_json.specs.Find.{of_integer}
use Rattle.serde_json.specs.View.{items_of}
use Rattle.serde_json.specs.Written.{compact_text}
use Rattle.im_model.specs.declared.headers.Header.{Header}
use Rattle.im_model.specs.declared.entries.Entry.{Entry}
use Rattle.im_proof.specs.declared.proofs.AdvanceProof.{AdvanceProof}
use Rattle.im_proof.specs.declared.proofs.DualProof.{DualProof}
use Rattle.im_wire.specs.declared.messages.Message.{Message}
use Rattle.im_wire.specs.declared.messages.Message.TheVariants.{State, Dual, Advance, Item}

-- octets as lower-case hex
abbrev pub hex_data : List ℕ → Data
hex_data octets = string (encode_lower octets)

-- a number
abbrev pub number_data : ℕ → Data
number_data n = number (unsigned n)

-- an array of digests
unfoldable pub digests_data : List (List ℕ) → Data
digests_data ds = array (items_of (map hex_data ds))

-- an array of arrays of digests
unfoldable pub digest_lists_data : List (List (List ℕ)) → Data
digest_lists_data dss = array (items_of (map digests_data dss))

-- a header
unfoldable pub header_data : Header → Data
header_data h =
    object (member (codes "blRoot") (hex_data h.bl_root)
    (member (codes "blTxId") (number_data h.bl_tx_id)
    (member (codes "eh") (hex_data h.eh)
    (member (codes "id") (number_data h.id)
    (member (codes "md") (hex_data h.md)
    (member (codes "nentries") (number_data h.nentries)
    (member (codes "prevAlh") (hex_data h.prev_alh)
    (member (codes "ts") (number (of_integer h.ts))
    (member (codes "version") (number_data h.version) no_members)))))))))

-- an entry
unfoldable pub entry_data : Entry → Data
entry_data e =
    object (member (codes "key") (hex_data e.key)
    (member (codes "md") (hex_data e.md)
    (member (codes "value") (hex_data e.value) no_members)))

-- a linear advance
unfoldable pub advance_proof_data : AdvanceProof → Data
advance_proof_data a =
    object (member (codes "inclusions") (digest_lists_data a.inclusions)
    (member (codes "terms") (digests_data a.terms) no_members))

-- a dual proof
unfoldable pub dual_proof_data : DualProof → Data
dual_proof_data p =
    object (member (codes "consistency") (digests_data p.consistency)
    (member (codes "inclusion") (digests_data p.inclusion)
    (member (codes "lastInclusion") (digests_data p.last_inclusion)
    (member (codes "linear") (digests_data p.linear)
    (member (codes "linearAdvance") (advance_proof_data p.linear_advance)
    (member (codes "source") (header_data p.source)
    (member (codes "target") (header_data p.target)
    (member (codes "targetBlTxAlh") (hex_data p.target_bl_tx_alh) no_members))))))))

-- an anchor, or null where there is none
abbrev pub anchor_data : Option DualProof → Data
anchor_data None = null
anchor_data (Some p) = dual_proof_data p

-- a message
abbrev pub message_data : Message → Data
message_data (State header) = object (member (codes "header") (header_data header) (member (codes "type") (string (codes "state")) no_members))
message_data (Dual dual) = object (member (codes "dual") (dual_proof_data dual) (member (codes "type") (string (codes "dual")) no_members))
message_data (Advance dual anchor) =
    object (member (codes "anchor") (anchor_data anchor)
    (member (codes "dual") (dual_proof_data dual)
    (member (codes "type") (string (codes "advance")) no_members)))
message_data (Item dual entry index path) =
    object (member (codes "dual") (dual_proof_data dual)
    (member (codes "entry") (entry_data entry)
    (member (codes "index") (number_data index)
    (member (codes "path") (digests_data path)
    (member (codes "type") (string (codes "item")) no_members)))))

-- the text of a message
unfoldable pub text : Message → List ℕ
text m = compact_text (message_data m)

-- The tokens of a message, in the parts in which they are written.
use Rattle.std.specs.Prelude.{ℕ, List, ◌∷◌, ◌++◌, codes}
use Rattle.json.specs.Token.{Token, key}
use Rattle.json.specs.Tree.{json_tokens, items_tokens}
use Rattle.serde_json.specs.Data.{Data, number}
use Rattle.serde_json.specs.Find.{of_integer}
use Rattle.serde_json.specs.View.{items_of}
use Rattle.serde_json.specs.Written.{outline, items_outline}
use Rattle.im_model.specs.declared.headers.Header.{Header}
use Rattle.im_model.specs.declared.entries.Entry.{Entry}
use Rattle.im_proof.specs.declared.proofs.DualProof.{DualProof}
use Rattle.im_wire.specs.Texts.{hex_data, number_data, digests_data, header_data, entry_data, advance_proof_data}

-- the tokens of a value
unfoldable pub tokens_of : Data → List Token
tokens_of d = json_tokens (outline d)

-- those of an array's items, with its closing bracket
unfoldable pub tail_tokens : List Data → List Token
tail_tokens ds = items_tokens (items_outline (items_of ds))

-- those of a member
unfoldable pub field_tokens : List ℕ → Data → List Token
field_tokens name d = key name ∷ tokens_of d

-- the first three members of a header
unfoldable pub header_front_tokens : Header → List Token
header_front_tokens h =
    field_tokens (codes "blRoot") (hex_data h.bl_root)
    ++ (field_tokens (codes "blTxId") (number_data h.bl_tx_id) ++ field_tokens (codes "eh") (hex_data h.eh))

-- the next three
unfoldable pub header_middle_tokens : Header → List Token
header_middle_tokens h =
    field_tokens (codes "id") (number_data h.id)
    ++ (field_tokens (codes "md") (hex_data h.md) ++ field_tokens (codes "nentries") (number_data h.nentries))

-- the last three
unfoldable pub header_back_tokens : Header → List Token
header_back_tokens h =
    field_tokens (codes "prevAlh") (hex_data h.prev_alh)
    ++ (field_tokens (codes "ts") (number (of_integer h.ts)) ++ field_tokens (codes "version") (number_data h.version))

-- the members of an entry
unfoldable pub entry_tokens : Entry → List Token
entry_tokens e =
    field_tokens (codes "key") (hex_data e.key)
    ++ (field_tokens (codes "md") (hex_data e.md) ++ field_tokens (codes "value") (hex_data e.value))

-- the first three members of a dual proof
unfoldable pub dual_front_tokens : DualProof → List Token
dual_front_tokens p =
    field_tokens (codes "consistency") (digests_data p.consistency)
    ++ (field_tokens (codes "inclusion") (digests_data p.inclusion) ++ field_tokens (codes "lastInclusion") (digests_data p.last_inclusion))

-- the next two
unfoldable pub dual_middle_tokens : DualProof → List Token
dual_middle_tokens p =
    field_tokens (codes "linear") (digests_data p.linear) ++ field_tokens (codes "linearAdvance") (advance_proof_data p.linear_advance)

-- the last three
unfoldable pub dual_back_tokens : DualProof → List Token
dual_back_tokens p =
    field_tokens (codes "source") (header_data p.source)
    ++ (field_tokens (codes "target") (header_data p.target) ++ field_tokens (codes "targetBlTxAlh") (hex_data p.target_bl_tx_alh))

-- the members of an item that stand between its dual proof and its type
unfoldable pub item_tokens : Entry → ℕ → List (List ℕ) → List Token
item_tokens entry index path =
    field_tokens (codes "entry") (entry_data entry)
    ++ (field_tokens (codes "index") (number_data index) ++ field_tokens (codes "path") (digests_data path))

-- The text of a header: compact JSON (RFC 8259), its members in rising order of their names, octets as
-- lower-case hex.
use Rattle.std.specs.Prelude.{ℕ, List, ◌++◌, codes}
use Rattle.std.specs.Fmt.{decimal, signed_decimal}
use Rattle.hex.specs.Hex.{encode_lower}
use Rattle.im_model.specs.declared.headers.Header.{Header}

-- the members before `md`
unfoldable pub header_front : Header → List ℕ
header_front header =
    codes "{\"blRoot\":\"" ++ encode_lower header.bl_root
    ++ codes "\",\"blTxId\":" ++ decimal header.bl_tx_id
    ++ codes ",\"eh\":\"" ++ encode_lower header.eh
    ++ codes "\",\"id\":" ++ decimal header.id

-- `md` and `nentries`
unfoldable pub header_middle : Header → List ℕ
header_middle header =
    codes ",\"md\":\"" ++ encode_lower header.md
    ++ codes "\",\"nentries\":" ++ decimal header.nentries

-- the members behind them
unfoldable pub header_back : Header → List ℕ
header_back header =
    codes ",\"prevAlh\":\"" ++ encode_lower header.prev_alh
    ++ codes "\",\"ts\":" ++ signed_decimal header.ts
    ++ codes ",\"version\":" ++ decimal header.version ++ codes "}"

-- the text of a header
abbrev pub header_text : Header → List ℕ
header_text header = header_front header ++ header_middle header ++ header_back header

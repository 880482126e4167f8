-- The strings that are hashed for a header (immudb's embedded store, header version 1).
use Rattle.std.specs.Prelude.{ℕ, List, [], ◌∷◌, ◌++◌, length}
use Rattle.im_octet.specs.Fields.{field2, field4, field8, signed_field8}
use Rattle.im_digest.specs.Digests.{Hash}
use Rattle.im_model.specs.Chains.{link_string}
use Rattle.im_model.specs.declared.headers.Header.{Header}

-- Ts 8 | Version 2 | mdLen 2 | md | NEntries 4 | Eh 32 | BlTxID 8 | BlRoot 32
abbrev pub inner_string : Header → List ℕ
inner_string header =
    signed_field8 header.ts ++ field2 header.version ++ field2 (length header.md) ++ header.md
    ++ (field4 header.nentries ++ header.eh ++ field8 header.bl_tx_id ++ header.bl_root)

-- the inner digest
abbrev pub inner : Hash → Header → List ℕ
inner hash header = hash (inner_string header)

-- ID 8 | PrevAlh 32 | inner 32
abbrev pub alh_string : Hash → Header → List ℕ
alh_string hash header = link_string header.id header.prev_alh (inner hash header)

-- the accumulated linear hash, Alh
abbrev pub alh : Hash → Header → List ℕ
alh hash header = hash (alh_string hash header)

-- the strings that are hashed for a header
abbrev pub header_strings : Hash → Header → List (List ℕ)
header_strings hash header = alh_string hash header ∷ inner_string header ∷ []

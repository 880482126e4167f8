-- What the types say of a header, where the strings that are hashed for it rest on it: numbers fit their
-- fields, and digests have 32 octets.
use Rattle.std.specs.Prelude.{◌≡◌, ◌<◌, ◌^◌, length, FitsSigned}
use Rattle.std.specs.Int.{w64}
use Rattle.im_model.specs.declared.headers.Header.{Header}

-- each field of a header fits its place in the strings
pub record HeaderFits (header : Header) : Type 0 where
  pub id : header.id < 2 ^ 64
  pub ts : FitsSigned w64 header.ts
  pub bl_tx_id : header.bl_tx_id < 2 ^ 64
  pub bl_root : length header.bl_root ≡ 32
  pub prev_alh : length header.prev_alh ≡ 32
  pub version : header.version < 2 ^ 16
  pub md : length header.md < 2 ^ 16
  pub nentries : header.nentries < 2 ^ 32
  pub eh : length header.eh ≡ 32

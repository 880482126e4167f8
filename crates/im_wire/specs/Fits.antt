-- What the types say of a message: its numbers are in range, its octets are octets, its digests have 32.
use Rattle.std.specs.Prelude.{◌≡◌, ◌<◌, ◌≤◌, ◌^◌, ℕ, ℤ, pos, negsuc, List, length, Option, Some, None, ⊤}
use Rattle.std.specs.List.{All}
use Rattle.hex.specs.Hex.{IsBytes}
use Rattle.im_model.specs.declared.headers.Header.{Header}
use Rattle.im_model.specs.declared.entries.Entry.{Entry}
use Rattle.im_proof.specs.declared.proofs.AdvanceProof.{AdvanceProof}
use Rattle.im_proof.specs.declared.proofs.DualProof.{DualProof}
use Rattle.im_wire.specs.declared.messages.Message.{Message}
use Rattle.im_wire.specs.declared.messages.Message.TheVariants.{State, Dual, Advance, Item}

-- 32 octets
pub record IsDigest (d : List ℕ) : Type 0 where
  pub len : length d ≡ 32
  pub bytes : IsBytes d

-- each is a digest
unfoldable pub AreDigestOctets : List (List ℕ) → Type 0
AreDigestOctets ds = All IsDigest ds

-- each is a list of digests
abbrev pub AreDigestLists : List (List (List ℕ)) → Type 0
AreDigestLists dss = All AreDigestOctets dss

-- at least `least` and at most `most` octets
pub record IsBounded (least most : ℕ) (octets : List ℕ) : Type 0 where
  pub few : least ≤ length octets
  pub many : length octets ≤ most
  pub bytes : IsBytes octets

-- within 64 bits with a sign
abbrev pub IsSigned : ℤ → Type 0
IsSigned (pos n) = n < 2 ^ 63
IsSigned (negsuc n) = n < 2 ^ 63

-- a header of the type's ranges
pub record IsHeader (h : Header) : Type 0 where
  pub id : h.id < 2 ^ 64
  pub ts : IsSigned h.ts
  pub bl_tx_id : h.bl_tx_id < 2 ^ 64
  pub bl_root : IsDigest h.bl_root
  pub prev_alh : IsDigest h.prev_alh
  pub version : h.version < 2 ^ 16
  pub md : IsBounded 0 256 h.md
  pub nentries : h.nentries < 2 ^ 32
  pub eh : IsDigest h.eh

-- an entry within the type's limits: metadata of at most 256 octets, whatever they are, a key of 1 to 1024,
-- a value of at most 4096
pub record IsEntryInRange (e : Entry) : Type 0 where
  pub md : IsBounded 0 256 e.md
  pub key : IsBounded 1 1024 e.key
  pub value : IsBounded 0 4096 e.value

-- a linear advance of digests
pub record IsAdvanceProof (a : AdvanceProof) : Type 0 where
  pub terms : AreDigestOctets a.terms
  pub inclusions : AreDigestLists a.inclusions

-- a dual proof of such headers and of digests
pub record IsDualProof (p : DualProof) : Type 0 where
  pub source : IsHeader p.source
  pub target : IsHeader p.target
  pub inclusion : AreDigestOctets p.inclusion
  pub consistency : AreDigestOctets p.consistency
  pub target_bl_tx_alh : IsDigest p.target_bl_tx_alh
  pub last_inclusion : AreDigestOctets p.last_inclusion
  pub linear : AreDigestOctets p.linear
  pub linear_advance : IsAdvanceProof p.linear_advance

-- an anchor, if there is one, is such a dual proof
abbrev pub IsAnchor : Option DualProof → Type 0
IsAnchor None = ⊤
IsAnchor (Some p) = IsDualProof p

-- a message of these
abbrev pub IsMessage : Message → Type 0
IsMessage (State header) = IsHeader header
IsMessage (Dual dual) = IsDualProof dual
IsMessage (Advance dual anchor) = IsDualProof dual × IsAnchor anchor
IsMessage (Item dual entry index path) = IsDualProof dual × IsEntryInRange entry × (index < 2 ^ 32) × AreDigestOctets path

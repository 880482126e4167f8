-- What the types say of a message's parts is what the strings that are hashed for them rest on.
use Rattle.std.proofs.Common.{◌≤◌, ℕ, ℤ, pos, negsuc, length, List, arith}
use Rattle.std.specs.Prelude.{FitsSigned}
use Rattle.std.specs.Int.{w64}
use Rattle.std.specs.List.{All}
use Rattle.im_model.specs.declared.entries.Entry.{Entry}
use Rattle.im_model.specs.declared.headers.Header.{Header}
use Rattle.im_proof.specs.declared.proofs.DualProof.{DualProof}
use Rattle.im_pairs.specs.Pairs as pairs
use Rattle.im_model.specs.Entries.{EntryFits}
use Rattle.im_pairs.specs.Ranges.{HeaderFits}
use Rattle.im_carried.specs.Hashed.{DualFits}
use Rattle.im_wire.specs.Fits.{AreDigestOctets, AreDigestLists, IsSigned, IsHeader, IsEntryInRange, IsDualProof}

signed-fits : (z : ℤ) → IsSigned z → FitsSigned w64 z
signed-fits (pos n) h = record { sfits = h }
signed-fits (negsuc n) h = record { sfits = h }

-- a header
pub header-fits : (h : Header) → IsHeader h → HeaderFits h
header-fits h is = record {
  id = is.id;
  ts = signed-fits h.ts is.ts;
  bl_tx_id = is.bl_tx_id;
  bl_root = is.bl_root.len;
  prev_alh = is.prev_alh.len;
  version = is.version;
  md = (let many : length h.md ≤ 256 = is.md.many in omega arith);
  nentries = is.nentries;
  eh = is.eh.len;
}

-- an entry
pub entry-fits : (e : Entry) → IsEntryInRange e → EntryFits e
entry-fits e is = record {
  md = (let many : length e.md ≤ 256 = is.md.many in omega arith);
  key = (let many : length e.key ≤ 1024 = is.key.many in omega arith);
}

-- digests
pub digests-fit : (ds : List (List ℕ)) → AreDigestOctets ds → pairs.AreDigests ds
unfolding AreDigestOctets
digests-fit ds is = λ i d less. (is i d less).len

digest_lists-fit : (dss : List (List (List ℕ))) → AreDigestLists dss → All pairs.AreDigests dss
digest_lists-fit dss is = λ i d less. digests-fit _ (is i d less)

-- a dual proof
pub dual-fits : (p : DualProof) → IsDualProof p → DualFits p
dual-fits p is = record {
  source = header-fits p.source is.source;
  target = header-fits p.target is.target;
  inclusion = digests-fit p.inclusion is.inclusion;
  consistency = digests-fit p.consistency is.consistency;
  tip = is.target_bl_tx_alh.len;
  last = digests-fit p.last_inclusion is.last_inclusion;
  linear = digests-fit p.linear is.linear;
  terms = digests-fit p.linear_advance.terms is.linear_advance.terms;
  paths = digest_lists-fit p.linear_advance.inclusions is.linear_advance.inclusions;
}

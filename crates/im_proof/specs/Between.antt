-- The proofs of a history by the numbers of its transactions.
use Rattle.std.specs.Prelude.{◌&&◌, ℕ, List, [], nat_lt, if◌then◌else◌, Option, Some, None}
use Rattle.im_digest.specs.Digests.{Hash}
use Rattle.im_model.specs.History.{alhs_of, header_of, transaction_of}
use Rattle.im_model.specs.declared.entries.Entry.{Entry}
use Rattle.im_model.specs.declared.transactions.Transaction.{Transaction}
use Rattle.im_proof.specs.Built.{dual_of, inners_of}
use Rattle.im_proof.specs.declared.proofs.DualProof.{DualProof}

-- the dual proof between transactions s and t of a history
abbrev pub dual_between : Hash → List Transaction → ℕ → ℕ → DualProof
dual_between hash history s t =
    dual_of hash (header_of hash history s) (header_of hash history t) (alhs_of hash history) (inners_of hash history)

-- the anchor of an advance from s to t: where the tree of t ends behind that of s and before s, the dual
-- proof from that end to s
unfoldable pub anchor_between : Hash → List Transaction → ℕ → ℕ → Option DualProof
anchor_between hash history s t =
    let old = (transaction_of history s).bl in
    let size = (transaction_of history t).bl in
    if nat_lt old size && nat_lt size s then Some (dual_between hash history size s) else None

-- stands where an index is beyond the entries
abbrev pub no_entry : Entry
no_entry = record { md = []; key = []; value = [] }

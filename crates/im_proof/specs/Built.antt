-- What a proof holds that is built from a history's Alh and inner digests, each list with that of
-- transaction k at place k - 1.
use Rattle.std.specs.Prelude.{◌≡◌, ℕ, suc, zero, ◌<◌, ◌≤◌, ◌+◌, ◌-◌, ◌==◌, List, [], ◌∷◌, ◌++◌, length, take, drop, reverse, slice_index_or, nat_eq, nat_le, nat_lt, if◌then◌else◌, Ok}
use Rattle.im_digest.specs.Digests.{Hash}
use Rattle.im_model.specs.Trees.{split_of, root}
use Rattle.im_model.specs.Chains.{link_string}
use Rattle.im_model.specs.History.{no_digest, bl_root_of, next_header}
use Rattle.im_model.specs.Headers.{inner, alh}
use Rattle.im_model.specs.declared.headers.Header.{Header}
use Rattle.im_model.specs.declared.transactions.Transaction.{Transaction}
use Rattle.im_mtree.specs.Checks.{first_fail}
use Rattle.im_mtree.specs.Inclusion.{inclusion}
use Rattle.im_proof.specs.HeaderChecks.{header_checks}
use Rattle.im_proof.specs.declared.proofs.AdvanceProof.{AdvanceProof}
use Rattle.im_proof.specs.declared.proofs.DualProof.{DualProof}

-- the Alh of a transaction, and the inner digests of those behind it up to another
abbrev pub linear_terms : List (List ℕ) → List (List ℕ) → ℕ → ℕ → List (List ℕ)
linear_terms alhs inners s t = slice_index_or alhs (s - 1) [] ∷ take (t - s) (drop s inners)

-- each Alh but the first is made of the one before it and of its own inner digest
abbrev pub AreLinked : Hash → List (List ℕ) → List (List ℕ) → Type 0
AreLinked hash alhs inners =
    (k : ℕ) → 1 ≤ k → k < length alhs → slice_index_or alhs k [] ≡ hash (link_string (k + 1) (slice_index_or alhs (k - 1) []) (slice_index_or inners k []))

-- the path of leaf i as a proof holds it, from the leaf up
abbrev pub path_of : Hash → List (List ℕ) → ℕ → List (List ℕ)
path_of hash leaves i = reverse (inclusion hash leaves i)

-- the first term of a consistency list from m over at most `room` leaves: the root of the part that both
-- trees have whole, and that ends where the older one does
unfoldable pub growth_first_within : ℕ → Hash → List (List ℕ) → ℕ → List ℕ
growth_first_within zero hash leaves m = []
growth_first_within (suc room) hash leaves m =
    if m == length leaves then root hash leaves
    else (if nat_le m (split_of (length leaves)) then growth_first_within room hash (take (split_of (length leaves)) leaves) m
    else growth_first_within room hash (drop (split_of (length leaves)) leaves) (m - split_of (length leaves)))

-- the terms behind it, from the root down: the roots of the parts beside
unfoldable pub growth_rest_within : ℕ → Hash → List (List ℕ) → ℕ → List (List ℕ)
growth_rest_within zero hash leaves m = []
growth_rest_within (suc room) hash leaves m =
    if m == length leaves then []
    else (if nat_le m (split_of (length leaves))
    then root hash (drop (split_of (length leaves)) leaves) ∷ growth_rest_within room hash (take (split_of (length leaves)) leaves) m
    else root hash (take (split_of (length leaves)) leaves)
    ∷ growth_rest_within room hash (drop (split_of (length leaves)) leaves) (m - split_of (length leaves)))

-- the first term of a consistency list from m to the number of the leaves
unfoldable pub growth_first : Hash → List (List ℕ) → ℕ → List ℕ
growth_first hash leaves m = growth_first_within (length leaves) hash leaves m

-- the terms behind it, from the root down
unfoldable pub growth_rest : Hash → List (List ℕ) → ℕ → List (List ℕ)
growth_rest hash leaves m = growth_rest_within (length leaves) hash leaves m

-- PROOF (RFC 6962, section 2.1.2), with the first term always there: the consistency list from m to the
-- number of the leaves, as a proof holds it. Between equal sizes it is empty.
unfoldable pub consistency : Hash → List (List ℕ) → ℕ → List (List ℕ)
consistency hash leaves m = if m == length leaves then [] else growth_first hash leaves m ∷ reverse (growth_rest hash leaves m)

-- the paths of leaf i and of those behind it, `count` in all
abbrev pub paths_from : Hash → List (List ℕ) → ℕ → ℕ → List (List (List ℕ))
paths_from hash leaves i zero = []
paths_from hash leaves i (suc count) = path_of hash leaves i ∷ paths_from hash leaves (i + 1) count

-- the linear advance from a to e in the tree of the first `size` Alh
unfoldable pub advance_of : Hash → List (List ℕ) → List (List ℕ) → ℕ → ℕ → ℕ → AdvanceProof
advance_of hash alhs inners a e size =
    if nat_le e (a + 1) then record { terms = []; inclusions = [] }
    else record { terms = linear_terms alhs inners (a + 1) e; inclusions = paths_from hash (take size alhs) a (e - a - 1) }

-- the dual proof from a source to a target. Where the source is below the end of the target's tree the
-- chain goes from that end to the target, and the advance from the source's tree to the source; else the
-- chain goes from the source to the target, and the advance to the end of the tree.
unfoldable pub dual_of : Hash → Header → Header → List (List ℕ) → List (List ℕ) → DualProof
dual_of hash source target alhs inners =
    let s = source.id in
    let old = source.bl_tx_id in
    let size = target.bl_tx_id in
    let leaves = take size alhs in
    record {
      source = source;
      target = target;
      inclusion = if nat_lt s size then path_of hash leaves (s - 1) else [];
      consistency = if nat_eq old 0 then [] else consistency hash leaves old;
      target_bl_tx_alh = if nat_eq size 0 then no_digest else slice_index_or alhs (size - 1) [];
      last_inclusion = if nat_eq size 0 then [] else path_of hash leaves (size - 1);
      linear = if nat_lt s size then linear_terms alhs inners size target.id else linear_terms alhs inners s target.id;
      linear_advance = if nat_lt s size then advance_of hash alhs inners old s size else advance_of hash alhs inners old size size;
    }

-- a header that passes its checks, whose Alh is the one that stands at its number, and whose BlRoot is that
-- of the first Alh, as many as its BlTxID
pub record IsRecorded (hash : Hash) (alhs : List (List ℕ)) (header : Header) : Type 0 where
  pub checked : first_fail (header_checks header) ≡ Ok tt
  pub within : header.id ≤ length alhs
  pub same : alh hash header ≡ slice_index_or alhs (header.id - 1) []
  pub tree : header.bl_root ≡ bl_root_of hash alhs header.bl_tx_id

-- the inner digests of the transactions that follow those with these Alh
abbrev pub inners_from : Hash → List (List ℕ) → List Transaction → List (List ℕ)
inners_from hash alhs [] = []
inners_from hash alhs (tx ∷ txs) =
    inner hash (next_header hash alhs tx) ∷ inners_from hash (alhs ++ alh hash (next_header hash alhs tx) ∷ []) txs

-- the inner digest of each transaction of a history, in order
abbrev pub inners_of : Hash → List Transaction → List (List ℕ)
inners_of hash history = inners_from hash [] history

-- the headers of the transactions that follow those with these Alh
abbrev pub headers_from : Hash → List (List ℕ) → List Transaction → List Header
headers_from hash alhs [] = []
headers_from hash alhs (tx ∷ txs) =
    next_header hash alhs tx ∷ headers_from hash (alhs ++ alh hash (next_header hash alhs tx) ∷ []) txs

-- the header of each transaction of a history, in order
abbrev pub headers_of : Hash → List Transaction → List Header
headers_of hash history = headers_from hash [] history

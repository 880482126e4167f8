-- What is said of a history passes the checks of a client that it is for.
use Rattle.std.proofs.Common.{◌≡◌, ◌<◌, ◌≤◌, ℕ, ◌-◌, ◌&&◌, not, List, [], ◌∷◌, ◌++◌, Bool, true, false, length, map, refl, arith, ap, ◌∙◌, sym, get_or, nat_lt, if◌then◌else◌, Option, Some, None, Ok}
use Rattle.std.specs.Prelude.{nat_eq, bytes_eq}
use Rattle.std.proofs.lemmas.Bool.{and_parts, eq-eqb, ltb-true, ne_eqb}
use Rattle.std.proofs.lemmas.List.{get_or-map, length-map}
use Rattle.im_digest.specs.Digests.{Hash}
use Rattle.im_model.specs.Trees.{root}
use Rattle.im_model.specs.Headers.{alh}
use Rattle.im_model.specs.Entries.{entry_digest}
use Rattle.im_model.specs.History.{no_digest, next_header, alhs_of, header_of, transaction_of, IsHistory}
use Rattle.im_model.specs.declared.entries.Entry.{Entry}
use Rattle.im_model.specs.declared.headers.Header.{Header as TheHeader}
use Rattle.im_model.specs.declared.transactions.Transaction.{Transaction}
use Rattle.im_mtree.specs.Checks.{Check, first_fail}
use Rattle.im_mtree.specs.PathChecks.{path_checks}
use Rattle.im_mtree.proofs.InclusionLemmas.{inclusion-passes}
use Rattle.im_proof.specs.HeaderChecks.{header_checks}
use Rattle.im_proof.specs.Duals.{as_faults, dual_checks}
use Rattle.im_proof.specs.Built.{dual_of, inners_of, path_of}
use Rattle.im_proof.specs.declared.proofs.DualProof.{DualProof}
use Rattle.im_octet.proofs.Common.{bytes-same}
use Rattle.im_mtree.proofs.CheckLemmas.{one-holds, two-hold, two-then, both-hold}
use Rattle.im_dual.proofs.RecordLemmas.{bl-of, headers-recorded, history-passes, id-of}
use Rattle.im_wire.specs.declared.messages.Message.TheVariants as says
use Rattle.im_proof.specs.Between.{anchor_between, dual_between, no_entry}
use Rattle.im_client.specs.LineChecks.{anchor_checks, anchor_ends_checks, dual_line_checks, is_anchored, line_checks, same_state_checks}
use Rattle.im_client.specs.declared.faults.LineFault.{LineFault}
use Rattle.im_client.specs.declared.faults.LineFault.TheVariants.{State, StateId, StateAlh, SourceId, SourceAlh, TargetId, TargetAlh, Dual, AnchorMissing, AnchorExtra, AnchorSourceId, AnchorTargetId, AnchorSourceAlh, AnchorTargetAlh, Anchor, Path}
use Rattle.im_proof.proofs.NamedLemmas.{holds_named}
use Rattle.im_report.specs.Messages.{item_between}

-- the headers of a dual proof, and the Alh that it tells
dual-source : (hash : Hash) (source target : TheHeader) (alhs inners : List (List ℕ)) → (dual_of hash source target alhs inners).source ≡ source
unfolding dual_of
dual-source hash source target alhs inners = refl

dual-target : (hash : Hash) (source target : TheHeader) (alhs inners : List (List ℕ)) → (dual_of hash source target alhs inners).target ≡ target
unfolding dual_of
dual-target hash source target alhs inners = refl

dual-told : (hash : Hash) (source target : TheHeader) (alhs inners : List (List ℕ))
    → (dual_of hash source target alhs inners).target_bl_tx_alh ≡ (if nat_eq target.bl_tx_id 0 then no_digest else get_or alhs (target.bl_tx_id - 1) [])
unfolding dual_of
dual-told hash source target alhs inners = refl

pub between-source : (hash : Hash) (history : List Transaction) (s t : ℕ) → (dual_between hash history s t).source ≡ header_of hash history s
between-source hash history s t = dual-source hash (header_of hash history s) (header_of hash history t) (alhs_of hash history) (inners_of hash history)

pub between-target : (hash : Hash) (history : List Transaction) (s t : ℕ) → (dual_between hash history s t).target ≡ header_of hash history t
between-target hash history s t = dual-target hash (header_of hash history s) (header_of hash history t) (alhs_of hash history) (inners_of hash history)

-- a header has its transaction's entries
header-count : (hash : Hash) (history : List Transaction) (k : ℕ) → (header_of hash history k).nentries ≡ length (transaction_of history k).entries
unfolding next_header
header-count hash history k = refl

header-root : (hash : Hash) (history : List Transaction) (k : ℕ) → (header_of hash history k).eh ≡ root hash (map (entry_digest hash) (transaction_of history k).entries)
unfolding next_header
header-root hash history k = refl

header-passes : (hash : Hash) (history : List Transaction) (k : ℕ) → IsHistory history → 1 ≤ k → k ≤ length history
    → first_fail (as_faults State (header_checks (header_of hash history k))) ≡ Ok tt
header-passes hash history k h some within =
    holds_named State (header_checks (header_of hash history k)) (headers-recorded hash history k h some within).checked

-- a state, where none is kept, and where it is the kept one
pub first-state-passes : (hash : Hash) (history : List Transaction) (k : ℕ) → IsHistory history → 1 ≤ k → k ≤ length history
    → first_fail (line_checks hash None (says.State (header_of hash history k))) ≡ Ok tt
first-state-passes hash history k h some within =
    both-hold (as_faults State (header_checks (header_of hash history k))) [] (header-passes hash history k h some within) refl

pub same-state-passes : (hash : Hash) (history : List Transaction) (k : ℕ) → IsHistory history → 1 ≤ k → k ≤ length history
    → first_fail (line_checks hash (Some (header_of hash history k)) (says.State (header_of hash history k))) ≡ Ok tt
same-state-passes hash history k h some within =
    let header : TheHeader = header_of hash history k in
    both-hold (as_faults State (header_checks header)) (same_state_checks hash (Some header) header) (header-passes hash history k h some within)
    (two-hold (nat_eq header.id header.id) (bytes_eq (alh hash header) (alh hash header)) (StateId header.id header.id) (StateAlh (alh hash header) (alh hash header))
    (eq-eqb header.id header.id refl) (bytes-same (alh hash header) (alh hash header) refl))

-- a dual proof that passes, under its target
dual-line-passes : (hash : Hash) (kept : TheHeader) (p : DualProof) → p.target ≡ kept → first_fail (dual_checks hash p) ≡ Ok tt → first_fail (dual_line_checks hash kept p) ≡ Ok tt
dual-line-passes hash kept p e passes =
    two-then (nat_eq p.target.id kept.id) (bytes_eq (alh hash p.target) (alh hash kept)) (TargetId kept.id p.target.id) (TargetAlh (alh hash kept) (alh hash p.target))
    (as_faults Dual (dual_checks hash p))
    (eq-eqb p.target.id kept.id (ap (λ (x : TheHeader). x.id) e)) (bytes-same (alh hash p.target) (alh hash kept) (ap (λ (x : TheHeader). alh hash x) e))
    (holds_named Dual (dual_checks hash p) passes)

pub dual-passes : (hash : Hash) (history : List Transaction) (s t : ℕ) → IsHistory history → 1 ≤ s → s ≤ t → t ≤ length history
    → first_fail (line_checks hash (Some (header_of hash history t)) (says.Dual (dual_between hash history s t))) ≡ Ok tt
dual-passes hash history s t h some order within =
    dual-line-passes hash (header_of hash history t) (dual_between hash history s t) (between-target hash history s t) (history-passes hash history s t h some order within)

-- an anchor, where it is due
anchor-by : (due : Bool) (hash : Hash) (p q : DualProof) → is_anchored p ≡ due
    → (due ≡ true → first_fail (anchor_ends_checks hash p q) ≡ Ok tt) → (due ≡ true → first_fail (dual_checks hash q) ≡ Ok tt)
    → first_fail (anchor_checks hash p (if due then Some q else None)) ≡ Ok tt
anchor-by true hash p q is ends passes =
    let rest : List (Check LineFault) = anchor_ends_checks hash p q ++ as_faults Anchor (dual_checks hash q) in
    ap (λ x. first_fail ((x, AnchorExtra) ∷ rest)) is
    ∙ both-hold (anchor_ends_checks hash p q) (as_faults Anchor (dual_checks hash q)) (ends refl) (holds_named Anchor (dual_checks hash q) (passes refl))
anchor-by false hash p q is ends passes = one-holds (not (is_anchored p)) AnchorMissing (ap not is)

-- its ends
ends-pass : (hash : Hash) (p q : DualProof) → q.source.id ≡ p.target.bl_tx_id → q.target.id ≡ p.source.id
    → alh hash q.source ≡ p.target_bl_tx_alh → alh hash q.target ≡ alh hash p.source → first_fail (anchor_ends_checks hash p q) ≡ Ok tt
ends-pass hash p q a b c d =
    two-then (nat_eq q.source.id p.target.bl_tx_id) (nat_eq q.target.id p.source.id) (AnchorSourceId p.target.bl_tx_id q.source.id) (AnchorTargetId p.source.id q.target.id)
    ((bytes_eq (alh hash q.source) p.target_bl_tx_alh, AnchorSourceAlh p.target_bl_tx_alh (alh hash q.source))
    ∷ (bytes_eq (alh hash q.target) (alh hash p.source), AnchorTargetAlh (alh hash p.source) (alh hash q.target)) ∷ [])
    (eq-eqb q.source.id p.target.bl_tx_id a) (eq-eqb q.target.id p.source.id b)
    (two-hold (bytes_eq (alh hash q.source) p.target_bl_tx_alh) (bytes_eq (alh hash q.target) (alh hash p.source))
    (AnchorSourceAlh p.target_bl_tx_alh (alh hash q.source)) (AnchorTargetAlh (alh hash p.source) (alh hash q.target))
    (bytes-same (alh hash q.source) p.target_bl_tx_alh c) (bytes-same (alh hash q.target) (alh hash p.source) d))

-- the dual proof between two transactions tells the Alh of the last one in the target's tree
told-is : (hash : Hash) (history : List Transaction) (s t size : ℕ) → IsHistory history → (transaction_of history t).bl ≡ size → 1 ≤ size → size ≤ length history
    → alh hash (header_of hash history size) ≡ (dual_between hash history s t).target_bl_tx_alh
told-is hash history s t size h is some within =
    let alhs : List (List ℕ) = alhs_of hash history in
    let told : ℕ → List ℕ = λ n. if nat_eq n 0 then no_digest else get_or alhs (n - 1) [] in
    (headers-recorded hash history size h some within).same
    ∙ ap (λ n. get_or alhs (n - 1) []) (id-of hash history size some within)
    ∙ sym (dual-told hash (header_of hash history s) (header_of hash history t) alhs (inners_of hash history)
    ∙ ap told (bl-of hash history t ∙ is)
    ∙ ap (λ b. if b then no_digest else get_or alhs (size - 1) []) (ne_eqb size 0 (λ e. omega arith)))

-- the anchor of an advance
pub anchor-passes : (hash : Hash) (history : List Transaction) (s t : ℕ) → IsHistory history → 1 ≤ s → s ≤ t → t ≤ length history
    → first_fail (anchor_checks hash (dual_between hash history s t) (anchor_between hash history s t)) ≡ Ok tt
unfolding anchor_between
anchor-passes hash history s t h some order within =
    let old : ℕ = (transaction_of history s).bl in
    let size : ℕ = (transaction_of history t).bl in
    let p : DualProof = dual_between hash history s t in
    let q : DualProof = dual_between hash history size s in
    let due : Bool = nat_lt old size && nat_lt size s in
    let a : p.source.bl_tx_id ≡ old = ap (λ (x : TheHeader). x.bl_tx_id) (between-source hash history s t) ∙ bl-of hash history s in
    let b : p.target.bl_tx_id ≡ size = ap (λ (x : TheHeader). x.bl_tx_id) (between-target hash history s t) ∙ bl-of hash history t in
    let c : p.source.id ≡ s = ap (λ (x : TheHeader). x.id) (between-source hash history s t) ∙ id-of hash history s some (omega arith) in
    let is : is_anchored p ≡ due =
    ap (λ x. nat_lt x p.target.bl_tx_id && nat_lt p.target.bl_tx_id p.source.id) a
    ∙ ap (λ x. nat_lt old x && nat_lt x p.source.id) b ∙ ap (λ x. nat_lt old size && nat_lt size x) c in
    anchor-by due hash p q is
    (λ e.
    let tests = and_parts (nat_lt old size) (nat_lt size s) e in
    let more : old < size = ltb-true old size tests.0 in
    let less : size < s = ltb-true size s tests.1 in
    ends-pass hash p q
    (ap (λ (x : TheHeader). x.id) (between-source hash history size s) ∙ id-of hash history size (omega arith) (omega arith) ∙ sym b)
    (ap (λ (x : TheHeader). x.id) (between-target hash history size s ∙ sym (between-source hash history s t)))
    (ap (λ (x : TheHeader). alh hash x) (between-source hash history size s) ∙ told-is hash history s t size h refl (omega arith) (omega arith))
    (ap (λ (x : TheHeader). alh hash x) (between-target hash history size s ∙ sym (between-source hash history s t))))
    (λ e.
    let tests = and_parts (nat_lt old size) (nat_lt size s) e in
    let more : old < size = ltb-true old size tests.0 in
    let less : size < s = ltb-true size s tests.1 in
    history-passes hash history size s h (omega arith) (omega arith) (omega arith))

pub advance-passes : (hash : Hash) (history : List Transaction) (s t : ℕ) → IsHistory history → 1 ≤ s → s ≤ t → t ≤ length history
    → first_fail (line_checks hash (Some (header_of hash history s)) (says.Advance (dual_between hash history s t) (anchor_between hash history s t))) ≡ Ok tt
advance-passes hash history s t h some order within =
    let kept : TheHeader = header_of hash history s in
    let p : DualProof = dual_between hash history s t in
    let anchor : Option DualProof = anchor_between hash history s t in
    let e : p.source ≡ kept = between-source hash history s t in
    two-then (nat_eq p.source.id kept.id) (bytes_eq (alh hash p.source) (alh hash kept)) (SourceId kept.id p.source.id) (SourceAlh (alh hash kept) (alh hash p.source))
    (as_faults Dual (dual_checks hash p) ++ anchor_checks hash p anchor)
    (eq-eqb p.source.id kept.id (ap (λ (x : TheHeader). x.id) e)) (bytes-same (alh hash p.source) (alh hash kept) (ap (λ (x : TheHeader). alh hash x) e))
    (both-hold (as_faults Dual (dual_checks hash p)) (anchor_checks hash p anchor)
    (holds_named Dual (dual_checks hash p) (history-passes hash history s t h some order within)) (anchor-passes hash history s t h some order within))

-- the path of an entry
entry-passes : (hash : Hash) (source : TheHeader) (entries : List Entry) (i : ℕ) → source.nentries ≡ length entries → source.eh ≡ root hash (map (entry_digest hash) entries) → i < length entries
    → first_fail (path_checks hash (entry_digest hash (get_or entries i no_entry)) i source.nentries (path_of hash (map (entry_digest hash) entries) i) source.eh) ≡ Ok tt
entry-passes hash source entries i count top within =
    let digests : List (List ℕ) = map (entry_digest hash) entries in
    let size : length digests ≡ length entries = length-map entries (entry_digest hash) in
    ap (λ n. first_fail (path_checks hash (entry_digest hash (get_or entries i no_entry)) i n (path_of hash digests i) source.eh)) (count ∙ sym size)
    ∙ ap (λ d. first_fail (path_checks hash (entry_digest hash (get_or entries i no_entry)) i (length digests) (path_of hash digests i) d)) top
    ∙ ap (λ d. first_fail (path_checks hash d i (length digests) (path_of hash digests i) (root hash digests))) (sym (get_or-map (entry_digest hash) entries i no_entry [] within))
    ∙ inclusion-passes hash digests i (omega arith)

pub item-passes : (hash : Hash) (history : List Transaction) (t i s : ℕ) → IsHistory history → 1 ≤ t → t ≤ s → s ≤ length history → i < length (transaction_of history t).entries
    → first_fail (line_checks hash (Some (header_of hash history s)) (item_between hash history t i s)) ≡ Ok tt
item-passes hash history t i s h some order within inside =
    let p : DualProof = dual_between hash history t s in
    let entries : List Entry = (transaction_of history t).entries in
    let e : p.source ≡ header_of hash history t = between-source hash history t s in
    let path : List (Check LineFault) = as_faults Path (path_checks hash (entry_digest hash (get_or entries i no_entry)) i p.source.nentries (path_of hash (map (entry_digest hash) entries) i) p.source.eh) in
    both-hold (dual_line_checks hash (header_of hash history s) p) path (dual-passes hash history t s h some order within)
    (holds_named Path (path_checks hash (entry_digest hash (get_or entries i no_entry)) i p.source.nentries (path_of hash (map (entry_digest hash) entries) i) p.source.eh)
    (entry-passes hash p.source entries i
    (ap (λ (x : TheHeader). x.nentries) e ∙ header-count hash history t) (ap (λ (x : TheHeader). x.eh) e ∙ header-root hash history t) inside))

-- What is built of a history passes its check.
use Rattle.std.proofs.Common.{◌≡◌, ◌<◌, ◌≤◌, ℕ, suc, zero, ◌+◌, ◌-◌, true, false, List, [], ◌∷◌, ◌++◌, length, take, drop, reverse, refl, arith, ap, subst, ◌∙◌, sym, nat_lt, nat_le, if◌then◌else◌, inl, inr, get_or, drop-cons, length-drop, Ok}
use Rattle.std.specs.Prelude.{nat_eq, bytes_eq}
use Rattle.std.proofs.lemmas.Bool.{cases_lt, eq-eqb, lt-ltb, le-ltb, le-leb, lt-leb}
use Rattle.std.proofs.lemmas.List.{length-take-le}
use Rattle.im_digest.specs.Digests.{Hash}
use Rattle.im_model.specs.Trees.{root}
use Rattle.im_model.specs.Paths.{path_length, up}
use Rattle.im_model.specs.Chains.{link_string, chain}
use Rattle.im_model.specs.Headers.{alh}
use Rattle.im_model.specs.History.{no_digest}
use Rattle.im_model.specs.declared.headers.Header.{Header}
use Rattle.im_mtree.specs.Checks.{Check, first_fail}
use Rattle.im_proof.specs.HeaderChecks.{header_checks}
use Rattle.im_proof.specs.TreeChecks.{inclusion_checks, consistency_checks, last_checks, bl_checks}
use Rattle.im_proof.specs.ChainChecks.{linear_checks, advance_checks, advance_terms, advance_paths, path_checks_of, path_checks_from}
use Rattle.im_proof.specs.Duals.{as_faults, order_checks, both_headers_checks, tree_checks, chain_checks, dual_checks}
use Rattle.im_proof.specs.Built.{linear_terms, AreLinked, path_of, paths_from, consistency, advance_of, dual_of, IsRecorded}
use Rattle.im_proof.specs.declared.proofs.AdvanceProof.{AdvanceProof}
use Rattle.im_proof.specs.declared.proofs.DualProof.{DualProof}
use Rattle.im_proof.specs.declared.faults.DualFault.{DualFault}
use Rattle.im_proof.specs.declared.faults.DualFault.TheVariants.{Source, Target, Order, Shrink, AdvanceLength, AdvanceCount, AdvanceEnd}
use Rattle.im_octet.proofs.Common.{bytes-same}
use Rattle.im_mtree.proofs.CheckLemmas.{one-holds, two-hold, two-then, both-hold, when-true, when-false}
use Rattle.im_proof.proofs.NamedLemmas.{holds_named}
use Rattle.im_chain.proofs.LinearLemmas.{chain-linked, linear_passes}
use Rattle.im_atree.proofs.PassLemmas.{not-none, path-in_front, inclusion-passes, consistency-passes, last-passes, bl-passes}

-- the paths of an advance lead to the root
paths-pass : (hash : Hash) (alhs inners : List (List ℕ)) (size : ℕ) (top : List ℕ) → AreLinked hash alhs inners → size ≤ length alhs → (0 < size → top ≡ root hash (take size alhs))
    → (j i : ℕ) → i + j < size → i + j < length inners
    → first_fail (path_checks_from hash size top (i + 1) (get_or alhs i []) (take j (drop (i + 1) inners)) (paths_from hash (take size alhs) i j)) ≡ Ok tt
paths-pass hash alhs inners size top linked w tree zero i p q = refl
paths-pass hash alhs inners size top linked w tree (suc j) i p q =
    let leaves : List (List ℕ) = take size alhs in
    let path : List (List ℕ) = path_of hash leaves i in
    let paths : List (List (List ℕ)) = paths_from hash leaves (i + 1) j in
    let inner : List ℕ = get_or inners (i + 1) [] in
    let here : i + 1 - 1 ≡ i = omega arith in
    let next : suc (i + 1) ≡ i + 1 + 1 = omega arith in
    let front = path-in_front hash alhs i size (omega arith) w in
    let is : top ≡ root hash leaves = tree (omega arith) in
    let now : first_fail (path_checks_of hash size top (i + 1) (get_or alhs i []) path) ≡ Ok tt =
    two-hold _ _ _ _ (eq-eqb (length path) (path_length size (i + 1 - 1)) (front.0 ∙ ap (λ k. path_length size k) (sym here)))
    (bytes-same (up hash size (i + 1 - 1) (get_or alhs i []) (reverse path)) top (ap (λ k. up hash size k (get_or alhs i []) (reverse path)) here ∙ front.1 ∙ sym is)) in
    let step : hash (link_string (i + 1 + 1) (get_or alhs i []) inner) ≡ get_or alhs (i + 1) [] =
    ap (λ k. hash (link_string (i + 1 + 1) (get_or alhs k []) inner)) (sym here) ∙ sym (linked (i + 1) (omega arith) (omega arith)) in
    ap (λ x. first_fail (path_checks_from hash size top (i + 1) (get_or alhs i []) (take (suc j) x) (path ∷ paths))) (drop-cons inners (i + 1) [] (omega arith))
    ∙ both-hold (path_checks_of hash size top (i + 1) (get_or alhs i []) path)
    (path_checks_from hash size top (i + 1 + 1) (hash (link_string (i + 1 + 1) (get_or alhs i []) inner)) (take j (drop (suc (i + 1)) inners)) paths) now
    (ap (λ x. first_fail (path_checks_from hash size top (i + 1 + 1) x (take j (drop (suc (i + 1)) inners)) paths)) step
    ∙ ap (λ n. first_fail (path_checks_from hash size top (i + 1 + 1) (get_or alhs (i + 1) []) (take j (drop n inners)) paths)) next
    ∙ paths-pass hash alhs inners size top linked w tree j (i + 1) (omega arith) (omega arith))

-- as many paths as are asked for
length-paths : (hash : Hash) (leaves : List (List ℕ)) (i count : ℕ) → length (paths_from hash leaves i count) ≡ count
length-paths hash leaves i zero = refl
length-paths hash leaves i (suc count) = ap suc (length-paths hash leaves (i + 1) count)

-- an advance over more than one passes its check
walk-passes : (hash : Hash) (alhs inners : List (List ℕ)) (a e size : ℕ) (top : List ℕ) → AreLinked hash alhs inners → size ≤ length alhs → (0 < size → top ≡ root hash (take size alhs))
    → e ≤ size → e ≤ length inners → a + 1 < e
    → first_fail (advance_checks hash a e size top (get_or alhs (e - 1) []) (linear_terms alhs inners (a + 1) e) (paths_from hash (take size alhs) a (e - a - 1))) ≡ Ok tt
walk-passes hash alhs inners a e size top linked w tree within long more =
    let here : a + 1 - 1 ≡ a = omega arith in
    let count : e - (a + 1) ≡ e - a - 1 = omega arith in
    let far : a + (e - (a + 1)) ≡ e - 1 = omega arith in
    let rest : List (List ℕ) = take (e - (a + 1)) (drop (a + 1) inners) in
    let terms : List (List ℕ) = get_or alhs (a + 1 - 1) [] ∷ rest in
    let paths : List (List (List ℕ)) = paths_from hash (take size alhs) a (e - a - 1) in
    let end : List ℕ = get_or alhs (e - 1) [] in
    let dropped : length (drop (a + 1) inners) ≡ length inners - (a + 1) = length-drop (a + 1) inners in
    let fewer : length rest ≡ e - (a + 1) = length-take-le (e - (a + 1)) (drop (a + 1) inners) (omega arith) in
    let due : nat_le e (a + 1) ≡ false = lt-leb e (a + 1) more in
    let first : length terms ≡ advance_terms a e =
    (let n : length terms ≡ e - a = omega arith in n) ∙ sym (ap (λ t. if t then 0 else e - a) due) in
    let second : length paths ≡ advance_paths a e =
    length-paths hash (take size alhs) a (e - a - 1) ∙ sym (ap (λ t. if t then 0 else e - a - 1) due) in
    let some : nat_eq (length terms) 0 ≡ false = not-none (length terms) (omega arith) in
    let walk : chain hash (get_or alhs (a + 1 - 1) []) (a + 1) rest ≡ end =
    ap (λ k. chain hash (get_or alhs k []) (a + 1) rest) here
    ∙ chain-linked hash alhs inners linked (e - (a + 1)) a (omega arith) (omega arith)
    ∙ ap (λ k. get_or alhs k []) far in
    let got : List ℕ = chain hash (get_or alhs (a + 1 - 1) []) (a + 1) rest in
    let on : List (Check DualFault) = path_checks_from hash size top (a + 1) (get_or alhs (a + 1 - 1) []) rest paths in
    let last : List (Check DualFault) = (bytes_eq got end, AdvanceEnd end got) ∷ [] in
    two-then (nat_eq (length terms) (advance_terms a e)) (nat_eq (length paths) (advance_paths a e))
    (AdvanceLength (advance_terms a e) (length terms)) (AdvanceCount (advance_paths a e) (length paths)) (if nat_eq (length terms) 0 then [] else on ++ last)
    (eq-eqb (length terms) (advance_terms a e) first) (eq-eqb (length paths) (advance_paths a e) second)
    (when-false (nat_eq (length terms) 0) [] (on ++ last) some
    (both-hold on last
    (ap (λ k. first_fail (path_checks_from hash size top (a + 1) (get_or alhs k []) rest paths)) here
    ∙ ap (λ n. first_fail (path_checks_from hash size top (a + 1) (get_or alhs a []) rest (paths_from hash (take size alhs) a n))) (sym count)
    ∙ paths-pass hash alhs inners size top linked w tree (e - (a + 1)) a (omega arith) (omega arith))
    (one-holds (bytes_eq got end) (AdvanceEnd end got) (bytes-same got end walk))))

-- an advance that isn't due passes its check
nothing-passes : (hash : Hash) (a e size : ℕ) (top end : List ℕ) → e ≤ a + 1 → first_fail (advance_checks hash a e size top end [] []) ≡ Ok tt
nothing-passes hash a e size top end few =
    let due : nat_le e (a + 1) ≡ true = le-leb e (a + 1) few in
    two-then (nat_eq 0 (advance_terms a e)) (nat_eq 0 (advance_paths a e)) (AdvanceLength (advance_terms a e) 0) (AdvanceCount (advance_paths a e) 0) []
    (eq-eqb 0 (advance_terms a e) (sym (ap (λ t. if t then 0 else e - a) due)))
    (eq-eqb 0 (advance_paths a e) (sym (ap (λ t. if t then 0 else e - a - 1) due))) refl

-- a built advance passes its check
pub advance-passes : (hash : Hash) (alhs inners : List (List ℕ)) (a e size : ℕ) (top : List ℕ) (advance : AdvanceProof) → AreLinked hash alhs inners → size ≤ length alhs
    → (0 < size → top ≡ root hash (take size alhs)) → e ≤ size → e ≤ length inners → advance ≡ advance_of hash alhs inners a e size
    → (end : List ℕ) → (0 < size → end ≡ get_or alhs (e - 1) []) → first_fail (advance_checks hash a e size top end advance.terms advance.inclusions) ≡ Ok tt
unfolding advance_of
advance-passes hash alhs inners a e size top advance linked w tree within long built end is =
    let P : AdvanceProof → Type 0 = λ x. first_fail (advance_checks hash a e size top end x.terms x.inclusions) ≡ Ok tt in
    let none : AdvanceProof = record { terms = []; inclusions = [] } in
    let some : AdvanceProof = record { terms = linear_terms alhs inners (a + 1) e; inclusions = paths_from hash (take size alhs) a (e - a - 1) } in
    elim (cases_lt (a + 1) e) [
      | inl more ↦ (
          let last : end ≡ get_or alhs (e - 1) [] = is (omega arith) in
          let same : advance ≡ some = built ∙ ap (λ t. if t then none else some) (lt-leb e (a + 1) more) in
          subst P (sym same)
          (ap (λ x. first_fail (advance_checks hash a e size top x (linear_terms alhs inners (a + 1) e) (paths_from hash (take size alhs) a (e - a - 1)))) last
          ∙ walk-passes hash alhs inners a e size top linked w tree within long more))
      | inr few ↦ (
          let same : advance ≡ none = built ∙ ap (λ t. if t then none else some) (le-leb e (a + 1) few) in
          subst P (sym same) (nothing-passes hash a e size top end few))
    ]

-- the tree of a recorded header, where it holds any
tree-of : (hash : Hash) (alhs : List (List ℕ)) (header : Header) → IsRecorded hash alhs header → 0 < header.bl_tx_id → header.bl_root ≡ root hash (take header.bl_tx_id alhs)
tree-of hash alhs header r some =
    r.tree ∙ ap (λ t. if t then no_digest else root hash (take header.bl_tx_id alhs)) (not-none header.bl_tx_id some)

-- both headers pass
headers-pass : (source target : Header) → first_fail (header_checks source) ≡ Ok tt → first_fail (header_checks target) ≡ Ok tt
    → source.id ≤ target.id → source.bl_tx_id ≤ target.bl_tx_id → first_fail (both_headers_checks source target) ≡ Ok tt
unfolding both_headers_checks
headers-pass source target p q order shrink =
    let of_source : List (Check DualFault) = as_faults Source (header_checks source) in
    let of_target : List (Check DualFault) = as_faults Target (header_checks target) in
    both-hold of_source (of_target ++ order_checks source target) (holds_named Source (header_checks source) p)
    (both-hold of_target (order_checks source target) (holds_named Target (header_checks target) q)
    (two-hold (nat_le source.id target.id) (nat_le source.bl_tx_id target.bl_tx_id) (Order source.id target.id) (Shrink source.bl_tx_id target.bl_tx_id)
    (le-leb source.id target.id order) (le-leb source.bl_tx_id target.bl_tx_id shrink)))

-- both trees pass
trees-pass : (hash : Hash) (source target : Header) (alhs inners : List (List ℕ)) → IsRecorded hash alhs source → IsRecorded hash alhs target
    → 1 ≤ source.id → source.bl_tx_id ≤ target.bl_tx_id → target.bl_tx_id ≤ length alhs
    → first_fail (tree_checks hash (dual_of hash source target alhs inners) (get_or alhs (source.id - 1) [])) ≡ Ok tt
unfolding dual_of tree_checks
trees-pass hash source target alhs inners r q o shrink w =
    let s : ℕ = source.id in
    let old : ℕ = source.bl_tx_id in
    let size : ℕ = target.bl_tx_id in
    let here : List ℕ = get_or alhs (s - 1) [] in
    let told : List ℕ = if nat_eq size 0 then no_digest else get_or alhs (size - 1) [] in
    let inclusion : List (Check DualFault) = inclusion_checks hash s size target.bl_root here (if nat_lt s size then path_of hash (take size alhs) (s - 1) else []) in
    let growth : List (Check DualFault) = consistency_checks hash old size source.bl_root target.bl_root (if nat_eq old 0 then [] else consistency hash (take size alhs) old) in
    let last : List (Check DualFault) = last_checks hash size target.bl_root told (if nat_eq size 0 then [] else path_of hash (take size alhs) (size - 1)) in
    let end : List (Check DualFault) = bl_checks s size here told in
    both-hold inclusion (growth ++ (last ++ end)) (inclusion-passes hash alhs s size target.bl_root o w (tree-of hash alhs target q))
    (both-hold growth (last ++ end) (consistency-passes hash alhs old size source.bl_root target.bl_root shrink w (tree-of hash alhs source r) (tree-of hash alhs target q))
    (both-hold last end (last-passes hash alhs size target.bl_root no_digest w (tree-of hash alhs target q))
    (bl-passes s size alhs)))

-- the last Alh of a tree that holds any
told-of : (size : ℕ) (alhs : List (List ℕ)) → 0 < size → (if nat_eq size 0 then no_digest else get_or alhs (size - 1) []) ≡ get_or alhs (size - 1) []
told-of size alhs some = ap (λ t. if t then no_digest else get_or alhs (size - 1) []) (not-none size some)

-- the chain and the advance pass
chains-pass : (hash : Hash) (source target : Header) (alhs inners : List (List ℕ)) → AreLinked hash alhs inners → IsRecorded hash alhs target
    → 1 ≤ source.id → source.id ≤ target.id → target.bl_tx_id < target.id → target.id ≤ length alhs → target.id ≤ length inners
    → first_fail (chain_checks hash (dual_of hash source target alhs inners) (get_or alhs (source.id - 1) []) (get_or alhs (target.id - 1) [])) ≡ Ok tt
unfolding dual_of chain_checks
chains-pass hash source target alhs inners linked q o order tree w v =
    let s : ℕ = source.id in
    let t : ℕ = target.id in
    let old : ℕ = source.bl_tx_id in
    let size : ℕ = target.bl_tx_id in
    let here : List ℕ = get_or alhs (s - 1) [] in
    let there : List ℕ = get_or alhs (t - 1) [] in
    let told : List ℕ = if nat_eq size 0 then no_digest else get_or alhs (size - 1) [] in
    let linear : List (List ℕ) = if nat_lt s size then linear_terms alhs inners size t else linear_terms alhs inners s t in
    let advance : AdvanceProof = if nat_lt s size then advance_of hash alhs inners old s size else advance_of hash alhs inners old size size in
    let onward : List (Check DualFault) = linear_checks hash size t told there linear in
    let back : List (Check DualFault) = advance_checks hash old s size target.bl_root here advance.terms advance.inclusions in
    let along : List (Check DualFault) = linear_checks hash s t here there linear in
    let ahead : List (Check DualFault) = advance_checks hash old size size target.bl_root told advance.terms advance.inclusions in
    elim (cases_lt s size) [
      | inl below ↦ (
          let due : nat_lt s size ≡ true = lt-ltb s size below in
          when-true (nat_lt s size) (onward ++ back) (along ++ ahead) due
          (both-hold onward back
          (ap (λ x. first_fail (linear_checks hash size t x there linear)) (told-of size alhs (omega arith))
          ∙ linear_passes alhs inners size t (omega arith) (omega arith) w v linear (ap (λ b. if b then linear_terms alhs inners size t else linear_terms alhs inners s t) due) hash linked)
          (advance-passes hash alhs inners old s size target.bl_root advance linked (omega arith) (tree-of hash alhs target q) (omega arith) (omega arith)
          (ap (λ b. if b then advance_of hash alhs inners old s size else advance_of hash alhs inners old size size) due) here (λ some. refl))))
      | inr beyond ↦ (
          let due : nat_lt s size ≡ false = le-ltb s size beyond in
          when-false (nat_lt s size) (onward ++ back) (along ++ ahead) due
          (both-hold along ahead
          (linear_passes alhs inners s t o order w v linear (ap (λ b. if b then linear_terms alhs inners size t else linear_terms alhs inners s t) due) hash linked)
          (advance-passes hash alhs inners old size size target.bl_root advance linked (omega arith) (tree-of hash alhs target q) (omega arith) (omega arith)
          (ap (λ b. if b then advance_of hash alhs inners old s size else advance_of hash alhs inners old size size) due) told (told-of size alhs))))
    ]

-- the dual proof of recorded headers passes its check
dual-holds : (hash : Hash) (source target : Header) (alhs inners : List (List ℕ))
    → 1 ≤ source.id → source.id ≤ target.id → source.bl_tx_id ≤ target.bl_tx_id → target.bl_tx_id < target.id → target.id ≤ length alhs → target.id ≤ length inners
    → AreLinked hash alhs inners → IsRecorded hash alhs source → IsRecorded hash alhs target → first_fail (dual_checks hash (dual_of hash source target alhs inners)) ≡ Ok tt
unfolding dual_of
dual-holds hash source target alhs inners o order shrink tree w v linked r q =
    let whole : DualProof = dual_of hash source target alhs inners in
    both-hold (both_headers_checks source target) (tree_checks hash whole (alh hash source) ++ chain_checks hash whole (alh hash source) (alh hash target))
    (headers-pass source target r.checked q.checked order shrink)
    (both-hold (tree_checks hash whole (alh hash source)) (chain_checks hash whole (alh hash source) (alh hash target))
    (ap (λ x. first_fail (tree_checks hash whole x)) r.same ∙ trees-pass hash source target alhs inners r q o shrink (omega arith))
    (ap (λ x. first_fail (chain_checks hash whole x (alh hash target))) r.same
    ∙ ap (λ x. first_fail (chain_checks hash whole (get_or alhs (source.id - 1) []) x)) q.same
    ∙ chains-pass hash source target alhs inners linked q o order tree w v))

-- the dual proof that is built passes its check
pub dual_passes : (hash : Hash) (source target : Header) (alhs inners : List (List ℕ)) (proof : DualProof) → proof ≡ dual_of hash source target alhs inners
    → 1 ≤ source.id → source.id ≤ target.id → source.bl_tx_id ≤ target.bl_tx_id → target.bl_tx_id < target.id → target.id ≤ length alhs → target.id ≤ length inners
    → AreLinked hash alhs inners → IsRecorded hash alhs source → IsRecorded hash alhs target → first_fail (dual_checks hash proof) ≡ Ok tt
dual_passes hash source target alhs inners proof built o order shrink tree w v linked r q =
    ap (λ x. first_fail (dual_checks hash x)) built
    ∙ dual-holds hash source target alhs inners o order shrink tree w v linked r q

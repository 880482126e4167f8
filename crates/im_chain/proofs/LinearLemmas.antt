-- The chain over what is built of a history.
use Rattle.std.proofs.Common.{◌≡◌, ◌<◌, ◌≤◌, ℕ, suc, zero, ◌+◌, ◌-◌, List, [], length, take, drop, get_or, drop-cons, length-drop, refl, arith, ap, ◌∙◌, sym, Ok}
use Rattle.std.proofs.lemmas.Bool.{eq-eqb}
use Rattle.std.proofs.lemmas.List.{length-take-le}
use Rattle.im_digest.specs.Digests.{Hash}
use Rattle.im_model.specs.Chains.{link_string, chain}
use Rattle.im_mtree.specs.Checks.{first_fail}
use Rattle.im_proof.specs.Built.{linear_terms, AreLinked}
use Rattle.im_proof.specs.ChainChecks.{linear_checks}
use Rattle.im_octet.proofs.Common.{bytes-same}
use Rattle.im_mtree.proofs.CheckLemmas.{three-hold}

-- a chain from the Alh at place i along the next j inner digests
pub chain-linked : (hash : Hash) (alhs inners : List (List ℕ)) → AreLinked hash alhs inners → (j i : ℕ) → i + j < length alhs → i + j < length inners
    → chain hash (get_or alhs i []) (i + 1) (take j (drop (i + 1) inners)) ≡ get_or alhs (i + j) []
chain-linked hash alhs inners linked zero i p q = ap (λ x. get_or alhs x []) (omega arith)
chain-linked hash alhs inners linked (suc j) i p q =
    let next : suc (i + 1) ≡ i + 1 + 1 = omega arith in
    let here : i + 1 - 1 ≡ i = omega arith in
    let far : i + 1 + j ≡ i + suc j = omega arith in
    let inner : List ℕ = get_or inners (i + 1) [] in
    ap (λ x. chain hash (get_or alhs i []) (i + 1) (take (suc j) x)) (drop-cons inners (i + 1) [] (omega arith))
    ∙ ap (λ n. chain hash (hash (link_string (i + 1 + 1) (get_or alhs i []) inner)) (i + 1 + 1) (take j (drop n inners))) next
    ∙ ap (λ n. chain hash (hash (link_string (i + 1 + 1) (get_or alhs n []) inner)) (i + 1 + 1) (take j (drop (i + 1 + 1) inners))) (sym here)
    ∙ ap (λ a. chain hash a (i + 1 + 1) (take j (drop (i + 1 + 1) inners))) (sym (linked (i + 1) (omega arith) (omega arith)))
    ∙ chain-linked hash alhs inners linked j (i + 1) (omega arith) (omega arith)
    ∙ ap (λ x. get_or alhs x []) far

-- linear terms of linked lists pass their check
pub linear_passes : (alhs inners : List (List ℕ)) (s t : ℕ) → 1 ≤ s → s ≤ t → t ≤ length alhs → t ≤ length inners → (terms : List (List ℕ)) → terms ≡ linear_terms alhs inners s t
    → (hash : Hash) → AreLinked hash alhs inners
    → first_fail (linear_checks hash s t (get_or alhs (s - 1) []) (get_or alhs (t - 1) []) terms) ≡ Ok tt
linear_passes alhs inners s t o l p q terms built hash linked =
    let at : s - 1 + 1 ≡ s = omega arith in
    let to : s - 1 + (t - s) ≡ t - 1 = omega arith in
    let more : List (List ℕ) = take (t - s) (drop s inners) in
    let fewer : length (drop s inners) ≡ length inners - s = length-drop s inners in
    let long : length more ≡ t - s = length-take-le (t - s) (drop s inners) (omega arith) in
    let walk : chain hash (get_or alhs (s - 1) []) s more ≡ get_or alhs (t - 1) [] =
    ap (λ n. chain hash (get_or alhs (s - 1) []) n (take (t - s) (drop n inners))) (sym at)
    ∙ chain-linked hash alhs inners linked (t - s) (s - 1) (omega arith) (omega arith)
    ∙ ap (λ x. get_or alhs x []) to in
    ap (λ x. first_fail (linear_checks hash s t (get_or alhs (s - 1) []) (get_or alhs (t - 1) []) x)) built
    ∙ three-hold _ _ _ _ _ _
    (eq-eqb (suc (length more)) (t - s + 1) (omega arith))
    (bytes-same (get_or alhs (s - 1) []) (get_or alhs (s - 1) []) refl)
    (bytes-same (chain hash (get_or alhs (s - 1) []) s more) (get_or alhs (t - 1) []) walk)

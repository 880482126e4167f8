-- The paths of an advance, one by one.
use Rattle.std.proofs.Common.{◌≡◌, ◌<◌, ℕ, suc, ◌+◌, ◌-◌, List, ◌∷◌, ◌++◌, append_assoc, arith, length, drop, get_or, drop-cons, ap, ◌∙◌, sym, [], Err}
use Rattle.im_digest.specs.Digests.{Hash}
use Rattle.im_model.specs.Chains.{link_string}
use Rattle.im_mtree.specs.Checks.{first_fail}
use Rattle.im_proof.specs.Built.{path_of, paths_from}
use Rattle.im_proof.specs.declared.faults.DualFault.{DualFault}
use Rattle.im_proof.specs.ChainChecks.{path_checks_of, path_checks_from}
use Rattle.im_mtree.proofs.CheckLemmas.{fail_first}

-- where the path at place i fails, the paths from i on fail so
pub path_fails : (hash : Hash) (size : ℕ) (root : List ℕ) (k : ℕ) (alh : List ℕ) (inners : List (List ℕ)) (paths : List (List (List ℕ))) (i : ℕ) (path : List (List ℕ)) (fault : DualFault)
    → i < length inners → i < length paths → path ≡ get_or paths i path
    → first_fail (path_checks_of hash size root k alh path) ≡ Err fault
    → first_fail (path_checks_from hash size root k alh (drop i inners) (drop i paths)) ≡ Err fault
path_fails hash size root k alh inners paths i path fault p q at fails =
    ap (λ x. first_fail (path_checks_from hash size root k alh x (drop i paths))) (drop-cons inners i [] p)
    ∙ ap (λ x. first_fail (path_checks_from hash size root k alh (get_or inners i [] ∷ drop (suc i) inners) x)) (drop-cons paths i path q ∙ ap (λ y. y ∷ drop (suc i) paths) (sym at))
    ∙ fail_first (path_checks_of hash size root k alh path)
    (path_checks_from hash size root (k + 1) (hash (link_string (k + 1) alh (get_or inners i []))) (drop (suc i) inners) (drop (suc i) paths)) fault fails

-- the paths from one on, one taken
pub paths-next : (hash : Hash) (leaves : List (List ℕ)) (i to : ℕ) (done items all : List (List (List ℕ))) (path : List (List ℕ)) → i < to
    → items ≡ done ++ path ∷ [] → path ≡ path_of hash leaves (i + 1 - 1) → done ++ paths_from hash leaves i (to - i) ≡ all
    → items ++ paths_from hash leaves (i + 1) (to - (i + 1)) ≡ all
paths-next hash leaves i to done items all path l pushed is e =
    let more : suc (to - (i + 1)) ≡ to - i = omega arith in
    let place : i + 1 - 1 ≡ i = omega arith in
    let built : path ≡ path_of hash leaves i = is ∙ ap (λ j. path_of hash leaves j) place in
    ap (λ x. x ++ paths_from hash leaves (i + 1) (to - (i + 1))) (pushed ∙ ap (λ x. done ++ x ∷ []) built)
    ∙ append_assoc done (path_of hash leaves i ∷ []) (paths_from hash leaves (i + 1) (to - (i + 1)))
    ∙ ap (λ n. done ++ paths_from hash leaves i n) more
    ∙ e

-- What each part of a dual proof shows that passes its checks.
use Rattle.std.proofs.Common.{◌≡◌, ◌≢◌, ◌<◌, ◌≤◌, ◌&&◌, length, ℕ, ◌+◌, ◌-◌, List, [], ◌∷◌, ◌++◌, drop, reverse, Bool, true, false, Ok, arith, ap, subst, ◌∙◌, sym, inl, inr, All, nat_lt, nat_le, if◌then◌else◌, length-drop}
use Rattle.std.specs.Prelude.{nat_eq, bytes_eq}
use Rattle.std.proofs.lemmas.Bool.{cases_lt, eqb-true, ltb-true, lt-ltb, le-ltb, lt-leb, eq-eqb, ne_eqb}
use Rattle.std.proofs.lemmas.Slice.Eq.{bytes_eq-Decides}
use Rattle.std.proofs.lemmas.List.{length-reverse, get_or-reverse}
use Rattle.std.proofs.lemmas.List.Elements.{All-from_get_or, All-head, All-tail, Contains-append_left, Contains-append_right}
use Rattle.im_digest.specs.Digests.{Hash}
use Rattle.im_model.specs.Paths.{path_length, up, up_strings}
use Rattle.im_model.specs.Growth.{consistency_length, older_root, newer_root, consistency_strings}
use Rattle.im_model.specs.Chains.{link_string, chain, chain_strings}
use Rattle.im_model.specs.History.{no_digest}
use Rattle.im_model.proofs.Lengths.{path-fits, consistency-fits}
use Rattle.im_model.proofs.Steps.{links-none, links-more}
use Rattle.im_mtree.specs.Checks.{Check, first_fail}
use Rattle.im_mtree.specs.PathChecks.{path_checks}
use Rattle.im_mtree.specs.declared.faults.PathFault.{PathFault}
use Rattle.im_mtree.proofs.CheckLemmas.{all-hold}
use Rattle.im_proof.specs.TreeChecks.{inclusion_checks, consistency_checks, last_checks, bl_checks}
use Rattle.im_proof.specs.ChainChecks.{first_of, end_of_terms, linear_checks, advance_terms, advance_paths, path_checks_of, path_checks_from, advance_checks}
use Rattle.im_proof.specs.declared.faults.DualFault.{DualFault}
use Rattle.im_proof.specs.declared.faults.DualFault.TheVariants.{InclusionLength, InclusionRoot, ConsistencyLength, ConsistencyOld, ConsistencyNew, LastLength, LastRoot, BlAlh, LinearLength, LinearStart, LinearEnd, AdvanceLength, AdvanceCount, AdvancePathLength, AdvancePathRoot, AdvanceEnd}
use Rattle.im_pairs.specs.Pairs.{AreDigests, AreAmong}
use Rattle.im_pairs.specs.Leads.{Leads}
use Rattle.im_pairs.proofs.PairLemmas.{AreAmong-head, AreAmong-tail, AreAmong-cons}
use Rattle.im_carried.specs.Opened.{Links, Lies}
use Rattle.im_carried.specs.Shown.{Walks, Advances, GrowsTree}
use Rattle.im_carried.specs.Hashed.{path_strings, inclusion_strings, grown_strings, last_strings, linear_strings, walk_strings, advance_strings}
use Rattle.im_carried.proofs.HeldLemmas.{first-holds}
use Rattle.im_mtree.proofs.CheckLemmas.{each-holds}

-- digests in the other order
digests-turned : (xs : List (List ℕ)) → AreDigests xs → AreDigests (reverse xs)
digests-turned xs f =
    let size : length (reverse xs) ≡ length xs = length-reverse xs in
    All-from_get_or (λ d. length d ≡ 32) (reverse xs) [] (λ i h. ap length (get_or-reverse xs i [] (omega arith)) ∙ f (length xs - 1 - i) [] (omega arith))

-- a path of the exact length that leads to the root
pub leads-by : (hash : Hash) (n i : ℕ) (root digest : List ℕ) (path : List (List ℕ)) (strings : List (List ℕ)) → i < n → AreDigests path
    → length path ≡ path_length n i → up hash n i digest (reverse path) ≡ root → AreAmong (up_strings hash n i digest (reverse path)) strings → Leads hash n i digest (reverse path) root strings
leads-by hash n i root digest path strings within digests long gives among = record {
  within = within;
  long = (path-fits n i (reverse path) within).1 (length-reverse path ∙ long);
  digests = digests-turned path digests;
  gives = gives;
  among = among;
}

-- a path that passes its checks
pub path-leads : (hash : Hash) (n i : ℕ) (root digest : List ℕ) (path : List (List ℕ)) (strings : List (List ℕ)) → AreDigests path
    → first_fail (path_checks hash digest i n path root) ≡ Ok tt → AreAmong (up_strings hash n i digest (reverse path)) strings → Leads hash n i digest (reverse path) root strings
path-leads hash n i root digest path strings digests e among =
    let held = all-hold {F = PathFault} (path_checks hash digest i n path root) e in
    leads-by hash n i root digest path strings (ltb-true i n held.0) digests (eqb-true (length path) (path_length n i) held.1.0)
    ((bytes_eq-Decides (up hash n i digest (reverse path)) root).0 held.1.1.0) among

-- so of a transaction in a tree
lies-by : (hash : Hash) (size k : ℕ) (root alh : List ℕ) (path : List (List ℕ)) (strings : List (List ℕ)) → 1 ≤ k → k ≤ size → AreDigests path
    → length path ≡ path_length size (k - 1) → up hash size (k - 1) alh (reverse path) ≡ root → AreAmong (path_strings hash size k alh path) strings → Lies hash size root k alh strings
lies-by hash size k root alh path strings some within digests long gives among = record {
  path = reverse path;
  leads = leads-by hash size (k - 1) root alh path strings (omega arith) digests long gives among;
}

-- the source's path
pub inclusion-shown : (hash : Hash) (s size : ℕ) (root alh : List ℕ) (path strings : List (List ℕ)) → 1 ≤ s → s < size → AreDigests path
    → first_fail (inclusion_checks hash s size root alh path) ≡ Ok tt → AreAmong (inclusion_strings hash s size alh path) strings → Lies hash size root s alh strings
inclusion-shown hash s size root alh path strings some less digests e among =
    let due : nat_lt s size ≡ true = lt-ltb s size less in
    let long : Check DualFault = (nat_eq (length path) (path_length size (s - 1)), InclusionLength (path_length size (s - 1)) (length path)) in
    let leads : Check DualFault = (bytes_eq (up hash size (s - 1) alh (reverse path)) root, InclusionRoot root (up hash size (s - 1) alh (reverse path))) in
    let none : Check DualFault = (nat_eq (length path) 0, InclusionLength 0 (length path)) in
    let checks : first_fail (long ∷ leads ∷ []) ≡ Ok tt = subst (λ (b : Bool). first_fail (if b then long ∷ leads ∷ [] else none ∷ []) ≡ Ok tt) due e in
    let one = first-holds {F = DualFault} long (leads ∷ []) checks in
    let two = first-holds {F = DualFault} leads [] one.1 in
    lies-by hash size s root alh path strings some (omega arith) digests (eqb-true (length path) (path_length size (s - 1)) one.0)
    ((bytes_eq-Decides (up hash size (s - 1) alh (reverse path)) root).0 two.0)
    (subst (λ (b : Bool). AreAmong (if b then path_strings hash size s alh path else []) strings) due among)

-- the path of the last one in the tree
pub last-shown : (hash : Hash) (size : ℕ) (root alh : List ℕ) (path strings : List (List ℕ)) → 0 < size → AreDigests path
    → first_fail (last_checks hash size root alh path) ≡ Ok tt → AreAmong (last_strings hash size alh path) strings → Lies hash size root size alh strings
last-shown hash size root alh path strings some digests e among =
    let due : nat_lt 0 size ≡ true = lt-ltb 0 size some in
    let long : Check DualFault = (nat_eq (length path) (path_length size (size - 1)), LastLength (path_length size (size - 1)) (length path)) in
    let leads : Check DualFault = (bytes_eq (up hash size (size - 1) alh (reverse path)) root, LastRoot root (up hash size (size - 1) alh (reverse path))) in
    let none : Check DualFault = (nat_eq (length path) 0, LastLength 0 (length path)) in
    let checks : first_fail (long ∷ leads ∷ []) ≡ Ok tt = subst (λ (b : Bool). first_fail (if b then long ∷ leads ∷ [] else none ∷ []) ≡ Ok tt) due e in
    let one = first-holds {F = DualFault} long (leads ∷ []) checks in
    let two = first-holds {F = DualFault} leads [] one.1 in
    lies-by hash size size root alh path strings (omega arith) (omega arith) digests (eqb-true (length path) (path_length size (size - 1)) one.0)
    ((bytes_eq-Decides (up hash size (size - 1) alh (reverse path)) root).0 two.0)
    (subst (λ (b : Bool). AreAmong (if b then path_strings hash size size alh path else []) strings) due among)

-- a consistency list of the exact length that gives both roots
grows-by : (hash : Hash) (m n : ℕ) (a b : List ℕ) (list strings : List (List ℕ)) → 0 < m → m < n → AreDigests list → length list ≡ consistency_length m n
    → older_root hash m n a list ≡ a → newer_root hash m n a list ≡ b → AreAmong (consistency_strings hash m n list) strings → GrowsTree hash m n a b strings
grows-by hash m n a b [] strings some less digests long old new among =
    absurd (let same : m ≡ n = (consistency-fits m n [] some (omega arith)).1 long in omega arith)
grows-by hash m n a b (first ∷ others) strings some less digests long old new among = record {
  first = first;
  terms = reverse others;
  first_long = All-head (λ u. length u ≡ 32) first others digests;
  long = ((consistency-fits m n (first ∷ others) some (omega arith)).1 long).1;
  digests = digests-turned others (All-tail (λ u. length u ≡ 32) first others digests);
  gives_old = old;
  gives_new = new;
  among = among;
}

-- the consistency list
pub grown-shown : (hash : Hash) (m n : ℕ) (a b : List ℕ) (list strings : List (List ℕ)) → 0 < m → m < n → AreDigests list
    → first_fail (consistency_checks hash m n a b list) ≡ Ok tt → AreAmong (grown_strings hash m n list) strings → GrowsTree hash m n a b strings
grown-shown hash m n a b list strings some less digests e among =
    let due : (nat_lt 0 m && nat_lt m n) ≡ true = ap (λ (t : Bool). t && nat_lt m n) (lt-ltb 0 m some) ∙ lt-ltb m n less in
    let long : Check DualFault = (nat_eq (length list) (consistency_length m n), ConsistencyLength (consistency_length m n) (length list)) in
    let old : Check DualFault = (bytes_eq (older_root hash m n a list) a, ConsistencyOld a (older_root hash m n a list)) in
    let new : Check DualFault = (bytes_eq (newer_root hash m n a list) b, ConsistencyNew b (newer_root hash m n a list)) in
    let none : Check DualFault = (nat_eq (length list) 0, ConsistencyLength 0 (length list)) in
    let same : Check DualFault = (bytes_eq a b, ConsistencyNew b a) in
    let checks : first_fail (long ∷ old ∷ new ∷ []) ≡ Ok tt =
    subst (λ (t : Bool). first_fail (if t then long ∷ old ∷ new ∷ [] else none ∷ (if nat_lt 0 m then same ∷ [] else [])) ≡ Ok tt) due e in
    let one = first-holds {F = DualFault} long (old ∷ new ∷ []) checks in
    let two = first-holds {F = DualFault} old (new ∷ []) one.1 in
    let three = first-holds {F = DualFault} new [] two.1 in
    grows-by hash m n a b list strings some less digests (eqb-true (length list) (consistency_length m n) one.0)
    ((bytes_eq-Decides (older_root hash m n a list) a).0 two.0) ((bytes_eq-Decides (newer_root hash m n a list) b).0 three.0)
    (subst (λ (t : Bool). AreAmong (if t then consistency_strings hash m n list else []) strings) due among)

-- equal sizes have one root
pub kept-shown : (hash : Hash) (m n : ℕ) (a b : List ℕ) (list : List (List ℕ)) → 0 < m → m ≡ n → first_fail (consistency_checks hash m n a b list) ≡ Ok tt → a ≡ b
kept-shown hash m n a b list some equal e =
    let due : (nat_lt 0 m && nat_lt m n) ≡ false = ap (λ (t : Bool). t && nat_lt m n) (lt-ltb 0 m some) ∙ le-ltb m n (omega arith) in
    let long : Check DualFault = (nat_eq (length list) (consistency_length m n), ConsistencyLength (consistency_length m n) (length list)) in
    let old : Check DualFault = (bytes_eq (older_root hash m n a list) a, ConsistencyOld a (older_root hash m n a list)) in
    let new : Check DualFault = (bytes_eq (newer_root hash m n a list) b, ConsistencyNew b (newer_root hash m n a list)) in
    let none : Check DualFault = (nat_eq (length list) 0, ConsistencyLength 0 (length list)) in
    let same : Check DualFault = (bytes_eq a b, ConsistencyNew b a) in
    let checks : first_fail (none ∷ (if nat_lt 0 m then same ∷ [] else [])) ≡ Ok tt =
    subst (λ (t : Bool). first_fail (if t then long ∷ old ∷ new ∷ [] else none ∷ (if nat_lt 0 m then same ∷ [] else [])) ≡ Ok tt) due e in
    let rest : first_fail (none ∷ same ∷ []) ≡ Ok tt = subst (λ (t : Bool). first_fail (none ∷ (if t then same ∷ [] else [])) ≡ Ok tt) (lt-ltb 0 m some) checks in
    let one = first-holds {F = DualFault} none (same ∷ []) rest in
    (bytes_eq-Decides a b).0 (first-holds {F = DualFault} same [] one.1).0

-- where the source is the last one in the tree, its Alh is told
pub tip-shown : (s size : ℕ) (alh told : List ℕ) → 1 ≤ s → s ≡ size → first_fail (bl_checks s size alh told) ≡ Ok tt → told ≡ alh
tip-shown s size alh told some same e =
    let none : Check DualFault = (bytes_eq told no_digest, BlAlh no_digest told) in
    let is : Check DualFault = (bytes_eq told alh, BlAlh alh told) in
    let not : size ≢ 0 = λ z. absurd (omega arith) in
    let one : first_fail (if nat_eq s size then is ∷ [] else []) ≡ Ok tt =
    subst (λ (t : Bool). first_fail (if t then none ∷ [] else (if nat_eq s size then is ∷ [] else [])) ≡ Ok tt) (ne_eqb size 0 not) e in
    let two : first_fail (is ∷ []) ≡ Ok tt = subst (λ (t : Bool). first_fail (if t then is ∷ [] else []) ≡ Ok tt) (eq-eqb s size same) one in
    (bytes_eq-Decides told alh).0 (first-holds {F = DualFault} is [] two).0

-- linear terms
pub linear-shown : (hash : Hash) (from to : ℕ) (start end : List ℕ) (terms strings : List (List ℕ)) → from ≤ to
    → first_fail (linear_checks hash from to start end terms) ≡ Ok tt → AreAmong (linear_strings hash from terms) strings → Links hash start from to end strings
linear-shown hash from to start end terms strings order e among =
    let long : Check DualFault = (nat_eq (length terms) (to - from + 1), LinearLength (to - from + 1) (length terms)) in
    let starts : Check DualFault = (bytes_eq (first_of terms) start, LinearStart start (first_of terms)) in
    let ends : Check DualFault = (bytes_eq (end_of_terms hash from terms) end, LinearEnd end (end_of_terms hash from terms)) in
    let one = first-holds {F = DualFault} long (starts ∷ ends ∷ []) e in
    let two = first-holds {F = DualFault} starts (ends ∷ []) one.1 in
    let three = first-holds {F = DualFault} ends [] two.1 in
    let size : length terms ≡ to - from + 1 = eqb-true (length terms) (to - from + 1) one.0 in
    let is : first_of terms ≡ start = (bytes_eq-Decides (first_of terms) start).0 two.0 in
    let fewer : length (drop 1 terms) ≡ length terms - 1 = length-drop 1 terms in
    record {
      inners = drop 1 terms;
      long = omega arith;
      ends = ap (λ (a : List ℕ). chain hash a from (drop 1 terms)) (sym is) ∙ (bytes_eq-Decides (end_of_terms hash from terms) end).0 three.0;
      among = subst (λ (a : List ℕ). AreAmong (chain_strings hash a from (drop 1 terms)) strings) is among;
    }

-- the paths of an advance
walks-shown : (hash : Hash) (size k : ℕ) (root alh : List ℕ) (inners : List (List ℕ)) (paths : List (List (List ℕ))) (end : List ℕ) (strings : List (List ℕ))
    → 1 ≤ k → k + length inners ≤ size → length paths ≡ length inners → All AreDigests paths
    → first_fail (path_checks_from hash size root k alh inners paths) ≡ Ok tt → chain hash alh k inners ≡ end → AreAmong (walk_strings hash size k alh inners paths) strings
    → Walks hash size root alh k inners end strings × AreAmong (chain_strings hash alh k inners) strings
walks-shown hash size k root alh [] paths end strings some within long digests e ends among =
    (ends, subst (λ xs. AreAmong xs strings) (sym (links-none hash alh k)) (λ x c. absurd (let none : c.0 < 0 = c.1 in omega arith)))
walks-shown hash size k root alh (inner ∷ inners) [] end strings some within long digests e ends among = absurd (omega arith)
walks-shown hash size k root alh (inner ∷ inners) (path ∷ paths) end strings some within long digests e ends among =
    let link : List ℕ = link_string (k + 1) alh inner in
    let ups : List (List ℕ) = path_strings hash size k alh path in
    let more : List (List ℕ) = walk_strings hash size (k + 1) (hash link) inners paths in
    let tail : AreAmong (link ∷ more) strings = λ x c. among x (Contains-append_right ups (link ∷ more) x c) in
    let exact : Check DualFault = (nat_eq (length path) (path_length size (k - 1)), AdvancePathLength k (path_length size (k - 1)) (length path)) in
    let leads : Check DualFault = (bytes_eq (up hash size (k - 1) alh (reverse path)) root, AdvancePathRoot k root (up hash size (k - 1) alh (reverse path))) in
    let parts = each-holds {F = DualFault} (path_checks_of hash size root k alh path) (path_checks_from hash size root (k + 1) (hash link) inners paths) e in
    let one = first-holds {F = DualFault} exact (leads ∷ []) parts.0 in
    let two = first-holds {F = DualFault} leads [] one.1 in
    let rest = walks-shown hash size (k + 1) root (hash link) inners paths end strings (omega arith) (omega arith) (omega arith) (All-tail AreDigests path paths digests) parts.1 ends (AreAmong-tail link more strings tail) in (
      (
        lies-by hash size k root alh path strings some (omega arith) (All-head AreDigests path paths digests) (eqb-true (length path) (path_length size (k - 1)) one.0)
            ((bytes_eq-Decides (up hash size (k - 1) alh (reverse path)) root).0 two.0) (λ x c. among x (Contains-append_left ups (link ∷ more) x c)),
        rest.0,
      ),
      subst (λ xs. AreAmong xs strings) (sym (links-more hash alh k inner inners))
          (AreAmong-cons link (chain_strings hash (hash link) (k + 1) inners) strings (AreAmong-head link more strings tail) rest.1),
    )

-- an advance
pub advance-shown : (hash : Hash) (a e size : ℕ) (root end : List ℕ) (terms : List (List ℕ)) (paths : List (List (List ℕ))) (strings : List (List ℕ)) → e ≤ size → AreDigests terms → All AreDigests paths
    → first_fail (advance_checks hash a e size root end terms paths) ≡ Ok tt → AreAmong (advance_strings hash a size terms paths) strings → Advances hash size root a e end strings
advance-shown hash a e size root end terms paths strings within digests lists held among = elim (cases_lt (a + 1) e) [
  | inr few ↦ inl few
  | inl more ↦ (
      let due : nat_le e (a + 1) ≡ false = lt-leb e (a + 1) more in
      let long : Check DualFault = (nat_eq (length terms) (advance_terms a e), AdvanceLength (advance_terms a e) (length terms)) in
      let count : Check DualFault = (nat_eq (length paths) (advance_paths a e), AdvanceCount (advance_paths a e) (length paths)) in
      let ends : Check DualFault = (bytes_eq (end_of_terms hash (a + 1) terms) end, AdvanceEnd end (end_of_terms hash (a + 1) terms)) in
      let walk : List (Check DualFault) = path_checks_from hash size root (a + 1) (first_of terms) (drop 1 terms) paths in
      let one = first-holds {F = DualFault} long (count ∷ (if nat_eq (length terms) 0 then [] else walk ++ ends ∷ [])) held in
      let two = first-holds {F = DualFault} count (if nat_eq (length terms) 0 then [] else walk ++ ends ∷ []) one.1 in
      let n : length terms ≡ e - a = eqb-true (length terms) (advance_terms a e) one.0 ∙ ap (λ (t : Bool). if t then 0 else e - a) due in
      let m : length paths ≡ e - a - 1 = eqb-true (length paths) (advance_paths a e) two.0 ∙ ap (λ (t : Bool). if t then 0 else e - a - 1) due in
      let some : length terms ≢ 0 = λ z. absurd (omega arith) in
      let none : nat_eq (length terms) 0 ≡ false = ne_eqb (length terms) 0 some in
      let rest : first_fail (walk ++ ends ∷ []) ≡ Ok tt = subst (λ (t : Bool). first_fail (if t then [] else walk ++ ends ∷ []) ≡ Ok tt) none two.1 in
      let parts = each-holds {F = DualFault} walk (ends ∷ []) rest in
      let last = first-holds {F = DualFault} ends [] parts.1 in
      let fewer : length (drop 1 terms) ≡ length terms - 1 = length-drop 1 terms in
      let all : AreAmong (walk_strings hash size (a + 1) (first_of terms) (drop 1 terms) paths) strings =
      subst (λ (t : Bool). AreAmong (if t then [] else walk_strings hash size (a + 1) (first_of terms) (drop 1 terms) paths) strings) none among in
      let shown = walks-shown hash size (a + 1) root (first_of terms) (drop 1 terms) paths end strings (omega arith) (omega arith) (omega arith) lists parts.0
      ((bytes_eq-Decides (end_of_terms hash (a + 1) terms) end).0 last.0) all in
      inr (more, first_of terms, drop 1 terms, digests 0 [] (omega arith), omega arith, shown.0, shown.1))
]

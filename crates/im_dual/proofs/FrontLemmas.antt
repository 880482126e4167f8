-- What is built of the first transactions of a history is what is built of the whole history.
use Rattle.std.proofs.Common.{◌≡◌, ◌<◌, ◌≤◌, length, ℕ, suc, zero, ◌+◌, ◌-◌, List, [], ◌∷◌, map, take, drop, refl, arith, ap, ◌∙◌, sym, get_or, nat_lt, Bool, true, false, if◌then◌else◌, ◌&&◌, Some, None}
use Rattle.std.specs.Prelude.{nat_eq, nat_le, Option}
use Rattle.std.proofs.lemmas.Bool.{and_parts, eqb-false, leb-false, ltb-true}
use Rattle.std.proofs.lemmas.List.{drop-take, get_or-take, take-map, take-take}
use Rattle.im_digest.specs.Digests.{Hash}
use Rattle.im_model.specs.Headers.{alh, inner}
use Rattle.im_model.specs.History.{alhs_of, header_of, next_header, no_digest, no_transaction, transaction_of, IsHistory, IsTransaction}
use Rattle.im_model.specs.declared.headers.Header.{Header}
use Rattle.im_model.specs.declared.transactions.Transaction.{Transaction}
use Rattle.im_model.proofs.HeaderLemmas.{grown, header-prefix}
use Rattle.im_model.proofs.HistoryLemmas.{Follow-at}
use Rattle.im_proof.specs.Between.{anchor_between, dual_between}
use Rattle.im_proof.specs.Built.{advance_of, consistency, dual_of, headers_from, headers_of, inners_of, linear_terms, path_of, paths_from}
use Rattle.im_proof.specs.declared.proofs.AdvanceProof.{AdvanceProof}
use Rattle.im_proof.specs.declared.proofs.DualProof.{DualProof}
use Rattle.im_proof.proofs.HeaderLemmas.{alhs-are, inners-are}
use Rattle.im_dual.proofs.RecordLemmas.{bl-of, id-of}

front-from : (hash : Hash) (alhs : List (List ℕ)) (txs : List Transaction) (n : ℕ) → headers_from hash alhs (take n txs) ≡ take n (headers_from hash alhs txs)
front-from hash alhs txs zero = refl
front-from hash alhs [] (suc n) = refl
front-from hash alhs (tx ∷ txs) (suc n) = ap (λ (l : List Header). next_header hash alhs tx ∷ l) (front-from hash (grown hash alhs tx) txs n)

-- the Alh of the first transactions are the first Alh
front-alhs : (hash : Hash) (history : List Transaction) (n : ℕ) → alhs_of hash (take n history) ≡ take n (alhs_of hash history)
front-alhs hash history n =
    alhs-are hash (take n history)
    ∙ ap (λ (l : List Header). map (alh hash) l) (front-from hash [] history n)
    ∙ sym (take-map (alh hash) n (headers_of hash history))
    ∙ ap (λ (l : List (List ℕ)). take n l) (sym (alhs-are hash history))

-- and so with the inner digests
front-inners : (hash : Hash) (history : List Transaction) (n : ℕ) → inners_of hash (take n history) ≡ take n (inners_of hash history)
front-inners hash history n =
    inners-are hash (take n history)
    ∙ ap (λ (l : List Header). map (inner hash) l) (front-from hash [] history n)
    ∙ sym (take-map (inner hash) n (headers_of hash history))
    ∙ ap (λ (l : List (List ℕ)). take n l) (sym (inners-are hash history))

-- the same on each side of a test
if-same : {X : Type 0} (b : Bool) (x y v w : X) → (b ≡ true → x ≡ v) → (b ≡ false → y ≡ w) → (if b then x else y) ≡ (if b then v else w)
if-same true x y v w f g = f refl
if-same false x y v w f g = g refl

-- linear terms up to a number within the first ones
front-terms : (alhs inners : List (List ℕ)) (n a b : ℕ) → 1 ≤ a → a ≤ n → b ≤ n → linear_terms (take n alhs) (take n inners) a b ≡ linear_terms alhs inners a b
front-terms alhs inners n a b some within end =
    let first : get_or (take n alhs) (a - 1) [] ≡ get_or alhs (a - 1) [] = get_or-take n alhs (a - 1) [] (omega arith) in
    let whole : n ≡ a + (n - a) = omega arith in
    let rest : take (b - a) (drop a (take n inners)) ≡ take (b - a) (drop a inners) =
    ap (λ (k : ℕ). take (b - a) (drop a (take k inners))) whole
    ∙ ap (λ (l : List (List ℕ)). take (b - a) l) (drop-take a (n - a) inners)
    ∙ take-take (b - a) (n - a) (drop a inners) (omega arith) in
    ap (λ (x : List ℕ). x ∷ take (b - a) (drop a (take n inners))) first ∙ ap (λ (l : List (List ℕ)). get_or alhs (a - 1) [] ∷ l) rest

front-advance : (hash : Hash) (alhs inners : List (List ℕ)) (n a e size : ℕ) → e ≤ n → size ≤ n → advance_of hash (take n alhs) (take n inners) a e size ≡ advance_of hash alhs inners a e size
unfolding advance_of
front-advance hash alhs inners n a e size end within =
    let few : AdvanceProof = record { terms = []; inclusions = [] } in
    let short : AdvanceProof = record { terms = linear_terms (take n alhs) (take n inners) (a + 1) e; inclusions = paths_from hash (take size (take n alhs)) a (e - a - 1) } in
    let many : AdvanceProof = record { terms = linear_terms alhs inners (a + 1) e; inclusions = paths_from hash (take size alhs) a (e - a - 1) } in
    let paths : paths_from hash (take size (take n alhs)) a (e - a - 1) ≡ paths_from hash (take size alhs) a (e - a - 1) =
    ap (λ (l : List (List ℕ)). paths_from hash l a (e - a - 1)) (take-take size n alhs within) in
    if-same (nat_le e (a + 1)) few short few many (λ is. refl)
    (λ is.
    let more : a + 1 < e = leb-false e (a + 1) is in
    let terms : linear_terms (take n alhs) (take n inners) (a + 1) e ≡ linear_terms alhs inners (a + 1) e = front-terms alhs inners n (a + 1) e (omega arith) (omega arith) end in
    λ i. record { terms = terms i; inclusions = paths i })

front-dual : (hash : Hash) (source target : Header) (alhs inners : List (List ℕ)) (n : ℕ) → 1 ≤ source.id → source.id ≤ n → target.id ≤ n → target.bl_tx_id ≤ n
    → dual_of hash source target (take n alhs) (take n inners) ≡ dual_of hash source target alhs inners
unfolding dual_of
front-dual hash source target alhs inners n some before end within =
    let s : ℕ = source.id in
    let old : ℕ = source.bl_tx_id in
    let size : ℕ = target.bl_tx_id in
    let short : List (List ℕ) = take n alhs in
    let leaves : take size short ≡ take size alhs = take-take size n alhs within in
    let of_inclusion : (if nat_lt s size then path_of hash (take size short) (s - 1) else []) ≡ (if nat_lt s size then path_of hash (take size alhs) (s - 1) else []) =
    ap (λ (l : List (List ℕ)). if nat_lt s size then path_of hash l (s - 1) else []) leaves in
    let of_consistency : (if nat_eq old 0 then [] else consistency hash (take size short) old) ≡ (if nat_eq old 0 then [] else consistency hash (take size alhs) old) =
    ap (λ (l : List (List ℕ)). if nat_eq old 0 then [] else consistency hash l old) leaves in
    let of_last : (if nat_eq size 0 then [] else path_of hash (take size short) (size - 1)) ≡ (if nat_eq size 0 then [] else path_of hash (take size alhs) (size - 1)) =
    ap (λ (l : List (List ℕ)). if nat_eq size 0 then [] else path_of hash l (size - 1)) leaves in
    let of_alh = if-same (nat_eq size 0) no_digest (get_or short (size - 1) []) no_digest (get_or alhs (size - 1) []) (λ is. refl)
    (λ is. let some_leaf : size ≡ 0 → ⊥ = eqb-false size 0 is in get_or-take n alhs (size - 1) [] (omega (arith, some_leaf, within))) in
    let of_linear = if-same (nat_lt s size) (linear_terms short (take n inners) size target.id) (linear_terms short (take n inners) s target.id)
    (linear_terms alhs inners size target.id) (linear_terms alhs inners s target.id)
    (λ is. let below : s < size = ltb-true s size is in front-terms alhs inners n size target.id (omega (arith, below)) within end)
    (λ is. front-terms alhs inners n s target.id some before end) in
    let of_advance = if-same (nat_lt s size) (advance_of hash short (take n inners) old s size) (advance_of hash short (take n inners) old size size)
    (advance_of hash alhs inners old s size) (advance_of hash alhs inners old size size)
    (λ is. front-advance hash alhs inners n old s size before within) (λ is. front-advance hash alhs inners n old size size within within) in
    λ i. record {
      source = source;
      target = target;
      inclusion = of_inclusion i;
      consistency = of_consistency i;
      target_bl_tx_alh = of_alh i;
      last_inclusion = of_last i;
      linear = of_linear i;
      linear_advance = of_advance i;
    }

-- a transaction was placed over a tree of those before it
tree-before : (history : List Transaction) (t : ℕ) → IsHistory history → 1 ≤ t → t ≤ length history → (transaction_of history t).bl < t
tree-before history t h some within =
    let is : IsTransaction (0 + (t - 1)) (transaction_of history t) = Follow-at 0 0 history (t - 1) no_transaction h.follow (omega arith) in
    let linked : (transaction_of history t).bl ≤ 0 + (t - 1) = is.linked in
    omega (arith, linked, some)

pub front-between : (hash : Hash) (history : List Transaction) (s t n : ℕ) → IsHistory history → 1 ≤ s → s ≤ t → t ≤ n → n ≤ length history
    → dual_between hash (take n history) s t ≡ dual_between hash history s t
front-between hash history s t n h some order within few =
    let front : List Transaction = take n history in
    let source : Header = header_of hash history s in
    let target : Header = header_of hash history t in
    let alhs : List (List ℕ) = alhs_of hash history in
    let inners : List (List ℕ) = inners_of hash history in
    let source_id : source.id ≡ s = id-of hash history s some (omega arith) in
    let target_id : target.id ≡ t = id-of hash history t (omega arith) (omega arith) in
    let size : target.bl_tx_id ≡ (transaction_of history t).bl = bl-of hash history t in
    let lag : (transaction_of history t).bl < t = tree-before history t h (omega arith) (omega arith) in
    ap (λ (x : Header). dual_of hash x (header_of hash front t) (alhs_of hash front) (inners_of hash front)) (header-prefix hash history s n some (omega arith) few)
    ∙ ap (λ (x : Header). dual_of hash source x (alhs_of hash front) (inners_of hash front)) (header-prefix hash history t n (omega arith) within few)
    ∙ ap (λ (l : List (List ℕ)). dual_of hash source target l (inners_of hash front)) (front-alhs hash history n)
    ∙ ap (λ (l : List (List ℕ)). dual_of hash source target (take n alhs) l) (front-inners hash history n)
    ∙ front-dual hash source target alhs inners n (omega (arith, source_id, some)) (omega (arith, source_id)) (omega (arith, target_id)) (omega (arith, size, lag))

pub front-anchor : (hash : Hash) (history : List Transaction) (s t n : ℕ) → IsHistory history → 1 ≤ s → s ≤ t → t ≤ n → n ≤ length history
    → anchor_between hash (take n history) s t ≡ anchor_between hash history s t
unfolding anchor_between
front-anchor hash history s t n h some order within few =
    let front : List Transaction = take n history in
    let old : ℕ = (transaction_of history s).bl in
    let size : ℕ = (transaction_of history t).bl in
    let one : transaction_of front s ≡ transaction_of history s = get_or-take n history (s - 1) no_transaction (omega arith) in
    let two : transaction_of front t ≡ transaction_of history t = get_or-take n history (t - 1) no_transaction (omega arith) in
    let here : Option DualProof = Some (dual_between hash front size s) in
    let there : Option DualProof = Some (dual_between hash history size s) in
    ap (λ (x : Transaction). if nat_lt x.bl (transaction_of front t).bl && nat_lt (transaction_of front t).bl s then Some (dual_between hash front (transaction_of front t).bl s) else None) one
    ∙ ap (λ (x : Transaction). if nat_lt old x.bl && nat_lt x.bl s then Some (dual_between hash front x.bl s) else None) two
    ∙ if-same (nat_lt old size && nat_lt size s) here None there None
    (λ is.
    let parts = and_parts (nat_lt old size) (nat_lt size s) is in
    let behind : old < size = ltb-true old size parts.0 in
    let before : size < s = ltb-true size s parts.1 in
    ap (λ (p : DualProof). Some p) (front-between hash history size s n h (omega (arith, behind)) (omega (arith, before)) (omega arith) few))
    (λ is. refl)

-- What is built of kept headers and a kept tree is built of the history's Alh and inner digests.
use Rattle.std.proofs.Common.{◌≡◌, ◌<◌, ◌≤◌, length, ℕ, ◌+◌, ◌-◌, List, [], ◌∷◌, ◌++◌, map, take, drop, refl, arith, ap, subst, ◌∙◌, sym, get_or, nat_lt, Bool, true, false, max, min, inl, inr, Ok, if◌then◌else◌}
use Rattle.std.specs.Prelude.{nat_eq}
use Rattle.std.proofs.lemmas.Bool.{cases_lt, lt-ltb, le-ltb, lt-leb, eq-eqb}
use Rattle.std.proofs.lemmas.List.{get_or-map, get_or-drop, take_more, take-take, length-map, length-drop}
use Rattle.im_digest.specs.Digests.{Hash}
use Rattle.im_model.specs.Headers.{inner, alh}
use Rattle.im_model.specs.History.{no_digest, no_transaction, transaction_of, alh_of, alhs_of, header_of, IsTransaction, IsHistory}
use Rattle.im_model.specs.declared.headers.Header.{Header}
use Rattle.im_model.specs.declared.transactions.Transaction.{Transaction}
use Rattle.im_model.proofs.HeaderLemmas.{alh_of-next, header-previous}
use Rattle.im_model.proofs.HistoryLemmas.{Follow-at}
use Rattle.im_atree.proofs.PassLemmas.{not-none}
use Rattle.im_levels.specs.Leveled.{IsLeveled, Stored}
use Rattle.im_mtree.specs.Checks.{first_fail}
use Rattle.im_proof.specs.Duals.{dual_checks}
use Rattle.im_proof.specs.Built.{linear_terms, path_of, paths_from, consistency, advance_of, dual_of, inners_of, headers_of}
use Rattle.im_proof.specs.declared.proofs.AdvanceProof.{AdvanceProof}
use Rattle.im_proof.specs.declared.proofs.DualProof.{DualProof}
use Rattle.im_proof.proofs.HeaderLemmas.{headers-length, headers-nth, alhs-are, inners-are}
use Rattle.im_dual.specs.Kept.{no_header, header_at, AreChained}
use Rattle.im_dual.proofs.RecordLemmas.{id-of, bl-of, rising-bl, history-passes}

-- one digest more of those of some headers
pub terms-next : (f : Header → List ℕ) (headers : List Header) (s i : ℕ) (header : Header) (first : List ℕ) (before after : List (List ℕ)) → s ≤ i → i < length headers
    → header ≡ get_or headers i header → before ≡ first ∷ take (i - s) (drop s (map f headers)) → after ≡ before ++ f header ∷ []
    → after ≡ first ∷ take (i + 1 - s) (drop s (map f headers))
terms-next f headers s i header first before after l h is old new =
    let all : List (List ℕ) = map f headers in
    let long : length all ≡ length headers = length-map headers f in
    let fewer : length (drop s all) ≡ length all - s = length-drop s all in
    let place : s + (i - s) ≡ i = omega arith in
    let next : i - s + 1 ≡ i + 1 - s = omega arith in
    let here : get_or (drop s all) (i - s) [] ≡ f header =
    get_or-drop s all (i - s) [] ∙ ap (λ n. get_or all n []) place ∙ get_or-map f headers i header [] h ∙ ap f (sym is) in
    new ∙ ap (λ l. l ++ f header ∷ []) old
    ∙ ap (λ d. first ∷ (take (i - s) (drop s all) ++ d ∷ [])) (sym here)
    ∙ ap (λ l. first ∷ l) (sym (take_more (drop s all) (i - s) [] (omega arith)))
    ∙ ap (λ n. first ∷ take n (drop s all)) next

-- what is due where a number isn't 0, and what else
pub due-none : {X : Type 0} (n : ℕ) (x y z : X) → n ≡ 0 → x ≡ y → x ≡ (if nat_eq n 0 then y else z)
due-none n x y z none is = is ∙ sym (ap (λ b. if b then y else z) (eq-eqb n 0 none))

pub due-some : {X : Type 0} (n : ℕ) (x y z : X) → 0 < n → x ≡ z → x ≡ (if nat_eq n 0 then y else z)
due-some n x y z some is = is ∙ sym (ap (λ b. if b then y else z) (not-none n some))

-- what is due below a number, and what else
pub due-below : {X : Type 0} (m n : ℕ) (x y z : X) → m < n → x ≡ y → x ≡ (if nat_lt m n then y else z)
due-below m n x y z below is = is ∙ sym (ap (λ b. if b then y else z) (lt-ltb m n below))

pub due-beyond : {X : Type 0} (m n : ℕ) (x y z : X) → n ≤ m → x ≡ z → x ≡ (if nat_lt m n then y else z)
due-beyond m n x y z beyond is = is ∙ sym (ap (λ b. if b then y else z) (le-ltb m n beyond))

-- there is a kept header for each transaction
kept-length : (hash : Hash) (history : List Transaction) (headers : List Header) → headers ≡ headers_of hash history → length headers ≡ length history
kept-length hash history headers kept = ap length kept ∙ headers-length hash history

-- kept header k is that of transaction k
kept-at : (hash : Hash) (history : List Transaction) (headers : List Header) (k : ℕ) → headers ≡ headers_of hash history → 1 ≤ k → k ≤ length headers
    → header_at headers k ≡ header_of hash history k
kept-at hash history headers k kept some within =
    let long : length headers ≡ length history = kept-length hash history headers kept in
    ap (λ l. get_or l (k - 1) no_header) kept ∙ headers-nth hash history k no_header some (omega arith)

-- its number is k
pub kept-id : (hash : Hash) (history : List Transaction) (headers : List Header) (k : ℕ) → headers ≡ headers_of hash history → 1 ≤ k → k ≤ length headers → (header_at headers k).id ≡ k
kept-id hash history headers k kept some within =
    let long : length headers ≡ length history = kept-length hash history headers kept in
    ap (λ header. header.id) (kept-at hash history headers k kept some within) ∙ id-of hash history k some (omega arith)

pub kept-bl : (hash : Hash) (history : List Transaction) (headers : List Header) (k : ℕ) → headers ≡ headers_of hash history → 1 ≤ k → k ≤ length headers
    → (header_at headers k).bl_tx_id ≡ (transaction_of history k).bl
kept-bl hash history headers k kept some within =
    ap (λ header. header.bl_tx_id) (kept-at hash history headers k kept some within) ∙ bl-of hash history k

-- kept trees never fall
pub kept-rises : (hash : Hash) (history : List Transaction) (headers : List Header) (s t : ℕ) → IsHistory history → headers ≡ headers_of hash history → 1 ≤ s → s ≤ t → t ≤ length headers
    → (header_at headers s).bl_tx_id ≤ (header_at headers t).bl_tx_id
kept-rises hash history headers s t h kept some order within =
    let long : length headers ≡ length history = kept-length hash history headers kept in
    let old : (header_at headers s).bl_tx_id ≡ (transaction_of history s).bl = kept-bl hash history headers s kept some (omega arith) in
    let new : (header_at headers t).bl_tx_id ≡ (transaction_of history t).bl = kept-bl hash history headers t kept (omega arith) within in
    let rises : (transaction_of history s).bl ≤ (transaction_of history t).bl = rising-bl 0 0 history (s - 1) (t - 1) h.follow (omega arith) (omega arith) in
    omega (arith, old, new, rises)

-- and are below their transactions
pub kept-lags : (hash : Hash) (history : List Transaction) (headers : List Header) (t : ℕ) → IsHistory history → headers ≡ headers_of hash history → 1 ≤ t → t ≤ length headers
    → (header_at headers t).bl_tx_id < t
kept-lags hash history headers t h kept some within =
    let long : length headers ≡ length history = kept-length hash history headers kept in
    let new : (header_at headers t).bl_tx_id ≡ (transaction_of history t).bl = kept-bl hash history headers t kept some within in
    let is : IsTransaction (0 + (t - 1)) (transaction_of history t) = Follow-at 0 0 history (t - 1) no_transaction h.follow (omega arith) in
    let linked : (transaction_of history t).bl ≤ 0 + (t - 1) = is.linked in
    omega (arith, new, linked, some)

-- each kept header holds the Alh of the one before it
pub kept-chained : (hash : Hash) (history : List Transaction) (headers : List Header) → headers ≡ headers_of hash history → AreChained hash headers
kept-chained hash history headers kept k some less =
    let long : length headers ≡ length history = kept-length hash history headers kept in
    let before : k - 1 + 1 ≡ k = omega (arith, some) in
    ap (λ (h : Header). h.prev_alh) (kept-at hash history headers (k + 1) kept (omega arith) (omega (arith, less)))
    ∙ header-previous hash history k (omega (arith, less, long))
    ∙ ap (λ (n : ℕ). alh_of hash history n) (sym before)
    ∙ alh_of-next hash history (k - 1) (omega (arith, some, less, long))
    ∙ ap (λ (n : ℕ). alh hash (header_of hash history n)) before
    ∙ ap (λ (h : Header). alh hash h) (sym (kept-at hash history headers k kept some (omega (arith, less))))

-- so what the next one holds is its Alh
pub chained-alh : (hash : Hash) (headers : List Header) (k : ℕ) → AreChained hash headers → 1 ≤ k → k < length headers
    → (get_or headers k no_header).prev_alh ≡ get_or (map (alh hash) headers) (k - 1) []
chained-alh hash headers k chained some less =
    let same : k + 1 - 1 ≡ k = omega arith in
    ap (λ (n : ℕ). (get_or headers n no_header).prev_alh) (sym same)
    ∙ chained k some less
    ∙ sym (get_or-map (alh hash) headers (k - 1) no_header [] (omega (arith, some, less)))

-- the leaves of a kept tree are Alh of kept headers
pub kept-leaves : (hash : Hash) (history : List Transaction) (headers : List Header) (tree : Stored) → headers ≡ headers_of hash history
    → IsLeveled hash (take tree.size (alhs_of hash history)) tree → IsLeveled hash (take tree.size (map (alh hash) headers)) tree
kept-leaves hash history headers tree kept grown =
    let same : alhs_of hash history ≡ map (alh hash) headers = alhs-are hash history ∙ ap (λ l. map (alh hash) l) (sym kept) in
    subst (λ (ds : List (List ℕ)). IsLeveled hash (take tree.size ds) tree) same grown

-- an advance over more than one transaction, of its terms and its paths
pub advance-more : (hash : Hash) (alhs inners : List (List ℕ)) (a e size held : ℕ) (terms : List (List ℕ)) (inclusions : List (List (List ℕ))) → a + 1 < e → size ≤ held
    → terms ≡ linear_terms alhs inners (a + 1) e → inclusions ≡ paths_from hash (take size (take held alhs)) a (e - 1 - a)
    → record { terms = terms; inclusions = inclusions } ≡ advance_of hash alhs inners a e size
unfolding advance_of
advance-more hash alhs inners a e size held terms inclusions more within t p =
    let few : AdvanceProof = record { terms = []; inclusions = [] } in
    let many : AdvanceProof = record { terms = linear_terms alhs inners (a + 1) e; inclusions = paths_from hash (take size alhs) a (e - a - 1) } in
    let count : e - 1 - a ≡ e - a - 1 = omega arith in
    let q : inclusions ≡ paths_from hash (take size alhs) a (e - a - 1) =
    p ∙ ap (λ (l : List (List ℕ)). paths_from hash l a (e - 1 - a)) (take-take size held alhs within) ∙ ap (λ (n : ℕ). paths_from hash (take size alhs) a n) count in
    let built : record { terms = terms; inclusions = inclusions } ≡ many = λ i. record { terms = t i; inclusions = q i } in
    built ∙ sym (ap (λ (b : Bool). if b then few else many) (lt-leb e (a + 1) more))

-- what is built of kept headers is what is built of the history
pub kept-dual : (hash : Hash) (history : List Transaction) (headers : List Header) (s t : ℕ) → headers ≡ headers_of hash history → 1 ≤ s → s ≤ t → t ≤ length headers
    → dual_of hash (header_at headers s) (header_at headers t) (map (alh hash) headers) (map (inner hash) headers)
    ≡ dual_of hash (header_of hash history s) (header_of hash history t) (alhs_of hash history) (inners_of hash history)
kept-dual hash history headers s t kept some order within =
    let alhs : List (List ℕ) = map (alh hash) headers in
    let inners : List (List ℕ) = map (inner hash) headers in
    ap (λ header. dual_of hash header (header_at headers t) alhs inners) (kept-at hash history headers s kept some (omega arith))
    ∙ ap (λ header. dual_of hash (header_of hash history s) header alhs inners) (kept-at hash history headers t kept (omega arith) within)
    ∙ ap (λ l. dual_of hash (header_of hash history s) (header_of hash history t) l inners) (ap (λ l. map (alh hash) l) kept ∙ sym (alhs-are hash history))
    ∙ ap (λ l. dual_of hash (header_of hash history s) (header_of hash history t) (alhs_of hash history) l) (ap (λ l. map (inner hash) l) kept ∙ sym (inners-are hash history))

-- so it passes its check
pub kept-passes : (hash : Hash) (history : List Transaction) (headers : List Header) (s t : ℕ) (proof : DualProof) → IsHistory history → headers ≡ headers_of hash history
    → 1 ≤ s → s ≤ t → t ≤ length headers → proof ≡ dual_of hash (header_at headers s) (header_at headers t) (map (alh hash) headers) (map (inner hash) headers)
    → first_fail (dual_checks hash proof) ≡ Ok tt
kept-passes hash history headers s t proof h kept some order within built =
    let long : length headers ≡ length history = kept-length hash history headers kept in
    ap (λ x. first_fail (dual_checks hash x)) (built ∙ kept-dual hash history headers s t kept some order within)
    ∙ history-passes hash history s t h some order (omega arith)

if-out : {X Y : Type 0} → (f : X → Y) (b : Bool) (x y : X) → f (if b then x else y) ≡ (if b then f x else f y)
if-out f true x y = refl
if-out f false x y = refl

-- the later of two, and the earlier
later-is : (s size : ℕ) → max s size ≡ (if nat_lt s size then size else s)
later-is s size = elim (cases_lt s size) [
  | inl below ↦ (let most : max s size ≡ size = omega arith in most ∙ sym (ap (λ b. if b then size else s) (lt-ltb s size below)))
  | inr beyond ↦ (let most : max s size ≡ s = omega arith in most ∙ sym (ap (λ b. if b then size else s) (le-ltb s size beyond)))
]

earlier-is : (s size : ℕ) → min s size ≡ (if nat_lt s size then s else size)
earlier-is s size = elim (cases_lt s size) [
  | inl below ↦ (let least : min s size ≡ s = omega arith in least ∙ sym (ap (λ b. if b then s else size) (lt-ltb s size below)))
  | inr beyond ↦ (let least : min s size ≡ size = omega arith in least ∙ sym (ap (λ b. if b then s else size) (le-ltb s size beyond)))
]

-- the parts of a dual proof between two numbers, over a tree of a size
abbrev parts : Hash → Header → Header → List (List ℕ) → List (List ℕ) → ℕ → ℕ → ℕ → DualProof
parts hash source target alhs inners s t size =
    let old = source.bl_tx_id in
    record {
      source = source;
      target = target;
      inclusion = if nat_lt s size then path_of hash (take size alhs) (s - 1) else [];
      consistency = if nat_eq old 0 then [] else consistency hash (take size alhs) old;
      target_bl_tx_alh = if nat_eq size 0 then no_digest else get_or alhs (size - 1) [];
      last_inclusion = if nat_eq size 0 then [] else path_of hash (take size alhs) (size - 1);
      linear = if nat_lt s size then linear_terms alhs inners size t else linear_terms alhs inners s t;
      linear_advance = if nat_lt s size then advance_of hash alhs inners old s size else advance_of hash alhs inners old size size;
    }

dual-parts : (hash : Hash) (source target : Header) (alhs inners : List (List ℕ)) → dual_of hash source target alhs inners ≡ parts hash source target alhs inners source.id target.id target.bl_tx_id
unfolding dual_of
dual-parts hash source target alhs inners = refl

-- the parts that are built of kept headers and leaves are those of the dual proof
pub assembled : (hash : Hash) (headers : List Header) (held s t size start end : ℕ) (proof : DualProof)
    → start ≡ max s size → end ≡ min s size
    → (header_at headers s).id ≡ s → (header_at headers t).id ≡ t → size ≡ (header_at headers t).bl_tx_id → size ≤ held
    → proof.source ≡ header_at headers s → proof.target ≡ header_at headers t
    → proof.inclusion ≡ (if nat_lt s size then path_of hash (take size (take held (map (alh hash) headers))) (s - 1) else [])
    → proof.consistency ≡ (if nat_eq proof.source.bl_tx_id 0 then [] else consistency hash (take size (take held (map (alh hash) headers))) proof.source.bl_tx_id)
    → proof.target_bl_tx_alh ≡ (if nat_eq size 0 then no_digest else get_or (map (alh hash) headers) (size - 1) [])
    → proof.last_inclusion ≡ (if nat_eq size 0 then [] else path_of hash (take size (take held (map (alh hash) headers))) (size - 1))
    → proof.linear ≡ linear_terms (map (alh hash) headers) (map (inner hash) headers) start t
    → proof.linear_advance ≡ advance_of hash (map (alh hash) headers) (map (inner hash) headers) proof.source.bl_tx_id end size
    → proof ≡ dual_of hash (header_at headers s) (header_at headers t) (map (alh hash) headers) (map (inner hash) headers)
assembled hash headers held s t n start end proof later earlier of_s of_t size within a b d e f h l m =
    let source : Header = header_at headers s in
    let target : Header = header_at headers t in
    let alhs : List (List ℕ) = map (alh hash) headers in
    let inners : List (List ℕ) = map (inner hash) headers in
    let tree : List (List ℕ) = take held alhs in
    let front : take n tree ≡ take n alhs = take-take n held alhs within in
    let old : proof.source.bl_tx_id ≡ source.bl_tx_id = ap (λ x. x.bl_tx_id) a in
    let inclusion-is : proof.inclusion ≡ (if nat_lt s n then path_of hash (take n alhs) (s - 1) else []) =
    d ∙ ap (λ x. if nat_lt s n then path_of hash x (s - 1) else []) front in
    let consistency-is : proof.consistency ≡ (if nat_eq source.bl_tx_id 0 then [] else consistency hash (take n alhs) source.bl_tx_id) =
    e ∙ ap (λ k. if nat_eq k 0 then [] else consistency hash (take n tree) k) old ∙ ap (λ x. if nat_eq source.bl_tx_id 0 then [] else consistency hash x source.bl_tx_id) front in
    let told-is : proof.target_bl_tx_alh ≡ (if nat_eq n 0 then no_digest else get_or alhs (n - 1) []) = f in
    let last-is : proof.last_inclusion ≡ (if nat_eq n 0 then [] else path_of hash (take n alhs) (n - 1)) =
    h ∙ ap (λ x. if nat_eq n 0 then [] else path_of hash x (n - 1)) front in
    let linear-is : proof.linear ≡ (if nat_lt s n then linear_terms alhs inners n t else linear_terms alhs inners s t) =
    l ∙ ap (λ k. linear_terms alhs inners k t) (later ∙ later-is s n) ∙ if-out (λ k. linear_terms alhs inners k t) (nat_lt s n) n s in
    let advance-is : proof.linear_advance ≡ (if nat_lt s n then advance_of hash alhs inners source.bl_tx_id s n else advance_of hash alhs inners source.bl_tx_id n n) =
    m ∙ ap (λ k. advance_of hash alhs inners k end n) old ∙ ap (λ k. advance_of hash alhs inners source.bl_tx_id k n) (earlier ∙ earlier-is s n)
    ∙ if-out (λ k. advance_of hash alhs inners source.bl_tx_id k n) (nat_lt s n) s n in
    let built : proof ≡ parts hash source target alhs inners s t n =
    λ i. record {
      source = a i;
      target = b i;
      inclusion = inclusion-is i;
      consistency = consistency-is i;
      target_bl_tx_alh = told-is i;
      last_inclusion = last-is i;
      linear = linear-is i;
      linear_advance = advance-is i;
    } in
    built
    ∙ ap (λ k. parts hash source target alhs inners k t n) (sym of_s)
    ∙ ap (λ k. parts hash source target alhs inners source.id k n) (sym of_t)
    ∙ ap (λ k. parts hash source target alhs inners source.id target.id k) size
    ∙ sym (dual-parts hash source target alhs inners)

-- The headers of a history are recorded among its Alh, which are linked.
use Rattle.std.proofs.Common.{◌≡◌, ◌<◌, ◌≤◌, length, ℕ, suc, zero, ◌+◌, ◌-◌, ◌==◌, List, [], ◌∷◌, take, refl, arith, ap, subst, ◌∙◌, sym, get_or, length-append, nat_eq, nat_le, nat_lt, ◌&&◌, true, Ok, if◌then◌else◌}
use Rattle.std.proofs.Math.Seq.{get_or-append_seam}
use Rattle.std.proofs.lemmas.Bool.{le-leb, lt-ltb}
use Rattle.std.proofs.lemmas.List.{length-take-le, take-append-le, take-take, take_all, get_or-take, get_or_default}
use Rattle.im_digest.specs.Digests.{Hash}
use Rattle.im_model.specs.Trees.{root}
use Rattle.im_model.specs.Chains.{link_string}
use Rattle.im_model.specs.Headers.{inner, alh}
use Rattle.im_model.specs.History.{no_digest, bl_root_of, first_alh, next_header, alhs_from, alhs_of, no_transaction, transaction_of, header_of, Follow, IsTransaction, IsHistory}
use Rattle.im_model.specs.declared.headers.Header.{Header}
use Rattle.im_model.specs.declared.transactions.Transaction.{Transaction}
use Rattle.im_model.proofs.HeaderLemmas.{grown, next-id, next-bl}
use Rattle.im_model.proofs.HistoryLemmas.{Follow-at, length-alhs_of}
use Rattle.im_mtree.specs.Checks.{first_fail}
use Rattle.im_proof.specs.HeaderChecks.{header_checks}
use Rattle.im_proof.specs.Duals.{dual_checks}
use Rattle.im_proof.specs.Built.{inners_from, inners_of, dual_of, AreLinked, IsRecorded}
use Rattle.im_proof.specs.declared.faults.HeaderFault.TheVariants.{Version, Entries, Tree}
use Rattle.im_mtree.proofs.CheckLemmas.{three-hold}
use Rattle.im_dual.proofs.PassLemmas.{dual_passes}

length-grown : (hash : Hash) (alhs : List (List ℕ)) (tx : Transaction) → length (grown hash alhs tx) ≡ length alhs + 1
length-grown hash alhs tx = length-append alhs (alh hash (next_header hash alhs tx) ∷ [])

-- the Alh that were there stay in front
begins : (hash : Hash) (alhs : List (List ℕ)) (txs : List Transaction) → take (length alhs) (alhs_from hash alhs txs) ≡ alhs
begins hash alhs [] = take_all (length alhs) alhs (omega arith)
begins hash alhs (tx ∷ txs) =
    let more : List (List ℕ) = grown hash alhs tx in
    let long : length more ≡ length alhs + 1 = length-grown hash alhs tx in
    sym (take-take (length alhs) (length more) (alhs_from hash more txs) (omega arith))
    ∙ ap (λ l. take (length alhs) l) (begins hash more txs)
    ∙ take-append-le (length alhs) alhs (alh hash (next_header hash alhs tx) ∷ []) (omega arith)
    ∙ take_all (length alhs) alhs (omega arith)

-- the Alh of the first transactions are the first Alh
cut : (hash : Hash) (alhs : List (List ℕ)) (txs : List Transaction) (j : ℕ) → j ≤ length txs → alhs_from hash alhs (take j txs) ≡ take (length alhs + j) (alhs_from hash alhs txs)
cut hash alhs txs zero h =
    let same : length alhs ≡ length alhs + 0 = omega arith in
    sym (begins hash alhs txs) ∙ ap (λ n. take n (alhs_from hash alhs txs)) same
cut hash alhs [] (suc j) h = absurd (omega arith)
cut hash alhs (tx ∷ txs) (suc j) h =
    let more : List (List ℕ) = grown hash alhs tx in
    let long : length more ≡ length alhs + 1 = length-grown hash alhs tx in
    let same : length more + j ≡ length alhs + suc j = omega arith in
    cut hash more txs j (omega arith) ∙ ap (λ n. take n (alhs_from hash more txs)) same

-- the header of the transaction at place i, behind some others
abbrev header-from : Hash → List (List ℕ) → List Transaction → ℕ → Header
header-from hash alhs txs i = next_header hash (alhs_from hash alhs (take i txs)) (get_or txs i no_transaction)

-- the Alh at a place is that of the header there
nth-alh : (hash : Hash) (alhs : List (List ℕ)) (txs : List Transaction) (i : ℕ) → i < length txs → get_or (alhs_from hash alhs txs) (length alhs + i) [] ≡ alh hash (header-from hash alhs txs i)
nth-alh hash alhs [] i h = absurd (omega arith)
nth-alh hash alhs (tx ∷ txs) zero h =
    let more : List (List ℕ) = grown hash alhs tx in
    let all : List (List ℕ) = alhs_from hash more txs in
    let long : length more ≡ length alhs + 1 = length-grown hash alhs tx in
    let same : length alhs + 0 ≡ length alhs = omega arith in
    ap (λ n. get_or all n []) same
    ∙ sym (get_or-take (length more) all (length alhs) [] (omega arith))
    ∙ ap (λ l. get_or l (length alhs) []) (begins hash more txs)
    ∙ get_or-append_seam alhs (alh hash (next_header hash alhs tx)) [] []
nth-alh hash alhs (tx ∷ txs) (suc i) h =
    let more : List (List ℕ) = grown hash alhs tx in
    let long : length more ≡ length alhs + 1 = length-grown hash alhs tx in
    let same : length alhs + suc i ≡ length more + i = omega arith in
    ap (λ n. get_or (alhs_from hash more txs) n []) same ∙ nth-alh hash more txs i (omega arith)

-- so is the inner digest
nth-inner : (hash : Hash) (alhs : List (List ℕ)) (txs : List Transaction) (i : ℕ) → i < length txs → get_or (inners_from hash alhs txs) i [] ≡ inner hash (header-from hash alhs txs i)
nth-inner hash alhs [] i h = absurd (omega arith)
nth-inner hash alhs (tx ∷ txs) zero h = refl
nth-inner hash alhs (tx ∷ txs) (suc i) h = nth-inner hash (grown hash alhs tx) txs i (omega arith)

length-inners : (hash : Hash) (alhs : List (List ℕ)) (txs : List Transaction) → length (inners_from hash alhs txs) ≡ length txs
length-inners hash alhs [] = refl
length-inners hash alhs (tx ∷ txs) = ap suc (length-inners hash (grown hash alhs tx) txs)

-- the Alh before the transaction at place i of a history
abbrev before : Hash → List Transaction → ℕ → List (List ℕ)
before hash history i = alhs_of hash (take i history)

length-before : (hash : Hash) (history : List Transaction) (i : ℕ) → i ≤ length history → length (before hash history i) ≡ i
length-before hash history i h = length-alhs_of hash (take i history) ∙ length-take-le i history h

before-is : (hash : Hash) (history : List Transaction) (i : ℕ) → i ≤ length history → before hash history i ≡ take i (alhs_of hash history)
before-is hash history i h =
    let same : 0 + i ≡ i = omega arith in
    cut hash [] history i h ∙ ap (λ n. take n (alhs_of hash history)) same

alh-at : (hash : Hash) (history : List Transaction) (i : ℕ) → i < length history → get_or (alhs_of hash history) i [] ≡ alh hash (header-from hash [] history i)
alh-at hash history i h =
    let same : i ≡ 0 + i = omega arith in
    ap (λ n. get_or (alhs_of hash history) n []) same ∙ nth-alh hash [] history i h

-- an Alh is made of the one before it
link-at : (hash : Hash) (alhs : List (List ℕ)) (tx : Transaction) → alh hash (next_header hash alhs tx)
    ≡ hash (link_string (length alhs + 1) (get_or alhs (length alhs - 1) (first_alh hash)) (inner hash (next_header hash alhs tx)))
unfolding next_header
link-at hash alhs tx = refl

-- the Alh of a history are linked
pub history-linked : (hash : Hash) (history : List Transaction) → AreLinked hash (alhs_of hash history) (inners_of hash history)
history-linked hash history i some below =
    let all : List (List ℕ) = alhs_of hash history in
    let long : length all ≡ length history = length-alhs_of hash history in
    let inside : i < length history = omega arith in
    let front : List (List ℕ) = before hash history i in
    let many : length front ≡ i = length-before hash history i (omega arith) in
    let tx : Transaction = get_or history i no_transaction in
    let digest : List ℕ = inner hash (next_header hash front tx) in
    alh-at hash history i inside
    ∙ link-at hash front tx
    ∙ ap (λ n. hash (link_string (n + 1) (get_or front (n - 1) (first_alh hash)) digest)) many
    ∙ ap (λ d. hash (link_string (i + 1) d digest))
    (get_or_default front (i - 1) (first_alh hash) [] (omega arith)
    ∙ ap (λ l. get_or l (i - 1) []) (before-is hash history i (omega arith))
    ∙ get_or-take i all (i - 1) [] (omega arith))
    ∙ ap (λ d. hash (link_string (i + 1) (get_or all (i - 1) []) d)) (sym (nth-inner hash [] history i inside))

-- a header of a transaction within the limits passes its checks
next-checked : (hash : Hash) (alhs : List (List ℕ)) (tx : Transaction) → IsTransaction (length alhs) tx → first_fail (header_checks (next_header hash alhs tx)) ≡ Ok tt
unfolding next_header
next-checked hash alhs tx is =
    let n : ℕ = length tx.entries in
    let few : (nat_le 1 n && nat_le n 1024) ≡ true = ap (λ b. b && nat_le n 1024) (le-leb 1 n is.some) ∙ le-leb n 1024 is.few in
    let linked : tx.bl ≤ length alhs = is.linked in
    three-hold (nat_eq 1 1) (nat_le 1 n && nat_le n 1024) (nat_lt tx.bl (length alhs + 1))
    (Version 1) (Entries (if nat_eq n 0 then 1 else 1024) n) (Tree (length alhs + 1) tx.bl)
    refl few (lt-ltb tx.bl (length alhs + 1) (omega arith))

next-root : (hash : Hash) (alhs all : List (List ℕ)) (tx : Transaction) → take tx.bl alhs ≡ take tx.bl all → (next_header hash alhs tx).bl_root ≡ bl_root_of hash all (next_header hash alhs tx).bl_tx_id
unfolding next_header
next-root hash alhs all tx e = ap (λ l. if tx.bl == 0 then no_digest else root hash l) e

-- a header of a history is recorded
pub headers-recorded : (hash : Hash) (history : List Transaction) (k : ℕ) → IsHistory history → 1 ≤ k → k ≤ length history → IsRecorded hash (alhs_of hash history) (header_of hash history k)
headers-recorded hash history k h o l =
    let i : ℕ = k - 1 in
    let all : List (List ℕ) = alhs_of hash history in
    let long : length all ≡ length history = length-alhs_of hash history in
    let front : List (List ℕ) = before hash history i in
    let many : length front ≡ i = length-before hash history i (omega arith) in
    let tx : Transaction = get_or history i no_transaction in
    let is : IsTransaction (0 + i) tx = Follow-at 0 0 history i no_transaction h.follow (omega arith) in
    let at : 0 + i ≡ length front = omega arith in
    let P : ℕ → Type 0 = λ n. IsTransaction n tx in
    let linked : tx.bl ≤ 0 + i = is.linked in
    let id : (next_header hash front tx).id ≡ length front + 1 = next-id hash front tx in
    let place : i ≡ (next_header hash front tx).id - 1 = omega arith in
    record {
      checked = next-checked hash front tx (subst P at is);
      within = omega arith;
      same = sym (alh-at hash history i (omega arith)) ∙ ap (λ n. get_or all n []) place;
      tree = next-root hash front all tx (ap (λ l. take tx.bl l) (before-is hash history i (omega arith)) ∙ take-take tx.bl i all (omega arith));
    }

-- trees never fall
least-bl : (n bl : ℕ) (txs : List Transaction) (j : ℕ) → Follow n bl txs → j < length txs → bl ≤ (get_or txs j no_transaction).bl
least-bl n bl [] j f h = absurd (omega arith)
least-bl n bl (tx ∷ txs) zero f h = f.1
least-bl n bl (tx ∷ txs) (suc j) f h =
    let here : bl ≤ tx.bl = f.1 in
    let on : tx.bl ≤ (get_or txs j no_transaction).bl = least-bl (n + 1) tx.bl txs j f.2 (omega arith) in
    omega (arith, here, on)

pub rising-bl : (n bl : ℕ) (txs : List Transaction) (i j : ℕ) → Follow n bl txs → i ≤ j → j < length txs → (get_or txs i no_transaction).bl ≤ (get_or txs j no_transaction).bl
rising-bl n bl [] i j f l h = absurd (omega arith)
rising-bl n bl (tx ∷ txs) zero zero f l h = omega arith
rising-bl n bl (tx ∷ txs) zero (suc j) f l h = least-bl (n + 1) tx.bl txs j f.2 (omega arith)
rising-bl n bl (tx ∷ txs) (suc i) zero f l h = absurd (omega arith)
rising-bl n bl (tx ∷ txs) (suc i) (suc j) f l h = rising-bl (n + 1) tx.bl txs i j f.2 (omega arith) (omega arith)

-- a header has its transaction's number
pub id-of : (hash : Hash) (history : List Transaction) (k : ℕ) → 1 ≤ k → k ≤ length history → (header_of hash history k).id ≡ k
id-of hash history k o l =
    let many : length (before hash history (k - 1)) ≡ k - 1 = length-before hash history (k - 1) (omega arith) in
    next-id hash (before hash history (k - 1)) (transaction_of history k) ∙ omega arith

-- and its tree
pub bl-of : (hash : Hash) (history : List Transaction) (k : ℕ) → (header_of hash history k).bl_tx_id ≡ (transaction_of history k).bl
bl-of hash history k = next-bl hash (before hash history (k - 1)) (transaction_of history k)

-- the dual proof between two transactions of a history passes its check
pub history-passes : (hash : Hash) (history : List Transaction) (s t : ℕ) → IsHistory history → 1 ≤ s → s ≤ t → t ≤ length history
    → first_fail (dual_checks hash (dual_of hash (header_of hash history s) (header_of hash history t) (alhs_of hash history) (inners_of hash history))) ≡ Ok tt
history-passes hash history s t h o l w =
    let source : Header = header_of hash history s in
    let target : Header = header_of hash history t in
    let alhs : List (List ℕ) = alhs_of hash history in
    let inners : List (List ℕ) = inners_of hash history in
    let of_source : source.id ≡ s = id-of hash history s o (omega arith) in
    let of_target : target.id ≡ t = id-of hash history t (omega arith) w in
    let old : source.bl_tx_id ≡ (transaction_of history s).bl = bl-of hash history s in
    let new : target.bl_tx_id ≡ (transaction_of history t).bl = bl-of hash history t in
    let rises : (transaction_of history s).bl ≤ (transaction_of history t).bl = rising-bl 0 0 history (s - 1) (t - 1) h.follow (omega arith) (omega arith) in
    let is : IsTransaction (0 + (t - 1)) (transaction_of history t) = Follow-at 0 0 history (t - 1) no_transaction h.follow (omega arith) in
    let linked : (transaction_of history t).bl ≤ 0 + (t - 1) = is.linked in
    let long : length alhs ≡ length history = length-alhs_of hash history in
    let more : length inners ≡ length history = length-inners hash [] history in
    dual_passes hash source target alhs inners (dual_of hash source target alhs inners) refl
    (omega (arith, of_source, o)) (omega (arith, of_source, of_target, l)) (omega (arith, old, new, rises)) (omega (arith, new, linked, of_target, o, l))
    (omega (arith, of_target, long, w)) (omega (arith, of_target, more, w))
    (history-linked hash history) (headers-recorded hash history s h o (omega arith)) (headers-recorded hash history t h (omega arith) w)

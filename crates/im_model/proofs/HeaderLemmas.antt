-- The Alh of a history as it grows, and each header in the chain of those before it.
use Rattle.std.proofs.Common.{◌≡◌, ◌<◌, ◌≤◌, length, ℕ, zero, suc, ◌+◌, ◌-◌, List, [], ◌∷◌, ◌++◌, take, drop, take-take, refl, arith, ap, ◌∙◌, sym, get_or, length-append, if◌then◌else◌}
use Rattle.std.proofs.Math.Seq.{get_or-append_seam}
use Rattle.std.proofs.lemmas.List.{get_or_append_left, get_or_default, length-take-le, take-append-drop, take_more, get_or-take}
use Rattle.std.proofs.lemmas.Bool.{ne_eqb}
use Rattle.im_digest.specs.Digests.{Hash}
use Rattle.im_model.specs.Headers.{alh}
use Rattle.im_model.specs.History.{alhs_from, alhs_of, alh_of, first_alh, header_of, next_header, no_transaction}
use Rattle.im_model.specs.declared.headers.Header.{Header}
use Rattle.im_model.specs.declared.transactions.Transaction.{Transaction}
use Rattle.im_model.proofs.HistoryLemmas.{length-alhs_of}

-- the Alh, and that of one more transaction
abbrev pub grown : Hash → List (List ℕ) → Transaction → List (List ℕ)
grown hash alhs tx = alhs ++ alh hash (next_header hash alhs tx) ∷ []

-- the Alh of more transactions stand behind those of the first
alhs_from-append : (hash : Hash) (alhs : List (List ℕ)) (txs more : List Transaction) → alhs_from hash alhs (txs ++ more) ≡ alhs_from hash (alhs_from hash alhs txs) more
alhs_from-append hash alhs [] more = refl
alhs_from-append hash alhs (tx ∷ txs) more = alhs_from-append hash (grown hash alhs tx) txs more

-- one transaction more adds its Alh
pub alhs-next : (hash : Hash) (history : List Transaction) (tx : Transaction) → alhs_of hash (history ++ tx ∷ []) ≡ grown hash (alhs_of hash history) tx
alhs-next hash history tx = alhs_from-append hash [] history (tx ∷ [])

-- the Alh that were there stay
pub alhs_from-first : (hash : Hash) (alhs : List (List ℕ)) (txs : List Transaction) (i : ℕ) (d : List ℕ) → i < length alhs → get_or (alhs_from hash alhs txs) i d ≡ get_or alhs i d
alhs_from-first hash alhs [] i d h = refl
alhs_from-first hash alhs (tx ∷ txs) i d h =
    let one : List (List ℕ) = alh hash (next_header hash alhs tx) ∷ [] in
    let longer : length (alhs ++ one) ≡ length alhs + 1 = length-append alhs one in
    alhs_from-first hash (alhs ++ one) txs i d (omega arith) ∙ get_or_append_left alhs one d i h

-- the Alh of the first k transactions end with that of header k
alhs_of-next : (hash : Hash) (h : List Transaction) (k : ℕ) → k < length h → alhs_of hash (take (k + 1) h) ≡ alhs_of hash (take k h) ++ alh hash (header_of hash h (k + 1)) ∷ []
alhs_of-next hash h k within =
    let place : k + 1 - 1 ≡ k = omega arith in
    let tx : Transaction = get_or h k no_transaction in
    let same : next_header hash (alhs_of hash (take k h)) tx ≡ header_of hash h (k + 1) = sym (ap (λ i. next_header hash (alhs_of hash (take i h)) (get_or h i no_transaction)) place) in
    ap (alhs_of hash) (take_more h k no_transaction within)
    ∙ alhs-next hash (take k h) tx
    ∙ ap (λ (x : Header). alhs_of hash (take k h) ++ alh hash x ∷ []) same

-- the Alh of the whole history begin with those of its first transactions
alhs_of-whole : (hash : Hash) (h : List Transaction) (k i : ℕ) (d : List ℕ) → i < k → k ≤ length h → get_or (alhs_of hash h) i d ≡ get_or (alhs_of hash (take k h)) i d
alhs_of-whole hash h k i d below within =
    let front : List Transaction = take k h in
    let count : length (alhs_of hash front) ≡ k = length-alhs_of hash front ∙ length-take-le k h within in
    ap (λ (txs : List Transaction). get_or (alhs_of hash txs) i d) (sym (take-append-drop k h))
    ∙ ap (λ (xs : List (List ℕ)). get_or xs i d) (alhs_from-append hash [] front (drop k h))
    ∙ alhs_from-first hash (alhs_of hash front) (drop k h) i d (omega arith)

-- the Alh of number k + 1 is that of its header
pub alh_of-next : (hash : Hash) (h : List Transaction) (k : ℕ) → k < length h → alh_of hash h (k + 1) ≡ alh hash (header_of hash h (k + 1))
alh_of-next hash h k within =
    let a : List ℕ = alh hash (header_of hash h (k + 1)) in
    let front : List (List ℕ) = alhs_of hash (take k h) in
    let place : k + 1 - 1 ≡ k = omega arith in
    let count : length front ≡ k = length-alhs_of hash (take k h) ∙ length-take-le k h (omega arith) in
    ap (λ b. if b then first_alh hash else get_or (alhs_of hash h) (k + 1 - 1) []) (ne_eqb (k + 1) 0 (λ e. omega arith))
    ∙ ap (λ i. get_or (alhs_of hash h) i []) place
    ∙ alhs_of-whole hash h (k + 1) k [] (omega arith) (omega arith)
    ∙ ap (λ (xs : List (List ℕ)). get_or xs k []) (alhs_of-next hash h k within)
    ∙ ap (λ i. get_or (front ++ a ∷ []) i []) (sym count)
    ∙ get_or-append_seam front a [] []

-- the first header has the digest of the empty string before it
previous-first : (hash : Hash) (alhs : List (List ℕ)) (tx : Transaction) → length alhs ≡ 0 → (next_header hash alhs tx).prev_alh ≡ first_alh hash
unfolding next_header
previous-first hash [] tx e = refl
previous-first hash (a ∷ alhs) tx e = absurd (omega arith)

previous-next : (hash : Hash) (alhs : List (List ℕ)) (tx : Transaction) → (next_header hash alhs tx).prev_alh ≡ get_or alhs (length alhs - 1) (first_alh hash)
unfolding next_header
previous-next hash alhs tx = refl

-- a header is numbered behind those before it
pub next-id : (hash : Hash) (alhs : List (List ℕ)) (tx : Transaction) → (next_header hash alhs tx).id ≡ length alhs + 1
unfolding next_header
next-id hash alhs tx = refl

-- and tells the tree of its transaction
pub next-bl : (hash : Hash) (alhs : List (List ℕ)) (tx : Transaction) → (next_header hash alhs tx).bl_tx_id ≡ tx.bl
unfolding next_header
next-bl hash alhs tx = refl

-- header k + 1 has the number k + 1
pub header-number : (hash : Hash) (h : List Transaction) (k : ℕ) → k < length h → (header_of hash h (k + 1)).id ≡ k + 1
header-number hash h k within =
    let place : k + 1 - 1 ≡ k = omega arith in
    let count : length (alhs_of hash (take (k + 1 - 1) h)) ≡ k =
    length-alhs_of hash (take (k + 1 - 1) h) ∙ ap (λ i. length (take i h)) place ∙ length-take-le k h (omega arith) in
    next-id hash (alhs_of hash (take (k + 1 - 1) h)) (get_or h (k + 1 - 1) no_transaction) ∙ ap (λ i. i + 1) count

-- header k + 1 has the Alh of number k before it
pub header-previous : (hash : Hash) (h : List Transaction) (k : ℕ) → k < length h → (header_of hash h (k + 1)).prev_alh ≡ alh_of hash h k
header-previous hash h zero within = previous-first hash (alhs_of hash (take (0 + 1 - 1) h)) (get_or h (0 + 1 - 1) no_transaction) refl
header-previous hash h (suc k) within =
    let place : suc k + 1 - 1 ≡ suc k = omega arith in
    let front : List (List ℕ) = alhs_of hash (take (suc k) h) in
    let count : length front ≡ suc k = length-alhs_of hash (take (suc k) h) ∙ length-take-le (suc k) h (omega arith) in
    let last : length front - 1 ≡ k = omega arith in
    let before : suc k - 1 ≡ k = omega arith in
    ap (λ i. (next_header hash (alhs_of hash (take i h)) (get_or h i no_transaction)).prev_alh) place
    ∙ previous-next hash front (get_or h (suc k) no_transaction)
    ∙ ap (λ i. get_or front i (first_alh hash)) last
    ∙ get_or_default front k (first_alh hash) [] (omega arith)
    ∙ sym (alhs_of-whole hash h (suc k) k [] (omega arith) (omega arith))
    ∙ ap (λ i. get_or (alhs_of hash h) i []) (sym before)
    ∙ sym (ap (λ b. if b then first_alh hash else get_or (alhs_of hash h) (suc k - 1) []) (ne_eqb (suc k) 0 (λ e. omega arith)))

-- header k of a history is that of each of its beginnings that has it
pub header-prefix : (hash : Hash) (h : List Transaction) (k n : ℕ) → 1 ≤ k → k ≤ n → n ≤ length h → header_of hash (take n h) k ≡ header_of hash h k
header-prefix hash h k n some within few =
    let shorter : take (k - 1) (take n h) ≡ take (k - 1) h = take-take (k - 1) n h (omega arith) in
    ap (λ (txs : List Transaction). next_header hash (alhs_of hash txs) (get_or (take n h) (k - 1) no_transaction)) shorter
    ∙ ap (next_header hash (alhs_of hash (take (k - 1) h))) (get_or-take n h (k - 1) no_transaction (omega arith))

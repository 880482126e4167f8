-- The headers of a history: their number, each of them, and what becomes of them with one transaction more.
use Rattle.std.proofs.Common.{◌≡◌, ◌<◌, ◌≤◌, length, ℕ, suc, zero, ◌-◌, List, [], ◌∷◌, ◌++◌, append-nil, append_assoc, map, take, refl, arith, ap, ◌∙◌, sym, get_or}
use Rattle.im_digest.specs.Digests.{Hash}
use Rattle.im_model.specs.Headers.{inner, alh}
use Rattle.im_model.specs.History.{next_header, alhs_from, alhs_of, no_transaction, header_of}
use Rattle.im_model.specs.declared.headers.Header.{Header}
use Rattle.im_model.specs.declared.transactions.Transaction.{Transaction}
use Rattle.im_model.proofs.HeaderLemmas.{grown}
use Rattle.im_proof.specs.Built.{inners_from, inners_of, headers_from, headers_of}

length-from : (hash : Hash) (alhs : List (List ℕ)) (txs : List Transaction) → length (headers_from hash alhs txs) ≡ length txs
length-from hash alhs [] = refl
length-from hash alhs (tx ∷ txs) = ap suc (length-from hash (grown hash alhs tx) txs)

-- there is a header for each transaction
pub headers-length : (hash : Hash) (history : List Transaction) → length (headers_of hash history) ≡ length history
headers-length hash history = length-from hash [] history

nth-from : (hash : Hash) (alhs : List (List ℕ)) (txs : List Transaction) (i : ℕ) (default : Header) → i < length txs
    → get_or (headers_from hash alhs txs) i default ≡ next_header hash (alhs_from hash alhs (take i txs)) (get_or txs i no_transaction)
nth-from hash alhs [] i default h = absurd (omega arith)
nth-from hash alhs (tx ∷ txs) zero default h = refl
nth-from hash alhs (tx ∷ txs) (suc i) default h = nth-from hash (grown hash alhs tx) txs i default (omega arith)

-- the header at place k - 1 is that of transaction k
pub headers-nth : (hash : Hash) (history : List Transaction) (k : ℕ) (default : Header) → 1 ≤ k → k ≤ length history
    → get_or (headers_of hash history) (k - 1) default ≡ header_of hash history k
headers-nth hash history k default some within = nth-from hash [] history (k - 1) default (omega arith)

alhs-from : (hash : Hash) (alhs : List (List ℕ)) (txs : List Transaction) → alhs_from hash alhs txs ≡ alhs ++ map (alh hash) (headers_from hash alhs txs)
alhs-from hash alhs [] = sym (append-nil alhs)
alhs-from hash alhs (tx ∷ txs) =
    alhs-from hash (grown hash alhs tx) txs
    ∙ append_assoc alhs (alh hash (next_header hash alhs tx) ∷ []) (map (alh hash) (headers_from hash (grown hash alhs tx) txs))

-- the Alh of a history are those of its headers
pub alhs-are : (hash : Hash) (history : List Transaction) → alhs_of hash history ≡ map (alh hash) (headers_of hash history)
alhs-are hash history = alhs-from hash [] history

inners-from : (hash : Hash) (alhs : List (List ℕ)) (txs : List Transaction) → inners_from hash alhs txs ≡ map (inner hash) (headers_from hash alhs txs)
inners-from hash alhs [] = refl
inners-from hash alhs (tx ∷ txs) = ap (λ l. inner hash (next_header hash alhs tx) ∷ l) (inners-from hash (grown hash alhs tx) txs)

-- so are the inner digests
pub inners-are : (hash : Hash) (history : List Transaction) → inners_of hash history ≡ map (inner hash) (headers_of hash history)
inners-are hash history = inners-from hash [] history

headers-onward : (hash : Hash) (alhs : List (List ℕ)) (txs : List Transaction) (tx : Transaction)
    → headers_from hash alhs (txs ++ tx ∷ []) ≡ headers_from hash alhs txs ++ next_header hash (alhs_from hash alhs txs) tx ∷ []
headers-onward hash alhs [] tx = refl
headers-onward hash alhs (t ∷ txs) tx = ap (λ l. next_header hash alhs t ∷ l) (headers-onward hash (grown hash alhs t) txs tx)

-- one transaction more adds its header
pub headers-next : (hash : Hash) (history : List Transaction) (tx : Transaction)
    → headers_of hash (history ++ tx ∷ []) ≡ headers_of hash history ++ next_header hash (alhs_of hash history) tx ∷ []
headers-next hash history tx = headers-onward hash [] history tx

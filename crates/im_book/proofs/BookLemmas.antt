-- Books that grow by a transaction.
use Rattle.std.proofs.Common.{◌≡◌, ◌<◌, ◌≤◌, length, ℕ, ◌+◌, ◌-◌, List, [], ◌∷◌, ◌++◌, arith, ap, subst, ◌∙◌, sym, length-append, get_or}
use Rattle.std.proofs.lemmas.List.{get_or-map}
use Rattle.im_digest.specs.Digests.{Hash}
use Rattle.im_model.specs.Headers.{alh}
use Rattle.im_model.specs.History.{alhs_of, header_of, next_header, IsHistory, IsTransaction}
use Rattle.im_model.specs.declared.headers.Header.{Header}
use Rattle.im_model.specs.declared.transactions.Transaction.{Transaction}
use Rattle.im_model.proofs.HistoryLemmas.{length-alhs_of, Follow-behind}
use Rattle.im_proof.specs.Built.{headers_of}
use Rattle.im_model.proofs.HeaderLemmas.{alhs-next}
use Rattle.im_proof.proofs.HeaderLemmas.{alhs-are, headers-length, headers-next, headers-nth}
use Rattle.im_book.specs.Booked.{last_bl, Booked, IsBook}

-- a history with one transaction more
pub history-behind : (history : List Transaction) (tx : Transaction) → IsHistory history → length history < 1048576 → IsTransaction (length history) tx → last_bl history ≤ tx.bl
    → IsHistory (history ++ tx ∷ [])
history-behind history tx h room is over =
    let one : List Transaction = tx ∷ [] in
    let size : length (history ++ one) ≡ length history + 1 = length-append history one in
    let place : length history ≡ 0 + length history = omega arith in
    let P : ℕ → Type 0 = λ m. IsTransaction m tx in
    record {
      few = omega arith;
      follow = Follow-behind 0 0 history tx h.follow over (subst P place is);
    }

-- equal lists are those of the same history
pub book-same : (hash : Hash) (a b : Booked) → a.transactions ≡ b.transactions → a.headers ≡ b.headers → a.alhs ≡ b.alhs → IsBook hash b → IsBook hash a
book-same hash a b transactions headers alhs is = record {
  history = subst IsHistory (sym transactions) is.history;
  headers = headers ∙ is.headers ∙ ap (headers_of hash) (sym transactions);
  alhs = alhs ∙ is.alhs ∙ ap (alhs_of hash) (sym transactions);
}

-- the lists with those of one transaction more
abbrev pub grown_by : Hash → Booked → Transaction → Booked
grown_by hash book tx = record {
  transactions = book.transactions ++ tx ∷ [];
  headers = book.headers ++ next_header hash book.alhs tx ∷ [];
  alhs = book.alhs ++ alh hash (next_header hash book.alhs tx) ∷ [];
  keyed = book.keyed;
  room = book.room;
}

-- a book grows by a transaction
pub book-grown : (hash : Hash) (book : Booked) (tx : Transaction) → IsBook hash book → length book.transactions < 1048576 → IsTransaction (length book.transactions) tx → last_bl book.transactions ≤ tx.bl
    → IsBook hash (grown_by hash book tx)
book-grown hash book tx b room is over = record {
  history = history-behind book.transactions tx b.history room is over;
  headers = ap (λ (hs : List Header). hs ++ next_header hash book.alhs tx ∷ []) b.headers
      ∙ ap (λ (ds : List (List ℕ)). headers_of hash book.transactions ++ next_header hash ds tx ∷ []) b.alhs
      ∙ sym (headers-next hash book.transactions tx);
  alhs = ap (λ (ds : List (List ℕ)). ds ++ alh hash (next_header hash ds tx) ∷ []) b.alhs ∙ sym (alhs-next hash book.transactions tx);
}

-- so does one whose lists grew by the transaction, its header and its Alh
pub book-placed : (hash : Hash) (before after : Booked) (tx : Transaction) (header : Header) (digest : List ℕ) → IsBook hash before → length before.transactions < 1048576
    → IsTransaction (length before.transactions) tx → last_bl before.transactions ≤ tx.bl → header ≡ next_header hash before.alhs tx → digest ≡ alh hash header
    → after.transactions ≡ before.transactions ++ tx ∷ [] → after.headers ≡ before.headers ++ header ∷ [] → after.alhs ≡ before.alhs ++ digest ∷ [] → IsBook hash after
book-placed hash before after tx header digest b room is over header_is digest_is transactions headers alhs =
    book-same hash after (grown_by hash before tx) transactions
    (headers ∙ ap (λ (x : Header). before.headers ++ x ∷ []) header_is)
    (alhs ∙ ap (λ (x : List ℕ). before.alhs ++ x ∷ []) (digest_is ∙ ap (alh hash) header_is))
    (book-grown hash before tx b room is over)

-- there is a header for each transaction
pub headers-counted : (hash : Hash) (book : Booked) → IsBook hash book → length book.headers ≡ length book.transactions
headers-counted hash book b = ap length b.headers ∙ headers-length hash book.transactions

-- and an Alh
pub alhs-counted : (hash : Hash) (book : Booked) → IsBook hash book → length book.alhs ≡ length book.transactions
alhs-counted hash book b = ap length b.alhs ∙ length-alhs_of hash book.transactions

-- the header at place k - 1 is that of transaction k
pub header-kept : (hash : Hash) (book : Booked) (k : ℕ) (default : Header) → IsBook hash book → 1 ≤ k → k ≤ length book.transactions
    → get_or book.headers (k - 1) default ≡ header_of hash book.transactions k
header-kept hash book k default b some within =
    ap (λ (hs : List Header). get_or hs (k - 1) default) b.headers ∙ headers-nth hash book.transactions k default some within

-- and the Alh there is that header's
pub alh-kept : (hash : Hash) (book : Booked) (k : ℕ) (default : List ℕ) → IsBook hash book → 1 ≤ k → k ≤ length book.transactions
    → get_or book.alhs (k - 1) default ≡ alh hash (header_of hash book.transactions k)
alh-kept hash book k default b some within =
    let header : Header = header_of hash book.transactions k in
    let all : List Header = headers_of hash book.transactions in
    let many : length all ≡ length book.transactions = headers-length hash book.transactions in
    let inside : k - 1 < length all = omega (arith, many, some, within) in
    ap (λ (ds : List (List ℕ)). get_or ds (k - 1) default) (b.alhs ∙ alhs-are hash book.transactions)
    ∙ get_or-map (alh hash) all (k - 1) header default inside
    ∙ ap (alh hash) (headers-nth hash book.transactions k header some within)

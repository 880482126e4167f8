-- A history is a list of transactions. Their headers, and the limits within which they lie.
use Rattle.std.specs.Prelude.{◌≡◌, ◌≢◌, ℕ, ◌≤◌, ◌+◌, ◌-◌, ◌==◌, Bool, List, [], ◌∷◌, ◌++◌, length, take, map, pos, replicate, FitsSigned, slice_index_or, if◌then◌else◌, All, AllPairs}
use Rattle.std.specs.Int.{w64}
use Rattle.im_digest.specs.Digests.{Hash}
use Rattle.im_model.specs.Trees.{root}
use Rattle.im_model.specs.Entries.{attributes, entry_digest}
use Rattle.im_model.specs.Headers.{alh}
use Rattle.im_model.specs.declared.entries.Entry.{Entry}
use Rattle.im_model.specs.declared.transactions.Transaction.{Transaction}
use Rattle.im_model.specs.declared.headers.Header.{Header}

-- 32 zero octets
abbrev pub no_digest : List ℕ
no_digest = replicate 32 0

-- the Alh of number 0: the digest of the empty string
abbrev pub first_alh : Hash → List ℕ
first_alh hash = hash []

-- BlRoot: the root over the first Alh, or zeros where there is none
abbrev pub bl_root_of : Hash → List (List ℕ) → ℕ → List ℕ
bl_root_of hash alhs bl = if bl == 0 then no_digest else root hash (take bl alhs)

-- Eh: the root over the digests of the entries
abbrev pub entries_root : Hash → List Entry → List ℕ
entries_root hash entries = root hash (map (entry_digest hash) entries)

-- the header of a transaction, where these are the Alh of all those before it
unfoldable pub next_header : Hash → List (List ℕ) → Transaction → Header
next_header hash alhs tx = record {
  id = length alhs + 1;
  ts = tx.ts;
  bl_tx_id = tx.bl;
  bl_root = bl_root_of hash alhs tx.bl;
  prev_alh = slice_index_or alhs (length alhs - 1) (first_alh hash);
  version = 1;
  md = [];
  nentries = length tx.entries;
  eh = entries_root hash tx.entries;
}

-- these Alh, and behind them those of the transactions that follow
abbrev pub alhs_from : Hash → List (List ℕ) → List Transaction → List (List ℕ)
alhs_from hash alhs [] = alhs
alhs_from hash alhs (tx ∷ txs) = alhs_from hash (alhs ++ alh hash (next_header hash alhs tx) ∷ []) txs

-- the Alh of each transaction of a history, in order
abbrev pub alhs_of : Hash → List Transaction → List (List ℕ)
alhs_of hash history = alhs_from hash [] history

-- stands where a number is beyond the history
abbrev pub no_transaction : Transaction
no_transaction = record { ts = pos 0; entries = []; bl = 0 }

-- transaction k of a history, for k from 1 to its length
abbrev pub transaction_of : List Transaction → ℕ → Transaction
transaction_of history k = slice_index_or history (k - 1) no_transaction

-- the header of transaction k, for k from 1 to the length of the history: what stands behind it doesn't
-- matter
abbrev pub header_of : Hash → List Transaction → ℕ → Header
header_of hash history k = next_header hash (alhs_of hash (take (k - 1) history)) (transaction_of history k)

-- the Alh of number k: of 0 it is the digest of the empty string, and else that of transaction k
abbrev pub alh_of : Hash → List Transaction → ℕ → List ℕ
alh_of hash history k = if k == 0 then first_alh hash else slice_index_or (alhs_of hash history) (k - 1) []

-- an entry within the limits, with the metadata of the two attributes or none
pub record IsEntry (entry : Entry) : Type 0 where
  pub deleted : Bool
  pub non_indexable : Bool
  pub md : entry.md ≡ attributes deleted non_indexable
  pub key_given : 1 ≤ length entry.key
  pub key_short : length entry.key ≤ 1024
  pub value_short : length entry.value ≤ 4096

-- a transaction within the limits, after `before` others
pub record IsTransaction (before : ℕ) (tx : Transaction) : Type 0 where
  pub some : 1 ≤ length tx.entries
  pub few : length tx.entries ≤ 1024
  pub entries : All IsEntry tx.entries
  pub distinct : AllPairs (λ a b. a.key ≢ b.key) tx.entries
  pub linked : tx.bl ≤ before
  pub timed : FitsSigned w64 tx.ts

-- transactions that follow each other, after `before` others of which the last had this bl
abbrev pub Follow : ℕ → ℕ → List Transaction → Type 0
Follow before bl [] = Unit {0}
Follow before bl (tx ∷ txs) = IsTransaction before tx × (bl ≤ tx.bl) × Follow (before + 1) tx.bl txs

-- bl of the last of these transactions, and this one where there is none
abbrev pub last_bl_or : ℕ → List Transaction → ℕ
last_bl_or bl [] = bl
last_bl_or bl (tx ∷ txs) = last_bl_or tx.bl txs

-- a history within the limits
pub record IsHistory (history : List Transaction) : Type 0 where
  pub few : length history ≤ 1048576
  pub follow : Follow 0 0 history

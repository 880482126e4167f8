-- The texts of replies.
use Rattle.std.specs.Prelude.{ℕ, ◌==◌, ◌||◌, List, [], ◌++◌, length, map, nat_lt, slice_index_or, if◌then◌else◌, codes}
use Rattle.std.specs.Fmt.{decimal}
use Rattle.hex.specs.Hex.{encode_lower}
use Rattle.im_digest.specs.Digests.{Hash}
use Rattle.im_model.specs.Headers.{alh}
use Rattle.im_model.specs.Entries.{entry_digest}
use Rattle.im_model.specs.History.{header_of, transaction_of}
use Rattle.im_model.specs.declared.entries.Entry.{Entry}
use Rattle.im_model.specs.declared.headers.Header.{Header}
use Rattle.im_model.specs.declared.transactions.Transaction.{Transaction}
use Rattle.im_draft.specs.declared.refusals.PrepareError.{PrepareError}
use Rattle.im_draft.specs.declared.refusals.PrepareError.TheVariants.{Memory, NoEntries, TooMany, KeyEmpty, KeyLong, ValueLong, Twice}
use Rattle.im_wire.specs.Headers.{header_text}
use Rattle.im_proof.specs.Between.{anchor_between, dual_between, no_entry}
use Rattle.im_proof.specs.Built.{path_of}
use Rattle.im_proof.specs.declared.proofs.DualProof.{DualProof}
use Rattle.im_wire.specs.Texts.{text}
use Rattle.im_wire.specs.declared.messages.Message.TheVariants as says

-- of a transaction that was placed: `tx <id>`
unfoldable pub tx_reply : ℕ → List ℕ
tx_reply n = codes "tx " ++ decimal n

-- of a key that begins with octet 00: `refused reserved <i>`
unfoldable pub reserved_reply : ℕ → List ℕ
reserved_reply i = codes "refused reserved " ++ decimal i

-- of drafts that are no transaction; want of memory has no reply
unfoldable pub refused_reply : PrepareError → List ℕ
refused_reply Memory = []
refused_reply NoEntries = codes "refused noentries"
refused_reply (TooMany n) = codes "refused toomany " ++ decimal n
refused_reply (KeyEmpty i) = codes "refused keyempty " ++ decimal i
refused_reply (KeyLong i len) = codes "refused keylong " ++ decimal i ++ codes " " ++ decimal len
refused_reply (ValueLong i len) = codes "refused valuelong " ++ decimal i ++ codes " " ++ decimal len
refused_reply (Twice i j) = codes "refused twice " ++ decimal i ++ codes " " ++ decimal j

-- of a history that holds as many transactions as it may
abbrev pub full_reply : List ℕ
full_reply = codes "full"

-- `header <alh> <header>`
unfoldable pub shown_header : Hash → Header → List ℕ
shown_header hash header =
    codes "header " ++ encode_lower (alh hash header) ++ codes " " ++ header_text header

-- of a number above the length of the history: `refused beyond <length>`
unfoldable pub beyond_reply : ℕ → List ℕ
beyond_reply n = codes "refused beyond " ++ decimal n

-- of `header k`, after these transactions
unfoldable pub header_reply : Hash → List Transaction → ℕ → List ℕ
header_reply hash history k =
    if k == 0 then codes "refused order 0 0"
    else (if nat_lt (length history) k then beyond_reply (length history)
    else shown_header hash (header_of hash history k))

-- of a state, after these transactions: the message with the last one's header
unfoldable pub state_reply : Hash → List Transaction → List ℕ
state_reply hash history =
    if length history == 0 then codes "refused empty"
    else text (says.State (header_of hash history (length history)))

-- of two numbers of which the first is 0 or above the second: `refused order <first> <second>`
unfoldable pub order_reply : ℕ → ℕ → List ℕ
order_reply first second = codes "refused order " ++ decimal first ++ codes " " ++ decimal second

-- what is shown of transactions s and t of a history; else the refusal of s, where it is 0 or above t, or of t,
-- where it is beyond the history
abbrev pub between_reply : List Transaction → ℕ → ℕ → List ℕ → List ℕ
between_reply history s t shown =
    if s == 0 || nat_lt t s then order_reply s t
    else (if nat_lt (length history) t then beyond_reply (length history)
    else shown)

-- of `prove s t`, after these transactions
unfoldable pub prove_reply : Hash → List Transaction → ℕ → ℕ → List ℕ
prove_reply hash history s t = between_reply history s t (text (says.Dual (dual_between hash history s t)))

-- of `advance s t`, after these transactions
unfoldable pub advance_reply : Hash → List Transaction → ℕ → ℕ → List ℕ
advance_reply hash history s t =
    between_reply history s t (text (says.Advance (dual_between hash history s t) (anchor_between hash history s t)))

-- of an index that is not below the number of a transaction's entries: `refused noentry <number>`
unfoldable pub no_entry_reply : ℕ → List ℕ
no_entry_reply width = codes "refused noentry " ++ decimal width

-- entry i of these, from 0, and its path among them, with a dual proof from their transaction
unfoldable pub item_shown : Hash → DualProof → List Entry → ℕ → List ℕ
item_shown hash dual entries i =
    text (says.Item dual (slice_index_or entries i no_entry) i (path_of hash (map (entry_digest hash) entries) i))

-- of `item t i` under state s, after these transactions
unfoldable pub item_reply : Hash → List Transaction → ℕ → ℕ → ℕ → List ℕ
item_reply hash history t i s =
    let entries = (transaction_of history t).entries in
    between_reply history t s
    (if nat_lt i (length entries) then item_shown hash (dual_between hash history t s) entries i
    else no_entry_reply (length entries))

-- of a link
abbrev pub linked_reply : List ℕ
linked_reply = codes "linked"

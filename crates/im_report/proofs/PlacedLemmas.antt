-- Which replies say that something was placed.
use Rattle.std.proofs.Common.{◌≡◌, ◌==◌, ◌||◌, ℕ, List, [], ◌∷◌, Bool, true, false, codes, refl, sym, ◌∙◌, ap, if◌then◌else◌, nat_eq, nat_lt, length, Option, Some, None, inl, inr, ◌++◌, take}
use Rattle.std.specs.Fmt.{decimal}
use Rattle.std.specs.List.{starts_with}
use Rattle.std.proofs.lemmas.Bool.{false_from_ne_true, or_left, or_right}
use Rattle.std.proofs.lemmas.Bool.Decides.{Decides-eqb}
use Rattle.std.proofs.lemmas.Slice.Eq.{bytes_eq-Decides, starts_is}
use Rattle.std.specs.Str.{bytes_eq}
use Rattle.im_text.proofs.CutLemmas.{heads-differ}
use Rattle.im_digest.specs.Digests.{Hash}
use Rattle.im_model.specs.History.{header_of, transaction_of}
use Rattle.im_model.specs.declared.entries.Entry.{Entry}
use Rattle.im_model.specs.declared.headers.Header.{Header}
use Rattle.im_model.specs.declared.transactions.Transaction.{Transaction}
use Rattle.im_draft.specs.declared.refusals.PrepareError.{PrepareError}
use Rattle.im_draft.specs.declared.refusals.PrepareError.TheVariants.{Memory, NoEntries, TooMany, KeyEmpty, KeyLong, ValueLong, Twice}
use Rattle.im_proof.specs.declared.proofs.DualProof.{DualProof}
use Rattle.im_wire.specs.Texts.{text}
use Rattle.im_wire.specs.declared.messages.Message.{Message}
use Rattle.im_wire.specs.declared.messages.Message.TheVariants.{State, Dual, Advance, Item}
use Rattle.im_versions.specs.declared.versions.Version.{Version}
use Rattle.im_versions.specs.declared.refusals.PlaceError.{PlaceError}
use Rattle.im_versions.specs.declared.refusals.PlaceError.TheVariants as place
use Rattle.im_report.specs.Reads.{history_reply, bare_or_hex, place_reply, scan_reply, value_reply, IsGetAnswer, IsReadAt, IsScanAnswer}
use Rattle.im_proof.specs.Between.{anchor_between, dual_between}
use Rattle.im_report.specs.Report.{tells_tx}
use Rattle.im_report.specs.Statements.{tx_read_reply}
use Rattle.im_report.specs.Replies.{advance_reply, between_reply, beyond_reply, full_reply, header_reply, item_reply, item_shown, linked_reply, no_entry_reply, order_reply, prove_reply, refused_reply, reserved_reply, shown_header, state_reply, tx_reply}

-- `tx <n>` says so
pub tx-placed : (n : ℕ) → tells_tx (tx_reply n) n ≡ true
tx-placed n =
    or_left (bytes_eq (tx_reply n) (tx_reply n)) (starts_with nat_eq (tx_reply n) (tx_reply n ++ codes " read ")) ((bytes_eq-Decides (tx_reply n) (tx_reply n)).1 refl)

-- and so does `tx <n> read <m>`
pub tx-read-placed : (n read : ℕ) → tells_tx (tx_read_reply n read) n ≡ true
unfolding tx_read_reply
tx-read-placed n read =
    or_right (bytes_eq (tx_read_reply n read) (tx_reply n)) (starts_with nat_eq (tx_read_reply n read) (tx_reply n ++ codes " read "))
    ((starts_is Decides-eqb (tx_read_reply n read) (tx_reply n ++ codes " read ") _ refl).1 (decimal read) refl)

neither : (a b : Bool) → a ≡ false → b ≡ false → (a || b) ≡ false
neither a b x y = ap (λ (c : Bool). c || b) x ∙ y

-- a reply that begins with another letter doesn't
pub other-letter : (o : ℕ) (rest reply : List ℕ) (n : ℕ) → (o == 116) ≡ false → reply ≡ o ∷ rest → tells_tx reply n ≡ false
unfolding tx_reply
other-letter o rest reply n other e =
    neither (bytes_eq reply (tx_reply n)) (starts_with nat_eq reply (tx_reply n ++ codes " read "))
    (false_from_ne_true (bytes_eq reply (tx_reply n)) (λ h. heads-differ o 116 rest _ other (sym e ∙ (bytes_eq-Decides reply (tx_reply n)).0 h)))
    (false_from_ne_true (starts_with nat_eq reply (tx_reply n ++ codes " read "))
    (λ h. heads-differ o 116 rest _ other (sym e ∙ (starts_is Decides-eqb reply (tx_reply n ++ codes " read ") _ refl).0 h)))

-- nor does one without a letter
pub none-not-placed : (n : ℕ) → tells_tx [] n ≡ false
unfolding tx_reply
none-not-placed n = refl

pub reserved-not-placed : (i n : ℕ) → tells_tx (reserved_reply i) n ≡ false
unfolding reserved_reply
reserved-not-placed i n = other-letter 114 _ (reserved_reply i) n refl refl

pub full-not-placed : (n : ℕ) → tells_tx full_reply n ≡ false
full-not-placed n = other-letter 102 _ full_reply n refl refl

pub refused-not-placed : (why : PrepareError) (n : ℕ) → (why ≡ Memory → ⊥) → tells_tx (refused_reply why) n ≡ false
unfolding refused_reply
refused-not-placed Memory n h = absurd (h refl)
refused-not-placed NoEntries n h = other-letter 114 _ (refused_reply NoEntries) n refl refl
refused-not-placed (TooMany m) n h = other-letter 114 _ (refused_reply (TooMany m)) n refl refl
refused-not-placed (KeyEmpty i) n h = other-letter 114 _ (refused_reply (KeyEmpty i)) n refl refl
refused-not-placed (KeyLong i len) n h = other-letter 114 _ (refused_reply (KeyLong i len)) n refl refl
refused-not-placed (ValueLong i len) n h = other-letter 114 _ (refused_reply (ValueLong i len)) n refl refl
refused-not-placed (Twice i j) n h = other-letter 114 _ (refused_reply (Twice i j)) n refl refl

pub shown-not-placed : (hash : Hash) (header : Header) (n : ℕ) → tells_tx (shown_header hash header) n ≡ false
unfolding shown_header
shown-not-placed hash header n = other-letter 104 _ (shown_header hash header) n refl refl

pub beyond-not-placed : (m n : ℕ) → tells_tx (beyond_reply m) n ≡ false
unfolding beyond_reply
beyond-not-placed m n = other-letter 114 _ (beyond_reply m) n refl refl

pub header-not-placed : (hash : Hash) (history : List Transaction) (k n : ℕ) → tells_tx (header_reply hash history k) n ≡ false
unfolding header_reply
header-not-placed hash history k n =
    elim (k == 0) as (λ b. tells_tx (if b then codes "refused order 0 0" else (if nat_lt (length history) k then beyond_reply (length history) else shown_header hash (header_of hash history k))) n ≡ false) [
      | true ↦ other-letter 114 _ (codes "refused order 0 0") n refl refl
      | false ↦ elim (nat_lt (length history) k) as (λ b. tells_tx (if b then beyond_reply (length history) else shown_header hash (header_of hash history k)) n ≡ false) [
        | true ↦ beyond-not-placed (length history) n
        | false ↦ shown-not-placed hash (header_of hash history k) n
      ]
    ]

-- a message begins with a brace
pub message-not-placed : (m : Message) (n : ℕ) → tells_tx (text m) n ≡ false
unfolding text
message-not-placed (State header) n = other-letter 123 _ (text (State header)) n refl refl
message-not-placed (Dual dual) n = other-letter 123 _ (text (Dual dual)) n refl refl
message-not-placed (Advance dual anchor) n = other-letter 123 _ (text (Advance dual anchor)) n refl refl
message-not-placed (Item dual entry index path) n = other-letter 123 _ (text (Item dual entry index path)) n refl refl

pub state-not-placed : (hash : Hash) (history : List Transaction) (n : ℕ) → tells_tx (state_reply hash history) n ≡ false
unfolding state_reply
state-not-placed hash history n =
    elim (length history == 0) as (λ b. tells_tx (if b then codes "refused empty" else text (State (header_of hash history (length history)))) n ≡ false) [
      | true ↦ other-letter 114 _ (codes "refused empty") n refl refl
      | false ↦ message-not-placed (State (header_of hash history (length history))) n
    ]

pub order-not-placed : (s t n : ℕ) → tells_tx (order_reply s t) n ≡ false
unfolding order_reply
order-not-placed s t n = other-letter 114 _ (order_reply s t) n refl refl

-- what is shown between two transactions, or refused
between-not-placed : (history : List Transaction) (s t n : ℕ) (shown : List ℕ) → tells_tx shown n ≡ false → tells_tx (between_reply history s t shown) n ≡ false
between-not-placed history s t n shown h =
    elim (s == 0 || nat_lt t s) as (λ b. tells_tx (if b then order_reply s t else (if nat_lt (length history) t then beyond_reply (length history) else shown)) n ≡ false) [
      | true ↦ order-not-placed s t n
      | false ↦ elim (nat_lt (length history) t) as (λ b. tells_tx (if b then beyond_reply (length history) else shown) n ≡ false) [
        | true ↦ beyond-not-placed (length history) n
        | false ↦ h
      ]
    ]

pub prove-not-placed : (hash : Hash) (history : List Transaction) (s t n : ℕ) → tells_tx (prove_reply hash history s t) n ≡ false
unfolding prove_reply
prove-not-placed hash history s t n = between-not-placed history s t n (text (Dual (dual_between hash history s t))) (message-not-placed (Dual (dual_between hash history s t)) n)

pub advance-not-placed : (hash : Hash) (history : List Transaction) (s t n : ℕ) → tells_tx (advance_reply hash history s t) n ≡ false
unfolding advance_reply
advance-not-placed hash history s t n =
    let m : Message = Advance (dual_between hash history s t) (anchor_between hash history s t) in
    between-not-placed history s t n (text m) (message-not-placed m n)

pub no-entry-not-placed : (width n : ℕ) → tells_tx (no_entry_reply width) n ≡ false
unfolding no_entry_reply
no-entry-not-placed width n = other-letter 114 _ (no_entry_reply width) n refl refl

pub shown-item-not-placed : (hash : Hash) (dual : DualProof) (entries : List Entry) (i n : ℕ) → tells_tx (item_shown hash dual entries i) n ≡ false
unfolding item_shown
shown-item-not-placed hash dual entries i n = message-not-placed _ n

pub item-not-placed : (hash : Hash) (history : List Transaction) (t i s n : ℕ) → tells_tx (item_reply hash history t i s) n ≡ false
unfolding item_reply
item-not-placed hash history t i s n =
    let entries : List Entry = (transaction_of history t).entries in
    let dual : DualProof = dual_between hash history t s in
    between-not-placed history t s n (if nat_lt i (length entries) then item_shown hash dual entries i else no_entry_reply (length entries))
    (elim (nat_lt i (length entries)) as (λ b. tells_tx (if b then item_shown hash dual entries i else no_entry_reply (length entries)) n ≡ false) [
      | true ↦ shown-item-not-placed hash dual entries i n
      | false ↦ no-entry-not-placed (length entries) n
    ])

pub linked-not-placed : (n : ℕ) → tells_tx linked_reply n ≡ false
linked-not-placed n = other-letter 108 _ linked_reply n refl refl

-- why a transaction wasn't placed
pub place-not-placed : (why : PlaceError) (n : ℕ) → (why ≡ place.Memory → ⊥) → tells_tx (place_reply why) n ≡ false
unfolding place_reply
place-not-placed place.Memory n h = absurd (h refl)
place-not-placed place.Full n h = full-not-placed n
place-not-placed (place.Missing key) n h = other-letter 109 _ (place_reply (place.Missing key)) n refl refl
place-not-placed (place.Exists key tx) n h = other-letter 101 _ (place_reply (place.Exists key tx)) n refl refl
place-not-placed (place.Modified key tx) n h = other-letter 109 _ (place_reply (place.Modified key tx)) n refl refl

-- a value, or that there is none
pub value-not-placed : (version : Option Version) (n : ℕ) → tells_tx (value_reply version) n ≡ false
unfolding value_reply
value-not-placed None n = other-letter 97 _ (value_reply None) n refl refl
value-not-placed (Some version) n =
    elim (version.deleted) as (λ b. tells_tx (if b then codes "absent" else codes "value " ++ bare_or_hex version.value ++ codes " tx " ++ decimal version.tx) n ≡ false) [
      | true ↦ other-letter 97 _ (codes "absent") n refl refl
      | false ↦ other-letter 118 _ (codes "value " ++ bare_or_hex version.value ++ codes " tx " ++ decimal version.tx) n refl refl
    ]

-- live keys
pub scan-not-placed : (shown : List Version) (n : ℕ) → tells_tx (scan_reply shown) n ≡ false
unfolding scan_reply
scan-not-placed shown n = other-letter 115 _ (scan_reply shown) n refl refl

-- the versions of a key
pub history-not-placed : (versions : List Version) (n : ℕ) → tells_tx (history_reply versions) n ≡ false
unfolding history_reply
history-not-placed versions n = other-letter 104 _ (history_reply versions) n refl refl

-- what is read after a transaction, or refused as beyond them
read-at-not-placed : (history : List Transaction) (at : Option ℕ) (shows : List Transaction → List ℕ → Type 0) (reply : List ℕ) (n : ℕ)
    → ((hs : List Transaction) → shows hs reply → tells_tx reply n ≡ false) → IsReadAt history at shows reply → tells_tx reply n ≡ false
read-at-not-placed history None shows reply n each a = each history a
read-at-not-placed history (Some k) shows reply n each (inl (beyond, e)) = ap (λ (r : List ℕ). tells_tx r n) e ∙ beyond-not-placed (length history) n
read-at-not-placed history (Some k) shows reply n each (inr (within, a)) = each (take k history) a

-- the reply to `get`
pub get-not-placed : (history : List Transaction) (key : List ℕ) (at : Option ℕ) (reply : List ℕ) (n : ℕ) → IsReadAt history at (IsGetAnswer key) reply → tells_tx reply n ≡ false
get-not-placed history key at reply n a =
    read-at-not-placed history at (IsGetAnswer key) reply n (λ hs e. ap (λ (r : List ℕ). tells_tx r n) e ∙ value-not-placed _ n) a

-- the reply to `scan`
pub scanned-not-placed : (history : List Transaction) (prefix : List ℕ) (at : Option ℕ) (reply : List ℕ) (n : ℕ) → IsReadAt history at (IsScanAnswer prefix) reply → tells_tx reply n ≡ false
scanned-not-placed history prefix at reply n a =
    read-at-not-placed history at (IsScanAnswer prefix) reply n (λ hs shown. ap (λ (r : List ℕ). tells_tx r n) shown.2 ∙ scan-not-placed shown.0 n) a

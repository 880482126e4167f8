-- What a reply is that begins as an object does.
use Rattle.std.proofs.Common.{◌≡◌, ◌⊎◌, ◌≤◌, ◌<◌, length, ℕ, zero, suc, ◌==◌, ◌||◌, List, Bool, true, false, codes, refl, ap, ◌∙◌, arith, nat_lt, if◌then◌else◌, inl, inr, map, take, Option, Some, None, ◌++◌}
use Rattle.std.specs.Fmt.{decimal}
use Rattle.std.proofs.lemmas.Bool.{both_ways, eqb-false, ltb-false, ltb-true, or_parts}
use Rattle.std.specs.Prelude.{slice_index_or}
use Rattle.im_digest.specs.Digests.{Hash}
use Rattle.im_model.specs.Entries.{entry_digest}
use Rattle.im_model.specs.History.{header_of, transaction_of}
use Rattle.im_model.specs.declared.entries.Entry.{Entry}
use Rattle.im_model.specs.declared.headers.Header.{Header as TheHeader}
use Rattle.im_model.specs.declared.transactions.Transaction.{Transaction}
use Rattle.im_draft.specs.declared.drafts.Draft.{Draft}
use Rattle.im_draft.specs.declared.preconditions.Pre.{Pre}
use Rattle.im_draft.specs.declared.refusals.PrepareError.{PrepareError}
use Rattle.im_draft.specs.declared.refusals.PrepareError.TheVariants.{Memory, NoEntries, TooMany, KeyEmpty, KeyLong, ValueLong, Twice}
use Rattle.im_versions.specs.declared.versions.Version.{Version}
use Rattle.im_versions.specs.declared.refusals.PlaceError.{PlaceError}
use Rattle.im_versions.specs.declared.refusals.PlaceError.TheVariants as place
use Rattle.im_versions.specs.Versions.{last_version, versions_of}
use Rattle.im_proof.specs.Built.{path_of}
use Rattle.im_proof.specs.declared.proofs.DualProof.{DualProof}
use Rattle.im_wire.specs.Lines.{is_open}
use Rattle.im_wire.specs.Texts.{text}
use Rattle.im_wire.specs.declared.messages.Message.{Message}
use Rattle.im_wire.specs.declared.messages.Message.TheVariants as says
use Rattle.im_sqlreply.proofs.TextLemmas.{Begins, syntax-begins}
use Rattle.im_sqlreply.proofs.ToldLemmas.{told-begins}
use Rattle.im_report.specs.Reads.{history_reply, bare_or_hex, place_reply, scan_reply, value_reply, IsGetAnswer, IsHistoryAnswer, IsReadAt, IsScanAnswer}
use Rattle.im_proof.specs.Between.{anchor_between, dual_between, no_entry}
use Rattle.im_report.specs.Replies.{advance_reply, between_reply, beyond_reply, header_reply, item_reply, item_shown, no_entry_reply, order_reply, prove_reply, refused_reply, reserved_reply, shown_header, state_reply, tx_reply}
use Rattle.im_report.specs.Report.{IsSetAnswer}
use Rattle.im_report.specs.Statements.{conflict_reply, full_read_reply, tx_read_reply, IsPlacedAs, IsRefusedAs, IsSqlAnswer, IsUnplacedReply, IsWriteTold}
use Rattle.im_report.specs.Messages.{item_between}

-- no refusal begins so
pub order-closed : (s t : ℕ) → is_open (order_reply s t) ≡ false
unfolding order_reply
order-closed s t = refl

pub beyond-closed : (n : ℕ) → is_open (beyond_reply n) ≡ false
unfolding beyond_reply
beyond-closed n = refl

pub no-entry-closed : (width : ℕ) → is_open (no_entry_reply width) ≡ false
unfolding no_entry_reply
no-entry-closed width = refl

reserved-closed : (i : ℕ) → is_open (reserved_reply i) ≡ false
unfolding reserved_reply
reserved-closed i = refl

refused-closed : (why : PrepareError) → is_open (refused_reply why) ≡ false
unfolding refused_reply
refused-closed Memory = refl
refused-closed NoEntries = refl
refused-closed (TooMany n) = refl
refused-closed (KeyEmpty i) = refl
refused-closed (KeyLong i len) = refl
refused-closed (ValueLong i len) = refl
refused-closed (Twice i j) = refl

place-closed : (why : PlaceError) → is_open (place_reply why) ≡ false
unfolding place_reply
place-closed place.Memory = refl
place-closed place.Full = refl
place-closed (place.Missing key) = refl
place-closed (place.Exists key tx) = refl
place-closed (place.Modified key tx) = refl

value-closed : (version : Option Version) → is_open (value_reply version) ≡ false
unfolding value_reply
value-closed None = refl
value-closed (Some version) =
    elim (version.deleted) as (λ b. is_open (if b then codes "absent" else codes "value " ++ bare_or_hex version.value ++ codes " tx " ++ decimal version.tx) ≡ false) [ true ↦ refl | false ↦ refl ]

scan-closed : (shown : List Version) → is_open (scan_reply shown) ≡ false
unfolding scan_reply
scan-closed shown = refl

history-closed : (versions : List Version) → is_open (history_reply versions) ≡ false
unfolding history_reply
history-closed versions = refl

tx-closed : (n : ℕ) → is_open (tx_reply n) ≡ false
unfolding tx_reply
tx-closed n = refl

shown-closed : (hash : Hash) (header : TheHeader) → is_open (shown_header hash header) ≡ false
unfolding shown_header
shown-closed hash header = refl

-- each message does
pub text-opens : (m : Message) → is_open (text m) ≡ true
unfolding text
text-opens (says.State header) = refl
text-opens (says.Dual dual) = refl
text-opens (says.Advance dual anchor) = refl
text-opens (says.Item dual entry index path) = refl

-- the reply to a set isn't open
pub set-closed : (history : List Transaction) (pres : List Pre) (drafts : List Draft) (n : ℕ) (reply : List ℕ) → IsSetAnswer history pres drafts n reply → is_open reply ≡ false
set-closed history pres drafts n reply (inl (i, is, e)) = ap is_open e ∙ reserved-closed i
set-closed history pres drafts n reply (inr (free, inl (why, is, e))) = ap is_open e ∙ refused-closed why
set-closed history pres drafts n reply (inr (free, inr (are, inl (why, is, e)))) = ap is_open e ∙ place-closed why
set-closed history pres drafts n reply (inr (free, inr (are, inr (some, none, same, e)))) = ap is_open e ∙ tx-closed n

-- nor is what is read after a transaction
at-closed : (history : List Transaction) (at : Option ℕ) (shows : List Transaction → List ℕ → Type 0) (reply : List ℕ)
    → ((hs : List Transaction) → shows hs reply → is_open reply ≡ false) → IsReadAt history at shows reply → is_open reply ≡ false
at-closed history None shows reply each a = each history a
at-closed history (Some k) shows reply each (inl (beyond, e)) = ap is_open e ∙ beyond-closed (length history)
at-closed history (Some k) shows reply each (inr (within, a)) = each (take k history) a

-- nor is the reply to `get`
pub get-closed : (history : List Transaction) (key : List ℕ) (at : Option ℕ) (reply : List ℕ) → IsReadAt history at (IsGetAnswer key) reply → is_open reply ≡ false
get-closed history key at reply a = at-closed history at (IsGetAnswer key) reply (λ hs e. ap is_open e ∙ value-closed (last_version hs key)) a

-- nor is that to `scan`
pub scanned-closed : (history : List Transaction) (prefix : List ℕ) (at : Option ℕ) (reply : List ℕ) → IsReadAt history at (IsScanAnswer prefix) reply → is_open reply ≡ false
scanned-closed history prefix at reply a = at-closed history at (IsScanAnswer prefix) reply (λ hs shown. ap is_open shown.2 ∙ scan-closed shown.0) a

-- nor is that to `history`
pub versions-closed : (history : List Transaction) (key reply : List ℕ) → IsHistoryAnswer key history reply → is_open reply ≡ false
versions-closed history key reply e = ap is_open e ∙ history-closed (versions_of history key)

-- nor is what tells how something was placed for a statement, or why it wasn't
tx-read-closed : (n read : ℕ) → is_open (tx_read_reply n read) ≡ false
unfolding tx_read_reply tx_reply
tx-read-closed n read = refl

conflict-closed : (key : List ℕ) (tx read : ℕ) → is_open (conflict_reply key tx read) ≡ false
unfolding conflict_reply
conflict-closed key tx read = refl

full-read-closed : (read : ℕ) → is_open (full_read_reply read) ≡ false
unfolding full_read_reply
full-read-closed read = refl

unplaced-closed : (why : PlaceError) (read : ℕ) (reply : List ℕ) → IsUnplacedReply why read reply → is_open reply ≡ false
unplaced-closed place.Memory read reply e = absurd e
unplaced-closed place.Full read reply e = ap is_open e ∙ full-read-closed read
unplaced-closed (place.Missing key) read reply e = absurd e
unplaced-closed (place.Exists key tx) read reply e = absurd e
unplaced-closed (place.Modified key tx) read reply e = ap is_open e ∙ conflict-closed key tx read

write-closed : (history : List Transaction) (sql : List ℕ) (n : ℕ) (reply : List ℕ) → IsWriteTold history sql n reply → is_open reply ≡ false
write-closed history sql n reply w = go w.told
  where
    go : IsPlacedAs history w.asked w.read n reply ⊎ IsRefusedAs history w.asked w.read n reply → is_open reply ≡ false
    go (inl placed) = ap is_open placed.told ∙ tx-read-closed n w.read
    go (inr refused) = unplaced-closed refused.why w.read reply refused.told

begun-closed : (reply : List ℕ) → Begins reply → is_open reply ≡ false
begun-closed reply (rest, inl e) = ap is_open e
begun-closed reply (rest, inr (inl e)) = ap is_open e
begun-closed reply (rest, inr (inr e)) = ap is_open e

-- nor is what a statement is answered
pub statement-closed : (history : List Transaction) (sql : List ℕ) (n : ℕ) (reply : List ℕ) → IsSqlAnswer history sql n reply → is_open reply ≡ false
statement-closed history sql n reply (inl fault) = ap is_open (fault.told ∙ (syntax-begins fault.fault).1)
statement-closed history sql n reply (inr (inl a)) = begun-closed reply (told-begins a.answer reply a.told)
statement-closed history sql n reply (inr (inr write)) = write-closed history sql n reply write

-- nor is that to a header
pub header-closed : (hash : Hash) (history : List Transaction) (k : ℕ) → is_open (header_reply hash history k) ≡ false
unfolding header_reply
header-closed hash history k =
    elim (k == 0) as (λ b. is_open (if b then codes "refused order 0 0" else (if nat_lt (length history) k then beyond_reply (length history) else shown_header hash (header_of hash history k))) ≡ false) [
      | true ↦ refl
      | false ↦ elim (nat_lt (length history) k) as (λ b. is_open (if b then beyond_reply (length history) else shown_header hash (header_of hash history k)) ≡ false) [
        | true ↦ beyond-closed (length history)
        | false ↦ shown-closed hash (header_of hash history k)
      ]
    ]

-- of two replies the one that is open
second-shown : (b : Bool) (x y reply : List ℕ) → is_open x ≡ false → reply ≡ (if b then x else y) → is_open reply ≡ true → (b ≡ false) × (reply ≡ y)
second-shown true x y reply closed e open_now = absurd (both_ways (is_open reply) (ap is_open e ∙ closed) open_now)
second-shown false x y reply closed e open_now = (refl, e)

first-shown : (b : Bool) (x y reply : List ℕ) → is_open y ≡ false → reply ≡ (if b then x else y) → is_open reply ≡ true → (b ≡ true) × (reply ≡ x)
first-shown true x y reply closed e open_now = (refl, e)
first-shown false x y reply closed e open_now = absurd (both_ways (is_open reply) (ap is_open e ∙ closed) open_now)

-- a number that isn't 0
pub above : (n : ℕ) → (n ≡ 0 → ⊥) → 1 ≤ n
above zero h = absurd (h refl)
above (suc n) h = omega arith

no-zero : (n : ℕ) → (n == 0) ≡ false → 1 ≤ n
no-zero n e = above n (eqb-false n 0 e)

-- a test of numbers that are in order
in-order : (s t : ℕ) → (s == 0 || nat_lt t s) ≡ false → (1 ≤ s) × (s ≤ t)
in-order s t e =
    let parts = or_parts (s == 0) (nat_lt t s) e in
    (no-zero s parts.0, ltb-false t s parts.1)

not-beyond : (n t : ℕ) → nat_lt n t ≡ false → t ≤ n
not-beyond n t e = ltb-false n t e

is-within : (i n : ℕ) → nat_lt i n ≡ true → i < n
is-within i n e = ltb-true i n e

-- what is shown between transactions s and t, which are then in order and there
pub between-shown : (history : List Transaction) (s t : ℕ) (shown reply : List ℕ) → reply ≡ between_reply history s t shown → is_open reply ≡ true
    → (1 ≤ s) × (s ≤ t) × (t ≤ length history) × (reply ≡ shown)
between-shown history s t shown reply e open_now =
    let n : ℕ = length history in
    let first = second-shown (s == 0 || nat_lt t s) (order_reply s t) (if nat_lt n t then beyond_reply n else shown) reply (order-closed s t) e open_now in
    let second = second-shown (nat_lt n t) (beyond_reply n) shown reply (beyond-closed n) first.1 open_now in
    let order = in-order s t first.0 in
    (order.0, order.1, not-beyond n t second.0, second.1)

-- a state is shown of a history that isn't empty
pub state-shown : (hash : Hash) (history : List Transaction) (reply : List ℕ) → reply ≡ state_reply hash history → is_open reply ≡ true
    → (1 ≤ length history) × (reply ≡ text (says.State (header_of hash history (length history))))
unfolding state_reply
state-shown hash history reply e open_now =
    let shown = second-shown (length history == 0) (codes "refused empty") (text (says.State (header_of hash history (length history)))) reply refl e open_now in
    (no-zero (length history) shown.0, shown.1)

pub prove-shown : (hash : Hash) (history : List Transaction) (s t : ℕ) (reply : List ℕ) → reply ≡ prove_reply hash history s t → is_open reply ≡ true
    → (1 ≤ s) × (s ≤ t) × (t ≤ length history) × (reply ≡ text (says.Dual (dual_between hash history s t)))
unfolding prove_reply
prove-shown hash history s t reply e open_now = between-shown history s t (text (says.Dual (dual_between hash history s t))) reply e open_now

pub advance-shown : (hash : Hash) (history : List Transaction) (s t : ℕ) (reply : List ℕ) → reply ≡ advance_reply hash history s t → is_open reply ≡ true
    → (1 ≤ s) × (s ≤ t) × (t ≤ length history) × (reply ≡ text (says.Advance (dual_between hash history s t) (anchor_between hash history s t)))
unfolding advance_reply
advance-shown hash history s t reply e open_now =
    between-shown history s t (text (says.Advance (dual_between hash history s t) (anchor_between hash history s t))) reply e open_now

item-is : (hash : Hash) (dual : DualProof) (entries : List Entry) (i : ℕ)
    → item_shown hash dual entries i ≡ text (says.Item dual (slice_index_or entries i no_entry) i (path_of hash (map (entry_digest hash) entries) i))
unfolding item_shown
item-is hash dual entries i = refl

pub item-shown : (hash : Hash) (history : List Transaction) (t i s : ℕ) (reply : List ℕ) → reply ≡ item_reply hash history t i s → is_open reply ≡ true
    → (1 ≤ t) × (t ≤ s) × (s ≤ length history) × (i < length (transaction_of history t).entries) × (reply ≡ text (item_between hash history t i s))
unfolding item_reply
item-shown hash history t i s reply e open_now =
    let entries : List Entry = (transaction_of history t).entries in
    let dual : DualProof = dual_between hash history t s in
    let shown : List ℕ = if nat_lt i (length entries) then item_shown hash dual entries i else no_entry_reply (length entries) in
    let there = between-shown history t s shown reply e open_now in
    let found = first-shown (nat_lt i (length entries)) (item_shown hash dual entries i) (no_entry_reply (length entries)) reply (no-entry-closed (length entries)) there.3 open_now in
    (there.0, there.1, there.2, is-within i (length entries) found.0, found.1 ∙ item-is hash dual entries i)

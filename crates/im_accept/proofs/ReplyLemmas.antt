-- No reply has an LF.
use Rattle.std.proofs.Common.{◌≡◌, ◌⊎◌, ◌==◌, ◌||◌, ℕ, List, ◌++◌, length, take, refl, sym, subst, inl, inr, Option, Some, None, nat_lt, true, false, codes, if◌then◌else◌}
use Rattle.std.specs.Fmt.{decimal}
use Rattle.std.specs.List.{flat_map}
use Rattle.std.proofs.lemmas.List.Folds.{list_all-append}
use Rattle.hex.specs.Hex.{encode_lower}
use Rattle.im_text.specs.Cuts.{Lacks}
use Rattle.im_text.proofs.CutLemmas.{Lacks-append}
use Rattle.im_digest.specs.Digests.{Hash}
use Rattle.im_model.specs.Headers.{alh}
use Rattle.im_model.specs.History.{header_of, transaction_of}
use Rattle.im_model.specs.declared.entries.Entry.{Entry}
use Rattle.im_model.specs.declared.headers.Header.{Header as TheHeader}
use Rattle.im_model.specs.declared.transactions.Transaction.{Transaction}
use Rattle.im_draft.specs.declared.drafts.Draft.{Draft}
use Rattle.im_draft.specs.declared.preconditions.Pre.{Pre}
use Rattle.im_draft.specs.declared.refusals.PrepareError.{PrepareError}
use Rattle.im_draft.specs.declared.refusals.PrepareError.TheVariants.{Memory, NoEntries, TooMany, KeyEmpty, KeyLong, ValueLong, Twice}
use Rattle.im_versions.specs.Versions.{last_version, versions_of}
use Rattle.im_versions.specs.declared.versions.Version.{Version}
use Rattle.im_versions.specs.declared.refusals.PlaceError.{PlaceError}
use Rattle.im_versions.specs.declared.refusals.PlaceError.TheVariants as place
use Rattle.im_proof.specs.declared.proofs.DualProof.{DualProof}
use Rattle.im_wire.specs.Headers.{header_text}
use Rattle.im_wire.specs.Texts.{text}
use Rattle.im_wire.specs.declared.messages.Message.TheVariants as says
use Rattle.im_sqlparse.proofs.FormedStatements.{statement_formed}
use Rattle.im_sqlreply.specs.Replies.{syntax_reply}
use Rattle.im_sqlreply.proofs.DigitLemmas.{digits-lack, each-lacks, hex-lacks}
use Rattle.im_sqlreply.proofs.TextLemmas.{syntax-lacks}
use Rattle.im_sqlreply.proofs.ToldLemmas.{told-lacks}
use Rattle.im_script.specs.declared.commands.Command.{Command}
use Rattle.im_script.specs.declared.commands.Command.TheVariants.{Set, Get, Scan, History, Header, State, Prove, Advance, Item, Link, Sql}
use Rattle.im_report.specs.Reads.{history_reply, bare_or_hex, place_reply, scan_reply, scanned_text, value_reply, version_text, IsGetAnswer, IsReadAt, IsScanAnswer}
use Rattle.im_proof.specs.Between.{anchor_between, dual_between}
use Rattle.im_report.specs.Replies.{advance_reply, between_reply, beyond_reply, header_reply, item_reply, item_shown, no_entry_reply, order_reply, prove_reply, refused_reply, reserved_reply, shown_header, state_reply, tx_reply}
use Rattle.im_report.specs.Report.{IsAnswer, IsSetAnswer}
use Rattle.im_report.specs.Statements.{conflict_reply, full_read_reply, tx_read_reply, IsPlacedAs, IsRefusedAs, IsSqlAnswer, IsUnplacedReply, IsWriteTold}
use Rattle.im_accept.proofs.LfLemmas.{header-lacks, octets-lack, text-lacks}

-- an equation of a reply carries over what it lacks
as-lacks : (a b : List ℕ) → a ≡ b → Lacks 10 b → Lacks 10 a
as-lacks a b e h = subst (λ (t : List ℕ). Lacks 10 t) (sym e) h

-- no reply has an LF
tx-lacks : (n : ℕ) → Lacks 10 (tx_reply n)
unfolding tx_reply
tx-lacks n = digits-lack n

reserved-lacks : (i : ℕ) → Lacks 10 (reserved_reply i)
unfolding reserved_reply
reserved-lacks i = digits-lack i

refused-lacks : (why : PrepareError) → Lacks 10 (refused_reply why)
unfolding refused_reply
refused-lacks Memory = refl
refused-lacks NoEntries = refl
refused-lacks (TooMany n) = digits-lack n
refused-lacks (KeyEmpty i) = digits-lack i
refused-lacks (KeyLong i len) = simp (list_all-append, digits-lack)
refused-lacks (ValueLong i len) = simp (list_all-append, digits-lack)
refused-lacks (Twice i j) = simp (list_all-append, digits-lack)

place-lacks : (why : PlaceError) → Lacks 10 (place_reply why)
unfolding place_reply
place-lacks place.Memory = refl
place-lacks place.Full = refl
place-lacks (place.Missing key) = octets-lack key
place-lacks (place.Exists key tx) = simp (list_all-append, octets-lack, digits-lack)
place-lacks (place.Modified key tx) = simp (list_all-append, octets-lack, digits-lack)

value-lacks : (version : Option Version) → Lacks 10 (value_reply version)
unfolding value_reply
value-lacks None = refl
value-lacks (Some version) =
    elim (version.deleted) as (λ b. Lacks 10 (if b then codes "absent" else codes "value " ++ bare_or_hex version.value ++ codes " tx " ++ decimal version.tx)) [
      | true ↦ refl
      | false ↦ simp (list_all-append, octets-lack, digits-lack)
    ]

scanned-lacks : (version : Version) → Lacks 10 (scanned_text version)
unfolding scanned_text
scanned-lacks version = simp (list_all-append, octets-lack, digits-lack)

scan-lacks : (shown : List Version) → Lacks 10 (scan_reply shown)
unfolding scan_reply
scan-lacks shown = Lacks-append 10 (decimal (length shown)) (flat_map scanned_text shown) (digits-lack (length shown)) (each-lacks scanned_text shown scanned-lacks)

version-lacks : (version : Version) → Lacks 10 (version_text version)
unfolding version_text
version-lacks version =
    elim (version.deleted) as (λ b. Lacks 10 (codes " " ++ (if b then codes "!" else bare_or_hex version.value) ++ codes "@" ++ decimal version.tx)) [
      | true ↦ digits-lack version.tx
      | false ↦ simp (list_all-append, octets-lack, digits-lack)
    ]

history-lacks : (versions : List Version) → Lacks 10 (history_reply versions)
unfolding history_reply
history-lacks versions = Lacks-append 10 (decimal (length versions)) (flat_map version_text versions) (digits-lack (length versions)) (each-lacks version_text versions version-lacks)

order-lacks : (s t : ℕ) → Lacks 10 (order_reply s t)
unfolding order_reply
order-lacks s t = simp (list_all-append, digits-lack)

beyond-lacks : (n : ℕ) → Lacks 10 (beyond_reply n)
unfolding beyond_reply
beyond-lacks n = digits-lack n

no-entry-lacks : (n : ℕ) → Lacks 10 (no_entry_reply n)
unfolding no_entry_reply
no-entry-lacks n = digits-lack n

shown-lacks : (hash : Hash) (header : TheHeader) → Lacks 10 (shown_header hash header)
unfolding shown_header
shown-lacks hash header =
    let digest : List ℕ = encode_lower (alh hash header) in
    Lacks-append 10 (codes "header " ++ digest ++ codes " ") (header_text header)
    (Lacks-append 10 (codes "header " ++ digest) (codes " ") (hex-lacks (alh hash header)) refl) (header-lacks header)

set-lacks : (history : List Transaction) (pres : List Pre) (drafts : List Draft) (n : ℕ) (reply : List ℕ) → IsSetAnswer history pres drafts n reply → Lacks 10 reply
set-lacks history pres drafts n reply (inl (i, is, e)) = as-lacks reply (reserved_reply i) e (reserved-lacks i)
set-lacks history pres drafts n reply (inr (free, inl (why, is, e))) = as-lacks reply (refused_reply why) e (refused-lacks why)
set-lacks history pres drafts n reply (inr (free, inr (are, inl (why, is, e)))) = as-lacks reply (place_reply why) e (place-lacks why)
set-lacks history pres drafts n reply (inr (free, inr (are, inr (some, none, same, e)))) = as-lacks reply (tx_reply n) e (tx-lacks n)

-- nor has what is read after a transaction
at-lacks : (history : List Transaction) (at : Option ℕ) (shows : List Transaction → List ℕ → Type 0) (reply : List ℕ)
    → ((hs : List Transaction) → shows hs reply → Lacks 10 reply) → IsReadAt history at shows reply → Lacks 10 reply
at-lacks history None shows reply each a = each history a
at-lacks history (Some k) shows reply each (inl (beyond, e)) = as-lacks reply _ e (beyond-lacks (length history))
at-lacks history (Some k) shows reply each (inr (within, a)) = each (take k history) a

header-reply-lacks : (hash : Hash) (history : List Transaction) (k : ℕ) → Lacks 10 (header_reply hash history k)
unfolding header_reply
header-reply-lacks hash history k =
    elim (k == 0) as (λ b. Lacks 10 (if b then codes "refused order 0 0" else (if nat_lt (length history) k then beyond_reply (length history) else shown_header hash (header_of hash history k)))) [
      | true ↦ refl
      | false ↦ elim (nat_lt (length history) k) as (λ b. Lacks 10 (if b then beyond_reply (length history) else shown_header hash (header_of hash history k))) [
        | true ↦ beyond-lacks (length history)
        | false ↦ shown-lacks hash (header_of hash history k)
      ]
    ]

state-lacks : (hash : Hash) (history : List Transaction) → Lacks 10 (state_reply hash history)
unfolding state_reply
state-lacks hash history =
    elim (length history == 0) as (λ b. Lacks 10 (if b then codes "refused empty" else text (says.State (header_of hash history (length history))))) [
      | true ↦ refl
      | false ↦ text-lacks (says.State (header_of hash history (length history)))
    ]

between-lacks : (history : List Transaction) (s t : ℕ) (shown : List ℕ) → Lacks 10 shown → Lacks 10 (between_reply history s t shown)
between-lacks history s t shown h =
    elim (s == 0 || nat_lt t s) as (λ b. Lacks 10 (if b then order_reply s t else (if nat_lt (length history) t then beyond_reply (length history) else shown))) [
      | true ↦ order-lacks s t
      | false ↦ elim (nat_lt (length history) t) as (λ b. Lacks 10 (if b then beyond_reply (length history) else shown)) [
        | true ↦ beyond-lacks (length history)
        | false ↦ h
      ]
    ]

prove-lacks : (hash : Hash) (history : List Transaction) (s t : ℕ) → Lacks 10 (prove_reply hash history s t)
unfolding prove_reply
prove-lacks hash history s t = between-lacks history s t (text (says.Dual (dual_between hash history s t))) (text-lacks (says.Dual (dual_between hash history s t)))

advance-lacks : (hash : Hash) (history : List Transaction) (s t : ℕ) → Lacks 10 (advance_reply hash history s t)
unfolding advance_reply
advance-lacks hash history s t =
    let m = says.Advance (dual_between hash history s t) (anchor_between hash history s t) in
    between-lacks history s t (text m) (text-lacks m)

shown-item-lacks : (hash : Hash) (dual : DualProof) (entries : List Entry) (i : ℕ) → Lacks 10 (item_shown hash dual entries i)
unfolding item_shown
shown-item-lacks hash dual entries i = text-lacks _

item-lacks : (hash : Hash) (history : List Transaction) (t i s : ℕ) → Lacks 10 (item_reply hash history t i s)
unfolding item_reply
item-lacks hash history t i s =
    let entries : List Entry = (transaction_of history t).entries in
    let dual : DualProof = dual_between hash history t s in
    between-lacks history t s (if nat_lt i (length entries) then item_shown hash dual entries i else no_entry_reply (length entries))
    (elim (nat_lt i (length entries)) as (λ b. Lacks 10 (if b then item_shown hash dual entries i else no_entry_reply (length entries))) [
      | true ↦ shown-item-lacks hash dual entries i
      | false ↦ no-entry-lacks (length entries)
    ])

-- nor has what tells how something was placed for a statement, or why it wasn't
tx-read-lacks : (n read : ℕ) → Lacks 10 (tx_read_reply n read)
unfolding tx_read_reply
tx-read-lacks n read = Lacks-append 10 (tx_reply n ++ codes " read ") (decimal read) (Lacks-append 10 (tx_reply n) (codes " read ") (tx-lacks n) refl) (digits-lack read)

conflict-lacks : (key : List ℕ) (tx read : ℕ) → Lacks 10 (conflict_reply key tx read)
unfolding conflict_reply
conflict-lacks key tx read = simp (list_all-append, octets-lack, digits-lack)

full-read-lacks : (read : ℕ) → Lacks 10 (full_read_reply read)
unfolding full_read_reply
full-read-lacks read = digits-lack read

unplaced-lacks : (why : PlaceError) (read : ℕ) (reply : List ℕ) → IsUnplacedReply why read reply → Lacks 10 reply
unplaced-lacks place.Memory read reply e = absurd e
unplaced-lacks place.Full read reply e = as-lacks reply _ e (full-read-lacks read)
unplaced-lacks (place.Missing key) read reply e = absurd e
unplaced-lacks (place.Exists key tx) read reply e = absurd e
unplaced-lacks (place.Modified key tx) read reply e = as-lacks reply _ e (conflict-lacks key tx read)

write-lacks : (history : List Transaction) (sql : List ℕ) (n : ℕ) (reply : List ℕ) → IsWriteTold history sql n reply → Lacks 10 reply
write-lacks history sql n reply w = go w.told
  where
    go : IsPlacedAs history w.asked w.read n reply ⊎ IsRefusedAs history w.asked w.read n reply → Lacks 10 reply
    go (inl placed) = as-lacks reply _ placed.told (tx-read-lacks n w.read)
    go (inr refused) = unplaced-lacks refused.why w.read reply refused.told

-- nor has what a statement is answered
statement-lacks : (history : List Transaction) (sql : List ℕ) (n : ℕ) (reply : List ℕ) → IsSqlAnswer history sql n reply → Lacks 10 reply
statement-lacks history sql n reply (inl fault) = as-lacks reply (syntax_reply fault.fault) fault.told (syntax-lacks fault.fault)
statement-lacks history sql n reply (inr (inl a)) = told-lacks (take n history) a.said a.answer reply (statement_formed sql a.said a.is) a.judged a.told
statement-lacks history sql n reply (inr (inr write)) = write-lacks history sql n reply write

pub answer-lacks : (hash : Hash) (h : List Transaction) (c : Command) (n : ℕ) (reply : List ℕ) → IsAnswer hash h c n reply → Lacks 10 reply
answer-lacks hash h (Set pres drafts) n reply e = set-lacks h pres drafts n reply e
answer-lacks hash h (Get key at) n reply e =
    at-lacks (take n h) at (IsGetAnswer key) reply (λ hs same. as-lacks reply _ same (value-lacks (last_version hs key))) e
answer-lacks hash h (Scan prefix at) n reply e =
    at-lacks (take n h) at (IsScanAnswer prefix) reply (λ hs scan. as-lacks reply _ scan.2 (scan-lacks scan.0)) e
answer-lacks hash h (History key) n reply e = as-lacks reply _ e (history-lacks (versions_of (take n h) key))
answer-lacks hash h (Header k) n reply e = as-lacks reply _ e (header-reply-lacks hash (take n h) k)
answer-lacks hash h State n reply e = as-lacks reply _ e (state-lacks hash (take n h))
answer-lacks hash h (Prove s t) n reply e = as-lacks reply _ e (prove-lacks hash (take n h) s t)
answer-lacks hash h (Advance s t) n reply e = as-lacks reply _ e (advance-lacks hash (take n h) s t)
answer-lacks hash h (Item t i None) n reply e = as-lacks reply _ e (item-lacks hash (take n h) t i n)
answer-lacks hash h (Item t i (Some s)) n reply e = as-lacks reply _ e (item-lacks hash (take n h) t i s)
answer-lacks hash h (Link count) n reply e = as-lacks reply (codes "linked") e refl
answer-lacks hash h (Sql sql) n reply e = statement-lacks h sql n reply e

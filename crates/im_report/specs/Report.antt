-- What a run of a script writes.
use Rattle.std.specs.Prelude.{◌≡◌, ◌⊎◌, ℕ, ◌<◌, ◌≤◌, ◌+◌, ◌-◌, List, [], ◌∷◌, ◌++◌, length, take, drop, map, filter, min, nat_eq, ◌||◌, Bool, IsTrue, All, AllPairs, Some, None, if◌then◌else◌, codes}
use Rattle.std.specs.List.{flat_map, range_with_len, starts_with}
use Rattle.std.specs.Str.{bytes_eq}
use Rattle.std.specs.Fmt.{decimal}
use Rattle.im_digest.specs.Digests.{Hash}
use Rattle.im_model.specs.History.{transaction_of, IsHistory}
use Rattle.im_model.specs.declared.transactions.Transaction.{Transaction}
use Rattle.im_draft.specs.Drafts.{entry_of, AreEntries, AreFree, IsReserved, Refuses}
use Rattle.im_draft.specs.declared.drafts.Draft.{Draft}
use Rattle.im_draft.specs.declared.refusals.PrepareError.{PrepareError}
use Rattle.im_draft.specs.declared.preconditions.Pre.{Pre}
use Rattle.im_versions.specs.Admits.{place_refusal}
use Rattle.im_versions.specs.declared.refusals.PlaceError.{PlaceError}
use Rattle.im_report.specs.Reads.{place_reply, IsGetAnswer, IsHistoryAnswer, IsReadAt, IsScanAnswer}
use Rattle.im_report.specs.Replies.{advance_reply, header_reply, item_reply, linked_reply, prove_reply, refused_reply, reserved_reply, state_reply, tx_reply}
use Rattle.im_report.specs.Statements.{IsReadTold, IsSqlAnswer}
use Rattle.im_script.specs.declared.commands.Line.{Line}
use Rattle.im_script.specs.declared.commands.Command.{Command}
use Rattle.im_script.specs.declared.commands.Command.TheVariants.{Set, Get, Scan, History, Header, State, Prove, Advance, Item, Link, Sql}

-- the reply to a set at n. An entry's key that begins with octet 00 is refused first, then what is no
-- transaction; then, by what stands after n transactions, that these are as many as there may be, and the first
-- precondition that doesn't hold; and else number n has the entries that were asked for, and there was room, and
-- each precondition held, after the n - 1 before it.
abbrev pub IsSetAnswer : List Transaction → List Pre → List Draft → ℕ → List ℕ → Type 0
IsSetAnswer history pres drafts n reply =
    ((i : ℕ) × IsReserved drafts i × (reply ≡ reserved_reply i))
    ⊎ (AreFree drafts × (((why : PrepareError) × Refuses drafts why × (reply ≡ refused_reply why))
    ⊎ (AreEntries drafts × (((why : PlaceError) × (place_refusal (take n history) pres ≡ Some why) × (reply ≡ place_reply why))
    ⊎ ((1 ≤ n) × (place_refusal (take (n - 1) history) pres ≡ None) × ((transaction_of history n).entries ≡ map entry_of drafts) × (reply ≡ tx_reply n))))))

-- the reply to a command at n: what it says of the first n transactions of the history
abbrev pub IsAnswer : Hash → List Transaction → Command → ℕ → List ℕ → Type 0
IsAnswer hash history (Set pres drafts) n reply = IsSetAnswer history pres drafts n reply
IsAnswer hash history (Get key at) n reply = IsReadAt (take n history) at (IsGetAnswer key) reply
IsAnswer hash history (Scan prefix at) n reply = IsReadAt (take n history) at (IsScanAnswer prefix) reply
IsAnswer hash history (History key) n reply = IsHistoryAnswer key (take n history) reply
IsAnswer hash history (Header k) n reply = reply ≡ header_reply hash (take n history) k
IsAnswer hash history State n reply = reply ≡ state_reply hash (take n history)
IsAnswer hash history (Prove s t) n reply = reply ≡ prove_reply hash (take n history) s t
IsAnswer hash history (Advance s t) n reply = reply ≡ advance_reply hash (take n history) s t
IsAnswer hash history (Item t i None) n reply = reply ≡ item_reply hash (take n history) t i n
IsAnswer hash history (Item t i (Some s)) n reply = reply ≡ item_reply hash (take n history) t i s
IsAnswer hash history (Link count) n reply = reply ≡ linked_reply
IsAnswer hash history (Sql text) n reply = IsSqlAnswer history text n reply

-- a line, the number before its reply, and the reply
pub record Answered : Type 0 where
  pub line : Line
  pub number : ℕ
  pub reply : List ℕ

-- a reply as it is written: `<session> <n> <reply>` and LF
unfoldable pub reply_line : List ℕ → ℕ → List ℕ → List ℕ
reply_line session n reply = session ++ codes " " ++ decimal n ++ codes " " ++ reply ++ codes "\n"

-- the octets of an answered line
abbrev pub answer_line : Answered → List ℕ
answer_line a = reply_line a.line.session a.number a.reply

-- a reply tells that number n was placed: `tx <n>`, behind which stands what a statement read
abbrev pub tells_tx : List ℕ → ℕ → Bool
tells_tx reply n = bytes_eq reply (tx_reply n) || starts_with nat_eq reply (tx_reply n ++ codes " read ")

-- the reply tells so of its own number
abbrev pub is_placed : Answered → Bool
is_placed a = tells_tx a.reply a.number

-- what a statement read, where its reply tells it, is no fewer transactions than these
abbrev pub ReadsBy : ℕ → Command → ℕ → List ℕ → Type 0
ReadsBy low (Set pres drafts) n reply = Unit {0}
ReadsBy low (Get key at) n reply = Unit {0}
ReadsBy low (Scan prefix at) n reply = Unit {0}
ReadsBy low (History key) n reply = Unit {0}
ReadsBy low (Header k) n reply = Unit {0}
ReadsBy low State n reply = Unit {0}
ReadsBy low (Prove s t) n reply = Unit {0}
ReadsBy low (Advance s t) n reply = Unit {0}
ReadsBy low (Item t i under) n reply = Unit {0}
ReadsBy low (Link count) n reply = Unit {0}
ReadsBy low (Sql text) n reply = (read : ℕ) → IsReadTold reply n read → low ≤ read

abbrev pub ReadsFrom : ℕ → Answered → Type 0
ReadsFrom low a = ReadsBy low a.line.command a.number a.reply

-- the size of the tree behind a command at n: `link` raises it by its count, at most to n
abbrev pub floor_by : Command → ℕ → ℕ → ℕ
floor_by (Link count) n floor = min (floor + count) n
floor_by (Set pres drafts) n floor = floor
floor_by (Get key at) n floor = floor
floor_by (Scan prefix at) n floor = floor
floor_by (History key) n floor = floor
floor_by (Header k) n floor = floor
floor_by State n floor = floor
floor_by (Prove s t) n floor = floor
floor_by (Advance s t) n floor = floor
floor_by (Item t i under) n floor = floor
floor_by (Sql text) n floor = floor

-- the size of the tree behind some answered lines
abbrev pub floor_after : ℕ → List Answered → ℕ
floor_after floor [] = floor
floor_after floor (a ∷ answers) = floor_after (floor_by a.line.command a.number floor) answers

-- the size of the tree at each line that placed something
abbrev pub floors : ℕ → List Answered → List ℕ
floors floor [] = []
floors floor (a ∷ answers) =
    (if is_placed a then floor ∷ [] else []) ++ floors (floor_by a.line.command a.number floor) answers

-- What is written for the lines of a script by one session that found the history h0 and left h, where
-- lines alone link.
pub record Report (hash : Hash) (h0 h : List Transaction) (lines : List Line) (octets : List ℕ) : Type 0 where
  pub history : IsHistory h
  pub answers : List Answered
  -- one reply for each line, in the script's order
  pub lines_are : map (λ a. a.line) answers ≡ lines
  pub octets_are : octets ≡ flat_map answer_line answers
  pub each : All (λ a. IsAnswer hash h a.line.command a.number a.reply) answers
  -- the transactions behind h0 and the lines that reply `tx` are one another's, by the number printed
  pub begins : take (length h0) h ≡ h0
  pub placed : map (λ a. a.number) (filter is_placed answers) ≡ range_with_len (length h0 + 1) (length h - length h0)
  -- no number falls, and that of a `tx` is above each before it
  pub within : All (λ a. (length h0 ≤ a.number) × (a.number ≤ length h)) answers
  pub rising : AllPairs (λ a b. (a.number ≤ b.number) × (IsTrue (is_placed b) → a.number < b.number)) answers
  -- and what a statement read, where it is told, is no less than a number before it
  pub least_read : All (ReadsFrom (length h0)) answers
  pub reading : AllPairs (λ a b. ReadsFrom a.number b) answers
  -- each was placed over the tree that the lines before it had linked, from that of what was found on
  pub floor : map (λ tx. tx.bl) (drop (length h0) h) ≡ floors (length h0) answers

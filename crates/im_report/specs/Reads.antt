-- The texts of replies that tell versions of keys, and why a transaction wasn't placed.
use Rattle.std.specs.Prelude.{◌≡◌, ◌⊎◌, ◌<◌, ◌≤◌, ℕ, List, [], ◌++◌, length, take, if◌then◌else◌, Option, Some, None, codes}
use Rattle.std.specs.List.{flat_map}
use Rattle.std.specs.Fmt.{decimal}
use Rattle.hex.specs.Hex.{encode_lower}
use Rattle.im_model.specs.declared.transactions.Transaction.{Transaction}
use Rattle.im_text.specs.Fields.{is_bare}
use Rattle.im_report.specs.Replies.{beyond_reply, full_reply}
use Rattle.im_versions.specs.Versions.{last_version, versions_of, IsScan}
use Rattle.im_versions.specs.declared.versions.Version.{Version}
use Rattle.im_versions.specs.declared.refusals.PlaceError.{PlaceError}
use Rattle.im_versions.specs.declared.refusals.PlaceError.TheVariants.{Memory, Full, Missing, Exists, Modified}

-- octets as they are printed: a bare word where they are one, else `0x` and lower-case hex
unfoldable pub bare_or_hex : List ℕ → List ℕ
bare_or_hex octets = if is_bare octets then octets else codes "0x" ++ encode_lower octets

-- why a transaction wasn't placed: `full`, `missing K`, `exists K tx <m>` or `modified K tx <m>`; want of memory
-- has no reply
unfoldable pub place_reply : PlaceError → List ℕ
place_reply Memory = []
place_reply Full = full_reply
place_reply (Missing key) = codes "missing " ++ bare_or_hex key
place_reply (Exists key tx) = codes "exists " ++ bare_or_hex key ++ codes " tx " ++ decimal tx
place_reply (Modified key tx) = codes "modified " ++ bare_or_hex key ++ codes " tx " ++ decimal tx

-- of a key's last version: `value V tx <m>`, or `absent` where there is none or it is a deletion
unfoldable pub value_reply : Option Version → List ℕ
value_reply None = codes "absent"
value_reply (Some version) =
    if version.deleted then codes "absent"
    else codes "value " ++ bare_or_hex version.value ++ codes " tx " ++ decimal version.tx

-- a live key of a scan: ` K=V@<m>`
unfoldable pub scanned_text : Version → List ℕ
scanned_text version =
    codes " " ++ bare_or_hex version.key ++ codes "=" ++ bare_or_hex version.value ++ codes "@" ++ decimal version.tx

-- of live keys: `scan <count>` and each of them
unfoldable pub scan_reply : List Version → List ℕ
scan_reply shown = codes "scan " ++ decimal (length shown) ++ flat_map scanned_text shown

-- a version of a history: ` V@<m>`, or ` !@<m>` for a deletion
unfoldable pub version_text : Version → List ℕ
version_text version =
    codes " " ++ (if version.deleted then codes "!" else bare_or_hex version.value) ++ codes "@" ++ decimal version.tx

-- of a key's versions, oldest first: `history <count>` and each of them
unfoldable pub history_reply : List Version → List ℕ
history_reply versions = codes "history " ++ decimal (length versions) ++ flat_map version_text versions

-- what is read after transaction `at` of these, or after all of them, unless that is beyond them
abbrev pub IsReadAt : List Transaction → Option ℕ → (List Transaction → List ℕ → Type 0) → List ℕ → Type 0
IsReadAt history None shows reply = shows history reply
IsReadAt history (Some n) shows reply =
    ((length history < n) × (reply ≡ beyond_reply (length history)))
    ⊎ ((n ≤ length history) × shows (take n history) reply)

-- the reply to `get`, after these transactions
abbrev pub IsGetAnswer : List ℕ → List Transaction → List ℕ → Type 0
IsGetAnswer key history reply = reply ≡ value_reply (last_version history key)

-- the reply to `scan`, after these transactions
abbrev pub IsScanAnswer : List ℕ → List Transaction → List ℕ → Type 0
IsScanAnswer prefix history reply = (shown : List Version) × IsScan history prefix shown × (reply ≡ scan_reply shown)

-- the reply to `history`, after these transactions
abbrev pub IsHistoryAnswer : List ℕ → List Transaction → List ℕ → Type 0
IsHistoryAnswer key history reply = reply ≡ history_reply (versions_of history key)

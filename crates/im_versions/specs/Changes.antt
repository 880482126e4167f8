-- The versions of the keys under a prefix, in whatever order keys stand to each other.
use Rattle.std.specs.Prelude.{◌≡◌, ℕ, List, filter, All, IsTrue}
use Rattle.im_model.specs.declared.transactions.Transaction.{Transaction}
use Rattle.im_versions.specs.Versions.{versions_of, begins_with, is_of}
use Rattle.im_versions.specs.declared.versions.Version.{Version}

-- of each key that begins with the prefix all versions of a history, oldest first, and none of any other key
pub record AreChanges (history : List Transaction) (prefix : List ℕ) (changes : List Version) : Type 0 where
  pub each : (key : List ℕ) → IsTrue (begins_with prefix key) → filter (is_of key) changes ≡ versions_of history key
  pub begin : All (λ v. IsTrue (begins_with prefix v.key)) changes

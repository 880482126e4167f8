-- Entries that are versions of a key.
use Rattle.std.specs.Prelude.{ℕ, List, Bool, ◌&&◌}
use Rattle.std.specs.Str.{bytes_eq}
use Rattle.im_model.specs.declared.entries.Entry.{Entry}
use Rattle.im_versions.specs.Versions.{is_shown}

-- the entry is a version of this key
abbrev pub is_version_of : Entry → List ℕ → Bool
is_version_of entry key = is_shown entry && bytes_eq entry.key key

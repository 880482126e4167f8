-- What is left to bring to the disk of a folder's files.
use Rattle.std.specs.Prelude.{◌≡◌, ◌<◌, ◌≤◌, ℕ, true, false, IsFalse, IsTrue, slice_index_or}
use Rattle.im_folder.specs.declared.folder.Unsynced.{Unsynced}

-- no file and no folder is marked as left to bring
pub record AllBrought (u : Unsynced) : Type 0 where
  pub files : (file : ℕ) → file < 16 → slice_index_or u.files file false ≡ false
  pub names : IsFalse u.names
  pub folder : IsFalse u.folder

-- from the first mark on that is left, all marks are as they were; first come the files, in the order of their numbers,
-- then the names in the folder, then the folder's own
pub record KeepsRest (old new : Unsynced) : Type 0 where
  pub files : (first file : ℕ) → slice_index_or new.files first false ≡ true → first ≤ file → slice_index_or new.files file false ≡ slice_index_or old.files file false
  pub names : (first : ℕ) → slice_index_or new.files first false ≡ true → new.names ≡ old.names
  pub folder : (first : ℕ) → slice_index_or new.files first false ≡ true → new.folder ≡ old.folder
  pub behind : IsTrue new.names → new.folder ≡ old.folder

-- what was made, a file's name or the folder, stays to be brought, and nothing more is lost
pub record Stays (old new : Unsynced) : Type 0 where
  pub names : IsTrue old.names → IsTrue new.names
  pub folder : IsTrue old.folder → IsTrue new.folder
  pub lost : new.lost ≡ old.lost

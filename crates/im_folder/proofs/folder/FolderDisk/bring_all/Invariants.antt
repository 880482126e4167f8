use Rattle.std.proofs.Common.{◌≡◌, ◌<◌, ◌≤◌, ℕ, get_or, false}
use Rattle.im_folder.specs.declared.folder.Unsynced.{Unsynced}
use Rattle.im_folder.proofs.folder.FolderDisk.bring_all.Given as goal

-- the files so far are brought, and all else is as it was
pub record Bringing (before now : Unsynced) (n : ℕ) : Type 0 where
  pub lost : now.lost ≡ before.lost
  pub names : now.names ≡ before.names
  pub folder : now.folder ≡ before.folder
  pub files : (file : ℕ) → file < n → get_or now.files file false ≡ false
  pub rest : (file : ℕ) → n ≤ file → get_or now.files file false ≡ get_or before.files file false

abbrev pub invariant-loop-file : goal.invariant-loop-file
invariant-loop-file g l =
    (l.self.failures ≡ l.initial.self.failures)
    × (l.self.folder ≡ l.initial.self.folder)
    × Bringing l.initial.self.unsynced l.self.unsynced l.file

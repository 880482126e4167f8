use Rattle.std.proofs.Common.{◌≡◌, ◌<◌, ℕ, List, length}
use Rattle.im_disk.specs.Records.{files_of}
use Rattle.im_disk.proofs.memory.contents_of.Given as goal

-- the files so far are those given, with empty ones behind them
pub record Copied (files first : List (List ℕ)) (n : ℕ) : Type 0 where
  pub count : length files ≡ n
  pub same : (file : ℕ) → file < n → files_of files file ≡ files_of first file

abbrev pub invariant-loop-file : goal.invariant-loop-file
invariant-loop-file l = Copied l.files.items l.first l.file

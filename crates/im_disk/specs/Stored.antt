-- What a disk in memory holds beside its record.
use Rattle.std.specs.Prelude.{◌≡◌, ◌≤◌, ℕ, List, length, reverse}
use Rattle.im_disk.specs.declared.calls.Call.{Call}
use Rattle.im_disk.specs.Disk.{seen_after}
use Rattle.im_disk.specs.Records.{files_of, AreWithin}

-- sixteen files, each of which is what the calls made of those at first; and each write lay within what reads gave
pub record Stores (first files : List (List ℕ)) (calls : List Call) : Type 0 where
  pub at_most : length first ≤ 16
  pub sixteen : length files ≡ 16
  pub each : (file : ℕ) → files_of files file ≡ seen_after (files_of first) (reverse calls) file
  pub within : AreWithin (files_of first) (reverse calls)

-- What images stand for at the closing.
use Rattle.std.proofs.Common.{◌≤◌, ℕ, List, length, subst}
use Rattle.std.specs.Prelude.{Option}
use mathlib.Core.List.{IsPrefix}
use Rattle.im_digest.specs.Digests.{Hash}
use Rattle.im_disk.specs.Disk.{Files, Images, Told}
use Rattle.im_disk.specs.Moments.{LeavesNow}
use Rattle.im_disk.proofs.Leaving.{if_told}
use Rattle.im_format.specs.Standing.{Stands, StandsFrom}
use Rattle.im_table.specs.Histories.{history_of}
use Rattle.im_table.specs.declared.items.LogItem.{LogItem}
use Rattle.im_seated_journal.proofs.ServeLemmas.{stands_more}
use Rattle.im_store.proofs.FrontLemmas.{prefix_whole}

-- each image now is one of the list
pub front_now : (hash : Hash) (least : ℕ) (xs ys : List LogItem) (told : Option Told) → IsPrefix xs ys → LeavesNow (StandsFrom hash least (history_of xs)) told
    → LeavesNow (StandsFrom hash least (history_of ys)) told
front_now hash least xs ys told p now =
    if_told (λ t. (image : Files) → Images t image → StandsFrom hash least (history_of xs) image) (λ t. (image : Files) → Images t image → StandsFrom hash least (history_of ys) image)
    (λ t each image left. stands_more hash least xs ys p image (each image left)) told now

-- and of the whole of it, where the front part is no shorter
pub whole_now : (hash : Hash) (xs ys : List LogItem) (told : Option Told) → IsPrefix xs ys → length ys ≤ length xs → LeavesNow (λ image. Stands hash image (history_of xs)) told
    → LeavesNow (λ image. Stands hash image (history_of ys)) told
whole_now hash xs ys told p le now = subst (λ (l : List LogItem). LeavesNow (λ image. Stands hash image (history_of l)) told) (prefix_whole xs ys p le) now

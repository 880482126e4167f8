-- What a run leaves of the history that was found.
use Rattle.std.proofs.Common.{◌≡◌, ◌≤◌, ℕ, List, length, take, ◌∙◌, Option, Some, ap, arith, inl, inr, subst, sym}
use Rattle.std.proofs.Math.Seq.{take-length}
use Rattle.std.proofs.lemmas.List.{length-take, take-take, take_all}
use Rattle.im_digest.specs.Digests.{Hash}
use Rattle.im_disk.specs.Disk.{Files, Told, after}
use Rattle.im_disk.specs.Moments.{Leaves}
use Rattle.im_disk.specs.declared.calls.Call.TheVariants.{Synced}
use Rattle.im_disk.proofs.Leaving.{leaves_weaker}
use Rattle.im_format.specs.Standing.{Stands, StandsFrom}
use Rattle.im_model.specs.declared.transactions.Transaction.{Transaction}
use Rattle.im_opening.specs.Cut.{WasOpened}
use Rattle.im_sqlmodel.specs.Kept.{IsSqlKept, IsSqlSound}
use Rattle.im_table.specs.Histories.{history_of}
use Rattle.im_table.specs.declared.items.LogItem.{LogItem}
use Rattle.im_table.proofs.HistoryLemmas.{history_length}
use Rattle.im_app.specs.Runs.{ContinuesHistory, KeepsFound}

-- an image that stands for the history itself
begins-itself : (hash : Hash) (found : List Transaction) (image : Files) → Stands hash image found → ContinuesHistory hash found image
begins-itself hash found image s = record { history = found; stands = s; begins = take-length found }

-- a disk that wasn't opened
pub opened-keeps : (hash : Hash) (found : List Transaction) (t : Told) (now : Option Told) → WasOpened hash found t now → KeepsFound hash found t now
opened-keeps hash found t now (inl same) = inl same
opened-keeps hash found t now (inr (inl missed)) = inr (inl missed)
opened-keeps hash found t now (inr (inr leaves)) =
    inr (inr (leaves_weaker (λ image. Stands hash image found) (ContinuesHistory hash found) (begins-itself hash found) (Some (after Synced t)) now leaves))

-- an image that stands for the first of all transactions, those that were found among them
from-begins : (hash : Hash) (found all : List Transaction) → take (length found) all ≡ found → (image : Files) → StandsFrom hash (length found) all image → ContinuesHistory hash found image
from-begins hash found all begins image s = record {
  history = take s.count all;
  stands = s.stands;
  begins = take-take (length found) s.count all s.no_fewer ∙ begins;
}

-- a disk that a session worked on
pub served-keeps : (hash : Hash) (found all : List Transaction) (t : Told) (now : Option Told) → take (length found) all ≡ found
    → Leaves (StandsFrom hash (length found) all) (Some (after Synced t)) now → KeepsFound hash found t now
served-keeps hash found all t now begins leaves =
    inr (inr (leaves_weaker (StandsFrom hash (length found) all) (ContinuesHistory hash found) (from-begins hash found all begins) (Some (after Synced t)) now leaves))

-- where a history's keys are SQL's after each transaction, so are those of a history that it begins with
pub front-kept : (found all : List Transaction) → take (length found) all ≡ found → IsSqlKept all → IsSqlKept found
front-kept found all begins kept n low =
    let size : length found ≤ length all = omega (arith, ap length begins, length-take (length found) all) in
    subst IsSqlSound (sym (take-take n (length found) all low) ∙ ap (λ (h : List Transaction). take n h) begins) (kept n (omega (arith, low, size)))

-- all that was found is its own first part
pub whole-taken : (items : List LogItem) (n : ℕ) → n ≡ length items → take n (history_of items) ≡ history_of items
whole-taken items n count = take_all n (history_of items) (omega (arith, count, history_length items))

pub whole-low : (items : List LogItem) (n : ℕ) → n ≡ length items → n ≤ length (history_of items)
whole-low items n count = omega (arith, count, history_length items)

-- What images stood for from the opening to the closing.
use Rattle.std.proofs.Common.{◌≡◌, ◌∙◌, ℕ, List, length, take, ap, sym, subst, arith}
use Rattle.std.proofs.Math.Seq.{take-length}
use Rattle.std.specs.Prelude.{Option}
use mathlib.Core.List.{IsPrefix}
use Rattle.im_digest.specs.Digests.{Hash}
use Rattle.im_disk.specs.Disk.{Files, Told}
use Rattle.im_disk.specs.Moments.{Leaves}
use Rattle.im_disk.proofs.Leaving.{leaves_both, leaves_weaker}
use Rattle.im_format.specs.Standing.{Stands, StandsFrom}
use Rattle.im_model.specs.declared.transactions.Transaction.{Transaction}
use Rattle.im_table.specs.Histories.{history_of, GoesOn}
use Rattle.im_table.specs.declared.items.LogItem.{LogItem}
use Rattle.im_table.proofs.HistoryLemmas.{history_length}
use Rattle.im_seated_journal.proofs.ServeLemmas.{stands_more}

-- an image of the whole of a front part is one of the list
whole_stands : (hash : Hash) (xs ys : List LogItem) (image : Files) → IsPrefix xs ys → Stands hash image (history_of xs) → StandsFrom hash (length xs) (history_of ys) image
whole_stands hash xs ys image p s =
    let same : take (length xs) (history_of xs) ≡ history_of xs = ap (λ (n : ℕ). take n (history_of xs)) (sym (history_length xs)) ∙ take-length (history_of xs) in
    stands_more hash (length xs) xs ys p image (record {
      count = length xs;
      no_fewer = omega arith;
      no_more = omega (arith, history_length xs);
      stands = subst (λ (l : List Transaction). Stands hash image l) (sym same) s;
    })

-- moments behind opening, and those behind them
pub moments_both : (hash : Hash) (found items : List LogItem) (a b c : Option Told) → GoesOn found items → Leaves (λ image. Stands hash image (history_of found)) a b
    → Leaves (StandsFrom hash (length found) (history_of items)) b c → Leaves (StandsFrom hash (length found) (history_of items)) a c
moments_both hash found items a b c goes first rest =
    let begins : IsPrefix found items = (goes.rest, sym goes.begins) in
    leaves_both (StandsFrom hash (length found) (history_of items)) a b c
    (leaves_weaker (λ image. Stands hash image (history_of found)) (StandsFrom hash (length found) (history_of items))
    (λ image s. whole_stands hash found items image begins s) a b first)
    rest

-- The transactions of the records that are read are those of the history that is read.
use Rattle.std.proofs.Common.{◌≡◌, ℕ, suc, zero, ◌+◌, List, [], ◌∷◌, ◌++◌, length, refl, ◌∙◌, ap, Bool, true, false, if◌then◌else◌}
use Rattle.std.proofs.lemmas.List.{map-append}
use Rattle.im_disk.specs.Disk.{Files}
use Rattle.im_format.specs.Batches.{joined}
use Rattle.im_format.specs.Reading.{counts, history_from, history_in, number_at, record_end, records_end, transaction_in, transactions_in}
use Rattle.im_format.specs.declared.records.Record.{Record}
use Rattle.im_model.specs.declared.transactions.Transaction.{Transaction}
use Rattle.im_opening.specs.Parts.{batches_from, batches_in, records_in}
use Rattle.im_opening.specs.Reach.{txs_of}

txs-in : (image : Files) (at count : ℕ) → txs_of (records_in image at count) ≡ transactions_in image at count
txs-in image at zero = refl
txs-in image at (suc count) = ap (λ (l : List Transaction). transaction_in image at ∷ l) (txs-in image (record_end image at) count)

txs-by : (b : Bool) (here : List Record) (more : List (List Record)) (txs rest : List Transaction) → txs_of here ≡ txs → txs_of (joined more) ≡ rest
    → txs_of (joined (if b then here ∷ more else [])) ≡ (if b then txs ++ rest else [])
txs-by true here more txs rest a b =
    map-append (λ (x : Record). x.tx) here (joined more) ∙ ap (λ (l : List Transaction). l ++ txs_of (joined more)) a ∙ ap (λ (l : List Transaction). txs ++ l) b
txs-by false here more txs rest a b = refl

txs-from : (image : Files) (most gate at : ℕ) → txs_of (joined (batches_from image most gate at)) ≡ history_from image most gate at
txs-from image zero gate at = refl
txs-from image (suc most) gate at =
    let n = number_at (image 1) gate in
    txs-by (counts (image 1) gate) (records_in image at n) (batches_from image most (gate + 25) (records_end image at n)) (transactions_in image at n)
    (history_from image most (gate + 25) (records_end image at n)) (txs-in image at n) (txs-from image most (gate + 25) (records_end image at n))

pub txs-read : (image : Files) → txs_of (joined (batches_in image)) ≡ history_in image
txs-read image = txs-from image (length (image 1)) 0 0

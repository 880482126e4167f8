-- What events keep of a machine: how its numbers stand to each other, and how far a batch is.
use Rattle.std.specs.Prelude.{◌≡◌, ◌≤◌, ◌<◌, ◌+◌, ℕ, List, length, All}
use Rattle.im_journal.specs.declared.batches.Step.{Step}
use Rattle.im_journal.specs.declared.batches.Step.TheVariants.{Idle, Staging, Staged, Sealed, Gated}
use Rattle.im_model.specs.declared.transactions.Transaction.{Transaction}

-- what is linked and what is indexed is durable, what is durable is placed, and no transaction was placed over a larger tree than
-- that of what is linked
pub record AreInOrder (placed : List Transaction) (durable linked indexed : ℕ) : Type 0 where
  pub least : All (λ tx. tx.bl ≤ linked) placed
  pub linked_durable : linked ≤ durable
  pub indexed_durable : indexed ≤ durable
  pub durable_placed : durable ≤ length placed

-- so many steps are done of a batch of so many writes, whose journal is at this step of it and has made so many of its writes
abbrev pub IsDone : Step → ℕ → ℕ → ℕ → Type 0
IsDone Idle writes written done = ⊥
IsDone Staging writes written done = (done ≡ written) × (written < writes)
IsDone Staged writes written done = done ≡ writes
IsDone Sealed writes written done = done ≡ writes + 1
IsDone Gated writes written done = done ≡ writes + 2

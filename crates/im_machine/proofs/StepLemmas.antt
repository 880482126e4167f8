-- The machine with one transaction more; a batch with one write more, and what stands beyond its writes.
use Rattle.std.proofs.Common.{◌≡◌, ◌<◌, ◌≤◌, ◌+◌, ◌++◌, ◌∷◌, [], ℕ, Bool, true, false, refl, ap, arith, if◌then◌else◌}
use Rattle.std.proofs.lemmas.Bool.{ltb-false, ltb-true}
use Rattle.std.specs.Prelude.{nat_lt}
use Rattle.im_format.specs.declared.spans.Span.{Span}
use Rattle.im_journal.specs.Kept.{step_behind}
use Rattle.im_journal.specs.declared.batches.Step.TheVariants.{Staging, Staged}
use Rattle.im_machine.specs.Kept.{IsDone}
use Rattle.im_machine.specs.Machines.{Machine}
use Rattle.im_model.specs.declared.transactions.Transaction.{Transaction}

-- the machine with one transaction more
abbrev pub with_tx : Machine → Transaction → Machine
with_tx m tx = record m { placed = m.placed ++ tx ∷ [] }

-- stands where a number is beyond the writes of a batch
abbrev pub no_span : Span
no_span = record { file = 0; at = 0; octets = [] }

-- how far a batch is with one write more
pub done-behind : (writes written done : ℕ) → done ≡ written → written < writes → IsDone (step_behind (written + 1) writes) writes (written + 1) (done + 1)
done-behind writes written done is less = go (nat_lt (written + 1) writes) refl
  where
    go : (b : Bool) → nat_lt (written + 1) writes ≡ b → IsDone (if b then Staging else Staged) writes (written + 1) (done + 1)
    go true test = (ap (λ (n : ℕ). n + 1) is, ltb-true (written + 1) writes test)
    go false test = let past : writes ≤ written + 1 = ltb-false (written + 1) writes test in omega (arith, past, is, less)

use Rattle.std.proofs.Common.{◌≡◌, ◌≤◌, ◌+◌, ◌*◌, ℕ, length, take}
use Rattle.std.specs.List.{All}
use Rattle.im_index.specs.Marks.{found}
use Rattle.im_index.specs.Runs.{HasDigits}
use Rattle.im_index.proofs.HoldLemmas.{joined}
use Rattle.im_index.proofs.reads.versions_steps.Given as goal

abbrev pub invariant-loop-run : goal.invariant-loop-run
invariant-loop-run g l = record {
  copies : l.copies.items ≡ found l.key l.n (joined (take l.run-index l.runs));
  cost : (b : ℕ) → All (λ run. HasDigits b (length run)) l.runs → l.steps ≤ l.fn.steps + length (take l.run-index l.runs) * (2 * b);
}

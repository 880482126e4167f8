use Rattle.std.proofs.Common.{◌≤◌, ◌+◌, ◌*◌, ℕ, length, take}
use Rattle.std.specs.List.{All, filter}
use Rattle.im_index.specs.Newest.{HasNewest}
use Rattle.im_index.specs.Runs.{HasDigits}
use Rattle.im_index.proofs.HoldLemmas.{joined}
use Rattle.im_index.proofs.NewestLemmas.{is_begun, looked_at}
use Rattle.im_index.proofs.reads.scan_steps.Given as goal

abbrev pub invariant-loop-run : goal.invariant-loop-run
invariant-loop-run g l = record {
  newest : HasNewest (looked_at l.prefix l.n (take l.run-index l.runs)) l.prefix l.newest;
  cost : (b : ℕ) → All (λ run. HasDigits b (length run)) l.runs
      → l.steps ≤ l.fn.steps + length (take l.run-index l.runs) * (b + 1) + length (filter (is_begun l.prefix) (joined (take l.run-index l.runs)));
}

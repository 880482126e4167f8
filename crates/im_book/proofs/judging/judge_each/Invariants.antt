use Rattle.std.proofs.Common.{◌≡◌, ◌≤◌, ◌+◌, ◌*◌, ℕ, None, length}
use Rattle.im_versions.specs.Admits.{first_refusal}
use Rattle.im_versions.specs.Versions.{all_versions}
use Rattle.im_index.specs.Runs.{HasDigits}
use Rattle.im_book.proofs.judging.judge_each.Given as goal

abbrev pub invariant-loop-pre : goal.invariant-loop-pre
invariant-loop-pre g l = record {
  none : first_refusal l.placed.transactions l.yielded ≡ None;
  cost : l.placed.keyed ≡ length l.placed.transactions → (b : ℕ) → HasDigits b (length (all_versions l.placed.transactions))
      → l.steps ≤ l.fn.steps + length l.yielded * (b * (b + 1));
}

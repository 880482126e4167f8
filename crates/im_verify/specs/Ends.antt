-- How a run ends: where a fault stops it, and by what the source and the keeper hold.
use Rattle.std.specs.Prelude.{◌≡◌, ◌⊎◌, ◌+◌, ◌<◌, ◌≤◌, ℕ, List, length}
use Rattle.im_digest.specs.Digests.{Hash}
use Rattle.im_facts.specs.Verdicts.{Verdict}
use Rattle.im_verify.specs.Judged.{AreTaken, IsVerified, NoneForked, NoneRefused, SomeForked, SomeRefused, StopsKept}
use Rattle.im_verify.specs.declared.ended.Ended.{Ended}
use Rattle.im_verify.specs.declared.ended.Ended.TheVariants.{Ok, Refused, Forked, Kept, Memory, Long}

-- with no fault of the source, the sink and the keeper, memory aside
pub record HasFate (hash : Hash) (ended : Ended) (stream : List ℕ) (kept : List (List ℕ)) : Type 0 where
  pub too_long : 67108864 < length stream → (ended ≡ Long) ⊎ (ended ≡ Memory)
  pub stops : (n : ℕ) → length stream ≤ 67108864 → StopsKept hash kept n → (ended ≡ Kept (n + 1)) ⊎ (ended ≡ Memory)
  pub runs : (before : List Verdict) → length stream ≤ 67108864 → AreTaken hash kept before
      → (ended ≡ Ok) ⊎ (ended ≡ Refused) ⊎ (ended ≡ Forked) ⊎ (ended ≡ Memory)
  pub passes : (verdicts : List Verdict) → length stream ≤ 67108864 → IsVerified hash kept stream verdicts
      → NoneRefused verdicts → NoneForked verdicts → (ended ≡ Ok) ⊎ (ended ≡ Memory)
  pub refuses : (verdicts : List Verdict) → length stream ≤ 67108864 → IsVerified hash kept stream verdicts
      → SomeRefused verdicts → NoneForked verdicts → (ended ≡ Refused) ⊎ (ended ≡ Memory)
  pub forks : (verdicts : List Verdict) → length stream ≤ 67108864 → IsVerified hash kept stream verdicts
      → SomeForked verdicts → (ended ≡ Forked) ⊎ (ended ≡ Memory)

-- How the program ends, by what the source, the disk and the keeper hold.
use Rattle.std.specs.Prelude.{◌≡◌, ◌⊎◌, ℕ, ◌+◌, ◌<◌, ◌≤◌, List, length, Option, Some, Err, IfSome}
use Rattle.im_digest.specs.Digests.{Hash}
use Rattle.im_disk.specs.Disk.{Told, seen}
use Rattle.im_format.specs.Damages.{image_checks}
use Rattle.im_format.specs.Standing.{Stands}
use Rattle.im_format.specs.declared.damages.Damage.{Damage}
use Rattle.im_model.specs.declared.transactions.Transaction.{Transaction}
use Rattle.im_mtree.specs.Checks.{first_fail}
use Rattle.im_facts.specs.Verdicts.{Verdict}
use Rattle.im_script.specs.Script.{StopsAfter}
use Rattle.im_sqlmodel.specs.Kept.{IsFirstUnsound, IsSqlKept}
use Rattle.im_script.specs.declared.commands.Line.{Line}
use Rattle.im_verify.specs.Judged.{AreTaken, IsVerified, NoneForked, NoneRefused, SomeForked, SomeRefused, StopsKept}
use Rattle.im_status.specs.Scripts.{IsGiven}
use Rattle.im_status.specs.declared.status.Status.{Status}
use Rattle.im_status.specs.declared.status.Status.TheVariants.{Ok, Script, Damaged, Refused, Forked, Memory, Long, Kept, SqlKept}

-- the status tells a damage, and where the disk tells, it is the first check of its files that fails
pub record IsDamaged (hash : Hash) (disk : Option Told) (status : Status) : Type 0 where
  pub damage : Damage
  pub is : status ≡ Damaged damage
  pub first : IfSome disk (λ t. first_fail (image_checks hash (seen t)) ≡ Err damage)

-- the status tells a transaction of what was found: where the disk tells, the first after which its keys that begin with octet 00 aren't SQL's
pub record IsUnkept (hash : Hash) (disk : Option Told) (status : Status) : Type 0 where
  pub tx : ℕ
  pub is : status ≡ SqlKept tx
  pub first : IfSome disk (λ t. (found : List Transaction) × Stands hash (seen t) found × IsFirstUnsound found tx)

-- A run of a script over what a disk holds, with no fault, memory aside: a script of the grammar is run where the
-- files stand for a history whose keys that begin with octet 00 are SQL's, and else their damage is told, or the first transaction after which these
-- keys aren't; a script with a bad line stops at the first one, and one too long is refused.
pub record HasRunFate (hash : Hash) (disk : Option Told) (status : Status) (script : List ℕ) : Type 0 where
  pub runs : (phases : List (List Line)) → IsGiven script phases → (status ≡ Ok) ⊎ ((status ≡ Memory) ⊎ (IsDamaged hash disk status ⊎ IsUnkept hash disk status))
  pub stands : (phases : List (List Line)) → IsGiven script phases → (t : Told) (found : List Transaction) → disk ≡ Some t → Stands hash (seen t) found
      → IsSqlKept found → (status ≡ Ok) ⊎ (status ≡ Memory)
  pub unkept : (phases : List (List Line)) → IsGiven script phases → (t : Told) (found : List Transaction) → disk ≡ Some t → Stands hash (seen t) found
      → (tx : ℕ) → IsFirstUnsound found tx → (status ≡ SqlKept tx) ⊎ (status ≡ Memory)
  pub damaged : (phases : List (List Line)) → IsGiven script phases → (t : Told) → disk ≡ Some t → ((found : List Transaction) → Stands hash (seen t) found → ⊥)
      → (status ≡ Memory) ⊎ IsDamaged hash disk status
  pub stops : (n : ℕ) → length script ≤ 67108864 → StopsAfter script n → (status ≡ Script (n + 1)) ⊎ (status ≡ Memory)
  pub too_long : 67108864 < length script → (status ≡ Long) ⊎ (status ≡ Memory)

-- `verify` of a stream behind kept lines, with no fault, memory aside
pub record HasVerdict (hash : Hash) (status : Status) (stream : List ℕ) (kept : List (List ℕ)) : Type 0 where
  pub too_long : 67108864 < length stream → (status ≡ Long) ⊎ (status ≡ Memory)
  pub stops : (n : ℕ) → length stream ≤ 67108864 → StopsKept hash kept n → (status ≡ Kept (n + 1)) ⊎ (status ≡ Memory)
  pub runs : (before : List Verdict) → length stream ≤ 67108864 → AreTaken hash kept before
      → (status ≡ Ok) ⊎ (status ≡ Refused) ⊎ (status ≡ Forked) ⊎ (status ≡ Memory)
  pub passes : (verdicts : List Verdict) → length stream ≤ 67108864 → IsVerified hash kept stream verdicts
      → NoneRefused verdicts → NoneForked verdicts → (status ≡ Ok) ⊎ (status ≡ Memory)
  pub refuses : (verdicts : List Verdict) → length stream ≤ 67108864 → IsVerified hash kept stream verdicts
      → SomeRefused verdicts → NoneForked verdicts → (status ≡ Refused) ⊎ (status ≡ Memory)
  pub forks : (verdicts : List Verdict) → length stream ≤ 67108864 → IsVerified hash kept stream verdicts
      → SomeForked verdicts → (status ≡ Forked) ⊎ (status ≡ Memory)

-- `show` of kept lines, with no fault, memory aside
pub record HasShow (hash : Hash) (status : Status) (kept : List (List ℕ)) : Type 0 where
  pub taken : (verdicts : List Verdict) → AreTaken hash kept verdicts → (status ≡ Ok) ⊎ (status ≡ Memory)
  pub stops : (n : ℕ) → StopsKept hash kept n → (status ≡ Kept (n + 1)) ⊎ (status ≡ Memory)

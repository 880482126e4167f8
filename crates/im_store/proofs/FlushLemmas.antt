-- How a wait for durability goes on.
use Rattle.std.proofs.Common.{◌≡◌, ◌≤◌, ◌-◌, ◌∙◌, ℕ, refl, ap, sym, subst, arith, Result, Ok, Err}
use Rattle.std.specs.Prelude.{IfErr, IsErrAnd, IsErrOf, OnErr, OnOk}
use Rattle.im_journal.specs.Faults.{IsCounted}
use Rattle.im_journal.specs.declared.errors.JournalError.{JournalError}
use Rattle.im_journal.specs.declared.errors.JournalError.TheVariants as halts
use Rattle.im_table.specs.Known.{KnownPass}
use Rattle.im_store.specs.Loads.{LooksOn}
use Rattle.im_store.specs.Settling.{faults_told, ExplainsHalt, HasHalted}
use Rattle.im_store.proofs.CommitLemmas.{halt_on}
use Rattle.im_store.proofs.GainLemmas.{saw_failures_on}

-- a step of the journal tells as many failures as its answer, where none had been told before
pub counted_told : {T : Type 0} (was now old new : ℕ) (r : Result T JournalError) → old ≡ 0 → IsCounted was now old new r → new - old ≡ faults_told r
counted_told was now old new (Ok x) none counted = omega (arith, none, counted.failures (λ e. absurd (cc (e))))
counted_told was now old new (Err halts.DiskFault) none counted = omega (arith, none, counted.more refl)
counted_told was now old new (Err (halts.Stopped n)) none counted = omega (arith, none, counted.failures (λ e. absurd (cc (e))))
counted_told was now old new (Err halts.Memory) none counted = omega (arith, none, counted.failures (λ e. absurd (cc (e))))

-- a call goes on with another: its answer's failures, its explanation, and its loads are those of the other
pub explains_on : {T : Type 0} (old mid new : KnownPass) (r : Result T JournalError) → old.view.least.failed ≤ mid.view.least.failed → LooksOn old.view.looks mid.view.looks
    → IfErr r (λ cause. ExplainsHalt mid new cause) → IfErr r (λ cause. ExplainsHalt old new cause)
explains_on old mid new (Ok x) more looks why = tt
explains_on old mid new (Err cause) more looks why = halt_on old mid new cause more (λ f saw. saw_failures_on old mid new f looks saw) why

-- a step of the journal that doesn't stop: where it failed the pass knows of it, and knew of none before
pub counted_halt : (T : Type 0) (old new : KnownPass) (was now before after : ℕ) (cause : JournalError) → old.view.least.failed ≡ 0
    → IsCounted {T = T} was now before after (Err cause) → new.view.least.failed ≡ after → ((n : ℕ) → IsErrOf {T = T} (Err cause) (halts.Stopped n) → ⊥)
    → ExplainsHalt old new cause
counted_halt T old new was now before after halts.DiskFault none counted known going = (omega (arith, known, counted.more refl), none)
counted_halt T old new was now before after (halts.Stopped n) none counted known going = absurd (going n refl)
counted_halt T old new was now before after halts.Memory none counted known going = tt

pub counted_explains : {T : Type 0} (old new : KnownPass) (was now before after : ℕ) (r : Result T JournalError) → old.view.least.failed ≡ 0 → IsCounted was now before after r
    → new.view.least.failed ≡ after → ((n : ℕ) → IsErrOf r (halts.Stopped n) → ⊥) → IfErr r (λ cause. ExplainsHalt old new cause)
counted_explains old new was now before after (Ok x) none counted known going = tt
counted_explains {T} old new was now before after (Err cause) none counted known going = counted_halt T old new was now before after cause none counted known going

-- what holds whatever the answer is
pub always_ok : {T E : Type 0} (r : Result T E) (P : Type 0) → P → OnOk r P
always_ok (Ok x) P p = p
always_ok (Err e) P p = tt

pub always_err : {T E : Type 0} (r : Result T E) (P : Type 0) → P → OnErr r P
always_err (Ok x) P p = tt
always_err (Err e) P p = p

-- of an answer that passes a cause on: it tells as many failures, stops where the cause does, and is no success
told_alike : (U T : Type 0) (cause : JournalError) → faults_told {T = U} (Err cause) ≡ faults_told {T = T} (Err cause)
told_alike U T halts.DiskFault = refl
told_alike U T (halts.Stopped f) = refl
told_alike U T halts.Memory = refl

pub passed_told : (U T : Type 0) (cause : JournalError) (r : Result T JournalError) → IsErrAnd r (λ e. e ≡ cause) → faults_told {T = U} (Err cause) ≡ faults_told r
passed_told U T cause (Ok x) is = absurd is
passed_told U T cause (Err e) is = told_alike U T cause ∙ ap (λ (k : JournalError). faults_told {T = T} (Err k)) (sym is)

halted_alike : (U T : Type 0) (cause : JournalError) → HasHalted {T = U} (Err cause) → HasHalted {T = T} (Err cause)
halted_alike U T halts.DiskFault h = h
halted_alike U T (halts.Stopped f) h = tt
halted_alike U T halts.Memory h = h

pub passed_going : (U T : Type 0) (cause : JournalError) (r : Result T JournalError) → IsErrAnd r (λ e. e ≡ cause) → (HasHalted r → ⊥) → HasHalted {T = U} (Err cause) → ⊥
passed_going U T cause (Ok x) is going h = absurd is
passed_going U T cause (Err e) is going h = going (subst (λ (k : JournalError). HasHalted {T = T} (Err k)) (sym is) (halted_alike U T cause h))

-- an error that is neither a failure nor a stop is want of memory
pub begun_memory : {T : Type 0} (r : Result T JournalError) → ((n : ℕ) → IsErrOf r (halts.Stopped n) → ⊥) → (IsErrOf r halts.DiskFault → ⊥) → IfErr r (λ cause. cause ≡ halts.Memory)
begun_memory (Ok x) going device = tt
begun_memory (Err halts.DiskFault) going device = absurd (device refl)
begun_memory (Err (halts.Stopped n)) going device = absurd (going n refl)
begun_memory (Err halts.Memory) going device = refl

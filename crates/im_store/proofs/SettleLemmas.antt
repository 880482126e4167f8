-- What `settle` answers.
use Rattle.std.proofs.Common.{◌≡◌, ◌≤◌, ◌<◌, ◌+◌, [], ℕ, refl, ap, sym, subst, arith, Result, Ok, Err}
use Rattle.std.specs.Prelude.{IsErrAnd}
use Rattle.im_journal.specs.declared.errors.JournalError.{JournalError}
use Rattle.im_journal.specs.declared.errors.JournalError.TheVariants as halts
use Rattle.im_table.specs.Known.{KnownPass}
use Rattle.im_table.specs.Passes.{Later}
use Rattle.im_table.specs.Views.{looked_placed}
use Rattle.im_table.specs.declared.view.AllLooks.{AllLooks}
use Rattle.im_store.specs.Errors.{settle_error}
use Rattle.im_store.specs.Gains.{Gains, HasStepped}
use Rattle.im_store.specs.Loads.{IsLoaded, SawFewer}
use Rattle.im_store.specs.Settling.{faults_settling, faults_told, AnswersSettle, ExplainsHalt, HasHalted, HasStoppedSettling, IsUnsettled, IsWithin}
use Rattle.im_store.specs.declared.errors.SettleError.{SettleError}
use Rattle.im_store.specs.declared.errors.SettleError.TheVariants.{Beyond}
use Rattle.im_store.proofs.GainLemmas.{looks_placed, saw_failures_on, saw_fewer_on}

-- what showing the book loaded
pub placed_loaded : (old mid : KnownPass) (placed : ℕ) → mid.view.looks ≡ (looked_placed old.view placed).looks → IsLoaded old.view.looks.placed mid.view.looks.placed placed
placed_loaded old mid placed looks = record {
  more = (let x : mid.view.looks.placed.count ≡ old.view.looks.placed.count + 1 = ap (λ (l : AllLooks). l.placed.count) looks in omega (arith, x));
  last = ap (λ (l : AllLooks). l.placed.last) looks;
}

-- fewer are placed
pub beyond_settles : (T : Type 0) (old mid : KnownPass) (placed n : ℕ) → mid.view.looks ≡ (looked_placed old.view placed).looks → placed < n
    → AnswersSettle {T = T} old mid n (Err (Beyond placed))
beyond_settles T old mid placed n looks less = (placed_loaded old mid placed looks, less)

-- no fewer are placed, also behind the wait
within_settles : (old mid new : KnownPass) (placed n faults : ℕ) → mid.view.looks ≡ (looked_placed old.view placed).looks → n ≤ placed → HasStepped faults mid new
    → (n ≤ mid.view.looks.placed.last → n ≤ new.view.looks.placed.last) → IsWithin old new n
within_settles old mid new placed n faults looks le rest still =
    let first = placed_loaded old mid placed looks in
    record {
      placed = new.view.looks.placed.last;
      loaded = record { more = omega (arith, first.more, rest.looks.placed); last = refl };
      within = still (omega (arith, le, first.last));
    }

pub ok_settles : {T : Type 0} (old mid new : KnownPass) (placed n faults : ℕ) (x : T) → mid.view.looks ≡ (looked_placed old.view placed).looks → n ≤ placed → HasStepped faults mid new
    → (n ≤ mid.view.looks.placed.last → n ≤ new.view.looks.placed.last) → n ≤ new.view.least.durable → AnswersSettle old new n (Ok x)
ok_settles old mid new placed n faults x looks le rest still durable = (within_settles old mid new placed n faults looks le rest still, durable)

-- but fewer were durable
unsettled : (old mid new : KnownPass) (placed n faults : ℕ) → Later old mid → mid.view.looks ≡ (looked_placed old.view placed).looks → n ≤ placed → HasStepped faults mid new
    → (n ≤ mid.view.looks.placed.last → n ≤ new.view.looks.placed.last) → SawFewer mid new n → IsUnsettled old new n
unsettled old mid new placed n faults later looks le rest still fewer = record {
  within = within_settles old mid new placed n faults looks le rest still;
  fewer = saw_fewer_on old mid new n later (looks_placed old.view mid.view.looks placed looks) fewer;
}

err_settles : (T : Type 0) (old mid new : KnownPass) (placed n faults : ℕ) (cause : JournalError) (error : SettleError) → error ≡ settle_error cause → Later old mid
    → mid.view.looks ≡ (looked_placed old.view placed).looks → n ≤ placed → HasStepped faults mid new → (n ≤ mid.view.looks.placed.last → n ≤ new.view.looks.placed.last)
    → SawFewer mid new n → ExplainsHalt mid new cause → AnswersSettle {T = T} old new n (Err error)
err_settles T old mid new placed n faults cause error is later looks le rest still fewer why =
    subst (λ (e : SettleError). AnswersSettle {T = T} old new n (Err e)) (sym is) (of cause why)
  where
    held : IsUnsettled old new n
    held = unsettled old mid new placed n faults later looks le rest still fewer

    of : (cause : JournalError) → ExplainsHalt mid new cause → AnswersSettle {T = T} old new n (Err (settle_error cause))
    of halts.DiskFault why = (held, why.0, omega (arith, later.failed, why.1))
    of (halts.Stopped f) why = (held, saw_failures_on old mid new f (looks_placed old.view mid.view.looks placed looks) why)
    of halts.Memory why = held

-- the same of an answer that passes the cause on
pub passed_settles : (T : Type 0) (old mid new : KnownPass) (placed n faults : ℕ) (cause : JournalError) (r : Result T SettleError) → IsErrAnd r (λ e. e ≡ settle_error cause) → Later old mid
    → mid.view.looks ≡ (looked_placed old.view placed).looks → n ≤ placed → HasStepped faults mid new → (n ≤ mid.view.looks.placed.last → n ≤ new.view.looks.placed.last)
    → SawFewer mid new n → ExplainsHalt mid new cause → AnswersSettle {T = T} old new n r
passed_settles T old mid new placed n faults cause (Ok x) is later looks le rest still fewer why = absurd is
passed_settles T old mid new placed n faults cause (Err error) is later looks le rest still fewer why =
    err_settles T old mid new placed n faults cause error is later looks le rest still fewer why

-- it stops where the cause does
stop_alike : (X T : Type 0) (cause : JournalError) → HasHalted {T = X} (Err cause) → HasStoppedSettling {T = T} (Err (settle_error cause))
stop_alike X T halts.DiskFault h = h
stop_alike X T (halts.Stopped f) h = tt
stop_alike X T halts.Memory h = h

pub passed_stop : (X T : Type 0) (cause : JournalError) (r : Result T SettleError) → IsErrAnd r (λ e. e ≡ settle_error cause) → (HasStoppedSettling r → ⊥) → HasHalted {T = X} (Err cause) → ⊥
passed_stop X T cause (Ok x) is going h = absurd is
passed_stop X T cause (Err error) is going h = going (subst (λ (e : SettleError). HasStoppedSettling {T = T} (Err e)) (sym is) (stop_alike X T cause h))

-- it tells as many failures
settle_faults : (X T : Type 0) (cause : JournalError) → faults_told {T = X} (Err cause) ≡ faults_settling {T = T} (Err (settle_error cause))
settle_faults X T halts.DiskFault = refl
settle_faults X T (halts.Stopped f) = refl
settle_faults X T halts.Memory = refl

pub passed_gains : (X T : Type 0) (old new : KnownPass) (cause : JournalError) (r : Result T SettleError) → IsErrAnd r (λ e. e ≡ settle_error cause)
    → Gains [] 0 (faults_told {T = X} (Err cause)) old new → Gains [] 0 (faults_settling r) old new
passed_gains X T old new cause (Ok x) is gains = absurd is
passed_gains X T old new cause (Err error) is gains =
    subst (λ (e : SettleError). Gains [] 0 (faults_settling {T = T} (Err e)) old new) (sym is) (subst (λ (k : ℕ). Gains [] 0 k old new) (settle_faults X T cause) gains)

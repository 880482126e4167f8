-- What a commit answers, from what it placed and what became of that.
use Rattle.std.proofs.Common.{◌≡◌, ◌≤◌, [], ◌∷◌, ℕ, ℤ, List, Option, Some, None, Result, Ok, Err, refl, ap, sym, subst, arith, ◌∙◌}
use Rattle.std.specs.Prelude.{IfErr, IfOk}
use Rattle.im_digest.specs.Digests.{Hash}
use Rattle.im_journal.specs.declared.errors.JournalError.{JournalError}
use Rattle.im_journal.specs.declared.errors.JournalError.TheVariants as halts
use Rattle.im_model.specs.History.{header_of}
use Rattle.im_table.specs.Histories.{history_of}
use Rattle.im_table.specs.Known.{KnownPass}
use Rattle.im_table.specs.Passes.{Later}
use Rattle.im_tx.specs.Asked.{Asked}
use Rattle.im_versions.specs.declared.refusals.PlaceError.{PlaceError}
use Rattle.im_versions.specs.declared.refusals.PlaceError.TheVariants as place
use Rattle.im_store.specs.Commits.{faults_committing, faults_of_error, number_placed, number_told, Explains, HasPlaced, IsCommitted, IsStop}
use Rattle.im_store.specs.Errors.{halted, refused}
use Rattle.im_store.specs.Gains.{Gains, HasStepped}
use Rattle.im_store.specs.Loads.{LooksOn}
use Rattle.im_store.specs.Placing.{IsReceipt}
use Rattle.im_store.specs.Settling.{faults_told, ExplainsHalt, HasHalted}
use Rattle.im_store.specs.declared.answers.Receipt.{Receipt}
use Rattle.im_store.specs.declared.errors.CommitError.{CommitError}
use Rattle.im_store.specs.declared.errors.CommitError.TheVariants as commits
use Rattle.im_store.proofs.CommitLemmas.{halt_on, halted_placed, placed_later}
use Rattle.im_store.proofs.GainLemmas.{gains_after, saw_failures_on}

-- the journal's failures are those of the commit
pub halted_faults : (T : Type 0) (cause : JournalError) (placed : Option ℕ) → faults_told {T = T} (Err cause) ≡ faults_of_error (halted cause placed)
halted_faults T halts.DiskFault placed = refl
halted_faults T (halts.Stopped f) placed = refl
halted_faults T halts.Memory placed = refl

-- it stops where the journal has stopped
pub halted_going : (T : Type 0) (cause : JournalError) (placed : Option ℕ) → (IsStop (halted cause placed) → ⊥) → HasHalted {T = T} (Err cause) → ⊥
halted_going T halts.DiskFault placed going h = h
halted_going T (halts.Stopped f) placed going h = going h
halted_going T halts.Memory placed going h = h

-- nothing was placed
pub halted_none : (cause : JournalError) → number_told (halted cause None) ≡ []
halted_none halts.DiskFault = refl
halted_none (halts.Stopped f) = refl
halted_none halts.Memory = refl

pub refused_none : (why : PlaceError) (at : ℕ) → number_told (refused why at) ≡ []
refused_none place.Memory at = refl
refused_none place.Full at = refl
refused_none (place.Missing key) at = refl
refused_none (place.Exists key tx) at = refl
refused_none (place.Modified key tx) at = refl

-- a refusal tells no failure
pub refused_faults : (why : PlaceError) (at : ℕ) → faults_of_error (refused why at) ≡ 0
refused_faults place.Memory at = refl
refused_faults place.Full at = refl
refused_faults (place.Missing key) at = refl
refused_faults (place.Exists key tx) at = refl
refused_faults (place.Modified key tx) at = refl

-- want of memory behind a durable transaction is told as the journal's
pub memory_halts : (old new : KnownPass) (n : ℕ) (r : Result Receipt CommitError) → IfErr r (λ error. error ≡ commits.Memory (Some n))
    → IfErr r (λ error. (cause : JournalError) × (error ≡ halted cause (Some n)) × ExplainsHalt old new cause)
memory_halts old new n (Ok receipt) is = tt
memory_halts old new n (Err error) is = (halts.Memory, is, tt)

-- a placed transaction that halted is told by its number
halted_number : (cause : JournalError) (n : ℕ) → number_told (halted cause (Some n)) ≡ n ∷ []
halted_number halts.DiskFault n = refl
halted_number (halts.Stopped f) n = refl
halted_number halts.Memory n = refl

module _ (old mid new : KnownPass) (n : ℕ) (r : Result Receipt CommitError) where
  -- the number that the answer tells is that of the transaction
  told_number : IfOk r (λ receipt. receipt.id ≡ n) → IfErr r (λ error. (cause : JournalError) × (error ≡ halted cause (Some n))) → number_placed r ≡ n ∷ []
  told_number ok err = of r ok err
    where
      of : (x : Result Receipt CommitError) → IfOk x (λ receipt. receipt.id ≡ n) → IfErr x (λ error. (cause : JournalError) × (error ≡ halted cause (Some n))) → number_placed x ≡ n ∷ []
      of (Ok receipt) ok err = ap (λ (k : ℕ). k ∷ []) ok
      of (Err error) ok err = ap (λ (e : CommitError). number_told e) err.1 ∙ halted_number err.0 n

  pub receipt_gains : Gains (n ∷ []) 0 0 old mid → HasStepped (faults_committing r) mid new → (hash : Hash) → IfOk r (λ receipt. IsReceipt hash new n receipt)
      → IfErr r (λ error. (cause : JournalError) × (error ≡ halted cause (Some n)) × ExplainsHalt mid new cause) → Gains (number_placed r) 0 (faults_committing r) old new
  receipt_gains first rest hash ok err =
      subst (λ (ns : List ℕ). Gains ns 0 (faults_committing r) old new) (sym (told_number (ids r ok) (errors r err))) (gains_after (n ∷ []) (faults_committing r) old mid new first rest.gains)
    where
      ids : (x : Result Receipt CommitError) → IfOk x (λ receipt. IsReceipt hash new n receipt) → IfOk x (λ receipt. receipt.id ≡ n)
      ids (Ok receipt) is = is.id_is
      ids (Err error) is = tt

      errors : (x : Result Receipt CommitError) → IfErr x (λ error. (cause : JournalError) × (error ≡ halted cause (Some n)) × ExplainsHalt mid new cause)
          → IfErr x (λ error. (cause : JournalError) × (error ≡ halted cause (Some n)))
      errors (Ok receipt) is = tt
      errors (Err error) is = (is.0, is.1)

-- what wasn't placed gains nothing but failures
pub refusal_gains : (old mid new : KnownPass) (error : CommitError) → Gains [] 0 0 old mid → HasStepped (faults_of_error error) mid new → number_told error ≡ []
    → Gains (number_told error) 0 (faults_of_error error) old new
refusal_gains old mid new error first rest none =
    subst (λ (ns : List ℕ). Gains ns 0 (faults_of_error error) old new) (sym none) (gains_after [] (faults_of_error error) old mid new first rest.gains)

-- a receipt is of what was placed
pub receipt_is : (hash : Hash) (time : Option ℤ) (asked : Asked) (old mid new : KnownPass) (n : ℕ) (r : Result Receipt CommitError) → HasPlaced time asked old mid n → Later mid new
    → IfOk r (λ receipt. IsReceipt hash new n receipt) → IfOk r (λ receipt. IsCommitted hash time asked old new receipt)
receipt_is hash time asked old mid new n (Err error) placed later is = tt
receipt_is hash time asked old mid new n (Ok receipt) placed later is = record {
  placed = subst (λ (k : ℕ). HasPlaced time asked old new k) (sym is.id_is) (placed_later time asked old mid new n placed later);
  durable = omega (arith, is.id_is, is.durable);
  header = is.header_is ∙ ap (λ (k : ℕ). header_of hash (history_of new.view.seen) k) (sym is.id_is);
}

-- and without a receipt it is known why
pub receipt_why : (time : Option ℤ) (asked : Asked) (old mid new : KnownPass) (n : ℕ) (r : Result Receipt CommitError) → HasPlaced time asked old mid n → Later mid new
    → old.view.least.failed ≤ mid.view.least.failed → LooksOn old.view.looks mid.view.looks
    → IfErr r (λ error. (cause : JournalError) × (error ≡ halted cause (Some n)) × ExplainsHalt mid new cause) → IfErr r (λ error. Explains time asked old new error)
receipt_why time asked old mid new n (Ok receipt) placed later more looks why = tt
receipt_why time asked old mid new n (Err error) placed later more looks why =
    halted_placed time asked old new why.0 error n why.1 (placed_later time asked old mid new n placed later)
    (halt_on old mid new why.0 more (λ f saw. saw_failures_on old mid new f looks saw) why.2)

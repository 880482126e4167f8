-- How far the phases of a script were written, and how the script ended there.
use Rattle.std.specs.Prelude.{◌≡◌, ◌⊎◌, ◌<◌, ◌≤◌, ◌+◌, ◌++◌, ℕ, List, [], ◌∷◌, length, take, Bool, All, Option, Some, None, Result, Ok, Err}
use Rattle.std.specs.Io.KnownBytes.{Appends}
use Rattle.im_dealing.specs.Lines.{MayBecome}
use Rattle.im_dealing.specs.Phases.{AreSoFar, FailsAt, IsPlayed, StopsAt}
use Rattle.im_dealing.specs.declared.errors.LineError.{LineError}
use Rattle.im_dealing.specs.declared.errors.LineError.TheVariants as line
use Rattle.im_dealing.specs.declared.errors.Stopped.{Stopped}
use Rattle.im_dealing.specs.declared.errors.Stopped.TheVariants as stops
use Rattle.im_digest.specs.Digests.{Hash}
use Rattle.im_counts.specs.Counts.{Rose}
use Rattle.im_model.specs.declared.transactions.Transaction.{Transaction}
use Rattle.im_report.specs.Outcomes.{Outcome}
use Rattle.im_report.specs.Sessions.{AreAnswered, AreOfOne, next_low, phase_text, phases_text}
use Rattle.im_script.specs.declared.commands.Line.{Line}
use Rattle.im_table.specs.Histories.{history_of}
use Rattle.im_table.specs.Known.{KnownPass}
use Rattle.im_table.specs.declared.items.LogItem.{LogItem}

-- a front part of a text was added, and not all of it
abbrev pub AddsLess : List ℕ → Option (List ℕ) → Option (List ℕ) → Type 0
AddsLess text before after = (n : ℕ) × (n < length text) × Appends before after (take n text)

-- the sink failed once
abbrev pub FailedOnce : ℕ → ℕ → Type 0
FailedOnce before now = Rose before now × (now ≤ before + 1)

-- the text was written whole, and the sink didn't fail; or a front part of it, not all of it, and the sink failed
abbrev pub Writes : List ℕ → Option (List ℕ) → Option (List ℕ) → ℕ → ℕ → Type 0
Writes text before now faults_before faults_now =
    (Appends before now text × (faults_now ≡ faults_before)) ⊎ (AddsLess text before now × FailedOnce faults_before faults_now)

-- How far a phase, of these outcomes, was written, by how the script ended there.
abbrev pub WritesPhase : List Outcome → Option (List ℕ) → Option (List ℕ) → ℕ → ℕ → Result Unit Stopped → Type 0
WritesPhase outcomes before now faults_before faults_now (Ok done) =
    AreAnswered outcomes × Appends before now (phase_text outcomes) × (faults_now ≡ faults_before)
WritesPhase outcomes before now faults_before faults_now (Err (stops.Line why)) =
    StopsAt outcomes × Writes (phase_text outcomes) before now faults_before faults_now
WritesPhase outcomes before now faults_before faults_now (Err stops.Write) =
    AreAnswered outcomes × AddsLess (phase_text outcomes) before now × FailedOnce faults_before faults_now

-- how a script ended by why its phase stopped, if it did
abbrev pub EndsBy : Option LineError → Result Unit Stopped → Type 0
EndsBy None end = (why : LineError) → end ≡ Err (stops.Line why) → ⊥
EndsBy (Some why) end = end ≡ Err (stops.Line why)

-- the disk failed in the last of these phases, the first of which began behind so many transactions
abbrev pub FailsIn : List Transaction → ℕ → List (List Outcome) → Type 0
FailsIn history low [] = ⊥
FailsIn history low (outcomes ∷ []) = FailsAt history low outcomes
FailsIn history low (outcomes ∷ next ∷ phases) = FailsIn history (next_low low outcomes) (next ∷ phases)

-- What a pass knows of faults behind phases, by how the script ended there: of one where the disk failed at the line that stopped it, and that line asked for something to be written. It told none where all lines were
-- answered; nor where all are of one session, and it wasn't the disk that stopped it.
pub record TellsFaults (old new : KnownPass) (phases : List (List Outcome)) (end : Result Unit Stopped) : Type 0 where
  pub knows : end ≡ Err (stops.Line line.DiskFault) → 1 ≤ new.view.least.failed
  pub failed : end ≡ Err (stops.Line line.DiskFault) → (items : List LogItem) → MayBecome new items → FailsIn (history_of items) old.view.least.durable phases
  pub calm : All AreAnswered phases → new.view.faults ≡ old.view.faults
  pub alone : AreOfOne phases → (end ≡ Err (stops.Line line.DiskFault) → ⊥) → new.view.faults ≡ old.view.faults

-- one phase was played, and written as far as it says
pub record RunsPhase (hash : Hash) (links : Bool) (old new : KnownPass) (lines : List Line) (before now : Option (List ℕ)) (faults_before faults_now : ℕ) (end : Result Unit Stopped) : Type 0 where
  pub outcomes : List Outcome
  pub played : IsPlayed hash links old new lines outcomes
  pub faults : TellsFaults old new (outcomes ∷ []) end
  pub wrote : WritesPhase outcomes before now faults_before faults_now end

-- How far phases were written, the last one of them by how the script ended: those before it were written whole, as soon as they were joined.
abbrev pub WritesPhases : List (List Outcome) → Option (List ℕ) → Option (List ℕ) → ℕ → ℕ → Result Unit Stopped → Type 0
WritesPhases phases before now faults_before faults_now (Ok done) =
    All AreAnswered phases × Appends before now (phases_text phases) × (faults_now ≡ faults_before)
WritesPhases phases before now faults_before faults_now (Err end) =
    (first : List (List Outcome)) × (last : List Outcome) × (middle : Option (List ℕ)) × (phases ≡ first ++ last ∷ [])
    × All AreAnswered first × Appends before middle (phases_text first) × WritesPhase last middle now faults_before faults_now (Err end)

-- phases were played one after the other, all of them where the script ended well, and written as far as they say
pub record RunsPhases (hash : Hash) (links : Bool) (old new : KnownPass) (script : List (List Line)) (before now : Option (List ℕ)) (faults_before faults_now : ℕ) (end : Result Unit Stopped) : Type 0 where
  pub ran : List (List Line)
  pub unrun : List (List Line)
  pub script_is : script ≡ ran ++ unrun
  pub all : end ≡ Ok tt → unrun ≡ []
  pub phases : List (List Outcome)
  pub so_far : AreSoFar hash links old new ran phases
  pub faults : TellsFaults old new phases end
  pub wrote : WritesPhases phases before now faults_before faults_now end

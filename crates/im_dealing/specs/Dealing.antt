-- How the lines of a phase are dealt to their sessions, and how what became of them comes together again in the script's order.
use Rattle.std.specs.Prelude.{◌≡◌, ◌<◌, ℕ, List, [], ◌∷◌, length, map, filter, true, All, Some, slice_get}
use Rattle.std.specs.Str.{bytes_eq}
use Rattle.im_script.specs.Script.{has_name}
use Rattle.im_script.specs.declared.commands.Line.{Line}

-- each line has one of these names
abbrev pub AreNamed : List (List ℕ) → List Line → Type 0
AreNamed names lines = All (λ line. has_name names line.session ≡ true) lines

-- a name stands at this place
pub record IsAt (names : List (List ℕ)) (name : List ℕ) (number : ℕ) : Type 0 where
  pub is : slice_get names number ≡ Some name

-- the lines of the session with this name
abbrev pub lines_with : List ℕ → List Line → List Line
lines_with name lines = filter (λ line. bytes_eq line.session name) lines

-- each line has the number of its session's name
abbrev pub AreNumbered : List (List ℕ) → List Line → List ℕ → Type 0
AreNumbered names [] [] = Unit {0}
AreNumbered names [] (number ∷ order) = ⊥
AreNumbered names (line ∷ lines) [] = ⊥
AreNumbered names (line ∷ lines) (number ∷ order) = (slice_get names number ≡ Some line.session) × AreNumbered names lines order

-- For each line the order has the number of its session, and each session has its lines, in the script's order.
pub record AreDealt (names : List (List ℕ)) (lines : List Line) (order : List ℕ) (hands : List (List Line)) : Type 0 where
  pub numbered : AreNumbered names lines order
  pub few : All (λ number. number < length names) order
  pub each : hands ≡ map (λ name. lines_with name lines) names

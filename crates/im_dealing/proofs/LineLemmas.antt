-- Lines of a session, one after the other: those that were answered, and the one that cut it off.
use Rattle.std.proofs.Common.{◌≡◌, ℕ, ◌++◌, List, [], ◌∷◌, map, None, Some, ap, sym, ◌∙◌, arith}
use Rattle.std.proofs.lemmas.List.{map-append}
use Rattle.im_dealing.proofs.RunLemmas.{run_push}
use Rattle.im_dealing.specs.Lines.{IsStep, IsStuck}
use Rattle.im_dealing.specs.Runs.{HasRun, IsRun, Start}
use Rattle.im_dealing.specs.declared.errors.LineError.{LineError}
use Rattle.im_digest.specs.Digests.{Hash}
use Rattle.im_report.specs.Report.{Answered, answer_line}
use Rattle.im_script.specs.declared.commands.Line.{Line}
use Rattle.im_table.specs.Known.{KnownPass, TableId}
use Rattle.im_table.specs.Passes.{IsPassOf, Later}

-- a pass behind a call is of the same tip
pub pass_later : (table : TableId) (old new : KnownPass) → IsPassOf table old → Later old new → IsPassOf table new
pass_later table old new is l = (l.table ∙ is.0, l.roles ∙ is.1, omega (arith, l.weight, is.2))

-- these lines were answered with these texts
abbrev pub AreRun : Hash → Start → KnownPass → List (List ℕ) → List Line → Type 0
AreRun hash start p texts lines = (answers : List Answered) × (texts ≡ map answer_line answers) × (map (λ (a : Answered). a.line) answers ≡ lines) × IsRun hash start p answers

-- one more
pub run_more : (hash : Hash) (start : Start) (old new : KnownPass) (texts more : List (List ℕ)) (lines : List Line) (line : Line) → AreRun hash start old texts lines
    → (a : Answered) × (a.line ≡ line) × IsStep hash old new a × (more ≡ texts ++ answer_line a ∷ []) → Later old new → AreRun hash start new more (lines ++ line ∷ [])
run_more hash start old new texts more lines line r s later = (
  r.0 ++ s.0 ∷ [],
  s.3 ∙ (ap (λ (ts : List (List ℕ)). ts ++ answer_line s.0 ∷ []) r.1 ∙ sym (map-append answer_line r.0 (s.0 ∷ []))),
  map-append (λ (a : Answered). a.line) r.0 (s.0 ∷ []) ∙ (ap (λ (ls : List Line). ls ++ s.0.line ∷ []) r.2 ∙ ap (λ (l : Line). lines ++ l ∷ []) s.1),
  run_push hash start old new r.0 s.0 r.3 s.2 later,
)

-- the next one has no reply
pub run_cut : (hash : Hash) (start : Start) (old new : KnownPass) (texts more : List (List ℕ)) (all lines rest : List Line) (line : Line) (why : LineError) → all ≡ lines ++ line ∷ rest → AreRun hash start old texts lines
    → IsStuck old new line why × (more ≡ texts) → Later old new → (answers : List Answered) × (more ≡ map answer_line answers) × HasRun hash start new all answers (Some why)
run_cut hash start old new texts more all lines rest line why is r s later = (
  r.0,
  s.1 ∙ r.1,
  (line, rest, is ∙ ap (λ (ls : List Line). ls ++ line ∷ rest) (sym r.2), record { before = old; run = r.3; later = later; stuck = s.0 }),
)

-- all have one
pub run_whole : (hash : Hash) (start : Start) (p : KnownPass) (texts : List (List ℕ)) (all lines : List Line) → lines ≡ all → AreRun hash start p texts lines
    → (answers : List Answered) × (texts ≡ map answer_line answers) × HasRun hash start p all answers None
run_whole hash start p texts all lines is r = (r.0, r.1, (r.2 ∙ is, r.3))

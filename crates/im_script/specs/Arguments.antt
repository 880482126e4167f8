-- What parts of a script say, for private clauses.
use Rattle.std.specs.Prelude.{◌≡◌, ◌⊎◌, ◌<◌, ◌^◌, ℕ, List, [], ◌∷◌, ◌++◌, Option}
use Rattle.im_text.specs.Cuts.{Lacks}
use Rattle.im_text.specs.Words.{IsNumber}
use Rattle.im_text.specs.Fields.{IsOctets}
use Rattle.im_draft.specs.declared.drafts.Draft.{Draft}
use Rattle.im_draft.specs.declared.preconditions.Pre.{Pre}
use Rattle.im_draft.specs.Drafts.{deletion}
use Rattle.im_script.specs.Script.{AreAsked, AreNumbers, IsItem, IsLookup, IsScriptLine, IsStatementText, IsPassedOver, MayFollow, end_of_phase, with_name}
use Rattle.im_script.specs.declared.commands.Command.{Command}
use Rattle.im_script.specs.declared.commands.Command.TheVariants.{Set, Get, Scan, History, Header, State, Prove, Advance, Item, Link, Sql}
use Rattle.im_script.specs.declared.commands.Line.{Line}

-- nothing is left, or a space comes first
abbrev pub IsFieldEnd : List ℕ → Type 0
IsFieldEnd text = (text ≡ []) ⊎ ((more : List ℕ) × (text ≡ 32 ∷ more))

-- the text up to the first space or the end, and what is left from there
abbrev pub IsFirstField : List ℕ → List ℕ → List ℕ → Type 0
IsFirstField text field behind = Lacks 32 field × (text ≡ field ++ behind) × IsFieldEnd behind

-- the text of an index
abbrev pub IsIndex : List ℕ → ℕ → Type 0
IsIndex text index = IsNumber text index × (index < 2 ^ 32)

-- the text behind `set`
abbrev pub IsSet : List ℕ → Command → Type 0
IsSet text command = (pres : List Pre) × (drafts : List Draft) × (command ≡ Set pres drafts) × AreAsked text pres drafts

-- the text behind `del `
abbrev pub IsDelete : List ℕ → Command → Type 0
IsDelete text command = (key : List ℕ) × (command ≡ Set [] (deletion key ∷ [])) × IsOctets text key

-- the text behind `get `
abbrev pub IsGet : List ℕ → Command → Type 0
IsGet text command = (key : List ℕ) × (at : Option ℕ) × (command ≡ Get key at) × IsLookup text key at

-- the text behind `scan `
abbrev pub IsScanCommand : List ℕ → Command → Type 0
IsScanCommand text command = (prefix : List ℕ) × (at : Option ℕ) × (command ≡ Scan prefix at) × IsLookup text prefix at

-- the text behind `history `
abbrev pub IsHistoryCommand : List ℕ → Command → Type 0
IsHistoryCommand text command = (key : List ℕ) × (command ≡ History key) × IsOctets text key

-- the text behind `header `
abbrev pub IsHeaderCommand : List ℕ → Command → Type 0
IsHeaderCommand text command = (number : ℕ) × (command ≡ Header number) × IsNumber text number

-- the text behind `state`
abbrev pub IsState : List ℕ → Command → Type 0
IsState text command = (command ≡ State) × (text ≡ [])

-- the text behind `prove `
abbrev pub IsProve : List ℕ → Command → Type 0
IsProve text command = (source : ℕ) × (target : ℕ) × (command ≡ Prove source target) × AreNumbers text source target

-- the text behind `advance `
abbrev pub IsAdvance : List ℕ → Command → Type 0
IsAdvance text command = (source : ℕ) × (target : ℕ) × (command ≡ Advance source target) × AreNumbers text source target

-- the text behind `item `
abbrev pub IsItemCommand : List ℕ → Command → Type 0
IsItemCommand text command =
    (number : ℕ) × (index : ℕ) × (under : Option ℕ) × (command ≡ Item number index under) × IsItem text number index under

-- the text behind `link `
abbrev pub IsLink : List ℕ → Command → Type 0
IsLink text command = (count : ℕ) × (command ≡ Link count) × IsNumber text count

-- the text behind `sql `
abbrev pub IsSql : List ℕ → Command → Type 0
IsSql text command = (statement : List ℕ) × (command ≡ Sql statement) × IsStatementText text statement

-- What was read of a script: the names of its sessions, the phases that were ended, and the lines behind these.
pub record ReadSoFar : Type 0 where
  pub names : List (List ℕ)
  pub phases : List (List Line)
  pub lines : List Line

-- behind a line of a session
abbrev pub with_line : ReadSoFar → Line → ReadSoFar
with_line before line = record { names = with_name before.names line.session; phases = before.phases; lines = before.lines ++ line ∷ [] }

-- behind the end of a phase
abbrev pub with_end : ReadSoFar → ReadSoFar
with_end before = record { names = before.names; phases = before.phases ++ before.lines ∷ []; lines = [] }

-- the text leaves what was read as it was, since it is passed over, or it ends a phase, or it says a line more
abbrev pub IsTaken : ReadSoFar → List ℕ → ReadSoFar → Type 0
IsTaken before text after =
    (IsPassedOver text × (after ≡ before))
    ⊎ (((text ≡ end_of_phase) × (after ≡ with_end before))
    ⊎ ((line : Line) × (after ≡ with_line before line) × IsScriptLine text line × MayFollow before.names line))

-- the text is not passed over, ends no phase, and says no line that may follow
abbrev pub IsTextRefused : List (List ℕ) → List ℕ → Type 0
IsTextRefused names text =
    (IsPassedOver text → ⊥) × (text ≡ end_of_phase → ⊥) × ((line : Line) → IsScriptLine text line → MayFollow names line → ⊥)

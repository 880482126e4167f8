-- What a script says, by what its text is.
use Rattle.std.specs.Prelude.{◌≡◌, ◌≢◌, ◌⊎◌, ◌<◌, ◌^◌, ◌||◌, ℕ, zero, suc, List, [], ◌∷◌, ◌++◌, length, nat_lt, Bool, IsTrue, Option, Some, None, if◌then◌else◌, codes, true, false, IsUtf8}
use Rattle.std.specs.List.{flat_map, list_any}
use Rattle.std.specs.Str.{bytes_eq}
use Rattle.im_text.specs.Lines.{AreTexts}
use Rattle.im_text.specs.Words.{IsNumber}
use Rattle.im_draft.specs.Drafts.{deletion, no_attributes}
use Rattle.im_draft.specs.declared.drafts.Attrs.{Attrs}
use Rattle.im_draft.specs.declared.drafts.Draft.{Draft}
use Rattle.im_draft.specs.declared.preconditions.Pre.{Pre}
use Rattle.im_draft.specs.declared.preconditions.Pre.TheVariants.{Exists, Missing, Since}
use Rattle.im_text.specs.Fields.{IsSession, IsOctets}
use Rattle.im_script.specs.declared.commands.Command.{Command}
use Rattle.im_script.specs.declared.commands.Command.TheVariants.{Set, Get, Scan, History, Header, State, Prove, Advance, Item, Link, Sql}
use Rattle.im_script.specs.declared.commands.Line.{Line}

-- a precondition: `exists:K`, `missing:K` or `since:K@number`
abbrev pub IsPre : List ℕ → Pre → Type 0
IsPre text (Exists key) = (word : List ℕ) × (text ≡ codes "exists:" ++ word) × IsOctets word key
IsPre text (Missing key) = (word : List ℕ) × (text ≡ codes "missing:" ++ word) × IsOctets word key
IsPre text (Since key n) =
    (word : List ℕ) × (digits : List ℕ) × (text ≡ codes "since:" ++ word ++ 64 ∷ digits) × IsOctets word key × IsNumber digits n

-- preconditions, each behind one space
abbrev pub ArePres : List ℕ → List Pre → Type 0
ArePres text [] = text ≡ []
ArePres text (pre ∷ pres) =
    (field : List ℕ) × (behind : List ℕ) × (text ≡ 32 ∷ field ++ behind) × IsPre field pre × ArePres behind pres

-- the attributes of an entry that no index shows
abbrev pub hidden : Attrs
hidden = record { deleted = false; non_indexable = true }

-- the mark of an entry: `~` where no index shows it, or nothing
abbrev pub IsMark : List ℕ → Attrs → Type 0
IsMark mark attrs = ((mark ≡ []) × (attrs ≡ no_attributes)) ⊎ ((mark ≡ codes "~") × (attrs ≡ hidden))

-- an entry `[~]K=V` of a set
abbrev pub IsField : List ℕ → Draft → Type 0
IsField field draft =
    (mark : List ℕ) × (key : List ℕ) × (value : List ℕ) × (field ≡ mark ++ key ++ 61 ∷ value) × IsMark mark draft.attrs
    × IsOctets key draft.key × IsOctets value draft.value

-- entries, each behind one space
abbrev pub AreFields : List ℕ → List Draft → Type 0
AreFields text [] = text ≡ []
AreFields text (draft ∷ drafts) =
    (field : List ℕ) × (behind : List ℕ) × (text ≡ 32 ∷ field ++ behind) × IsField field draft × AreFields behind drafts

-- what a set asks for: all preconditions stand before all entries
abbrev pub AreAsked : List ℕ → List Pre → List Draft → Type 0
AreAsked text pres drafts = (front : List ℕ) × (back : List ℕ) × (text ≡ front ++ back) × ArePres front pres × AreFields back drafts

-- two numbers behind one another
abbrev pub AreNumbers : List ℕ → ℕ → ℕ → Type 0
AreNumbers text m n =
    (first : List ℕ) × (second : List ℕ) × (text ≡ first ++ 32 ∷ second) × IsNumber first m × IsNumber second n

-- the transaction that a command names besides: ` @` and its number, or nothing
abbrev pub IsAt : List ℕ → Option ℕ → Type 0
IsAt text None = text ≡ []
IsAt text (Some n) = (digits : List ℕ) × (text ≡ codes " @" ++ digits) × IsNumber digits n

-- octets, and the transaction after which they are looked for
abbrev pub IsLookup : List ℕ → List ℕ → Option ℕ → Type 0
IsLookup text octets at = (word : List ℕ) × (mark : List ℕ) × (text ≡ word ++ mark) × IsOctets word octets × IsAt mark at

-- the numbers of an item, the second one below 2^32, and its state
abbrev pub IsItem : List ℕ → ℕ → ℕ → Option ℕ → Type 0
IsItem text number index under =
    (numbers : List ℕ) × (mark : List ℕ) × (text ≡ numbers ++ mark) × AreNumbers numbers number index × (index < 2 ^ 32) × IsAt mark under

-- the text of a statement: all that is left of the line. It isn't empty, and it is UTF-8
abbrev pub IsStatementText : List ℕ → List ℕ → Type 0
IsStatementText octets text = (text ≡ octets) × (octets ≢ []) × IsUtf8 octets

-- the text of a command, its word first. `del K` is the set of the one entry that deletes K, without a precondition
abbrev pub IsCommand : List ℕ → Command → Type 0
IsCommand text (Set pres drafts) =
    ((fields : List ℕ) × (text ≡ codes "set" ++ fields) × AreAsked fields pres drafts)
    ⊎ ((key : List ℕ) × (word : List ℕ) × (text ≡ codes "del " ++ word) × IsOctets word key × (pres ≡ []) × (drafts ≡ deletion key ∷ []))
IsCommand text (Get key at) = (rest : List ℕ) × (text ≡ codes "get " ++ rest) × IsLookup rest key at
IsCommand text (Scan prefix at) = (rest : List ℕ) × (text ≡ codes "scan " ++ rest) × IsLookup rest prefix at
IsCommand text (History key) = (word : List ℕ) × (text ≡ codes "history " ++ word) × IsOctets word key
IsCommand text (Header number) = (digits : List ℕ) × (text ≡ codes "header " ++ digits) × IsNumber digits number
IsCommand text State = text ≡ codes "state"
IsCommand text (Prove source target) = (numbers : List ℕ) × (text ≡ codes "prove " ++ numbers) × AreNumbers numbers source target
IsCommand text (Advance source target) = (numbers : List ℕ) × (text ≡ codes "advance " ++ numbers) × AreNumbers numbers source target
IsCommand text (Item number index under) = (rest : List ℕ) × (text ≡ codes "item " ++ rest) × IsItem rest number index under
IsCommand text (Link count) = (digits : List ℕ) × (text ≡ codes "link " ++ digits) × IsNumber digits count
IsCommand text (Sql statement) = (rest : List ℕ) × (text ≡ codes "sql " ++ rest) × IsStatementText rest statement

-- the text of a line, without its LF: `<session>: <command>`
abbrev pub IsScriptLine : List ℕ → Line → Type 0
IsScriptLine text line =
    (rest : List ℕ) × (text ≡ line.session ++ 58 ∷ 32 ∷ rest) × IsSession line.session × IsCommand rest line.command

-- a text that is passed over: an empty one, or a comment
abbrev pub IsPassedOver : List ℕ → Type 0
IsPassedOver text = (text ≡ []) ⊎ ((comment : List ℕ) × (text ≡ 35 ∷ comment))

-- the text that ends a phase
abbrev pub end_of_phase : List ℕ
end_of_phase = codes "---"

-- one of these names is this one
abbrev pub has_name : List (List ℕ) → List ℕ → Bool
has_name names name = list_any (λ first. bytes_eq first name) names

-- the names of sessions, each once, with this one, in the order of their first lines
abbrev pub with_name : List (List ℕ) → List ℕ → List (List ℕ)
with_name names name = if has_name names name then names else names ++ name ∷ []

-- the names of the sessions of these lines behind those of the lines before them, each once, in the order of their first lines
abbrev pub names_of : List (List ℕ) → List Line → List (List ℕ)
names_of names [] = names
names_of names (line ∷ lines) = names_of (with_name names line.session) lines

-- a line may stand behind lines of sessions with these names: its session is one of them, or they are fewer than eight
abbrev pub MayFollow : List (List ℕ) → Line → Type 0
MayFollow names line = IsTrue (has_name names line.session || nat_lt (length names) 8)

-- behind lines of sessions with these names the texts say what is left of a phase, and the phases behind it
abbrev pub Say : List (List ℕ) → List (List ℕ) → List Line → List (List Line) → Type 0
Say names [] lines phases = (lines ≡ []) × (phases ≡ [])
Say names (text ∷ texts) lines phases =
    (IsPassedOver text × Say names texts lines phases)
    ⊎ (((text ≡ end_of_phase) × (lines ≡ []) × ((next : List Line) × (more : List (List Line)) × (phases ≡ next ∷ more) × Say names texts next more))
    ⊎ ((line : Line) × (rest : List Line) × (lines ≡ line ∷ rest) × IsScriptLine text line × MayFollow names line × Say (with_name names line.session) texts rest phases))

-- behind lines of sessions with these names, n of the texts are passed over, end a phase or say lines, and the next one does none of these
abbrev pub Stop : List (List ℕ) → List (List ℕ) → ℕ → Type 0
Stop names [] n = ⊥
Stop names (text ∷ texts) zero =
    (IsPassedOver text → ⊥) × (text ≡ end_of_phase → ⊥) × ((line : Line) → IsScriptLine text line → MayFollow names line → ⊥)
Stop names (text ∷ texts) (suc n) =
    (IsPassedOver text × Stop names texts n)
    ⊎ (((text ≡ end_of_phase) × Stop names texts n)
    ⊎ ((line : Line) × IsScriptLine text line × MayFollow names line × Stop (with_name names line.session) texts n))

-- the octets are a script of these phases, each the list of its lines: one phase more than there are texts that end one
abbrev pub IsScript : List ℕ → List (List Line) → Type 0
IsScript octets script =
    (texts : List (List ℕ)) × AreTexts octets texts × ((first : List Line) × (more : List (List Line)) × (script ≡ first ∷ more) × Say [] texts first more)

-- the lines of all phases, in order
abbrev pub lines_of : List (List Line) → List Line
lines_of script = flat_map (λ phase. phase) script

-- the texts of the first n lines are passed over, end a phase or say lines, and that of line n + 1 does none of these
abbrev pub StopsAfter : List ℕ → ℕ → Type 0
StopsAfter octets n = (texts : List (List ℕ)) × AreTexts octets texts × Stop [] texts n

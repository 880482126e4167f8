-- The lines of the script that `gen` runs.
use Rattle.std.specs.Prelude.{◌*◌, ◌/◌, ◌%◌, ◌==◌, ℕ, zero, suc, List, [], ◌∷◌, ◌++◌, map, codes, None, if◌then◌else◌}
use Rattle.std.specs.Fmt.{decimal}
use Rattle.im_draft.specs.Drafts.{deletion, no_attributes}
use Rattle.im_draft.specs.declared.drafts.Draft.{Draft}
use Rattle.im_gen.specs.Generator.{generator_after, key_of, source_of}
use Rattle.im_script.specs.declared.commands.Command.{Command}
use Rattle.im_script.specs.declared.commands.Command.TheVariants.{Set, State, Advance, Item, Link}
use Rattle.im_script.specs.declared.commands.Line.{Line}

-- the key of a number
abbrev pub generated_key : ℕ → List ℕ
generated_key key = codes "k" ++ decimal key

-- the entry that line i sets at such a key
abbrev pub generated_entry : ℕ → ℕ → Draft
generated_entry i key = record { attrs = no_attributes; key = generated_key key; value = codes "v" ++ decimal i }

-- what line i asks for, whose key has this number
abbrev pub own_command : ℕ → ℕ → Command
own_command i key =
    if i % 16 == 0 then Link 15
    else (if i % 16 == 8 then Set [] (deletion (generated_key key) ∷ [])
    else Set [] (generated_entry i key ∷ []))

-- what advance j asks for, and an entry of its target
abbrev pub asked_commands : ℕ → List Command
asked_commands j = Advance (source_of j) (60 * j) ∷ Item (60 * j) 0 None ∷ []

-- what stands behind line i
abbrev pub behind_commands : ℕ → List Command
behind_commands i = if i == 1 then State ∷ [] else (if i % 64 == 0 then asked_commands (i / 64) else [])

-- what the script of so many lines asks for
abbrev pub script_commands : ℕ → List Command
script_commands zero = []
script_commands (suc n) = (script_commands n ++ own_command (suc n) (key_of (generator_after (suc n))) ∷ []) ++ behind_commands (suc n)

-- a line of its one session
abbrev pub generated_line : Command → Line
generated_line command = record { session = codes "a"; command = command }

-- its lines
abbrev pub script_lines : ℕ → List Line
script_lines n = map generated_line (script_commands n)

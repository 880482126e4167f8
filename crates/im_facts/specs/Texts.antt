-- The lines that tell what a client answered to the lines of a stream.
use Rattle.std.specs.Prelude.{ℕ, ◌+◌, List, [], ◌∷◌, ◌++◌, Option, Some, None, codes}
use Rattle.std.specs.Fmt.{decimal}
use Rattle.hex.specs.Hex.{encode_lower}
use Rattle.im_client.specs.Texts.{refused_line}
use Rattle.im_facts.specs.Verdicts.{Verdict, taken_of}
use Rattle.im_facts.specs.declared.taken.Shown.{Shown}
use Rattle.im_facts.specs.declared.taken.Shown.TheVariants as shows
use Rattle.im_facts.specs.declared.taken.Taken.{Taken}
use Rattle.im_facts.specs.declared.taken.Taken.TheVariants as took

-- what an accepted message shows
unfoldable pub fact_text : Shown → List ℕ
fact_text (shows.State id) = codes "state " ++ decimal id
fact_text (shows.Dual s t) = codes "dual " ++ decimal s ++ codes " " ++ decimal t
fact_text (shows.Advance s t) = codes "advance " ++ decimal s ++ codes " " ++ decimal t
fact_text (shows.Item t i) = codes "item " ++ decimal t ++ codes " " ++ decimal i

-- what is written of line n where its message is accepted
unfoldable pub accepted_line : ℕ → Shown → List ℕ
accepted_line n shown = codes "ok " ++ decimal n ++ codes " " ++ fact_text shown ++ codes "\n"

-- and where it is forked: the two strings, always in hex
unfoldable pub forked_line : ℕ → List ℕ → List ℕ → List ℕ
forked_line n x y = codes "forked " ++ decimal n ++ codes " 0x" ++ encode_lower x ++ codes " 0x" ++ encode_lower y ++ codes "\n"

-- what is written of line n, by the answer to it: nothing where it is passed over
abbrev pub taken_line : ℕ → Option Taken → List ℕ
taken_line n None = []
taken_line n (Some (took.Accepted shown)) = accepted_line n shown
taken_line n (Some (took.Refused fault)) = refused_line n fault
taken_line n (Some (took.Forked x y)) = forked_line n x y

-- by what became of it
abbrev pub verdict_line : ℕ → Verdict → List ℕ
verdict_line n verdict = taken_line n (taken_of verdict)

-- what is written of lines from line n on
abbrev pub verdict_lines : ℕ → List Verdict → List ℕ
verdict_lines n [] = []
verdict_lines n (verdict ∷ verdicts) = verdict_line n verdict ++ verdict_lines (n + 1) verdicts

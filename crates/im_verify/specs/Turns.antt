-- What one line and several lines do to a sink and a keeper.
use Rattle.std.specs.Prelude.{◌≡◌, ◌<◌, ◌+◌, ℕ, List, [], ◌∷◌, ◌++◌, length, take, Bool, true, false, Option, Some, None, IfSome}
use Rattle.std.specs.Option.{option_map}
use Rattle.std.specs.Io.KnownBytes.{Appends}
use Rattle.im_digest.specs.Digests.{Hash}
use Rattle.im_text.specs.Lines.{AreTexts}
use Rattle.im_wire.specs.Texts.{text}
use Rattle.im_wire.specs.declared.messages.Message.{Message}
use Rattle.im_facts.specs.Facts.{Known, nothing}
use Rattle.im_facts.specs.Folds.{AreVerdicts, IsVerdict, known_by, known_by_all}
use Rattle.im_facts.specs.Texts.{verdict_line, verdict_lines}
use Rattle.im_facts.specs.Verdicts.{Verdict, Accepted, taken_of}
use Rattle.im_facts.specs.declared.taken.Taken.{Taken}
use Rattle.im_facts.specs.declared.taken.Taken.TheVariants as took
use Rattle.im_verify.specs.Judged.{kept_text, kept_texts, up_to_fork, AreTaken, NoneForked, NoneRefused, SomeForked, SomeRefused}
use Rattle.im_verify.specs.declared.lines.LineEnd.{LineEnd}
use Rattle.im_verify.specs.declared.lines.LineEnd.TheVariants as the

-- what is written in a sink and kept by a keeper, where these tell it
pub record WrittenAndKept : Type 0 where
  pub written : Option (List ℕ)
  pub kept : Option (List (List ℕ))

-- these octets written, and these lines kept
abbrev pub done : Option (List ℕ) → Option (List (List ℕ)) → WrittenAndKept
done written kept = record { written = written; kept = kept }

-- octets were written, and lines kept
pub record WritesAndKeeps (octets : List ℕ) (lines : List (List ℕ)) (from to : WrittenAndKept) : Type 0 where
  pub told : Appends from.written to.written octets
  pub keeps : to.kept ≡ option_map (λ xs. xs ++ lines) from.kept

-- a front part of octets was written, not all of them, and lines kept
abbrev pub AddsPart : List ℕ → List (List ℕ) → WrittenAndKept → WrittenAndKept → Type 0
AddsPart octets lines from to = (part : ℕ) × (part < length octets) × WritesAndKeeps (take part octets) lines from to

-- how a line ends, by the client's answer to it
abbrev pub end_of : Option Taken → LineEnd
end_of None = the.Fine
end_of (Some (took.Accepted shown)) = the.Fine
end_of (Some (took.Refused fault)) = the.Refused
end_of (Some (took.Forked x y)) = the.Forked

-- the answer rejects the line: it is refused or forked
abbrev pub IsRejection : Option Taken → Type 0
IsRejection None = ⊥
IsRejection (Some (took.Accepted shown)) = ⊥
IsRejection (Some (took.Refused fault)) = Unit {0}
IsRejection (Some (took.Forked x y)) = Unit {0}

-- the text of a message, if there is one
abbrev pub message_text : Option Message → List (List ℕ)
message_text None = []
message_text (Some message) = text message ∷ []

-- how lines end of which none was forked, by whether one was refused
abbrev pub end_by : Bool → LineEnd
end_by true = the.Refused
end_by false = the.Fine

-- a line was judged and told, and its accepted message kept; the client follows
pub record LineTurn (hash : Hash) (number : ℕ) (line : List ℕ) (end : LineEnd) (known next : Known) (from to : WrittenAndKept) : Type 0 where
  pub verdict : Verdict
  pub is : IsVerdict hash known line verdict
  pub tells : WritesAndKeeps (verdict_line number verdict) (kept_text verdict) from to
  pub follows : next ≡ known_by known verdict
  pub ends : end ≡ end_of (taken_of verdict)

-- a line was judged and told in part, and its accepted message kept
pub record HalfTurn (hash : Hash) (number : ℕ) (line : List ℕ) (known : Known) (from to : WrittenAndKept) : Type 0 where
  pub verdict : Verdict
  pub is : IsVerdict hash known line verdict
  pub tells : AddsPart (verdict_line number verdict) (kept_text verdict) from to

-- how a stream ends of which this became: at a fork, else by whether a line was refused
abbrev pub EndsStream : LineEnd → List Verdict → Type 0
EndsStream the.Fine verdicts = NoneRefused verdicts × NoneForked verdicts
EndsStream the.Refused verdicts = SomeRefused verdicts × NoneForked verdicts
EndsStream the.Forked verdicts = SomeForked verdicts

-- the lines of a stream were judged from what is known on, and up to the first fork told and kept
pub record TakesAll (hash : Hash) (known : Known) (stream : List ℕ) (end : LineEnd) (from to : WrittenAndKept) : Type 0 where
  pub texts : List (List ℕ)
  pub are : AreTexts stream texts
  pub verdicts : List Verdict
  pub fold : AreVerdicts hash known texts verdicts
  pub adds : WritesAndKeeps (verdict_lines 1 (up_to_fork verdicts)) (kept_texts (up_to_fork verdicts)) from to
  pub ends : EndsStream end verdicts

-- the first lines of a stream were, none of them a fork
pub record TakesSome (hash : Hash) (known : Known) (stream : List ℕ) (from to : WrittenAndKept) : Type 0 where
  pub texts : List (List ℕ)
  pub are : AreTexts stream texts
  pub count : ℕ
  pub verdicts : List Verdict
  pub fold : AreVerdicts hash known (take count texts) verdicts
  pub none : NoneForked verdicts
  pub adds : WritesAndKeeps (verdict_lines 1 verdicts) (kept_texts verdicts) from to

-- the first lines of a stream were, before a line that is accepted, of which nothing was told or kept
pub record TakesAt (hash : Hash) (known : Known) (stream : List ℕ) (from to : WrittenAndKept) : Type 0 where
  pub texts : List (List ℕ)
  pub are : AreTexts stream texts
  pub count : ℕ
  pub within : count < length texts
  pub verdicts : List Verdict
  pub next : Message
  pub fold : AreVerdicts hash known (take (count + 1) texts) (verdicts ++ Accepted next ∷ [])
  pub none : NoneForked verdicts
  pub adds : WritesAndKeeps (verdict_lines 1 verdicts) (kept_texts verdicts) from to

-- the first lines of a stream were, and the next one was told in part
pub record TakesInto (hash : Hash) (known : Known) (stream : List ℕ) (from to : WrittenAndKept) : Type 0 where
  pub texts : List (List ℕ)
  pub are : AreTexts stream texts
  pub count : ℕ
  pub verdicts : List Verdict
  pub last : Verdict
  pub fold : AreVerdicts hash known (take count texts) (verdicts ++ last ∷ [])
  pub part : ℕ
  pub unfinished : part < length (verdict_line (length verdicts + 1) last)
  pub none : NoneForked verdicts
  pub adds : WritesAndKeeps (verdict_lines 1 verdicts ++ take part (verdict_line (length verdicts + 1) last))
      (kept_texts (verdicts ++ last ∷ [])) from to

-- a client that knew nothing took these kept lines
pub record TakesKept (hash : Hash) (kept : List (List ℕ)) (known : Known) : Type 0 where
  pub verdicts : List Verdict
  pub taken : AreTaken hash kept verdicts
  pub follows : known ≡ known_by_all nothing verdicts

-- it took the lines that a keeper held, which are these where the keeper tells them
pub record TakesHeld (hash : Hash) (held : Option (List (List ℕ))) (known : Known) : Type 0 where
  pub kept : List (List ℕ)
  pub kept_is : IfSome held (λ lines. lines ≡ kept)
  pub takes : TakesKept hash kept known

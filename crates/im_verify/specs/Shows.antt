-- What `show` writes: what a client knows behind kept lines, its state and its facts.
use Rattle.std.specs.Prelude.{◌≡◌, ◌⊎◌, ◌<◌, ◌+◌, ℕ, List, ◌++◌, length, take, Option, Some, None, IfSome, codes}
use Rattle.std.specs.Fmt.{decimal}
use Rattle.std.specs.Io.KnownBytes.{Appends}
use Rattle.std.specs.List.{flat_map}
use Rattle.hex.specs.Hex.{encode_lower}
use Rattle.im_digest.specs.Digests.{Hash}
use Rattle.im_model.specs.Headers.{alh}
use Rattle.im_model.specs.declared.headers.Header.{Header}
use Rattle.im_report.specs.Reads.{bare_or_hex}
use Rattle.im_facts.specs.Facts.{Known, nothing}
use Rattle.im_facts.specs.Folds.{known_by_all}
use Rattle.im_facts.specs.Verdicts.{Verdict}
use Rattle.im_facts.specs.declared.facts.EntryFact.{EntryFact}
use Rattle.im_verify.specs.Judged.{AreTaken, StopsKept}
use Rattle.im_verify.specs.declared.show.ShowEnd.{ShowEnd}
use Rattle.im_verify.specs.declared.show.ShowEnd.TheVariants.{Ok, Memory, Kept}

-- the line of the state: its number and its Alh, where there is one
unfoldable pub state_line : Hash → Option Header → List ℕ
state_line hash None = codes "state none\n"
state_line hash (Some header) = codes "state " ++ decimal header.id ++ codes " " ++ encode_lower (alh hash header) ++ codes "\n"

-- the line of a kept header
unfoldable pub header_line : Hash → Header → List ℕ
header_line hash header = codes "header " ++ decimal header.id ++ codes " " ++ encode_lower (alh hash header) ++ codes "\n"

-- the line of a kept entry: its key and value as bare words where they are some, its metadata always in hex
unfoldable pub entry_line : EntryFact → List ℕ
entry_line fact =
    codes "entry " ++ decimal fact.tx ++ codes " " ++ decimal fact.index ++ codes " " ++ bare_or_hex fact.entry.key ++ codes "=" ++ bare_or_hex fact.entry.value
    ++ codes " md 0x" ++ encode_lower fact.entry.md ++ codes "\n"

-- a state and facts, as they are shown: the state, the headers in their order, the entries in theirs
abbrev pub facts_text : Hash → Option Header → List Header → List EntryFact → List ℕ
facts_text hash state headers entries = state_line hash state ++ flat_map (header_line hash) headers ++ flat_map entry_line entries

-- all that is known: the headers by rising number, the entries by rising place
abbrev pub known_text : Hash → Known → List ℕ
known_text hash known = facts_text hash known.state known.headers known.entries

-- what is known behind the kept lines, none of which is refused or forked, was written; these are the lines that a keeper
-- holds, where it tells them
pub record Shows (hash : Hash) (held : Option (List (List ℕ))) (before after : Option (List ℕ)) : Type 0 where
  pub kept : List (List ℕ)
  pub kept_is : IfSome held (λ lines. lines ≡ kept)
  pub verdicts : List Verdict
  pub taken : AreTaken hash kept verdicts
  pub told : Appends before after (known_text hash (known_by_all nothing verdicts))

-- a front part of it was, not all of it
pub record ShowsPart (hash : Hash) (held : Option (List (List ℕ))) (before after : Option (List ℕ)) : Type 0 where
  pub kept : List (List ℕ)
  pub kept_is : IfSome held (λ lines. lines ≡ kept)
  pub verdicts : List Verdict
  pub taken : AreTaken hash kept verdicts
  pub part : ℕ
  pub unfinished : part < length (known_text hash (known_by_all nothing verdicts))
  pub told : Appends before after (take part (known_text hash (known_by_all nothing verdicts)))

-- how `show` ends by what the keeper holds, with no fault of it and the sink, memory aside
pub record HasShowFate (hash : Hash) (end : ShowEnd) (kept : List (List ℕ)) : Type 0 where
  pub taken : (verdicts : List Verdict) → AreTaken hash kept verdicts → (end ≡ Ok) ⊎ (end ≡ Memory)
  pub stops : (n : ℕ) → StopsKept hash kept n → (end ≡ Kept (n + 1)) ⊎ (end ≡ Memory)

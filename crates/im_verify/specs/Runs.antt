-- What a run writes and keeps: the lines that tell what became of a stream's lines, up to the first that is forked,
-- and the texts of the accepted messages behind the kept lines. The stream is what the source held, where it tells
-- that, and the kept lines are those that the keeper held, where it tells them.
use Rattle.std.specs.Prelude.{◌≡◌, ◌<◌, ◌≤◌, ◌+◌, ℕ, List, [], ◌∷◌, ◌++◌, length, take, Option, IfSome}
use Rattle.std.specs.Option.{option_map}
use Rattle.std.specs.Io.KnownBytes.{Appends}
use Rattle.im_digest.specs.Digests.{Hash}
use Rattle.im_text.specs.Lines.{AreTexts}
use Rattle.im_wire.specs.declared.messages.Message.{Message}
use Rattle.im_facts.specs.Texts.{verdict_line, verdict_lines}
use Rattle.im_facts.specs.Verdicts.{Verdict, Accepted}
use Rattle.im_verify.specs.Judged.{kept_texts, up_to_fork, AreJudged, IsVerified, NoneForked, NoneRefused, SomeForked, SomeRefused}
use Rattle.im_verify.specs.declared.ended.Ended.{Ended}
use Rattle.im_verify.specs.declared.ended.Ended.TheVariants.{Ok, Refused, Forked}

-- each line of the stream was told, up to the first fork, and each accepted message before it kept; the end says whether
-- some line was forked, and else whether one was refused
pub record Verifies (hash : Hash) (ended : Ended) (source : Option (List ℕ))
    (before after : Option (List ℕ)) (held now : Option (List (List ℕ))) : Type 0 where
  pub stream : List ℕ
  pub stream_is : IfSome source (λ octets. octets ≡ stream)
  pub kept : List (List ℕ)
  pub kept_is : IfSome held (λ lines. lines ≡ kept)
  pub verdicts : List Verdict
  pub verified : IsVerified hash kept stream verdicts
  pub told : Appends before after (verdict_lines 1 (up_to_fork verdicts))
  pub keeps : now ≡ option_map (λ lines. lines ++ kept_texts (up_to_fork verdicts)) held
  pub accepted : ended ≡ Ok → NoneRefused verdicts × NoneForked verdicts
  pub refused : ended ≡ Refused → SomeRefused verdicts × NoneForked verdicts
  pub forked : ended ≡ Forked → SomeForked verdicts

-- the first lines of the stream were told, none of them a fork, and their accepted messages kept, and nothing else
pub record BreaksOff (hash : Hash) (source : Option (List ℕ))
    (before after : Option (List ℕ)) (held now : Option (List (List ℕ))) : Type 0 where
  pub stream : List ℕ
  pub stream_is : IfSome source (λ octets. octets ≡ stream)
  pub kept : List (List ℕ)
  pub kept_is : IfSome held (λ lines. lines ≡ kept)
  pub texts : List (List ℕ)
  pub are : AreTexts stream texts
  pub count : ℕ
  pub verdicts : List Verdict
  pub judged : AreJudged hash kept (take count texts) verdicts
  pub none : NoneForked verdicts
  pub told : Appends before after (verdict_lines 1 verdicts)
  pub keeps : now ≡ option_map (λ lines. lines ++ kept_texts verdicts) held

-- so it did before a line that is accepted, whose message isn't kept
pub record BreaksAt (hash : Hash) (source : Option (List ℕ))
    (before after : Option (List ℕ)) (held now : Option (List (List ℕ))) : Type 0 where
  pub stream : List ℕ
  pub stream_is : IfSome source (λ octets. octets ≡ stream)
  pub kept : List (List ℕ)
  pub kept_is : IfSome held (λ lines. lines ≡ kept)
  pub texts : List (List ℕ)
  pub are : AreTexts stream texts
  pub count : ℕ
  pub within : count < length texts
  pub verdicts : List Verdict
  pub next : Message
  pub judged : AreJudged hash kept (take (count + 1) texts) (verdicts ++ Accepted next ∷ [])
  pub none : NoneForked verdicts
  pub told : Appends before after (verdict_lines 1 verdicts)
  pub keeps : now ≡ option_map (λ lines. lines ++ kept_texts verdicts) held

-- the first lines of the stream were told, and then a front part of what tells the next one, not all of it; the
-- accepted messages of them all are kept, that of the last one too
pub record BreaksInto (hash : Hash) (source : Option (List ℕ))
    (before after : Option (List ℕ)) (held now : Option (List (List ℕ))) : Type 0 where
  pub stream : List ℕ
  pub stream_is : IfSome source (λ octets. octets ≡ stream)
  pub kept : List (List ℕ)
  pub kept_is : IfSome held (λ lines. lines ≡ kept)
  pub texts : List (List ℕ)
  pub are : AreTexts stream texts
  pub count : ℕ
  pub verdicts : List Verdict
  pub last : Verdict
  pub judged : AreJudged hash kept (take count texts) (verdicts ++ last ∷ [])
  pub part : ℕ
  pub unfinished : part < length (verdict_line (length verdicts + 1) last)
  pub none : NoneForked verdicts
  pub told : Appends before after (verdict_lines 1 verdicts ++ take part (verdict_line (length verdicts + 1) last))
  pub keeps : now ≡ option_map (λ lines. lines ++ kept_texts (verdicts ++ last ∷ [])) held

-- of what tells the stream's first lines some front part was written, and the first of their accepted
-- messages were kept: each line that was written whole has its message kept
pub record KeepsFirst (hash : Hash) (source : Option (List ℕ))
    (before after : Option (List ℕ)) (held now : Option (List (List ℕ))) : Type 0 where
  pub stream : List ℕ
  pub stream_is : IfSome source (λ octets. octets ≡ stream)
  pub kept : List (List ℕ)
  pub kept_is : IfSome held (λ lines. lines ≡ kept)
  pub texts : List (List ℕ)
  pub are : AreTexts stream texts
  pub count : ℕ
  pub verdicts : List Verdict
  pub judged : AreJudged hash kept (take count texts) verdicts
  pub octets : ℕ
  pub told : Appends before after (take octets (verdict_lines 1 verdicts))
  pub messages : ℕ
  pub keeps : now ≡ option_map (λ lines. lines ++ take messages (kept_texts verdicts)) held
  pub each : (i : ℕ) → i ≤ length verdicts → length (verdict_lines 1 (take i verdicts)) ≤ octets
      → length (kept_texts (take i verdicts)) ≤ messages

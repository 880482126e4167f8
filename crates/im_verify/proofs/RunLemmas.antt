-- From the lines of a stream to the whole run, and what was kept however it broke off.
use Rattle.std.proofs.Common.{◌≡◌, ◌+◌, ◌≤◌, ℕ, zero, suc, List, [], ◌∷◌, ◌++◌, length, take, Option, Some, None, IfSome, sym, ap, subst, ◌∙◌, arith, length-append}
use Rattle.std.specs.Option.{option_map}
use Rattle.std.specs.Io.KnownBytes.{Appends}
use Rattle.std.proofs.Math.Seq.{take-append-add}
use Rattle.std.proofs.lemmas.List.{take_all}
use Rattle.im_digest.specs.Digests.{Hash}
use Rattle.im_text.specs.Lines.{AreTexts}
use Rattle.im_facts.specs.Facts.{Known, nothing}
use Rattle.im_facts.specs.Folds.{AreVerdicts, known_by_all}
use Rattle.im_facts.specs.Texts.{verdict_line, verdict_lines}
use Rattle.im_facts.specs.Verdicts.{Verdict, Accepted}
use Rattle.im_verify.specs.Judged.{kept_text, kept_texts, up_to_fork, AreJudged, NoneForked, NoneRefused, SomeForked, SomeRefused}
use Rattle.im_verify.specs.Runs.{BreaksAt, BreaksInto, BreaksOff, KeepsFirst, Verifies}
use Rattle.im_verify.specs.Turns.{done, TakesAll, TakesAt, TakesHeld, TakesInto, TakesKept, TakesSome}
use Rattle.im_verify.specs.declared.ended.Ended.{Ended}
use Rattle.im_verify.specs.declared.ended.Ended.TheVariants.{Ok, Refused, Forked}
use Rattle.im_verify.specs.declared.lines.LineEnd.{LineEnd}
use Rattle.im_verify.specs.declared.lines.LineEnd.TheVariants as the
use Rattle.im_verify.proofs.FoldLemmas.{fold-before, lines-push}

judged : (hash : Hash) (kept texts : List (List ℕ)) (known : Known) (os : List Verdict) → TakesKept hash kept known → AreVerdicts hash known texts os → AreJudged hash kept texts os
judged hash kept texts known os t f = record {
  before = t.verdicts;
  taken = t.taken;
  fold = subst (λ (s : Known). AreVerdicts hash s texts os) t.follows f;
}

-- what the source holds, where it tells it, is what was read
pub told : (left : Option (List ℕ)) (stream slice : List ℕ) (P : List ℕ → Type 0) → IfSome left (λ xs. stream ≡ xs) → slice ≡ stream → P slice → IfSome left P
told None stream slice P read same h = tt
told (Some xs) stream slice P read same h = subst P (same ∙ read) h

-- the taking of its lines left the keeper's lines as they were
held-same : {held mid : Option (List (List ℕ))} → mid ≡ held → (more : List (List ℕ)) → option_map (λ (xs : List (List ℕ)). xs ++ more) mid ≡ option_map (λ (xs : List (List ℕ)). xs ++ more) held
held-same still more = ap (option_map (λ (xs : List (List ℕ)). xs ++ more)) still

-- so it is as a slice lends it
pub source_is : (left : Option (List ℕ)) (stream slice : List ℕ) → IfSome left (λ xs. stream ≡ xs) → slice ≡ stream → IfSome left (λ octets. octets ≡ slice)
source_is None stream slice read same = tt
source_is (Some xs) stream slice read same = sym (same ∙ read)

-- which end of a run is which end of its lines
abbrev pub ended_as : LineEnd → Ended
ended_as the.Fine = Ok
ended_as the.Refused = Refused
ended_as the.Forked = Forked

-- behind the lines that a keeper held: a run is done
verified : (hash : Hash) (source : Option (List ℕ)) (held mid : Option (List (List ℕ))) (stream : List ℕ) (known : Known) (end : LineEnd)
    (before after : Option (List ℕ)) (now : Option (List (List ℕ)))
    → IfSome source (λ octets. octets ≡ stream) → mid ≡ held → TakesHeld hash held known → (t : TakesAll hash known stream end (done before mid) (done after now))
    → (ended_as end ≡ Ok → NoneRefused t.verdicts × NoneForked t.verdicts) → (ended_as end ≡ Refused → SomeRefused t.verdicts × NoneForked t.verdicts)
    → (ended_as end ≡ Forked → SomeForked t.verdicts) → Verifies hash (ended_as end) source before after held now
verified hash source held mid stream known end before after now is still took t accepted refused forked = record {
  stream = stream;
  stream_is = is;
  kept = took.kept;
  kept_is = took.kept_is;
  verdicts = t.verdicts;
  verified = record { texts = t.texts; are = t.are; judged = judged hash took.kept t.texts known t.verdicts took.takes t.fold };
  told = t.adds.told;
  keeps = t.adds.keeps ∙ held-same still (kept_texts (up_to_fork t.verdicts));
  accepted = accepted;
  refused = refused;
  forked = forked;
}

pub verifies : (hash : Hash) (source : Option (List ℕ)) (held mid : Option (List (List ℕ))) (stream : List ℕ) (known : Known) (end : LineEnd)
    (before after : Option (List ℕ)) (now : Option (List (List ℕ)))
    → IfSome source (λ octets. octets ≡ stream) → mid ≡ held → TakesHeld hash held known → TakesAll hash known stream end (done before mid) (done after now)
    → Verifies hash (ended_as end) source before after held now
verifies hash source held mid stream known the.Fine before after now is still took t =
    verified hash source held mid stream known the.Fine before after now is still took t (λ e. t.ends) (λ e. absurd cc) (λ e. absurd cc)
verifies hash source held mid stream known the.Refused before after now is still took t =
    verified hash source held mid stream known the.Refused before after now is still took t (λ e. absurd cc) (λ e. t.ends) (λ e. absurd cc)
verifies hash source held mid stream known the.Forked before after now is still took t =
    verified hash source held mid stream known the.Forked before after now is still took t (λ e. absurd cc) (λ e. absurd cc) (λ e. t.ends)

-- it broke off in what tells a line
pub breaks-into : (hash : Hash) (source : Option (List ℕ)) (held mid : Option (List (List ℕ))) (stream : List ℕ) (known : Known) (before after : Option (List ℕ)) (now : Option (List (List ℕ)))
    → IfSome source (λ octets. octets ≡ stream) → mid ≡ held → TakesHeld hash held known → TakesInto hash known stream (done before mid) (done after now)
    → BreaksInto hash source before after held now
breaks-into hash source held mid stream known before after now is still took t =
    record {
      stream = stream;
      stream_is = is;
      kept = took.kept;
      kept_is = took.kept_is;
      texts = t.texts;
      are = t.are;
      count = t.count;
      verdicts = t.verdicts;
      last = t.last;
      judged = judged hash took.kept (take t.count t.texts) known (t.verdicts ++ t.last ∷ []) took.takes t.fold;
      part = t.part;
      unfinished = t.unfinished;
      none = t.none;
      told = t.adds.told;
      keeps = t.adds.keeps ∙ held-same still (kept_texts (t.verdicts ++ t.last ∷ []));
    }

-- it broke off behind the first lines
pub breaks-off : (hash : Hash) (source : Option (List ℕ)) (held mid : Option (List (List ℕ))) (stream : List ℕ) (known : Known) (before after : Option (List ℕ)) (now : Option (List (List ℕ)))
    → IfSome source (λ octets. octets ≡ stream) → mid ≡ held → TakesHeld hash held known → TakesSome hash known stream (done before mid) (done after now)
    → BreaksOff hash source before after held now
breaks-off hash source held mid stream known before after now is still took t =
    record {
      stream = stream;
      stream_is = is;
      kept = took.kept;
      kept_is = took.kept_is;
      texts = t.texts;
      are = t.are;
      count = t.count;
      verdicts = t.verdicts;
      judged = judged hash took.kept (take t.count t.texts) known t.verdicts took.takes t.fold;
      none = t.none;
      told = t.adds.told;
      keeps = t.adds.keeps ∙ held-same still (kept_texts t.verdicts);
    }

-- it broke off before a line that is accepted
pub breaks-at : (hash : Hash) (source : Option (List ℕ)) (held mid : Option (List (List ℕ))) (stream : List ℕ) (known : Known) (before after : Option (List ℕ)) (now : Option (List (List ℕ)))
    → IfSome source (λ octets. octets ≡ stream) → mid ≡ held → TakesHeld hash held known → TakesAt hash known stream (done before mid) (done after now)
    → BreaksAt hash source before after held now
breaks-at hash source held mid stream known before after now is still took t =
    record {
      stream = stream;
      stream_is = is;
      kept = took.kept;
      kept_is = took.kept_is;
      texts = t.texts;
      are = t.are;
      count = t.count;
      within = t.within;
      verdicts = t.verdicts;
      next = t.next;
      judged = judged hash took.kept (take (t.count + 1) t.texts) known (t.verdicts ++ Accepted t.next ∷ []) took.takes t.fold;
      none = t.none;
      told = t.adds.told;
      keeps = t.adds.keeps ∙ held-same still (kept_texts t.verdicts);
    }

-- the lines before are no more than them all
fewer-texts : (i : ℕ) (os : List Verdict) → length (kept_texts (take i os)) ≤ length (kept_texts os)
fewer-texts zero os = omega arith
fewer-texts (suc i) [] = omega arith
fewer-texts (suc i) (o ∷ os) =
    let rest : length (kept_texts (take i os)) ≤ length (kept_texts os) = fewer-texts i os in
    let a : length (kept_text o ++ kept_texts (take i os)) ≡ length (kept_text o) + length (kept_texts (take i os)) = length-append (kept_text o) (kept_texts (take i os)) in
    let b : length (kept_text o ++ kept_texts os) ≡ length (kept_text o) + length (kept_texts os) = length-append (kept_text o) (kept_texts os) in
    omega arith

-- where all messages are kept, each of a written line is
keeps-all : (hash : Hash) (source before after : Option (List ℕ)) (held now : Option (List (List ℕ))) (stream : List ℕ) (kept texts : List (List ℕ)) (count : ℕ) (os : List Verdict) (octets : ℕ)
    → IfSome source (λ xs. xs ≡ stream) → IfSome held (λ lines. lines ≡ kept)
    → AreTexts stream texts → AreJudged hash kept (take count texts) os → Appends before after (take octets (verdict_lines 1 os)) → now ≡ option_map (λ (lines : List (List ℕ)). lines ++ kept_texts os) held
    → KeepsFirst hash source before after held now
keeps-all hash source before after held now stream kept texts count os octets stream_is kept_is are is told keeps = record {
  stream = stream;
  stream_is = stream_is;
  kept = kept;
  kept_is = kept_is;
  texts = texts;
  are = are;
  count = count;
  verdicts = os;
  judged = is;
  octets = octets;
  told = told;
  messages = length (kept_texts os);
  keeps = keeps ∙ ap (λ (ts : List (List ℕ)). option_map (λ (lines : List (List ℕ)). lines ++ ts) held) (sym (take_all (length (kept_texts os)) (kept_texts os) (omega arith)));
  each = λ i within written. fewer-texts i os;
}

pub off-keeps : (hash : Hash) (source before after : Option (List ℕ)) (held now : Option (List (List ℕ))) → BreaksOff hash source before after held now → KeepsFirst hash source before after held now
off-keeps hash source before after held now b =
    let all : take (length (verdict_lines 1 b.verdicts)) (verdict_lines 1 b.verdicts) ≡ verdict_lines 1 b.verdicts = take_all _ (verdict_lines 1 b.verdicts) (omega arith) in
    keeps-all hash source before after held now b.stream b.kept b.texts b.count b.verdicts (length (verdict_lines 1 b.verdicts)) b.stream_is b.kept_is b.are b.judged
    (subst (λ (x : List ℕ). Appends before after x) (sym all) b.told) b.keeps

pub into-keeps : (hash : Hash) (source before after : Option (List ℕ)) (held now : Option (List (List ℕ))) → BreaksInto hash source before after held now → KeepsFirst hash source before after held now
into-keeps hash source before after held now b =
    let front : List ℕ = verdict_lines 1 b.verdicts in
    let next : List ℕ = verdict_line (length b.verdicts + 1) b.last in
    let n : 1 + length b.verdicts ≡ length b.verdicts + 1 = omega arith in
    let whole : verdict_lines 1 (b.verdicts ++ b.last ∷ []) ≡ front ++ next = lines-push 1 b.verdicts b.last ∙ ap (λ k. front ++ verdict_line k b.last) n in
    let part : take (length front + b.part) (verdict_lines 1 (b.verdicts ++ b.last ∷ [])) ≡ front ++ take b.part next =
    ap (take (length front + b.part)) whole ∙ take-append-add front next b.part in
    keeps-all hash source before after held now b.stream b.kept b.texts b.count (b.verdicts ++ b.last ∷ []) (length front + b.part) b.stream_is b.kept_is b.are b.judged
    (subst (λ (x : List ℕ). Appends before after x) (sym part) b.told) b.keeps

-- a run that broke off before an accepted line broke off
pub at-off : (hash : Hash) (source before after : Option (List ℕ)) (held now : Option (List (List ℕ))) → BreaksAt hash source before after held now → BreaksOff hash source before after held now
at-off hash source before after held now b = record {
  stream = b.stream;
  stream_is = b.stream_is;
  kept = b.kept;
  kept_is = b.kept_is;
  texts = b.texts;
  are = b.are;
  count = b.count;
  verdicts = b.verdicts;
  judged = record {
    before = b.judged.before;
    taken = b.judged.taken;
    fold = fold-before hash (known_by_all nothing b.judged.before) b.texts b.count b.verdicts (Accepted b.next) b.within b.judged.fold;
  };
  none = b.none;
  told = b.told;
  keeps = b.keeps;
}

pub at-keeps : (hash : Hash) (source before after : Option (List ℕ)) (held now : Option (List (List ℕ))) → BreaksAt hash source before after held now → KeepsFirst hash source before after held now
at-keeps hash source before after held now b = off-keeps hash source before after held now (at-off hash source before after held now b)

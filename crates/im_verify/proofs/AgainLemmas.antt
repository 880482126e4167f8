-- What was kept is taken again.
use Rattle.std.proofs.Common.{◌≡◌, ◌≢◌, ℕ, List, [], ◌∷◌, ◌++◌, true, Some, refl, subst, ◌∙◌, inr}
use Rattle.std.specs.List.{All}
use Rattle.std.proofs.lemmas.Bool.{and_parts, both_ways}
use Rattle.std.proofs.lemmas.List.Elements.{All-nil, All-cons, All-append}
use Rattle.im_text.specs.Words.{is_word}
use Rattle.im_digest.specs.Digests.{Hash}
use Rattle.im_text.specs.Fields.{is_session_octet, IsSession}
use Rattle.im_wire.specs.Lines.{IsLine, IsReply}
use Rattle.im_wire.specs.Messages.{HasMessage}
use Rattle.im_wire.specs.Texts.{text}
use Rattle.im_wire.specs.declared.messages.Message.{Message}
use Rattle.im_wire.specs.declared.messages.Message.TheVariants as says
use Rattle.im_facts.specs.Facts.{Known, nothing}
use Rattle.im_facts.specs.Folds.{AreVerdicts, known_by, known_by_all}
use Rattle.im_facts.specs.Verdicts.{Verdict, Passed, Accepted, Refused, Forked}
use Rattle.im_verify.specs.Judged.{kept_texts, up_to_fork, AreJudged, AreTaken, IsRejected}
use Rattle.im_wire.proofs.FitLemmas.{said-fits}
use Rattle.im_verify.proofs.FoldLemmas.{fold-append, known-append}
use Rattle.im_verify.proofs.PrintLemmas.{text-again}

-- a session's name begins with no brace
no-brace : (session front rest : List ℕ) → IsSession session → 123 ∷ rest ≡ session ++ 32 ∷ front → ⊥
unfolding is_word
no-brace [] front rest is e = cc is
no-brace (o ∷ session) front rest is e =
    let same : o ≡ 123 = cc in
    let kind : is_session_octet o ≡ true = (and_parts _ _ (and_parts _ _ is).1).0 in
    both_ways (is_session_octet 123) refl (subst (λ (c : ℕ). is_session_octet c ≡ true) same kind)

brace-no-reply : (rest shown : List ℕ) → IsReply (123 ∷ rest) shown → ⊥
brace-no-reply rest shown r = no-brace r.session (r.number ++ 32 ∷ shown) rest r.is_session r.text

brace-some : (rest : List ℕ) → 123 ∷ rest ≢ []
brace-some rest e = cc

-- an object's text that says a message is a line that does
brace-line : (rest : List ℕ) (m : Message) → HasMessage (123 ∷ rest) m → IsLine (123 ∷ rest) (Some m)
brace-line rest m h = (123 ∷ rest, inr (refl, brace-some rest, brace-no-reply rest), h)

text-line : (m : Message) → HasMessage (text m) m → IsLine (text m) (Some m)
unfolding text
text-line (says.State header) h = brace-line _ (says.State header) h
text-line (says.Dual dual) h = brace-line _ (says.Dual dual) h
text-line (says.Advance dual anchor) h = brace-line _ (says.Advance dual anchor) h
text-line (says.Item dual entry index path) h = brace-line _ (says.Item dual entry index path) h

-- the text of a message that a line says is a line that says it
line-again : (line : List ℕ) (m : Message) → IsLine line (Some m) → IsLine (text m) (Some m)
line-again line m h = text-line m (text-again m (said-fits h.0 m h.2))

-- what becomes of the kept lines, from the same knowledge on: all are taken, and what is known behind them is the same
record TakenAgain (hash : Hash) (known : Known) (kept : List (List ℕ)) (behind : Known) : Type 0 where
  verdicts : List Verdict
  fold : AreVerdicts hash known kept verdicts
  accepted : All (λ (v : Verdict). IsRejected v → ⊥) verdicts
  same : known_by_all known verdicts ≡ behind

taken-again : (hash : Hash) (known : Known) (lines : List (List ℕ)) (os : List Verdict) → AreVerdicts hash known lines os
    → TakenAgain hash known (kept_texts (up_to_fork os)) (known_by_all known (up_to_fork os))
taken-again hash known [] [] f = record { verdicts = []; fold = tt; accepted = All-nil (λ (o : Verdict). IsRejected o → ⊥); same = refl }
taken-again hash known [] (o ∷ os) f = absurd f
taken-again hash known (l ∷ lines) [] f = absurd f
taken-again hash known (l ∷ lines) (Passed ∷ os) f = taken-again hash known lines os f.1
taken-again hash known (l ∷ lines) (Refused fault ∷ os) f = taken-again hash known lines os f.1
taken-again hash known (l ∷ lines) (Accepted m ∷ os) f =
    let rest = taken-again hash (known_by known (Accepted m)) lines os f.1 in
    record {
      verdicts = Accepted m ∷ rest.verdicts;
      fold = ((line-again l m f.0.0, f.0.1), rest.fold);
      accepted = All-cons (λ (o : Verdict). IsRejected o → ⊥) (Accepted m) rest.verdicts (λ r. r) rest.accepted;
      same = rest.same;
    }
taken-again hash known (l ∷ lines) (Forked x y ∷ os) f = record { verdicts = []; fold = tt; accepted = All-nil (λ (o : Verdict). IsRejected o → ⊥); same = refl }

-- behind the lines that were kept before, too
pub kept-again : (hash : Hash) (kept texts : List (List ℕ)) (verdicts : List Verdict) (judged : AreJudged hash kept texts verdicts)
    → (again : List Verdict) × AreTaken hash (kept ++ kept_texts (up_to_fork verdicts)) again
    × (known_by_all nothing again ≡ known_by_all (known_by_all nothing judged.before) (up_to_fork verdicts))
kept-again hash kept texts verdicts judged =
    let before : List Verdict = judged.before in
    let t = taken-again hash (known_by_all nothing before) texts verdicts judged.fold in (
      before ++ t.verdicts,
      record {
        fold = fold-append hash nothing kept (kept_texts (up_to_fork verdicts)) before t.verdicts judged.taken.fold t.fold;
        accepted = All-append (λ (o : Verdict). IsRejected o → ⊥) before t.verdicts judged.taken.accepted t.accepted;
      },
      known-append nothing before t.verdicts ∙ t.same,
    )

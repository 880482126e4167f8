-- Each line has a verdict, where a message that differs comes with a pair; and behind lines a client is one still.
use Rattle.std.proofs.Common.{◌≡◌, ◌⊎◌, ℕ, List, [], ◌∷◌, ◌++◌, refl, inl, inr, Some, None, Result, Ok, Err}
use Rattle.im_digest.specs.Digests.{Hash}
use Rattle.im_mtree.specs.Checks.{first_fail}
use Rattle.im_pairs.specs.Pairs.{HasPair}
use Rattle.im_hashed.specs.Messages.{strings_of}
use Rattle.im_wire.specs.Fits.{IsMessage}
use Rattle.im_wire.specs.Lines.{IsLine}
use Rattle.im_wire.specs.declared.messages.Message.{Message}
use Rattle.im_wire.proofs.FitLemmas.{said-fits}
use Rattle.im_client.specs.LineChecks.{line_checks}
use Rattle.im_client.specs.declared.faults.LineFault.{LineFault}
use Rattle.im_client.specs.declared.faults.LineFault.TheVariants.{Syntax}
use Rattle.im_client.proofs.LineSome.{LineOrBad, line-or-bad}
use Rattle.im_facts.specs.Accepted.{Passes, IsClient}
use Rattle.im_facts.specs.Facts.{Known, Agrees, Differs}
use Rattle.im_facts.specs.Folds.{IsVerdict, AreVerdicts, known_by, known_by_all}
use Rattle.im_facts.specs.Verdicts.{Verdict, Passed, Accepted, Refused, Forked}
use Rattle.im_facts.proofs.AgreeLemmas.{agrees-or-differs}
use Rattle.im_facts.proofs.KeepLemmas.{client-accepts}

-- a message that a line says has the ranges of its types
pub line-fits : (line : List ℕ) (m : Message) → IsLine line (Some m) → IsMessage m
line-fits line m says = said-fits says.0 m says.2

-- where a message that passes and differs comes with a pair
abbrev pub ForksHavePairs : Hash → Known → List ℕ → Type 0
ForksHavePairs hash known line = (m : Message) → IsLine line (Some m) → Passes hash known m → Differs known m → HasPair hash (strings_of hash (known.messages ++ m ∷ []))

-- a line has a verdict
pub verdict-exists : (hash : Hash) (known : Known) (line : List ℕ) → ForksHavePairs hash known line → (verdict : Verdict) × IsVerdict hash known line verdict
verdict-exists hash known line pairs = go (line-or-bad line)
  where
    compared : (m : Message) → IsLine line (Some m) → Passes hash known m → Agrees known m ⊎ Differs known m → (verdict : Verdict) × IsVerdict hash known line verdict
    compared m says passes (inl agrees) = (Accepted m, (says, record { passes = passes; agrees = agrees }))
    compared m says passes (inr differs) =
        let pair = pairs m says passes differs in
        (Forked pair.0 pair.1, (m, says, record { passes = passes; differs = differs; pair = pair.2 }))

    checked : (m : Message) → IsLine line (Some m) → (r : Result (Unit {0}) LineFault) → first_fail (line_checks hash known.state m) ≡ r → (verdict : Verdict) × IsVerdict hash known line verdict
    checked m says (Ok tt) is = compared m says is (agrees-or-differs known m)
    checked m says (Err fault) is = (Refused fault, inr (m, says, is))

    go : LineOrBad line → (verdict : Verdict) × IsVerdict hash known line verdict
    go (inl (None, says)) = (Passed, says)
    go (inl (Some m, says)) = checked m says (first_fail (line_checks hash known.state m)) refl
    go (inr bad) = (Refused Syntax, inl (bad, refl))

-- behind a line a client is one still
pub client-by : (hash : Hash) (known : Known) (line : List ℕ) (verdict : Verdict) → ((m : Message) → IsLine line (Some m) → IsMessage m) → IsClient hash known → IsVerdict hash known line verdict → IsClient hash (known_by known verdict)
client-by hash known line Passed fits client is = client
client-by hash known line (Accepted m) fits client is = client-accepts hash known m client (fits m is.0) is.1
client-by hash known line (Refused fault) fits client is = client
client-by hash known line (Forked x y) fits client is = client

-- so behind lines
pub client-by-all : (hash : Hash) (known : Known) (lines : List (List ℕ)) (verdicts : List Verdict) → ((line : List ℕ) (m : Message) → IsLine line (Some m) → IsMessage m) → IsClient hash known → AreVerdicts hash known lines verdicts
    → IsClient hash (known_by_all known verdicts)
client-by-all hash known [] [] fits client are = client
client-by-all hash known [] (v ∷ verdicts) fits client are = absurd are
client-by-all hash known (line ∷ lines) [] fits client are = absurd are
client-by-all hash known (line ∷ lines) (v ∷ verdicts) fits client are =
    client-by-all hash (known_by known v) lines verdicts fits (client-by hash known line v (fits line) client are.0) are.1

-- lines have verdicts
pub verdicts-exist : (hash : Hash) (known : Known) (lines : List (List ℕ)) → ((line : List ℕ) (m : Message) → IsLine line (Some m) → IsMessage m)
    → ((after : Known) (line : List ℕ) → IsClient hash after → ForksHavePairs hash after line) → IsClient hash known → (verdicts : List Verdict) × AreVerdicts hash known lines verdicts
verdicts-exist hash known [] fits pairs client = ([], tt)
verdicts-exist hash known (line ∷ lines) fits pairs client =
    let first = verdict-exists hash known line (pairs known line client) in
    let rest = verdicts-exist hash (known_by known first.0) lines fits pairs (client-by hash known line first.0 (fits line) client first.1) in
    (first.0 ∷ rest.0, (first.1, rest.1))

-- A script, one line after the other.
use Rattle.std.proofs.Common.{◌≡◌, ℕ, suc, ◌+◌, ◌<◌, ◌==◌, List, [], ◌∷◌, ◌++◌, length, true, inl, inr, refl, subst, sym, ap, ◌∙◌, arith, append-nil, append_assoc}
use Rattle.std.proofs.lemmas.Bool.{eqb-true}
use Rattle.im_script.specs.declared.commands.Line.{Line}
use Rattle.im_text.specs.Lines.{AreTexts, IsFirstText}
use Rattle.im_text.proofs.LineLemmas.{texts-exist, texts-more}
use Rattle.im_script.specs.Script.{Say, Stop, IsScript, StopsAfter}
use Rattle.im_script.specs.Arguments.{IsTaken, IsTextRefused, ReadSoFar, with_end, with_line}

-- behind lines of sessions with these names, the octets say what is left of a phase, and the phases behind it
abbrev pub SaysBehind : List (List ℕ) → List ℕ → List Line → List (List Line) → Type 0
SaysBehind names octets lines more = (texts : List (List ℕ)) × AreTexts octets texts × Say names texts lines more

-- behind lines of sessions with these names, n of the octets' texts are taken, and the next one isn't
abbrev pub StopsBehind : List (List ℕ) → List ℕ → ℕ → Type 0
StopsBehind names octets n = (texts : List (List ℕ)) × AreTexts octets texts × Stop names texts n

-- the phases of a script of which this was read, and these lines and phases are left
abbrev pub whole : ReadSoFar → List Line → List (List Line) → List (List Line)
whole before lines more = before.phases ++ (before.lines ++ lines) ∷ more

-- whatever is said behind what was read, the octets are a script of both
abbrev pub IsReadSoFar : List ℕ → ReadSoFar → List ℕ → Type 0
IsReadSoFar octets before rest =
    (lines : List Line) (more : List (List Line)) → SaysBehind before.names rest lines more → IsScript octets (whole before lines more)

-- the next text is refused
pub stops-here : (names : List (List ℕ)) (octets text behind : List ℕ) → 0 < length octets → IsFirstText octets text behind → IsTextRefused names text → StopsBehind names octets 0
stops-here names octets text behind some first refused =
    let t = texts-exist behind in (text ∷ t.0, texts-more octets text behind t.0 some first t.1, refused)

stops-more : (before after : ReadSoFar) (octets text behind : List ℕ) (n : ℕ) → 0 < length octets → IsFirstText octets text behind → IsTaken before text after → StopsBehind after.names behind n → StopsBehind before.names octets (suc n)
stops-more before after octets text behind n some first (inl p) h =
    (text ∷ h.0, texts-more octets text behind h.0 some first h.1, inl (p.0, subst (λ (s : ReadSoFar). Stop s.names h.0 n) p.1 h.2))
stops-more before after octets text behind n some first (inr (inl p)) h =
    (text ∷ h.0, texts-more octets text behind h.0 some first h.1, inr (inl (p.0, subst (λ (s : ReadSoFar). Stop s.names h.0 n) p.1 h.2)))
stops-more before after octets text behind n some first (inr (inr p)) h =
    (text ∷ h.0, texts-more octets text behind h.0 some first h.1, inr (inr (p.0, p.2, p.3, subst (λ (s : ReadSoFar). Stop s.names h.0 n) p.1 h.2)))

-- the phases are the same, whether a phase is ended before or behind a text
ended-whole : (before : ReadSoFar) (lines : List Line) (more : List (List Line)) → whole before [] (lines ∷ more) ≡ whole (with_end before) lines more
ended-whole before lines more =
    ap (λ (l : List Line). before.phases ++ l ∷ lines ∷ more) (append-nil before.lines) ∙ sym (append_assoc before.phases (before.lines ∷ []) (lines ∷ more))

lined-whole : (before : ReadSoFar) (line : Line) (lines : List Line) (more : List (List Line)) → whole before (line ∷ lines) more ≡ whole (with_line before line) lines more
lined-whole before line lines more = ap (λ (l : List Line). before.phases ++ l ∷ more) (sym (append_assoc before.lines (line ∷ []) lines))

-- a text more is taken
pub read-next : (before after : ReadSoFar) (octets rest text behind : List ℕ) → 0 < length rest → IsFirstText rest text behind → IsTaken before text after → IsReadSoFar octets before rest → IsReadSoFar octets after behind
read-next before after octets rest text behind some first (inl p) read = λ lines more h.
    subst (λ (s : ReadSoFar). IsScript octets (whole s lines more)) (sym p.1)
    (read lines more (text ∷ h.0, texts-more rest text behind h.0 some first h.1, inl (p.0, subst (λ (s : ReadSoFar). Say s.names h.0 lines more) p.1 h.2)))
read-next before after octets rest text behind some first (inr (inl p)) read = λ lines more h.
    let says = subst (λ (s : ReadSoFar). Say s.names h.0 lines more) p.1 h.2 in
    let script = read [] (lines ∷ more) (text ∷ h.0, texts-more rest text behind h.0 some first h.1, inr (inl (p.0, refl, (lines, more, refl, says)))) in
    subst (λ (s : ReadSoFar). IsScript octets (whole s lines more)) (sym p.1) (subst (λ (l : List (List Line)). IsScript octets l) (ended-whole before lines more) script)
read-next before after octets rest text behind some first (inr (inr p)) read = λ lines more h.
    let says = subst (λ (s : ReadSoFar). Say s.names h.0 lines more) p.1 h.2 in
    let script = read (p.0 ∷ lines) more (text ∷ h.0, texts-more rest text behind h.0 some first h.1, inr (inr (p.0, lines, refl, p.2, p.3, says))) in
    subst (λ (s : ReadSoFar). IsScript octets (whole s lines more)) (sym p.1) (subst (λ (l : List (List Line)). IsScript octets l) (lined-whole before p.0 lines more) script)

-- where it stops behind a text more
pub stops-next : (before after : ReadSoFar) (octets rest text behind : List ℕ) (number : ℕ) → 0 < length rest → IsFirstText rest text behind → IsTaken before text after → ((n : ℕ) → StopsBehind before.names rest n → StopsAfter octets (number + n)) → (n : ℕ) → StopsBehind after.names behind n → StopsAfter octets (number + 1 + n)
stops-next before after octets rest text behind number some first taken stops n h =
    let same : number + suc n ≡ number + 1 + n = omega arith in
    subst (λ (m : ℕ). StopsAfter octets m) same (stops (suc n) (stops-more before after rest text behind n some first taken h))

-- all is read
pub script-end : (octets rest : List ℕ) (before : ReadSoFar) → (length rest == 0) ≡ true → IsReadSoFar octets before rest → IsScript octets (with_end before).phases
script-end octets [] before e read =
    subst (λ (l : List Line). IsScript octets (before.phases ++ l ∷ [])) (append-nil before.lines) (read [] [] ([], refl, (refl, refl)))
script-end octets (o ∷ rest) before e read = absurd (let z : length (o ∷ rest) ≡ 0 = eqb-true _ _ e in omega arith)

-- the number of the text that is refused
pub refused-at : (octets : List ℕ) (number k : ℕ) → k ≡ number + 1 → StopsAfter octets (number + 0) → (n : ℕ) × (k ≡ n + 1) × StopsAfter octets n
refused-at octets number k same stops =
    let e : k ≡ number + 0 + 1 = omega arith in
    (number + 0, e, stops)

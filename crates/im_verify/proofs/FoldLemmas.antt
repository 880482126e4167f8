-- One line more, and one verdict more.
use Rattle.std.proofs.Common.{◌≡◌, ◌+◌, ◌<◌, ℕ, zero, suc, List, [], ◌∷◌, ◌++◌, length, take, refl, sym, ap, subst, ◌∙◌, arith, append_assoc, append-nil, add-zero, length-append}
use Rattle.std.proofs.Math.Seq.{take-append_seam}
use Rattle.std.proofs.lemmas.List.{length-take-le}
use Rattle.im_digest.specs.Digests.{Hash}
use Rattle.im_facts.specs.Facts.{Known}
use Rattle.im_facts.specs.Folds.{AreVerdicts, IsVerdict, known_by, known_by_all}
use Rattle.im_facts.specs.Texts.{verdict_line, verdict_lines}
use Rattle.im_facts.specs.Verdicts.{Verdict}
use Rattle.im_verify.specs.Judged.{kept_text, kept_texts}

-- what is known behind one line more
pub known-push : (known : Known) (os : List Verdict) (o : Verdict) → known_by_all known (os ++ o ∷ []) ≡ known_by (known_by_all known os) o
known-push known [] o = refl
known-push known (x ∷ os) o = known-push (known_by known x) os o

-- what becomes of one line more
pub fold-push : (hash : Hash) (known : Known) (lines : List (List ℕ)) (os : List Verdict) (line : List ℕ) (o : Verdict)
    → AreVerdicts hash known lines os → IsVerdict hash (known_by_all known os) line o → AreVerdicts hash known (lines ++ line ∷ []) (os ++ o ∷ [])
fold-push hash known [] [] line o f is = (is, tt)
fold-push hash known [] (x ∷ os) line o f is = absurd f
fold-push hash known (l ∷ lines) [] line o f is = absurd f
fold-push hash known (l ∷ lines) (x ∷ os) line o f is = (f.0, fold-push hash (known_by known x) lines os line o f.1 is)

-- each line has one verdict
pub fold-length : (hash : Hash) (known : Known) (lines : List (List ℕ)) (os : List Verdict) → AreVerdicts hash known lines os → length os ≡ length lines
fold-length hash known [] [] f = refl
fold-length hash known [] (x ∷ os) f = absurd f
fold-length hash known (l ∷ lines) [] f = absurd f
fold-length hash known (l ∷ lines) (x ∷ os) f = ap suc (fold-length hash (known_by known x) lines os f.1)

-- the first lines have the first verdicts
pub fold-take : (hash : Hash) (known : Known) (lines : List (List ℕ)) (os : List Verdict) (n : ℕ) → AreVerdicts hash known lines os → AreVerdicts hash known (take n lines) (take n os)
fold-take hash known lines os zero f = tt
fold-take hash known [] [] (suc n) f = tt
fold-take hash known [] (o ∷ os) (suc n) f = absurd f
fold-take hash known (l ∷ lines) [] (suc n) f = absurd f
fold-take hash known (l ∷ lines) (o ∷ os) (suc n) f = (f.0, fold-take hash (known_by known o) lines os n f.1)

pub take-take : (xs : List (List ℕ)) (n m : ℕ) → n < m → take n (take m xs) ≡ take n xs
take-take xs zero m lt = refl
take-take xs (suc n) zero lt = absurd (omega arith)
take-take [] (suc n) (suc m) lt = refl
take-take (x ∷ xs) (suc n) (suc m) lt = ap (λ (l : List (List ℕ)). x ∷ l) (take-take xs n m (omega arith))

-- the lines before the last one have the verdicts before its own
pub fold-before : (hash : Hash) (known : Known) (texts : List (List ℕ)) (count : ℕ) (os : List Verdict) (o : Verdict)
    → count < length texts → AreVerdicts hash known (take (count + 1) texts) (os ++ o ∷ []) → AreVerdicts hash known (take count texts) os
fold-before hash known texts count os o within f =
    let more : length (os ++ o ∷ []) ≡ length os + 1 = length-append os (o ∷ []) in
    let each : length (os ++ o ∷ []) ≡ length (take (count + 1) texts) = fold-length hash known (take (count + 1) texts) (os ++ o ∷ []) f in
    let full : length (take (count + 1) texts) ≡ count + 1 = length-take-le (count + 1) texts (omega arith) in
    let same : length os ≡ count = omega arith in
    let front : take count (os ++ o ∷ []) ≡ os = ap (λ n. take n (os ++ o ∷ [])) (sym same) ∙ take-append_seam os (o ∷ []) in
    let lines : take count (take (count + 1) texts) ≡ take count texts = take-take texts count (count + 1) (omega arith) in
    subst (λ (l : List (List ℕ)). AreVerdicts hash known l os) lines
    (subst (λ (x : List Verdict). AreVerdicts hash known (take count (take (count + 1) texts)) x) front (fold-take hash known (take (count + 1) texts) (os ++ o ∷ []) count f))

-- what tells the lines before, and then the next one
pub lines-push : (n : ℕ) (os : List Verdict) (o : Verdict) → verdict_lines n (os ++ o ∷ []) ≡ verdict_lines n os ++ verdict_line (n + length os) o
lines-push n [] o = append-nil (verdict_line n o) ∙ ap (λ k. verdict_line k o) (sym (add-zero n))
lines-push n (x ∷ os) o =
    let number : n + 1 + length os ≡ n + length (x ∷ os) = omega arith in
    let rest : verdict_lines (n + 1) (os ++ o ∷ []) ≡ verdict_lines (n + 1) os ++ verdict_line (n + length (x ∷ os)) o =
    lines-push (n + 1) os o ∙ ap (λ k. verdict_lines (n + 1) os ++ verdict_line k o) number in
    ap (λ (t : List ℕ). verdict_line n x ++ t) rest ∙ sym (append_assoc (verdict_line n x) _ _)

-- the messages that are kept of the lines before, and then that of the next one
pub texts-push : (os : List Verdict) (o : Verdict) → kept_texts (os ++ o ∷ []) ≡ kept_texts os ++ kept_text o
texts-push [] o = append-nil (kept_text o)
texts-push (x ∷ os) o =
    ap (λ (t : List (List ℕ)). kept_text x ++ t) (texts-push os o) ∙ sym (append_assoc (kept_text x) _ _)

-- lines, and then others
pub fold-append : (hash : Hash) (known : Known) (a b : List (List ℕ)) (os more : List Verdict) → AreVerdicts hash known a os → AreVerdicts hash (known_by_all known os) b more
    → AreVerdicts hash known (a ++ b) (os ++ more)
fold-append hash known [] b [] more f g = g
fold-append hash known [] b (o ∷ os) more f g = absurd f
fold-append hash known (l ∷ a) b [] more f g = absurd f
fold-append hash known (l ∷ a) b (o ∷ os) more f g = (f.0, fold-append hash (known_by known o) a b os more f.1 g)

pub known-append : (known : Known) (os more : List Verdict) → known_by_all known (os ++ more) ≡ known_by_all (known_by_all known os) more
known-append known [] more = refl
known-append known (o ∷ os) more = known-append (known_by known o) os more

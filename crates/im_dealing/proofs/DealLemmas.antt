-- The lines of a phase, dealt one after the other.
use Rattle.std.proofs.Common.{◌≡◌, ◌≢◌, ℕ, zero, suc, ◌<◌, ◌++◌, List, [], ◌∷◌, length, map, Bool, true, false, if◌then◌else◌, Some, slice_get, refl, ap, ap₂, sym, ◌∙◌, arith, append-nil, get_or}
use Rattle.std.proofs.Math.ListN.{set}
use Rattle.std.specs.Prelude.{All, AllPairs}
use Rattle.std.specs.Str.{bytes_eq}
use Rattle.std.proofs.lemmas.List.Elements.{All-push, filter-append}
use Rattle.std.proofs.lemmas.Option.{slice_get-get_or, slice_get_within}
use Rattle.im_dealing.specs.Dealing.{AreDealt, AreNumbered, lines_with}
use Rattle.im_octet.proofs.Common.{bytes-other, bytes-same, some-is}
use Rattle.im_script.specs.declared.commands.Line.{Line}

-- a name stands at the place where it was found
pub at_name : (names : List (List ℕ)) (n : ℕ) (first name : List ℕ) → n < length names → first ≡ get_or names n first → first ≡ name → slice_get names n ≡ Some name
at_name names n first name less is same = slice_get-get_or names n first less ∙ ap Some (sym is ∙ same)

-- nothing was dealt yet: each hand is empty
hands_none : (names : List (List ℕ)) (hands : List (List Line)) → length hands ≡ length names → All (λ hand. hand ≡ []) hands → hands ≡ map (λ name. lines_with name []) names
hands_none [] [] many none = refl
hands_none [] (hand ∷ hands) many none = absurd (omega (arith, many))
hands_none (name ∷ names) [] many none = absurd (omega (arith, many))
hands_none (name ∷ names) (hand ∷ hands) many none =
    ap₂ (λ (x : List Line) (xs : List (List Line)). x ∷ xs) (none 0 hand (omega arith)) (hands_none names hands (omega (arith, many)) (λ i d lt. none (suc i) d (omega (arith, lt))))

pub dealt_none : (names : List (List ℕ)) (hands : List (List Line)) → length hands ≡ length names → All (λ hand. hand ≡ []) hands → AreDealt names [] [] hands
dealt_none names hands many none = record { numbered = tt; few = λ i d lt. absurd (omega arith); each = hands_none names hands many none }

-- a line is put behind those of one hand
abbrev pub put_hand : ℕ → Line → List (List Line) → List (List Line)
put_hand number line [] = []
put_hand zero line (hand ∷ hands) = (hand ++ line ∷ []) ∷ hands
put_hand (suc number) line (hand ∷ hands) = hand ∷ put_hand number line hands

-- so it is where the hand in that place is changed
pub put_set : {X : Type 0} (lines_in_hand : X → List Line) (hands : List X) (number : ℕ) (hand d : X) (line : Line) → number < length hands → lines_in_hand hand ≡ lines_in_hand (get_or hands number d) ++ line ∷ []
    → map lines_in_hand (set hands number hand) ≡ put_hand number line (map lines_in_hand hands)
put_set {X} lines_in_hand [] number hand d line few is = absurd (omega (arith, few))
put_set {X} lines_in_hand (h ∷ hands) zero hand d line few is = ap (λ (x : List Line). x ∷ map lines_in_hand hands) is
put_set {X} lines_in_hand (h ∷ hands) (suc number) hand d line few is =
    ap (λ (xs : List (List Line)). lines_in_hand h ∷ xs) (put_set lines_in_hand hands number hand d line (omega (arith, few)) is)

-- the lines of a session, with one more
lines_more : (name : List ℕ) (lines : List Line) (line : Line) (b : Bool) → bytes_eq line.session name ≡ b → lines_with name (lines ++ line ∷ []) ≡ lines_with name lines ++ (if b then line ∷ [] else [])
lines_more name lines line b e =
    filter-append (λ (l : Line). bytes_eq l.session name) lines (line ∷ []) ∙ ap (λ (c : Bool). lines_with name lines ++ (if c then line ∷ [] else [])) e

lines_far : (names : List (List ℕ)) (lines : List Line) (line : Line) → All (λ n. line.session ≢ n) names → map (λ n. lines_with n lines) names ≡ map (λ n. lines_with n (lines ++ line ∷ [])) names
lines_far [] lines line far = refl
lines_far (name ∷ names) lines line far =
    let here : lines_with name lines ≡ lines_with name (lines ++ line ∷ []) =
    sym (lines_more name lines line false (bytes-other line.session name (λ q. far 0 name (omega arith) q)) ∙ append-nil (lines_with name lines)) in
    ap₂ (λ (x : List Line) (xs : List (List Line)). x ∷ xs) here (lines_far names lines line (λ i d lt. far (suc i) d (omega (arith, lt))))

hands_push : (names : List (List ℕ)) (lines : List Line) (line : Line) (number : ℕ) → AllPairs (λ a b. a ≢ b) names → slice_get names number ≡ Some line.session
    → put_hand number line (map (λ n. lines_with n lines) names) ≡ map (λ n. lines_with n (lines ++ line ∷ [])) names
hands_push [] lines line number apart is = refl
hands_push (name ∷ names) lines line zero apart is =
    let same : name ≡ line.session = some-is name line.session is in
    let here : lines_with name lines ++ line ∷ [] ≡ lines_with name (lines ++ line ∷ []) = sym (lines_more name lines line true (bytes-same line.session name (sym same))) in
    ap₂ (λ (x : List Line) (xs : List (List Line)). x ∷ xs) here (lines_far names lines line (λ i d lt q. apart 0 (suc i) d (omega arith) (omega (arith, lt)) (same ∙ q)))
hands_push (name ∷ names) lines line (suc number) apart is =
    let far : name ≢ line.session = first_far names number is (λ i d lt. apart 0 (suc i) d (omega arith) (omega (arith, lt))) in
    let here : lines_with name lines ≡ lines_with name (lines ++ line ∷ []) =
    sym (lines_more name lines line false (bytes-other line.session name (λ q. far (sym q))) ∙ append-nil (lines_with name lines)) in
    ap₂ (λ (x : List Line) (xs : List (List Line)). x ∷ xs) here (hands_push names lines line number (λ i j d lt less. apart (suc i) (suc j) d (omega (arith, lt)) (omega (arith, less))) is)
  where
    first_far : (ns : List (List ℕ)) (k : ℕ) → slice_get ns k ≡ Some line.session → All (λ n. name ≢ n) ns → name ≢ line.session
    first_far [] k q all = cc q
    first_far (n ∷ ns) zero q all = λ e. all 0 n (omega arith) (e ∙ sym (some-is n line.session q))
    first_far (n ∷ ns) (suc k) q all = first_far ns k q (λ i d lt. all (suc i) d (omega (arith, lt)))

numbered_push : (names : List (List ℕ)) (lines : List Line) (order : List ℕ) (line : Line) (number : ℕ) → AreNumbered names lines order → slice_get names number ≡ Some line.session
    → AreNumbered names (lines ++ line ∷ []) (order ++ number ∷ [])
numbered_push names [] [] line number before is = (is, tt)
numbered_push names [] (k ∷ order) line number before is = absurd before
numbered_push names (l ∷ lines) [] line number before is = absurd before
numbered_push names (l ∷ lines) (k ∷ order) line number before is = (before.0, numbered_push names lines order line number before.1 is)

-- a line more
pub dealt_push : (names : List (List ℕ)) (lines : List Line) (order : List ℕ) (hands : List (List Line)) (line : Line) (number : ℕ) → AllPairs (λ a b. a ≢ b) names → AreDealt names lines order hands
    → slice_get names number ≡ Some line.session → AreDealt names (lines ++ line ∷ []) (order ++ number ∷ []) (put_hand number line hands)
dealt_push names lines order hands line number apart dealt is = record {
  numbered = numbered_push names lines order line number dealt.numbered is;
  few = All-push (λ (k : ℕ). k < length names) order number dealt.few (slice_get_within names number line.session is);
  each = ap (put_hand number line) dealt.each ∙ hands_push names lines line number apart is;
}

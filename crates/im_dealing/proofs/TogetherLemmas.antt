-- What became of the lines of each session comes together in the script's order.
use Rattle.std.proofs.Common.{◌≡◌, ◌≢◌, ◌||◌, true≢false, ℕ, suc, ◌+◌, List, [], ◌∷◌, map, Bool, true, false, if◌then◌else◌, refl, ap, ap₂, sym, ◌∙◌, arith}
use Rattle.std.specs.Prelude.{All, AllPairs}
use Rattle.std.specs.List.{sum_by}
use Rattle.std.proofs.lemmas.List.Sums.{sum_by-cons}
use Rattle.std.specs.Str.{bytes_eq}
use Rattle.std.proofs.lemmas.Slice.Eq.{bytes_eq-Decides}
use Rattle.im_dealing.specs.Dealing.{AreNamed, lines_with}
use Rattle.im_octet.proofs.Common.{bytes-other, bytes-same}
use Rattle.im_report.specs.Outcomes.{Outcome, not_run, of_session}
use Rattle.im_script.specs.declared.commands.Line.{Line}
use Rattle.im_script.specs.Script.{has_name}

-- of each session, by its name, what became of its lines
abbrev pub Each : Type 0
Each = List ℕ → List Outcome

-- the first outcome, or one that says nothing where there is none
abbrev pub first_of : Line → List Outcome → Outcome
first_of line [] = not_run line
first_of line (o ∷ outcomes) = o

abbrev pub rest_of : List Outcome → List Outcome
rest_of [] = []
rest_of (o ∷ outcomes) = outcomes

-- without the first outcome of the session with this name
abbrev pub without : List ℕ → Each → Each
without name each other = if bytes_eq name other then rest_of (each other) else each other

-- for each line the next outcome of its session
abbrev pub together : List Line → Each → List Outcome
together [] each = []
together (line ∷ lines) each = first_of line (each line.session) ∷ together lines (without line.session each)

-- each session has outcomes for just its lines
abbrev pub Matches : List Line → Each → Type 0
Matches lines each = (name : List ℕ) → map (λ (o : Outcome). o.line) (each name) ≡ lines_with name lines

-- an outcome is first, and its line is the first of its session's lines
pub first_line : (line : Line) (lines : List Line) (outcomes : List Outcome) → map (λ (o : Outcome). o.line) outcomes ≡ line ∷ lines
    → ((first_of line outcomes).line ≡ line) × (map (λ (o : Outcome). o.line) (rest_of outcomes) ≡ lines) × (outcomes ≡ first_of line outcomes ∷ rest_of outcomes)
first_line line lines [] e = cc e
first_line line lines (o ∷ outcomes) e = (cc e, cc e, refl)

-- the lines of the session of the first line begin with it
pub own_first : (line : Line) (lines : List Line) → lines_with line.session (line ∷ lines) ≡ line ∷ lines_with line.session lines
own_first line lines = ap (λ (b : Bool). if b then line ∷ lines_with line.session lines else lines_with line.session lines) (bytes-same line.session line.session refl)

-- behind the first line each session has outcomes for just its lines still
pub matches_rest : (line : Line) (lines : List Line) (each : Each) → Matches (line ∷ lines) each → Matches lines (without line.session each)
matches_rest line lines each h name = go (bytes_eq line.session name) refl
  where
    go : (b : Bool) → bytes_eq line.session name ≡ b → map (λ (o : Outcome). o.line) (if b then rest_of (each name) else each name) ≡ lines_with name lines
    go true e =
        let same : line.session ≡ name = (bytes_eq-Decides line.session name).0 e in
        let own : map (λ (o : Outcome). o.line) (each name) ≡ line ∷ lines_with name lines = h name ∙ ap (λ (b : Bool). if b then line ∷ lines_with name lines else lines_with name lines) e in
        (first_line line (lines_with name lines) (each name) own).1
    go false e = h name ∙ ap (λ (b : Bool). if b then line ∷ lines_with name lines else lines_with name lines) e

-- together they are of the lines
pub together_lines : (lines : List Line) (each : Each) → Matches lines each → map (λ (o : Outcome). o.line) (together lines each) ≡ lines
together_lines [] each h = refl
together_lines (line ∷ lines) each h =
    let own : map (λ (o : Outcome). o.line) (each line.session) ≡ line ∷ lines_with line.session lines = h line.session ∙ own_first line lines in
    let f = first_line line (lines_with line.session lines) (each line.session) own in
    ap₂ (λ (x : Line) (xs : List Line). x ∷ xs) f.0 (together_lines lines (without line.session each) (matches_rest line lines each h))

-- and those of a session are its own
pub together_own : (lines : List Line) (each : Each) → Matches lines each → (name : List ℕ) → of_session name (together lines each) ≡ each name
together_own [] each h name = sym (none (each name) (h name))
  where
    none : (outcomes : List Outcome) → map (λ (o : Outcome). o.line) outcomes ≡ [] → outcomes ≡ []
    none [] e = refl
    none (o ∷ outcomes) e = cc e
together_own (line ∷ lines) each h name =
    let own : map (λ (o : Outcome). o.line) (each line.session) ≡ line ∷ lines_with line.session lines = h line.session ∙ own_first line lines in
    let f = first_line line (lines_with line.session lines) (each line.session) own in
    let o = first_of line (each line.session) in
    let rest = together_own lines (without line.session each) (matches_rest line lines each h) name in
    let test : bytes_eq o.line.session name ≡ bytes_eq line.session name = ap (λ (l : Line). bytes_eq l.session name) f.0 in
    go (bytes_eq line.session name) refl o refl test rest
  where
    go : (b : Bool) → bytes_eq line.session name ≡ b → (o : Outcome) → o ≡ first_of line (each line.session) → bytes_eq o.line.session name ≡ bytes_eq line.session name
        → of_session name (together lines (without line.session each)) ≡ without line.session each name
        → of_session name (o ∷ together lines (without line.session each)) ≡ each name
    go true e o is test rest =
        let same : line.session ≡ name = (bytes_eq-Decides line.session name).0 e in
        let own : map (λ (p : Outcome). p.line) (each name) ≡ line ∷ lines_with name lines = h name ∙ ap (λ (b : Bool). if b then line ∷ lines_with name lines else lines_with name lines) e in
        let whole = (first_line line (lines_with name lines) (each name) own).2 in
        ap (λ (b : Bool). if b then o ∷ of_session name (together lines (without line.session each)) else of_session name (together lines (without line.session each))) (test ∙ e)
        ∙ ap₂ (λ (x : Outcome) (xs : List Outcome). x ∷ xs) (is ∙ ap (λ (n : List ℕ). first_of line (each n)) same) (rest ∙ ap (λ (b : Bool). if b then rest_of (each name) else each name) e) ∙ sym whole
    go false e o is test rest =
        ap (λ (b : Bool). if b then o ∷ of_session name (together lines (without line.session each)) else of_session name (together lines (without line.session each))) (test ∙ e)
        ∙ rest ∙ ap (λ (b : Bool). if b then rest_of (each name) else each name) e

-- added up over the sessions with these names, each once, what is counted of an outcome is what it is in the script's order
abbrev pub sum_each : (Outcome → ℕ) → List (List ℕ) → Each → ℕ
sum_each f names each = sum_by (λ name. sum_by f (each name)) names

-- one session's first outcome, and what the sessions have without it
without_sum : (f : Outcome → ℕ) (o : Outcome) (outcomes : List Outcome) (name : List ℕ) (names : List (List ℕ)) (each : Each) → has_name names name ≡ true → AllPairs (λ a b. a ≢ b) names
    → each name ≡ o ∷ outcomes → sum_each f names each ≡ f o + sum_each f names (without name each)
without_sum f o outcomes name [] each has apart e = absurd (true≢false (sym has))
without_sum f o outcomes name (first ∷ names) each has apart e = go (bytes_eq first name) refl (λ h a. without_sum f o outcomes name names each h a e)
  where
    here : bytes_eq first name ≡ true → sum_by f (each first) ≡ f o + sum_by f (without name each first)
    here same =
        let is : first ≡ name = (bytes_eq-Decides first name).0 same in
        let back : bytes_eq name first ≡ true = (bytes_eq-Decides name first).1 (sym is) in
        let own : each first ≡ o ∷ outcomes = ap each is ∙ e in
        let left : without name each first ≡ outcomes = ap (λ (b : Bool). if b then rest_of (each first) else each first) back ∙ ap rest_of own in
        omega (arith, ap (sum_by f) own, sum_by-cons f o outcomes, ap (sum_by f) left)

    others : (xs : List (List ℕ)) → All (λ x. x ≢ name) xs → sum_each f xs (without name each) ≡ sum_each f xs each
    others [] all = refl
    others (x ∷ xs) all =
        let apart' : bytes_eq name x ≡ false = bytes-other name x (λ q. all 0 x (omega arith) (sym q)) in
        let same : without name each x ≡ each x = ap (λ (b : Bool). if b then rest_of (each x) else each x) apart' in
        let rest = others xs (λ i d lt. all (suc i) d (omega arith)) in
        omega (arith, rest, ap (sum_by f) same, sum_by-cons (λ n. sum_by f (each n)) x xs, sum_by-cons (λ n. sum_by f (without name each n)) x xs)

    go : (b : Bool) → bytes_eq first name ≡ b → (has_name names name ≡ true → AllPairs (λ a b. a ≢ b) names → sum_each f names each ≡ f o + sum_each f names (without name each))
        → sum_each f (first ∷ names) each ≡ f o + sum_each f (first ∷ names) (without name each)
    go true same more =
        let is : first ≡ name = (bytes_eq-Decides first name).0 same in
        let far : All (λ x. x ≢ name) names = λ i d lt q. apart 0 (suc i) d (omega arith) (omega (arith, lt)) (is ∙ sym q) in
        omega (arith, here same, others names far, sum_by-cons (λ n. sum_by f (each n)) first names, sum_by-cons (λ n. sum_by f (without name each n)) first names)
    go false other more =
        let back : bytes_eq name first ≡ false = bytes-other name first (λ q. true≢false (sym ((bytes_eq-Decides first name).1 (sym q)) ∙ other)) in
        let kept : without name each first ≡ each first = ap (λ (b : Bool). if b then rest_of (each first) else each first) back in
        let rest = more (ap (λ (b : Bool). b || has_name names name) (sym other) ∙ has) (λ i j d lt less. apart (suc i) (suc j) d (omega (arith, lt)) (omega (arith, less))) in
        omega (arith, rest, ap (sum_by f) kept, sum_by-cons (λ n. sum_by f (each n)) first names, sum_by-cons (λ n. sum_by f (without name each n)) first names)

pub together_sum : (f : Outcome → ℕ) (names : List (List ℕ)) (lines : List Line) (each : Each) → Matches lines each → AreNamed names lines → AllPairs (λ a b. a ≢ b) names
    → ((name : List ℕ) → has_name names name ≡ false → each name ≡ []) → sum_by f (together lines each) ≡ sum_each f names each
together_sum f names [] each h named apart none = sym (empty names)
  where
    nothing : (outcomes : List Outcome) → map (λ (o : Outcome). o.line) outcomes ≡ [] → outcomes ≡ []
    nothing [] e = refl
    nothing (o ∷ outcomes) e = cc e

    empty : (xs : List (List ℕ)) → sum_each f xs each ≡ 0
    empty [] = refl
    empty (x ∷ xs) = omega (arith, ap (sum_by f) (nothing (each x) (h x)), empty xs, sum_by-cons (λ n. sum_by f (each n)) x xs)
together_sum f names (line ∷ lines) each h named apart none =
    let own : map (λ (o : Outcome). o.line) (each line.session) ≡ line ∷ lines_with line.session lines = h line.session ∙ own_first line lines in
    let fl = first_line line (lines_with line.session lines) (each line.session) own in
    let o = first_of line (each line.session) in
    let rest = together_sum f names lines (without line.session each) (matches_rest line lines each h) (λ i d lt. named (suc i) d (omega (arith, lt))) apart (none_behind line each none) in
    let whole = without_sum f o (rest_of (each line.session)) line.session names each (named 0 line (omega arith)) apart fl.2 in
    omega (arith, rest, whole, sum_by-cons f o (together lines (without line.session each)))
  where
    none_behind : (l : Line) (es : Each) → ((name : List ℕ) → has_name names name ≡ false → es name ≡ []) → (name : List ℕ) → has_name names name ≡ false → without l.session es name ≡ []
    none_behind l es missing name e = go (bytes_eq l.session name) refl
      where
        go : (b : Bool) → bytes_eq l.session name ≡ b → without l.session es name ≡ []
        go true q = ap (λ (b : Bool). if b then rest_of (es name) else es name) q ∙ ap rest_of (missing name e)
        go false q = ap (λ (b : Bool). if b then rest_of (es name) else es name) q ∙ missing name e

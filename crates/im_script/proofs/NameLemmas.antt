-- The names of sessions.
use Rattle.std.proofs.Common.{◌≡◌, ◌≢◌, ℕ, zero, suc, ◌+◌, ◌<◌, ◌≤◌, ◌||◌, List, [], ◌∷◌, ◌++◌, length, nat_lt, Bool, true, false, inl, inr, refl, subst, sym, ap, ◌∙◌, arith, append-nil, append_assoc, length-append, if◌then◌else◌}
use Rattle.std.specs.Prelude.{All, AllPairs}
use Rattle.std.specs.Str.{bytes_eq}
use Rattle.std.proofs.lemmas.Bool.{both_ways, ltb-true, or_parts, true≢false}
use Rattle.std.proofs.lemmas.List.Quantifiers.{all_pairs_push}
use Rattle.std.proofs.lemmas.Slice.Eq.{bytes_eq-Decides}
use Rattle.im_script.specs.declared.commands.Line.{Line}
use Rattle.im_script.specs.Script.{Say, IsScript, has_name, with_name, names_of, lines_of}
use Rattle.im_script.specs.Arguments.{IsTaken, ReadSoFar}

pub names-append : (names : List (List ℕ)) (xs ys : List Line) → names_of names (xs ++ ys) ≡ names_of (names_of names xs) ys
names-append names [] ys = refl
names-append names (x ∷ xs) ys = names-append (with_name names x.session) xs ys

lines-append : (xs ys : List (List Line)) → lines_of (xs ++ ys) ≡ lines_of xs ++ lines_of ys
lines-append [] ys = refl
lines-append (x ∷ xs) ys = ap (λ (l : List Line). x ++ l) (lines-append xs ys) ∙ sym (append_assoc x (lines_of xs) (lines_of ys))

-- the names that were read are those of the lines that were read
abbrev pub HasNames : ReadSoFar → Type 0
HasNames s = s.names ≡ names_of [] (lines_of s.phases ++ s.lines)

pub names-next : (before after : ReadSoFar) (text : List ℕ) → IsTaken before text after → HasNames before → HasNames after
names-next before after text (inl p) h = subst HasNames (sym p.1) h
names-next before after text (inr (inl p)) h =
    subst HasNames (sym p.1) (h ∙ ap (names_of []) (sym (append-nil _ ∙ lines-append before.phases (before.lines ∷ []) ∙ ap (λ (l : List Line). lines_of before.phases ++ l) (append-nil before.lines))))
names-next before after text (inr (inr p)) h =
    subst HasNames (sym p.1) (ap (λ (n : List (List ℕ)). with_name n p.0.session) h
    ∙ (sym (names-append [] (lines_of before.phases ++ before.lines) (p.0 ∷ [])) ∙ ap (names_of []) (append_assoc (lines_of before.phases) before.lines (p.0 ∷ []))))

pub names-end : (before : ReadSoFar) → HasNames before → before.names ≡ names_of [] (lines_of (before.phases ++ before.lines ∷ []))
names-end before h = h ∙ ap (names_of []) (sym (lines-append before.phases (before.lines ∷ []) ∙ ap (λ (l : List Line). lines_of before.phases ++ l) (append-nil before.lines)))

-- at most eight
few-with : (names : List (List ℕ)) (name : List ℕ) (b : Bool) → has_name names name ≡ b → (b || nat_lt (length names) 8) ≡ true → length names ≤ 8 → length (if b then names else names ++ name ∷ []) ≤ 8
few-with names name true e may few = few
few-with names name false e may few =
    let room : length names < 8 = ltb-true (length names) 8 may in
    let one : length (names ++ name ∷ []) ≤ 8 = omega (arith, length-append names (name ∷ []), room) in
    one

few-names : (names : List (List ℕ)) (texts : List (List ℕ)) (lines : List Line) (more : List (List Line)) → Say names texts lines more → length names ≤ 8 → length (names_of names (lines ++ lines_of more)) ≤ 8
few-names names [] lines more h few =
    subst (λ (l : List Line). length (names_of names (l ++ lines_of more)) ≤ 8) (sym h.0) (subst (λ (m : List (List Line)). length (names_of names (lines_of m)) ≤ 8) (sym h.1) few)
few-names names (t ∷ ts) lines more (inl h) few = few-names names ts lines more h.1 few
few-names names (t ∷ ts) lines more (inr (inl h)) few =
    let rest = few-names names ts h.2.0 h.2.1 h.2.3 few in
    subst (λ (l : List Line). length (names_of names (l ++ lines_of more)) ≤ 8) (sym h.1) (subst (λ (m : List (List Line)). length (names_of names (lines_of m)) ≤ 8) (sym h.2.2) rest)
few-names names (t ∷ ts) lines more (inr (inr h)) few =
    subst (λ (l : List Line). length (names_of names (l ++ lines_of more)) ≤ 8) (sym h.2) (few-names (with_name names h.0.session) ts h.1 more h.5 (few-with names h.0.session (has_name names h.0.session) refl h.4 few))

pub few-sessions : (octets : List ℕ) (script : List (List Line)) → IsScript octets script → length (names_of [] (lines_of script)) ≤ 8
few-sessions octets script h =
    let s = h.2 in subst (λ (l : List (List Line)). length (names_of [] (lines_of l)) ≤ 8) (sym s.2) (few-names [] h.0 s.0 s.1 s.3 (omega arith))

-- a name that isn't among them differs from each
far-name : (names : List (List ℕ)) (name : List ℕ) → has_name names name ≡ false → All (λ n. n ≢ name) names
far-name [] name e = λ i d lt. absurd (omega arith)
far-name (first ∷ names) name e = cons (far-name names name (or_parts (bytes_eq first name) (has_name names name) e).1)
  where
    cons : All (λ n. n ≢ name) names → All (λ n. n ≢ name) (first ∷ names)
    cons rest zero d lt = λ q. both_ways (bytes_eq first name) (or_parts (bytes_eq first name) (has_name names name) e).0 ((bytes_eq-Decides first name).1 q)
    cons rest (suc i) d lt = rest i d (omega (arith, lt))

-- no name stands twice
apart-with : (names : List (List ℕ)) (name : List ℕ) (b : Bool) → has_name names name ≡ b → AllPairs (λ m n. m ≢ n) names → AllPairs (λ m n. m ≢ n) (if b then names else names ++ name ∷ [])
apart-with names name true e apart = apart
apart-with names name false e apart = all_pairs_push (λ m n. m ≢ n) names name apart (far-name names name e)

pub names-apart : (names : List (List ℕ)) (lines : List Line) → AllPairs (λ m n. m ≢ n) names → AllPairs (λ m n. m ≢ n) (names_of names lines)
names-apart names [] apart = apart
names-apart names (line ∷ lines) apart = names-apart (with_name names line.session) lines (apart-with names line.session (has_name names line.session) refl apart)

has-front : (xs ys : List (List ℕ)) (other : List ℕ) → has_name xs other ≡ true → has_name (xs ++ ys) other ≡ true
has-front [] ys other has = absurd (true≢false (sym has))
has-front (x ∷ xs) ys other has = go (bytes_eq x other) refl (λ h. has-front xs ys other h)
  where
    go : (b : Bool) → bytes_eq x other ≡ b → (has_name xs other ≡ true → has_name (xs ++ ys) other ≡ true) → (bytes_eq x other || has_name (xs ++ ys) other) ≡ true
    go true e more = ap (λ (t : Bool). t || has_name (xs ++ ys) other) e
    go false e more = ap (λ (t : Bool). t || has_name (xs ++ ys) other) e ∙ more (ap (λ (t : Bool). t || has_name xs other) (sym e) ∙ has)

-- each line has one of the names
has-with : (names : List (List ℕ)) (name other : List ℕ) → has_name names other ≡ true → has_name (with_name names name) other ≡ true
has-with names name other has = go (has_name names name)
  where
    go : (b : Bool) → has_name (if b then names else names ++ name ∷ []) other ≡ true
    go true = has
    go false = has-front names (name ∷ []) other has

has-last : (xs : List (List ℕ)) (name : List ℕ) → has_name (xs ++ name ∷ []) name ≡ true
has-last [] name = ap (λ (t : Bool). t || false) ((bytes_eq-Decides name name).1 refl)
has-last (x ∷ xs) name = go (bytes_eq x name) (has-last xs name)
  where
    go : (b : Bool) → has_name (xs ++ name ∷ []) name ≡ true → (b || has_name (xs ++ name ∷ []) name) ≡ true
    go true more = refl
    go false more = more

own-with : (names : List (List ℕ)) (name : List ℕ) → has_name (with_name names name) name ≡ true
own-with names name = go (has_name names name) refl
  where
    go : (b : Bool) → has_name names name ≡ b → has_name (if b then names else names ++ name ∷ []) name ≡ true
    go true e = e
    go false e = has-last names name

names-keep : (names : List (List ℕ)) (lines : List Line) (other : List ℕ) → has_name names other ≡ true → has_name (names_of names lines) other ≡ true
names-keep names [] other has = has
names-keep names (line ∷ lines) other has = names-keep (with_name names line.session) lines other (has-with names line.session other has)

pub names-all : (names : List (List ℕ)) (lines : List Line) → All (λ line. has_name (names_of names lines) line.session ≡ true) lines
names-all names [] = λ i d lt. absurd (omega arith)
names-all names (line ∷ lines) = cons (names-all (with_name names line.session) lines)
  where
    cons : All (λ l. has_name (names_of names (line ∷ lines)) l.session ≡ true) lines → All (λ l. has_name (names_of names (line ∷ lines)) l.session ≡ true) (line ∷ lines)
    cons rest zero d lt = names-keep (with_name names line.session) lines line.session (own-with names line.session)
    cons rest (suc i) d lt = rest i d (omega (arith, lt))

-- The strings of a chain and of a walk, from the first on.
use Rattle.std.proofs.Common.{◌≡◌, ◌≢◌, ◌<◌, ◌+◌, ℕ, Bool, if◌then◌else◌, List, [], ◌∷◌, ◌++◌, length, drop, get_or, arith, ap, sym, subst, ◌∙◌, append-nil}
use Rattle.std.proofs.lemmas.Bool.{eq-eqb, ne_eqb}
use Rattle.std.proofs.lemmas.List.{append_assoc, drop_more}
use Rattle.im_digest.specs.Digests.{Hash}
use Rattle.im_model.specs.Chains.{link_string, chain_strings}
use Rattle.im_model.proofs.Steps.{links-none, links-more}
use Rattle.im_carried.specs.Hashed.{path_strings, linear_strings, walk_strings, advance_strings}
use Rattle.im_proof.specs.ChainChecks.{first_of}
use Rattle.im_hashed.specs.Messages.{HoldSame}
use Rattle.im_hashed.specs.Added.{AddsStrings}
use Rattle.im_hashed.proofs.AddLemmas.{adds-as, adds-none, same-then, same-front}

-- what was added and what remains to be are all that is to be added
abbrev pub Remains : List (List ℕ) → List (List ℕ) → List (List ℕ) → List (List ℕ) → Type 0
Remains old new rest all = HoldSame (new ++ rest) (old ++ all)

-- nothing remains
pub remains-done : (old new rest all : List (List ℕ)) → rest ≡ [] → Remains old new rest all → AddsStrings old new all
remains-done old new rest all none h = subst (λ l. HoldSame l (old ++ all)) (ap (λ l. new ++ l) none ∙ append-nil new) h

-- a part is added
pub remains-step : (old new next part rest all : List (List ℕ)) → Remains old new (part ++ rest) all → AddsStrings new next part → Remains old next rest all
remains-step old new next part rest all h added =
    same-then (next ++ rest) (new ++ (part ++ rest)) (old ++ all)
    (subst (λ l. HoldSame (next ++ rest) l) (append_assoc new part rest) (same-front next (new ++ part) rest added)) h

-- a link of a chain
pub chain-step : (hash : Hash) (k j i : ℕ) (alh next inner : List ℕ) (inners old new out all : List (List ℕ)) → i < length inners → inner ≡ get_or inners i [] → j ≡ k + 1
    → next ≡ hash (link_string j alh inner) → AddsStrings new out (link_string j alh inner ∷ []) → Remains old new (chain_strings hash alh k (drop i inners)) all
    → Remains old out (chain_strings hash next j (drop (i + 1) inners)) all
chain-step hash k j i alh next inner inners old new out all less at one is added h =
    let more : List (List ℕ) = drop (i + 1) inners in
    let cut : drop i inners ≡ inner ∷ more = drop_more inners i [] less ∙ ap (λ (x : List ℕ). x ∷ more) (sym at) in
    let all2 : chain_strings hash alh k (drop i inners) ≡ link_string j alh inner ∷ chain_strings hash next j more =
    ap (λ l. chain_strings hash alh k l) cut ∙ links-more hash alh k inner more
    ∙ ap (λ m. link_string m alh inner ∷ chain_strings hash (hash (link_string m alh inner)) m more) (sym one)
    ∙ ap (λ (x : List ℕ). link_string j alh inner ∷ chain_strings hash x j more) (sym is) in
    remains-step old new out (link_string j alh inner ∷ []) (chain_strings hash next j more) all
    (subst (λ l. Remains old new l all) all2 h) added

-- a path and a link of a walk
pub walk-step : (hash : Hash) (size k j i : ℕ) (alh next inner : List ℕ) (path inners : List (List ℕ)) (paths : List (List (List ℕ))) (old new mid out all : List (List ℕ))
    → i < length inners → i < length paths → inner ≡ get_or inners i [] → path ≡ get_or paths i path → j ≡ k + 1
    → next ≡ hash (link_string j alh inner) → AddsStrings new mid (path_strings hash size k alh path) → AddsStrings mid out (link_string j alh inner ∷ [])
    → Remains old new (walk_strings hash size k alh (drop i inners) (drop i paths)) all
    → Remains old out (walk_strings hash size j next (drop (i + 1) inners) (drop (i + 1) paths)) all
walk-step hash size k j i alh next inner path inners paths old new mid out all less less2 at at2 one is added added2 h =
    let more : List (List ℕ) = drop (i + 1) inners in
    let others : List (List (List ℕ)) = drop (i + 1) paths in
    let link : List ℕ = link_string j alh inner in
    let ups : List (List ℕ) = path_strings hash size k alh path in
    let rest : List (List ℕ) = walk_strings hash size j next more others in
    let cut : drop i inners ≡ inner ∷ more = drop_more inners i [] less ∙ ap (λ (x : List ℕ). x ∷ more) (sym at) in
    let cut2 : drop i paths ≡ path ∷ others = drop_more paths i path less2 ∙ ap (λ x. x ∷ others) (sym at2) in
    let all2 : walk_strings hash size k alh (drop i inners) (drop i paths) ≡ ups ++ (link ∷ rest) =
    ap (λ l. walk_strings hash size k alh l (drop i paths)) cut ∙ ap (λ l. walk_strings hash size k alh (inner ∷ more) l) cut2
    ∙ ap (λ m. ups ++ (link_string m alh inner ∷ walk_strings hash size m (hash (link_string m alh inner)) more others)) (sym one)
    ∙ ap (λ (x : List ℕ). ups ++ (link ∷ walk_strings hash size j x more others)) (sym is) in
    remains-step old mid out (link ∷ []) rest all
    (remains-step old new mid ups (link ∷ rest) all (subst (λ l. Remains old new l all) all2 h) added) added2

-- no linear terms
pub linear-none : (hash : Hash) (from : ℕ) (terms a : List (List ℕ)) → length terms ≡ 0 → AddsStrings a a (linear_strings hash from terms)
linear-none hash from [] a none = adds-as a a [] (linear_strings hash from []) (sym (links-none hash (first_of []) from)) (adds-none a)
linear-none hash from (first ∷ inners) a none = absurd (omega arith)

-- some
pub linear-some : (hash : Hash) (from : ℕ) (first : List ℕ) (terms inners a b : List (List ℕ)) → terms ≡ first ∷ inners → AddsStrings a b (chain_strings hash first from inners) → AddsStrings a b (linear_strings hash from terms)
linear-some hash from first terms inners a b cut h = subst (λ l. AddsStrings a b (linear_strings hash from l)) (sym cut) h

-- no terms of an advance
pub advance-none : (hash : Hash) (from size : ℕ) (terms : List (List ℕ)) (paths : List (List (List ℕ))) (a : List (List ℕ)) → length terms ≡ 0 → AddsStrings a a (advance_strings hash from size terms paths)
advance-none hash from size terms paths a none =
    adds-as a a [] (advance_strings hash from size terms paths)
    (sym (ap (λ (t : Bool). if t then [] else walk_strings hash size (from + 1) (first_of terms) (drop 1 terms) paths) (eq-eqb (length terms) 0 none))) (adds-none a)

-- some
pub advance-some : (hash : Hash) (from size : ℕ) (first : List ℕ) (terms inners : List (List ℕ)) (paths : List (List (List ℕ))) (a b : List (List ℕ)) → terms ≡ first ∷ inners
    → AddsStrings a b (walk_strings hash size (from + 1) first inners paths) → AddsStrings a b (advance_strings hash from size terms paths)
advance-some hash from size first terms inners paths a b cut h =
    let some : length (first ∷ inners) ≢ 0 = λ z. absurd (omega arith) in
    subst (λ l. AddsStrings a b (advance_strings hash from size l paths)) (sym cut)
    (adds-as a b (walk_strings hash size (from + 1) first inners paths) (advance_strings hash from size (first ∷ inners) paths)
    (sym (ap (λ (t : Bool). if t then [] else walk_strings hash size (from + 1) first inners paths) (ne_eqb (length (first ∷ inners)) 0 some))) h)

-- Runs that hold versions: one more, two that become one, and what is read off all of them.
use Rattle.std.proofs.Common.{◌≡◌, ℕ, List, [], ◌∷◌, ◌++◌, length, refl, arith, ap, sym, subst, ◌∙◌, append_assoc, length-append}
use Rattle.std.proofs.lemmas.List.{append-nil}
use Rattle.std.proofs.lemmas.List.Concat.{flat_map-append}
use Rattle.std.proofs.lemmas.List.Elements.{All-cons, All-nil, AllZip-push, filter-append}
use Rattle.std.proofs.lemmas.List.Sorted.{IsPermutation-append, IsPermutation-trans, length_permutation}
use Rattle.std.specs.List.{All, AllZip, filter, flat_map}
use Rattle.std.specs.List.Sorted.{IsNonDecreasingBy, IsSorted, ties}
use Rattle.im_model.specs.declared.transactions.Transaction.{Transaction}
use Rattle.im_versions.specs.Versions.{is_of}
use Rattle.im_versions.specs.declared.versions.Version.{Version}
use Rattle.im_index.specs.Marks.{numbered}
use Rattle.im_index.specs.Indexed.{AreRunsOf}
use Rattle.im_index.specs.Runs.{HoldInOrder, IsRunOf, held}
use Rattle.im_index.proofs.OrderLemmas.{by_key, numbers-rise, rises-behind, rises-front, run-same, run-sorted}

-- lists joined end to end
abbrev pub joined : {X : Type 0} → List (List X) → List X
joined {X} xss = flat_map (λ (xs : List X). xs) xss

-- one list more
pub joined-push : {X : Type 0} (xss : List (List X)) (xs : List X) → joined (xss ++ xs ∷ []) ≡ joined xss ++ xs
joined-push {X} xss xs = flat_map-append (λ (ys : List X). ys) xss (xs ∷ []) ∙ ap (λ ys. joined xss ++ ys) (append-nil xs)

-- the last pair of two lists that go together
pub record LastPair {A B : Type 0} (R : A → B → Type 0) (xs : List A) (x : A) (ys : List B) : Type 0 where
  pub front : List B
  pub last : B
  pub whole : ys ≡ front ++ last ∷ []
  pub each : AllZip R xs front
  pub one : R x last

pub last-pair : {A B : Type 0} (R : A → B → Type 0) (xs : List A) (x : A) (ys : List B) → AllZip R (xs ++ x ∷ []) ys → LastPair R xs x ys
last-pair R [] x [] each = absurd each
last-pair R [] x (y ∷ []) each = record { front = []; last = y; whole = refl; each = tt; one = each.0 }
last-pair R [] x (y ∷ z ∷ zs) each = absurd each.1
last-pair R (w ∷ xs) x [] each = absurd each
last-pair R (w ∷ xs) x (y ∷ ys) each =
    let rest : LastPair R xs x ys = last-pair R xs x ys each.1 in
    record { front = y ∷ rest.front; last = rest.last; whole = ap (λ zs. y ∷ zs) rest.whole; each = (each.0, rest.each); one = rest.one }

-- no runs hold no versions
pub hold-none : HoldInOrder [] []
hold-none = record { parts = []; each = tt; whole = refl }

-- one more run, of versions behind the others
pub hold-push : (runs : List (List Version)) (versions run part : List Version) → HoldInOrder runs versions → IsRunOf run part
    → HoldInOrder (runs ++ run ∷ []) (versions ++ part)
hold-push runs versions run part holds is = record {
  parts = holds.parts ++ part ∷ [];
  each = AllZip-push IsRunOf runs holds.parts run part holds.each is;
  whole = joined-push holds.parts part ∙ ap (λ vs. vs ++ part) holds.whole;
}

-- a run of two runs is one of the versions of both
pub run-joined : (a b run p q : List Version) → IsRunOf a p → IsRunOf b q → IsRunOf run (a ++ b) → IsRunOf run (p ++ q)
run-joined a b run p q first second is = record {
  moved = IsPermutation-trans (p ++ q) (a ++ b) run (IsPermutation-append p a q b first.moved second.moved) is.moved;
  sorted = is.sorted;
  stable = λ x.
      is.stable x
      ∙ filter-append (ties by_key x) a b
      ∙ ap (λ vs. vs ++ filter (ties by_key x) b) (first.stable x)
      ∙ ap (λ vs. filter (ties by_key x) p ++ vs) (second.stable x)
      ∙ sym (filter-append (ties by_key x) p q);
}

-- the last two runs become one
pub hold-joined : (older : List (List Version)) (a b run versions : List Version) → HoldInOrder ((older ++ a ∷ []) ++ b ∷ []) versions
    → IsRunOf run (a ++ b) → HoldInOrder (older ++ run ∷ []) versions
hold-joined older a b run versions holds is =
    let last : LastPair IsRunOf (older ++ a ∷ []) b holds.parts = last-pair IsRunOf (older ++ a ∷ []) b holds.parts holds.each in
    let before : LastPair IsRunOf older a last.front = last-pair IsRunOf older a last.front last.each in
    let cut : holds.parts ≡ (before.front ++ before.last ∷ []) ++ last.last ∷ [] =
    last.whole ∙ ap (λ ps. ps ++ last.last ∷ []) before.whole in
    record {
      parts = before.front ++ (before.last ++ last.last) ∷ [];
      each = AllZip-push IsRunOf older before.front run (before.last ++ last.last) before.each
          (run-joined a b run before.last last.last before.one last.one is);
      whole = joined-push before.front (before.last ++ last.last)
          ∙ sym (append_assoc (joined before.front) before.last last.last)
          ∙ ap (λ vs. vs ++ last.last) (sym (joined-push before.front before.last))
          ∙ sym (joined-push (before.front ++ before.last ∷ []) last.last)
          ∙ ap (λ ps. joined ps) (sym cut)
          ∙ holds.whole;
    }

-- a run is as long as what it is of
pub run-length : (run part : List Version) → IsRunOf run part → length run ≡ length part
run-length run part is = length_permutation part run is.moved

held-parts : (runs parts : List (List Version)) → AllZip IsRunOf runs parts → held runs ≡ length (joined parts)
held-parts [] [] each = refl
held-parts [] (p ∷ ps) each = absurd each
held-parts (r ∷ rs) [] each = absurd each
held-parts (r ∷ rs) (p ∷ ps) each =
    omega (arith, run-length r p each.0, held-parts rs ps each.1, length-append p (joined ps))

-- runs hold as many versions as the history has
pub held-all : (runs : List (List Version)) (versions : List Version) → HoldInOrder runs versions → held runs ≡ length versions
held-all runs versions holds = held-parts runs holds.parts holds.each ∙ ap length holds.whole

same-parts : (runs parts : List (List Version)) (key : List ℕ) → AllZip IsRunOf runs parts
    → filter (is_of key) (joined runs) ≡ filter (is_of key) (joined parts)
same-parts [] [] key each = refl
same-parts [] (p ∷ ps) key each = absurd each
same-parts (r ∷ rs) [] key each = absurd each
same-parts (r ∷ rs) (p ∷ ps) key each =
    filter-append (is_of key) r (joined rs)
    ∙ ap (λ vs. vs ++ filter (is_of key) (joined rs)) (run-same r p each.0 key)
    ∙ ap (λ vs. filter (is_of key) p ++ vs) (same-parts rs ps key each.1)
    ∙ sym (filter-append (is_of key) p (joined ps))

-- the versions of a key, read off the runs from the oldest to the newest, are in their order
pub held-same : (runs : List (List Version)) (versions : List Version) (key : List ℕ) → HoldInOrder runs versions
    → filter (is_of key) (joined runs) ≡ filter (is_of key) versions
held-same runs versions key holds = same-parts runs holds.parts key holds.each ∙ ap (filter (is_of key)) holds.whole

sorted-parts : (runs parts : List (List Version)) → AllZip IsRunOf runs parts → IsNonDecreasingBy (λ (v : Version). v.tx) (joined parts)
    → All (IsSorted numbered) runs
sorted-parts [] [] each rise = All-nil (IsSorted numbered)
sorted-parts [] (p ∷ ps) each rise = absurd each
sorted-parts (r ∷ rs) [] each rise = absurd each
sorted-parts (r ∷ rs) (p ∷ ps) each rise =
    All-cons (IsSorted numbered) r rs
    (run-sorted r p each.0 (rises-front (λ (v : Version). v.tx) p (joined ps) rise))
    (sorted-parts rs ps each.1 (rises-behind (λ (v : Version). v.tx) p (joined ps) rise))

-- runs of a history are each sorted by key and number
pub runs-sorted : (runs : List (List Version)) (history : List Transaction) → AreRunsOf runs history → All (IsSorted numbered) runs
runs-sorted runs history are =
    sorted-parts runs are.holds.parts are.holds.each
    (subst (IsNonDecreasingBy (λ (v : Version). v.tx)) (sym are.holds.whole) (numbers-rise history))

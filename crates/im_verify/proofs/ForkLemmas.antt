-- Verdicts up to the first fork, verdicts that are one but for the strings of a fork, and the pair that is told.
use Rattle.std.proofs.Common.{◌≡◌, ◌+◌, ℕ, List, [], ◌∷◌, ◌++◌, length, get_or, Some, refl, sym, ap, subst, arith, inl, inr, length-append}
use Rattle.std.specs.List.{All, Any}
use Rattle.std.proofs.lemmas.List.Elements.{All-nil, All-cons, All-head, All-tail}
use Rattle.im_digest.specs.Digests.{Hash, GivesDigests}
use Rattle.im_wire.specs.Lines.{IsLine}
use Rattle.im_wire.specs.declared.messages.Message.{Message}
use Rattle.im_facts.specs.Accepted.{IsClient}
use Rattle.im_facts.specs.Facts.{Known}
use Rattle.im_facts.specs.Folds.{AreVerdicts, IsForkedBy, IsVerdict, known_by, known_by_all}
use Rattle.im_facts.specs.Verdicts.{Verdict, Passed, Accepted, Refused, Forked, IsForked, IsSameVerdict, AreSameVerdicts}
use Rattle.im_facts.proofs.ForkLemmas.{second-fact}
use Rattle.im_facts.proofs.VerdictSome.{line-fits, verdict-exists, verdicts-exist}
use Rattle.im_verify.specs.Judged.{up_to_fork, IsRefused, IsRejected, NoneForked, NoneRefused}

-- of a line something becomes
pub a-verdict : (hash : Hash) → GivesDigests hash → (known : Known) (line : List ℕ) → IsClient hash known → (v : Verdict) × IsVerdict hash known line v
a-verdict hash size known line client =
    verdict-exists hash known line (λ m says passes differs. second-fact hash size known m client (line-fits line m says) passes differs)

-- so of lines
pub all-verdicts : (hash : Hash) → GivesDigests hash → (known : Known) (lines : List (List ℕ)) → IsClient hash known → (vs : List Verdict) × AreVerdicts hash known lines vs
all-verdicts hash size known lines client =
    verdicts-exist hash known lines line-fits (λ after line is m says passes differs. second-fact hash size after m is (line-fits line m says) passes differs) client

-- where none is forked, all are told
pub up-none : (vs : List Verdict) → NoneForked vs → up_to_fork vs ≡ vs
up-none [] none = refl
up-none (Passed ∷ vs) none = ap (λ (l : List Verdict). Passed ∷ l) (up-none vs (All-tail (λ (v : Verdict). IsForked v → ⊥) Passed vs none))
up-none (Accepted m ∷ vs) none = ap (λ (l : List Verdict). Accepted m ∷ l) (up-none vs (All-tail (λ (v : Verdict). IsForked v → ⊥) (Accepted m) vs none))
up-none (Refused fault ∷ vs) none = ap (λ (l : List Verdict). Refused fault ∷ l) (up-none vs (All-tail (λ (v : Verdict). IsForked v → ⊥) (Refused fault) vs none))
up-none (Forked x y ∷ vs) none = absurd (All-head (λ (v : Verdict). IsForked v → ⊥) (Forked x y) vs none tt)

-- else those before it, and it
pub up-forked : (vs more : List Verdict) (v : Verdict) → NoneForked vs → IsForked v → up_to_fork (vs ++ v ∷ more) ≡ vs ++ v ∷ []
up-forked [] more Passed none is = absurd is
up-forked [] more (Accepted m) none is = absurd is
up-forked [] more (Refused fault) none is = absurd is
up-forked [] more (Forked x y) none is = refl
up-forked (Passed ∷ vs) more v none is = ap (λ (l : List Verdict). Passed ∷ l) (up-forked vs more v (All-tail (λ (w : Verdict). IsForked w → ⊥) Passed vs none) is)
up-forked (Accepted m ∷ vs) more v none is = ap (λ (l : List Verdict). Accepted m ∷ l) (up-forked vs more v (All-tail (λ (w : Verdict). IsForked w → ⊥) (Accepted m) vs none) is)
up-forked (Refused fault ∷ vs) more v none is = ap (λ (l : List Verdict). Refused fault ∷ l) (up-forked vs more v (All-tail (λ (w : Verdict). IsForked w → ⊥) (Refused fault) vs none) is)
up-forked (Forked x y ∷ vs) more v none is = absurd (All-head (λ (w : Verdict). IsForked w → ⊥) (Forked x y) vs none tt)

at-seam : (vs more : List Verdict) (v d : Verdict) → get_or (vs ++ v ∷ more) (length vs) d ≡ v
at-seam [] more v d = refl
at-seam (w ∷ vs) more v d = at-seam vs more v d

-- some line is as the one between
pub some-here : (P : Verdict → Type 0) (vs more : List Verdict) (v : Verdict) → P v → Any P (vs ++ v ∷ more)
some-here P vs more v is =
    let size : length (vs ++ v ∷ more) ≡ length vs + length (v ∷ more) = length-append vs (v ∷ more) in
    (length vs, v, omega arith, at-seam vs more v v, is)

-- where none is so, not some line is
pub none-and-some : (P : Verdict → Type 0) (vs : List Verdict) → All (λ (v : Verdict). P v → ⊥) vs → Any P vs → ⊥
none-and-some P vs none (k, x, within, at, is) = none k x within (subst P (sym at) is)

forked-not-refused : (v : Verdict) → IsForked v → IsRefused v → ⊥
forked-not-refused Passed f r = f
forked-not-refused (Accepted m) f r = f
forked-not-refused (Refused fault) f r = f
forked-not-refused (Forked x y) f r = r

forked-rejected : (v : Verdict) → IsForked v → IsRejected v
forked-rejected Passed f = absurd f
forked-rejected (Accepted m) f = absurd f
forked-rejected (Refused fault) f = absurd f
forked-rejected (Forked x y) f = tt

-- of two verdicts that are one but for the strings of a fork
refused-back : (a b : Verdict) → IsSameVerdict a b → IsRefused b → IsRefused a
refused-back a b (inl e) r = subst IsRefused (sym e) r
refused-back a b (inr f) r = absurd (forked-not-refused b f.1 r)

forked-back : (a b : Verdict) → IsSameVerdict a b → IsForked b → IsForked a
forked-back a b (inl e) r = subst IsForked (sym e) r
forked-back a b (inr f) r = f.0

pub rejected-back : (a b : Verdict) → IsSameVerdict a b → IsRejected b → IsRejected a
rejected-back a b (inl e) r = subst IsRejected (sym e) r
rejected-back a b (inr f) r = forked-rejected a f.0

none-same : (P : Verdict → Type 0) → ((a b : Verdict) → IsSameVerdict a b → P b → P a) → (vs ws : List Verdict) → AreSameVerdicts vs ws
    → All (λ (v : Verdict). P v → ⊥) vs → All (λ (v : Verdict). P v → ⊥) ws
none-same P back [] [] s none = All-nil (λ (v : Verdict). P v → ⊥)
none-same P back [] (w ∷ ws) s none = absurd s
none-same P back (v ∷ vs) [] s none = absurd s
none-same P back (v ∷ vs) (w ∷ ws) s none =
    All-cons (λ (u : Verdict). P u → ⊥) w ws (λ p. All-head (λ (u : Verdict). P u → ⊥) v vs none (back v w s.0 p))
    (none-same P back vs ws s.1 (All-tail (λ (u : Verdict). P u → ⊥) v vs none))

-- where none of the one list is refused, none of the other is; so of forks
pub none-refused-same : (vs ws : List Verdict) → AreSameVerdicts vs ws → NoneRefused vs → NoneRefused ws
none-refused-same vs ws s none = none-same IsRefused refused-back vs ws s none

pub none-forked-same : (vs ws : List Verdict) → AreSameVerdicts vs ws → NoneForked vs → NoneForked ws
none-forked-same vs ws s none = none-same IsForked forked-back vs ws s none

-- the line behind those of these verdicts is a message that is forked with these strings, behind them
abbrev ForkBehind : Hash → Known → List (List ℕ) → List Verdict → List ℕ → List ℕ → Type 0
ForkBehind hash known texts front x y =
    (message : Message) × IsLine (get_or texts (length front) []) (Some message) × IsForkedBy hash (known_by_all known front) message x y

nil-not-more : (front : List Verdict) (v : Verdict) → [] ≡ front ++ v ∷ [] → ⊥
nil-not-more [] v e = cc
nil-not-more (w ∷ front) v e = cc

-- the fork that ends what is told is of such a line
pub fork-behind : (hash : Hash) (known : Known) (texts : List (List ℕ)) (vs front : List Verdict) (x y : List ℕ) → AreVerdicts hash known texts vs
    → up_to_fork vs ≡ front ++ Forked x y ∷ [] → ForkBehind hash known texts front x y
fork-behind hash known [] [] front x y f e = absurd (nil-not-more front (Forked x y) e)
fork-behind hash known [] (v ∷ vs) front x y f e = absurd f
fork-behind hash known (l ∷ texts) [] front x y f e = absurd f
fork-behind hash known (l ∷ texts) (Passed ∷ vs) [] x y f e =
    let now : Passed ∷ up_to_fork vs ≡ Forked x y ∷ [] = e in
    absurd cc
fork-behind hash known (l ∷ texts) (Passed ∷ vs) (w ∷ front) x y f e =
    let now : Passed ∷ up_to_fork vs ≡ w ∷ (front ++ Forked x y ∷ []) = e in
    let same : Passed ≡ w = cc in
    let rest : up_to_fork vs ≡ front ++ Forked x y ∷ [] = cc in
    subst (λ (v : Verdict). ForkBehind hash (known_by known v) texts front x y) same (fork-behind hash (known_by known Passed) texts vs front x y f.1 rest)
fork-behind hash known (l ∷ texts) (Accepted m ∷ vs) [] x y f e =
    let now : Accepted m ∷ up_to_fork vs ≡ Forked x y ∷ [] = e in
    absurd cc
fork-behind hash known (l ∷ texts) (Accepted m ∷ vs) (w ∷ front) x y f e =
    let now : Accepted m ∷ up_to_fork vs ≡ w ∷ (front ++ Forked x y ∷ []) = e in
    let same : Accepted m ≡ w = cc in
    let rest : up_to_fork vs ≡ front ++ Forked x y ∷ [] = cc in
    subst (λ (v : Verdict). ForkBehind hash (known_by known v) texts front x y) same (fork-behind hash (known_by known (Accepted m)) texts vs front x y f.1 rest)
fork-behind hash known (l ∷ texts) (Refused fault ∷ vs) [] x y f e =
    let now : Refused fault ∷ up_to_fork vs ≡ Forked x y ∷ [] = e in
    absurd cc
fork-behind hash known (l ∷ texts) (Refused fault ∷ vs) (w ∷ front) x y f e =
    let now : Refused fault ∷ up_to_fork vs ≡ w ∷ (front ++ Forked x y ∷ []) = e in
    let same : Refused fault ≡ w = cc in
    let rest : up_to_fork vs ≡ front ++ Forked x y ∷ [] = cc in
    subst (λ (v : Verdict). ForkBehind hash (known_by known v) texts front x y) same (fork-behind hash (known_by known (Refused fault)) texts vs front x y f.1 rest)
fork-behind hash known (l ∷ texts) (Forked u v ∷ vs) [] x y f e =
    let now : Forked u v ∷ [] ≡ Forked x y ∷ [] = e in
    let left : u ≡ x = cc in
    let right : v ≡ y = cc in
    (f.0.0, f.0.1, subst (λ (a : List ℕ). IsForkedBy hash known f.0.0 a y) left (subst (λ (b : List ℕ). IsForkedBy hash known f.0.0 u b) right f.0.2))
fork-behind hash known (l ∷ texts) (Forked u v ∷ vs) (w ∷ front) x y f e =
    let now : Forked u v ∷ [] ≡ w ∷ (front ++ Forked x y ∷ []) = e in
    let rest : [] ≡ front ++ Forked x y ∷ [] = cc in
    absurd (nil-not-more front (Forked x y) rest)

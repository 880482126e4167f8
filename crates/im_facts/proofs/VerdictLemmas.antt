-- A line has one verdict, and lines have one list of them, but for the strings of a fork.
use Rattle.std.proofs.Common.{◌≡◌, ℕ, Bool, true, false, if◌then◌else◌, List, [], ◌∷◌, ◌++◌, append_assoc, append-nil, refl, sym, ap, subst, ◌∙◌, inl, inr, Option, Some, None, Result, Ok, Err}
use Rattle.im_digest.specs.Digests.{Hash}
use Rattle.im_mtree.specs.Checks.{first_fail}
use Rattle.im_wire.specs.Lines.{IsLine}
use Rattle.im_wire.specs.declared.messages.Message.{Message}
use Rattle.im_client.specs.LineChecks.{line_checks}
use Rattle.im_client.specs.declared.faults.LineFault.{LineFault}
use Rattle.im_client.proofs.SaysLemmas.{err-is, ok-err, says-one, says-none}
use Rattle.im_facts.specs.Facts.{Known, with_message, Differs}
use Rattle.im_facts.specs.News.{is_old}
use Rattle.im_facts.specs.Folds.{IsTakenAs, IsVerdict, AreVerdicts, known_behind, known_by, known_by_all, kept_by, kept_by_all, accepted_behind, accepted_by}
use Rattle.im_facts.specs.Keeping.{Kept, Knows}
use Rattle.im_facts.specs.Verdicts.{Verdict, Passed, Accepted, Refused, Forked, IsSameVerdict, AreSameVerdicts, taken_of}
use Rattle.im_facts.specs.declared.taken.Shown.{Shown}
use Rattle.im_facts.specs.declared.taken.Taken.{Taken}
use Rattle.im_facts.specs.declared.taken.Taken.TheVariants as took
use Rattle.im_facts.proofs.AgreeLemmas.{not-both}

-- what is found of the message that a line says
found-as : (hash : Hash) (known : Known) (line : List ℕ) (m n : Message) (r : Result (Unit {0}) LineFault) → IsLine line (Some m) → IsLine line (Some n)
    → first_fail (line_checks hash known.state n) ≡ r → first_fail (line_checks hash known.state m) ≡ r
found-as hash known line m n r h k e = ap (λ (x : Message). first_fail (line_checks hash known.state x)) (says-one line m n h k) ∙ e

-- a line that is passed over isn't refused
passed-stays : (hash : Hash) (known : Known) (line : List ℕ) (fault : LineFault) → IsLine line None → IsVerdict hash known line (Refused fault) → ⊥
passed-stays hash known line fault h (inl k) = k.0 None h
passed-stays hash known line fault h (inr k) = says-none line k.0 h k.1

-- nor is one whose message passes every check
passing-stays : (hash : Hash) (known : Known) (line : List ℕ) (m : Message) (fault : LineFault) → IsLine line (Some m) → first_fail (line_checks hash known.state m) ≡ Ok tt → IsVerdict hash known line (Refused fault) → ⊥
passing-stays hash known line m fault says ok (inl k) = k.0 (Some m) says
passing-stays hash known line m fault says ok (inr k) =
    ok-err (first_fail (line_checks hash known.state m)) fault ok (found-as hash known line m k.0 (Err fault) says k.1 k.2)

-- a line is refused by one fault
refused-one : (hash : Hash) (known : Known) (line : List ℕ) (f g : LineFault) → IsVerdict hash known line (Refused f) → IsVerdict hash known line (Refused g) → f ≡ g
refused-one hash known line f g (inl h) (inl k) = h.1 ∙ sym k.1
refused-one hash known line f g (inl h) (inr k) = absurd (h.0 (Some k.0) k.1)
refused-one hash known line f g (inr h) (inl k) = absurd (k.0 (Some h.0) h.1)
refused-one hash known line f g (inr h) (inr k) =
    err-is (first_fail (line_checks hash known.state h.0)) f g h.2 (found-as hash known line h.0 k.0 (Err g) h.1 k.1 k.2)

-- one that is accepted isn't forked
accepted-stays : (hash : Hash) (known : Known) (line : List ℕ) (m : Message) (x y : List ℕ) → IsVerdict hash known line (Accepted m) → IsVerdict hash known line (Forked x y) → ⊥
accepted-stays hash known line m x y h k =
    not-both known m h.1.agrees (subst (Differs known) (says-one line k.0 m k.1 h.0) k.2.differs)

-- a line has one verdict at most
pub verdict-one : (hash : Hash) (known : Known) (line : List ℕ) (a b : Verdict) → IsVerdict hash known line a → IsVerdict hash known line b → IsSameVerdict a b
verdict-one hash known line Passed Passed h k = inl refl
verdict-one hash known line Passed (Accepted n) h k = absurd (says-none line n h k.0)
verdict-one hash known line Passed (Refused g) h k = absurd (passed-stays hash known line g h k)
verdict-one hash known line Passed (Forked x y) h k = absurd (says-none line k.0 h k.1)
verdict-one hash known line (Accepted m) Passed h k = absurd (says-none line m k h.0)
verdict-one hash known line (Accepted m) (Accepted n) h k = inl (ap Accepted (says-one line m n h.0 k.0))
verdict-one hash known line (Accepted m) (Refused g) h k = absurd (passing-stays hash known line m g h.0 h.1.passes k)
verdict-one hash known line (Accepted m) (Forked x y) h k = absurd (accepted-stays hash known line m x y h k)
verdict-one hash known line (Refused f) Passed h k = absurd (passed-stays hash known line f k h)
verdict-one hash known line (Refused f) (Accepted n) h k = absurd (passing-stays hash known line n f k.0 k.1.passes h)
verdict-one hash known line (Refused f) (Refused g) h k = inl (ap Refused (refused-one hash known line f g h k))
verdict-one hash known line (Refused f) (Forked x y) h k = absurd (passing-stays hash known line k.0 f k.1 k.2.passes h)
verdict-one hash known line (Forked x y) Passed h k = absurd (says-none line h.0 k h.1)
verdict-one hash known line (Forked x y) (Accepted n) h k = absurd (accepted-stays hash known line n x y k h)
verdict-one hash known line (Forked x y) (Refused g) h k = absurd (passing-stays hash known line h.0 g h.1 h.2.passes k)
verdict-one hash known line (Forked x y) (Forked u v) h k = inr (tt, tt)

-- and leaves one thing known
same-known : (known : Known) (a b : Verdict) → IsSameVerdict a b → known_by known a ≡ known_by known b
same-known known a b (inl e) = ap (known_by known) e
same-known known Passed b (inr f) = absurd f.0
same-known known (Accepted m) b (inr f) = absurd f.0
same-known known (Refused g) b (inr f) = absurd f.0
same-known known (Forked x y) Passed (inr f) = absurd f.1
same-known known (Forked x y) (Accepted m) (inr f) = absurd f.1
same-known known (Forked x y) (Refused g) (inr f) = absurd f.1
same-known known (Forked x y) (Forked u v) (inr f) = refl

-- so do lines
pub verdicts-one : (hash : Hash) (known : Known) (lines : List (List ℕ)) (a b : List Verdict) → AreVerdicts hash known lines a → AreVerdicts hash known lines b → AreSameVerdicts a b
verdicts-one hash known [] [] [] h k = tt
verdicts-one hash known [] [] (y ∷ ys) h k = absurd k
verdicts-one hash known [] (x ∷ xs) b h k = absurd h
verdicts-one hash known (line ∷ lines) [] b h k = absurd h
verdicts-one hash known (line ∷ lines) (x ∷ xs) [] h k = absurd k
verdicts-one hash known (line ∷ lines) (x ∷ xs) (y ∷ ys) h k =
    let same : IsSameVerdict x y = verdict-one hash known line x y h.0 k.0 in
    let there : AreVerdicts hash (known_by known x) lines ys = subst (λ (after : Known). AreVerdicts hash after lines ys) (sym (same-known known x y same)) k.1 in
    (same, verdicts-one hash (known_by known x) lines xs ys h.1 there)

pub all-same-known : (known : Known) (a b : List Verdict) → AreSameVerdicts a b → known_by_all known a ≡ known_by_all known b
all-same-known known [] [] same = refl
all-same-known known [] (y ∷ ys) same = absurd same
all-same-known known (x ∷ xs) [] same = absurd same
all-same-known known (x ∷ xs) (y ∷ ys) same =
    ap (λ (after : Known). known_by_all after xs) (same-known known x y same.0) ∙ all-same-known (known_by known y) xs ys same.1

abbrev some_taken : Taken → Option Taken
some_taken taken = Some taken

-- the verdict that an answer to a line's message tells, what is known behind it, and the message that is handed out
pub told : (hash : Hash) (known : Known) (kept : Kept) (line : List ℕ) (m : Message) (taken : Taken) (answer : Option Taken) (out : Option Message) → IsLine line (Some m) → IsTakenAs hash known m taken
    → Knows kept (known_behind known m taken) → answer ≡ Some taken → out ≡ accepted_behind m taken
    → (verdict : Verdict) × IsVerdict hash known line verdict × (answer ≡ taken_of verdict) × Knows kept (known_by known verdict) × (out ≡ accepted_by verdict)
told hash known kept line m (took.Accepted shown) answer out says is knows e o =
    (Accepted m, (says, is.0), e ∙ ap (λ (s : Shown). some_taken (took.Accepted s)) is.1, knows, o)
told hash known kept line m (took.Refused fault) answer out says is knows e o = (Refused fault, inr (m, says, is), e, knows, o)
told hash known kept line m (took.Forked x y) answer out says is knows e o = (Forked x y, (m, says, is), e, knows, o)

kept-or-not : (b : Bool) (known : Known) (m : Message) → (if b then known else with_message known m).messages ≡ known.messages ++ (if b then [] else m ∷ [])
kept-or-not true known m = sym (append-nil known.messages)
kept-or-not false known m = refl

-- the messages that are known behind a line
messages-by : (known : Known) (v : Verdict) → (known_by known v).messages ≡ known.messages ++ kept_by known v
messages-by known Passed = sym (append-nil known.messages)
messages-by known (Accepted m) = kept-or-not (is_old known m) known m
messages-by known (Refused fault) = sym (append-nil known.messages)
messages-by known (Forked x y) = sym (append-nil known.messages)

-- and behind lines
pub messages-behind : (known : Known) (verdicts : List Verdict) → (known_by_all known verdicts).messages ≡ known.messages ++ kept_by_all known verdicts
messages-behind known [] = sym (append-nil known.messages)
messages-behind known (v ∷ verdicts) =
    messages-behind (known_by known v) verdicts
    ∙ ap (λ (l : List Message). l ++ kept_by_all (known_by known v) verdicts) (messages-by known v)
    ∙ append_assoc known.messages (kept_by known v) (kept_by_all (known_by known v) verdicts)

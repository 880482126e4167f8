-- Kept lines are all taken, or they stop at the first that is refused or forked.
use Rattle.std.proofs.Common.{◌⊎◌, ◌<◌, ℕ, suc, List, [], ◌∷◌, length, take, get_or, inl, inr, arith}
use Rattle.std.specs.List.{All}
use Rattle.std.proofs.lemmas.List.Elements.{All-nil, All-cons}
use Rattle.im_digest.specs.Digests.{Hash, GivesDigests}
use Rattle.im_facts.specs.Accepted.{IsClient}
use Rattle.im_facts.specs.Facts.{Known, nothing}
use Rattle.im_facts.specs.Folds.{AreVerdicts, IsVerdict, known_by, known_by_all}
use Rattle.im_facts.specs.Verdicts.{Verdict, Passed, Accepted, Refused, Forked}
use Rattle.im_facts.proofs.KeepLemmas.{nothing-client}
use Rattle.im_facts.proofs.VerdictSome.{client-by, line-fits}
use Rattle.im_verify.specs.Judged.{AreTaken, IsRejected, StopsKept}
use Rattle.im_verify.proofs.ForkLemmas.{a-verdict}

-- from what is known on, the lines have verdicts, none of which rejects
record TakenFrom (hash : Hash) (known : Known) (lines : List (List ℕ)) : Type 0 where
  verdicts : List Verdict
  fold : AreVerdicts hash known lines verdicts
  accepted : All (λ (v : Verdict). IsRejected v → ⊥) verdicts

-- or the first n of them have such, and the next one is refused or forked
record StoppedFrom (hash : Hash) (known : Known) (lines : List (List ℕ)) : Type 0 where
  n : ℕ
  within : n < length lines
  before : List Verdict
  fold : AreVerdicts hash known (take n lines) before
  accepted : All (λ (v : Verdict). IsRejected v → ⊥) before
  next : Verdict
  rejected : IsRejected next
  is : IsVerdict hash (known_by_all known before) (get_or lines n []) next

more-taken : (hash : Hash) (known : Known) (line : List ℕ) (lines : List (List ℕ)) (o : Verdict) → IsVerdict hash known line o → (IsRejected o → ⊥)
    → TakenFrom hash (known_by known o) lines ⊎ StoppedFrom hash (known_by known o) lines → TakenFrom hash known (line ∷ lines) ⊎ StoppedFrom hash known (line ∷ lines)
more-taken hash known line lines o is fine (inl t) = inl (record {
  verdicts = o ∷ t.verdicts;
  fold = (is, t.fold);
  accepted = All-cons (λ (x : Verdict). IsRejected x → ⊥) o t.verdicts fine t.accepted;
})
more-taken hash known line lines o is fine (inr s) = let within : s.n < length lines = s.within in inr (record {
  n = suc s.n;
  within = omega (arith, within);
  before = o ∷ s.before;
  fold = (is, s.fold);
  accepted = All-cons (λ (x : Verdict). IsRejected x → ⊥) o s.before fine s.accepted;
  next = s.next;
  rejected = s.rejected;
  is = s.is;
})

-- a line that is rejected stops the taking
stopped : (hash : Hash) (known : Known) (line : List ℕ) (lines : List (List ℕ)) (o : Verdict) → IsVerdict hash known line o → IsRejected o → StoppedFrom hash known (line ∷ lines)
stopped hash known line lines o is r = record {
  n = 0;
  within = omega arith;
  before = [];
  fold = tt;
  accepted = All-nil (λ (x : Verdict). IsRejected x → ⊥);
  next = o;
  rejected = r;
  is = is;
}

one-line : (hash : Hash) (known : Known) (line : List ℕ) (lines : List (List ℕ)) → ((next : Known) → IsClient hash next → TakenFrom hash next lines ⊎ StoppedFrom hash next lines)
    → (o : Verdict) → IsVerdict hash known line o → IsClient hash (known_by known o) → TakenFrom hash known (line ∷ lines) ⊎ StoppedFrom hash known (line ∷ lines)
one-line hash known line lines rest Passed is client = more-taken hash known line lines Passed is (λ r. r) (rest known client)
one-line hash known line lines rest (Accepted m) is client = more-taken hash known line lines (Accepted m) is (λ r. r) (rest (known_by known (Accepted m)) client)
one-line hash known line lines rest (Refused fault) is client = inr (stopped hash known line lines (Refused fault) is tt)
one-line hash known line lines rest (Forked x y) is client = inr (stopped hash known line lines (Forked x y) is tt)

taken-or-stopped : (hash : Hash) → GivesDigests hash → (known : Known) (lines : List (List ℕ)) → IsClient hash known → TakenFrom hash known lines ⊎ StoppedFrom hash known lines
taken-or-stopped hash size known [] client = inl (record { verdicts = []; fold = tt; accepted = All-nil (λ (x : Verdict). IsRejected x → ⊥) })
taken-or-stopped hash size known (line ∷ lines) client =
    let first = a-verdict hash size known line client in
    one-line hash known line lines (λ next is. taken-or-stopped hash size next lines is) first.0 first.1 (client-by hash known line first.0 (line-fits line) client first.1)

-- kept lines are taken, or they stop
pub kept-or-stops : (hash : Hash) (kept : List (List ℕ)) → GivesDigests hash → ((verdicts : List Verdict) × AreTaken hash kept verdicts) ⊎ ((n : ℕ) × StopsKept hash kept n)
kept-or-stops hash kept size = go (taken-or-stopped hash size nothing kept (nothing-client hash))
  where
    go : TakenFrom hash nothing kept ⊎ StoppedFrom hash nothing kept → ((verdicts : List Verdict) × AreTaken hash kept verdicts) ⊎ ((n : ℕ) × StopsKept hash kept n)
    go (inl t) = inl (t.verdicts, record { fold = t.fold; accepted = t.accepted })
    go (inr s) = inr (s.n, record { within = s.within; before = s.before; taken = record { fold = s.fold; accepted = s.accepted }; next = s.next; rejected = s.rejected; is = s.is })

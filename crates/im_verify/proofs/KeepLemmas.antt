-- How far kept lines were taken, one line more, and the first that is refused or forked.
use Rattle.std.proofs.Common.{◌≡◌, ◌+◌, ◌<◌, ℕ, List, [], ◌∷◌, ◌++◌, length, take, get_or, Option, Some, None, IfSome, sym, ap, subst, ◌∙◌}
use Rattle.std.proofs.lemmas.List.{take_more, get_or_default}
use Rattle.std.proofs.lemmas.List.Elements.{All-nil, All-push}
use Rattle.im_digest.specs.Digests.{Hash}
use Rattle.im_facts.specs.Facts.{Known, nothing}
use Rattle.im_facts.specs.Folds.{AreVerdicts, IsVerdict, known_by, known_by_all}
use Rattle.im_facts.specs.Verdicts.{Verdict, Passed, Accepted, Refused, Forked, taken_of}
use Rattle.im_verify.specs.Judged.{IsRejected, StopsHeld, StopsKept}
use Rattle.im_verify.specs.Turns.{IsRejection, TakesHeld, TakesKept}
use Rattle.im_verify.proofs.FoldLemmas.{fold-push, known-push}

-- an answer rejects the line that it is of
pub rejection-of : (v : Verdict) → IsRejected v → IsRejection (taken_of v)
rejection-of Passed r = r
rejection-of (Accepted m) r = r
rejection-of (Refused fault) r = r
rejection-of (Forked x y) r = r

pub rejected-by : (v : Verdict) → IsRejection (taken_of v) → IsRejected v
rejected-by Passed r = r
rejected-by (Accepted m) r = r
rejected-by (Refused fault) r = r
rejected-by (Forked x y) r = r

-- before the first line
pub kept-none : (hash : Hash) (known : Known) → known ≡ nothing → TakesKept hash [] known
kept-none hash known e = record {
  verdicts = [];
  taken = record { fold = tt; accepted = All-nil (λ (v : Verdict). IsRejected v → ⊥) };
  follows = e;
}

-- one line more that is neither refused nor forked
pub kept-next : (hash : Hash) (kept : List (List ℕ)) (i : ℕ) (line : List ℕ) (known next : Known) (o : Verdict)
    → i < length kept → line ≡ get_or kept i line → TakesKept hash (take i kept) known → IsVerdict hash known line o → (IsRejected o → ⊥) → next ≡ known_by known o
    → TakesKept hash (take (i + 1) kept) next
kept-next hash kept i line known next o within at t is fine follows =
    let more : take i kept ++ line ∷ [] ≡ take (i + 1) kept = ap (λ (l : List ℕ). take i kept ++ l ∷ []) at ∙ sym (take_more kept i line within) in
    let here : IsVerdict hash (known_by_all nothing t.verdicts) line o = subst (λ (s : Known). IsVerdict hash s line o) t.follows is in
    record {
      verdicts = t.verdicts ++ o ∷ [];
      taken = record {
        fold = subst (λ (ls : List (List ℕ)). AreVerdicts hash nothing ls (t.verdicts ++ o ∷ [])) more (fold-push hash nothing (take i kept) t.verdicts line o t.taken.fold here);
        accepted = All-push (λ (x : Verdict). IsRejected x → ⊥) t.verdicts o t.taken.accepted fine;
      };
      follows = follows ∙ ap (λ (s : Known). known_by s o) t.follows ∙ sym (known-push nothing t.verdicts o);
    }

-- the next line is refused or forked
pub kept-stops : (hash : Hash) (kept : List (List ℕ)) (i : ℕ) (line : List ℕ) (known : Known) (o : Verdict)
    → i < length kept → line ≡ get_or kept i line → TakesKept hash (take i kept) known → IsVerdict hash known line o → IsRejected o → StopsKept hash kept i
kept-stops hash kept i line known o within at t is r =
    let here : IsVerdict hash (known_by_all nothing t.verdicts) line o = subst (λ (s : Known). IsVerdict hash s line o) t.follows is in
    record {
      within = within;
      before = t.verdicts;
      taken = t.taken;
      next = o;
      rejected = r;
      is = subst (λ (l : List ℕ). IsVerdict hash (known_by_all nothing t.verdicts) l o) (at ∙ get_or_default kept i line [] within) here;
    }

-- what a keeper held, where it tells it, is what was read
held_is : (held : Option (List (List ℕ))) (lines slice : List (List ℕ)) → IfSome held (λ xs. lines ≡ xs) → slice ≡ lines → IfSome held (λ xs. xs ≡ slice)
held_is None lines slice read same = tt
held_is (Some xs) lines slice read same = sym (same ∙ read)

-- it was taken
pub takes_held : (hash : Hash) (held : Option (List (List ℕ))) (lines slice : List (List ℕ)) (known : Known) → IfSome held (λ xs. lines ≡ xs) → slice ≡ lines → TakesKept hash slice known
    → TakesHeld hash held known
takes_held hash held lines slice known read same t = record { kept = slice; kept_is = held_is held lines slice read same; takes = t }

-- or one of its lines is the first that is refused or forked
pub stops_held : (hash : Hash) (held : Option (List (List ℕ))) (lines slice : List (List ℕ)) (k : ℕ) → IfSome held (λ xs. lines ≡ xs) → slice ≡ lines → (n : ℕ) × (k ≡ n + 1) × StopsKept hash slice n
    → StopsHeld hash held k
stops_held hash held lines slice k read same s = record { kept = slice; kept_is = held_is held lines slice read same; n = s.0; number = s.1; stops = s.2 }

-- what was read is what the keeper holds still
pub read_is : (old new : Option (List (List ℕ))) (lines slice : List (List ℕ)) → new ≡ old → slice ≡ lines → IfSome old (λ xs. lines ≡ xs) → IfSome new (λ xs. slice ≡ xs)
read_is old new lines slice still same read =
    subst (λ (o : Option (List (List ℕ))). IfSome o (λ xs. slice ≡ xs)) (sym still)
    (subst (λ (l : List (List ℕ)). IfSome old (λ xs. l ≡ xs)) (sym same) read)

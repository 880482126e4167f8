-- What the source and the keeper hold decides how `verify` ends.
use Rattle.std.proofs.Common.{◌≡◌, ◌+◌, ◌∙◌, ℕ, List, ap, Option, Some, None, IfSome, inl, inr, ◌⊎◌, refl, sym}
use Rattle.im_digest.specs.Digests.{Hash}
use Rattle.im_octet.proofs.Common.{some-is}
use Rattle.im_verify.specs.Ends.{HasFate}
use Rattle.im_verify.specs.declared.ended.Ended.{Ended}
use Rattle.im_verify.specs.declared.ended.Ended.TheVariants as ended
use Rattle.im_status.specs.Fates.{HasVerdict}
use Rattle.im_status.specs.Statuses.{EndsVerify, status_ended}
use Rattle.im_status.specs.declared.status.Status.{Status}
use Rattle.im_status.specs.declared.status.Status.TheVariants as the

-- the end of a status
abbrev ended_of : Status → Option Ended
ended_of the.Ok = Some ended.Ok
ended_of the.Refused = Some ended.Refused
ended_of the.Forked = Some ended.Forked
ended_of the.ReadFault = Some ended.ReadFault
ended_of the.WriteFault = Some ended.WriteFault
ended_of the.KeeperFault = Some ended.KeeperFault
ended_of the.Memory = Some ended.Memory
ended_of the.Long = Some ended.Long
ended_of (the.Kept line) = Some (ended.Kept line)
ended_of _ = None

ended-back : (e : Ended) → ended_of (status_ended e) ≡ Some e
ended-back ended.Ok = refl
ended-back ended.Refused = refl
ended-back ended.Forked = refl
ended-back ended.ReadFault = refl
ended-back ended.WriteFault = refl
ended-back ended.KeeperFault = refl
ended-back ended.Memory = refl
ended-back ended.Long = refl
ended-back (ended.Kept line) = refl

-- ends of one status are one
pub ended-is : (s : Status) (e x : Ended) → s ≡ status_ended e → s ≡ status_ended x → e ≡ x
ended-is s e x told is = some-is e x (sym (ended-back e) ∙ ap ended_of (sym told ∙ is) ∙ ended-back x)

-- it ends as `verify` does, and not over its words
pub ended-ends : (e : Ended) → EndsVerify (status_ended e)
ended-ends ended.Ok = tt
ended-ends ended.Refused = tt
ended-ends ended.Forked = tt
ended-ends ended.ReadFault = tt
ended-ends ended.WriteFault = tt
ended-ends ended.KeeperFault = tt
ended-ends ended.Memory = tt
ended-ends ended.Long = tt
ended-ends (ended.Kept line) = tt

pub ended-never : (s : Status) (e : Ended) → s ≡ status_ended e → s ≡ the.Usage → ⊥
ended-never s e told is = (let e : Some e ≡ None = sym (ended-back e) ∙ ap ended_of (sym told ∙ is) in cc)

-- one of two ends is one of their statuses
either : (e a b : Ended) → (e ≡ a) ⊎ (e ≡ b) → (status_ended e ≡ status_ended a) ⊎ (status_ended e ≡ status_ended b)
either e a b (inl x) = inl (ap status_ended x)
either e a b (inr y) = inr (ap status_ended y)

one-of : (e a b c d : Ended) → (e ≡ a) ⊎ (e ≡ b) ⊎ (e ≡ c) ⊎ (e ≡ d)
    → (status_ended e ≡ status_ended a) ⊎ (status_ended e ≡ status_ended b) ⊎ (status_ended e ≡ status_ended c) ⊎ (status_ended e ≡ status_ended d)
one-of e a b c d (inl x) = inl (ap status_ended x)
one-of e a b c d (inr (inl y)) = inr (inl (ap status_ended y))
one-of e a b c d (inr (inr z)) = inr (inr (either e c d z))

-- what is said of an end is said of its status
verdict : (hash : Hash) (e : Ended) (stream : List ℕ) (kept : List (List ℕ)) → HasFate hash e stream kept → HasVerdict hash (status_ended e) stream kept
verdict hash e stream kept f = record {
  too_long = λ long. either e ended.Long ended.Memory (f.too_long long);
  stops = λ n short s. either e (ended.Kept (n + 1)) ended.Memory (f.stops n short s);
  runs = λ before short t. one-of e ended.Ok ended.Refused ended.Forked ended.Memory (f.runs before short t);
  passes = λ verdicts short v none unforked. either e ended.Ok ended.Memory (f.passes verdicts short v none unforked);
  refuses = λ verdicts short v some unforked. either e ended.Refused ended.Memory (f.refuses verdicts short v some unforked);
  forks = λ verdicts short v some. either e ended.Forked ended.Memory (f.forks verdicts short v some);
}

-- the same where the source and the keeper tell what they hold
pub verdict-told : (hash : Hash) (e : Ended) (left : Option (List ℕ)) (kept : Option (List (List ℕ)))
    → IfSome left (λ s. IfSome kept (HasFate hash e s)) → IfSome left (λ s. IfSome kept (HasVerdict hash (status_ended e) s))
verdict-told hash e None kept f = tt
verdict-told hash e (Some s) None f = tt
verdict-told hash e (Some s) (Some lines) f = verdict hash e s lines f

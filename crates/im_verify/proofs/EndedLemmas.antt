-- What the end of a run tells of how its stream's lines were taken.
use Rattle.std.proofs.Common.{◌≡◌, ◌⊎◌, ◌∙◌, Option, Some, None, Result, Ok as Took, Err, IfOk, inl, inr, refl, ap, sym}
use Rattle.im_octet.proofs.Common.{some-is}
use Rattle.im_verify.proofs.RunLemmas.{ended_as}
use Rattle.im_verify.specs.Stops.{ended_by}
use Rattle.im_verify.specs.declared.ended.Ended.{Ended}
use Rattle.im_verify.specs.declared.ended.Ended.TheVariants as ended
use Rattle.im_verify.specs.declared.lines.LineEnd.{LineEnd}
use Rattle.im_verify.specs.declared.lines.LineEnd.TheVariants as end
use Rattle.im_verify.specs.declared.stops.Stop.{Stop}
use Rattle.im_verify.specs.declared.stops.Stop.TheVariants as line

-- an end is that of one taking at most
abbrev took_of : Ended → Option (Result LineEnd Stop)
took_of ended.Ok = Some (Took end.Fine)
took_of ended.Refused = Some (Took end.Refused)
took_of ended.Forked = Some (Took end.Forked)
took_of ended.WriteFault = Some (Err line.WriteFault)
took_of ended.KeeperFault = Some (Err line.KeeperFault)
took_of ended.Memory = Some (Err line.Memory)
took_of _ = None

took-back : (took : Result LineEnd Stop) → took_of (ended_by took) ≡ Some took
took-back (Took end.Fine) = refl
took-back (Took end.Refused) = refl
took-back (Took end.Forked) = refl
took-back (Err line.WriteFault) = refl
took-back (Err line.KeeperFault) = refl
took-back (Err line.Memory) = refl

pub took-is : (e : Ended) (took x : Result LineEnd Stop) → e ≡ ended_by took → e ≡ ended_by x → took ≡ x
took-is e took x told is = some-is took x (sym (took-back took) ∙ ap took_of (sym told ∙ is) ∙ took-back x)

-- and no other end is one
pub took-none : (e : Ended) (took : Result LineEnd Stop) (x : Ended) → e ≡ ended_by took → e ≡ x → took_of x ≡ None → ⊥
took-none e took x told is none = (let no : Some took ≡ None = sym (took-back took) ∙ ap took_of (sym told ∙ is) ∙ none in cc)

-- a run that was done took each line
pub took-done : (P : Ended → Type 0) (Q : LineEnd → Type 0) (took : Result LineEnd Stop) → IfOk took Q → ((e : LineEnd) → Q e → P (ended_as e))
    → (ended_by took ≡ ended.Ok) ⊎ (ended_by took ≡ ended.Refused) ⊎ (ended_by took ≡ ended.Forked) → P (ended_by took)
took-done P Q (Took end.Fine) q make how = make end.Fine q
took-done P Q (Took end.Refused) q make how = make end.Refused q
took-done P Q (Took end.Forked) q make how = make end.Forked q
took-done P Q (Err line.WriteFault) q make how = absurd (elim how [ inl a ↦ cc | inr (inl b) ↦ cc | inr (inr d) ↦ cc ])
took-done P Q (Err line.KeeperFault) q make how = absurd (elim how [ inl a ↦ cc | inr (inl b) ↦ cc | inr (inr d) ↦ cc ])
took-done P Q (Err line.Memory) q make how = absurd (elim how [ inl a ↦ cc | inr (inl b) ↦ cc | inr (inr d) ↦ cc ])

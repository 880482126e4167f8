-- What the keeper holds decides how `show` ends.
use Rattle.std.proofs.Common.{◌≡◌, ◌⊎◌, ◌+◌, ◌∙◌, ℕ, List, ap, Option, Some, None, IfSome, inl, inr, refl, sym}
use Rattle.im_digest.specs.Digests.{Hash}
use Rattle.im_octet.proofs.Common.{some-is}
use Rattle.im_verify.specs.Shows.{HasShowFate}
use Rattle.im_verify.specs.declared.show.ShowEnd.{ShowEnd}
use Rattle.im_verify.specs.declared.show.ShowEnd.TheVariants as end
use Rattle.im_status.specs.Fates.{HasShow}
use Rattle.im_status.specs.Statuses.{EndsShow, status_shown}
use Rattle.im_status.specs.declared.status.Status.{Status}
use Rattle.im_status.specs.declared.status.Status.TheVariants as the

-- the end of a status
abbrev end_of : Status → Option ShowEnd
end_of the.Ok = Some end.Ok
end_of the.WriteFault = Some end.WriteFault
end_of the.KeeperFault = Some end.KeeperFault
end_of the.Memory = Some end.Memory
end_of (the.Kept line) = Some (end.Kept line)
end_of _ = None

end-back : (e : ShowEnd) → end_of (status_shown e) ≡ Some e
end-back end.Ok = refl
end-back end.WriteFault = refl
end-back end.KeeperFault = refl
end-back end.Memory = refl
end-back (end.Kept line) = refl

-- ends of one status are one
pub shown-is : (s : Status) (e x : ShowEnd) → s ≡ status_shown e → s ≡ status_shown x → e ≡ x
shown-is s e x told is = some-is e x (sym (end-back e) ∙ ap end_of (sym told ∙ is) ∙ end-back x)

-- it ends as `show` does, and not over its words
pub shown-ends : (e : ShowEnd) → EndsShow (status_shown e)
shown-ends end.Ok = tt
shown-ends end.WriteFault = tt
shown-ends end.KeeperFault = tt
shown-ends end.Memory = tt
shown-ends (end.Kept line) = tt

pub shown-never : (s : Status) (e : ShowEnd) → s ≡ status_shown e → s ≡ the.Usage → ⊥
shown-never s e told is = (let e : Some e ≡ None = sym (end-back e) ∙ ap end_of (sym told ∙ is) in cc)

-- one of two ends is one of their statuses
either : (e a b : ShowEnd) → (e ≡ a) ⊎ (e ≡ b) → (status_shown e ≡ status_shown a) ⊎ (status_shown e ≡ status_shown b)
either e a b (inl x) = inl (ap status_shown x)
either e a b (inr y) = inr (ap status_shown y)

-- what is said of an end is said of its status, where the keeper tells what it holds
pub show-told : (hash : Hash) (e : ShowEnd) (kept : Option (List (List ℕ))) → IfSome kept (HasShowFate hash e) → IfSome kept (HasShow hash (status_shown e))
show-told hash e None f = tt
show-told hash e (Some lines) f = record {
  taken = λ verdicts t. either e end.Ok end.Memory (f.taken verdicts t);
  stops = λ n s. either e (end.Kept (n + 1)) end.Memory (f.stops n s);
}

-- What references put into a log, and where it ends behind them.
use Rattle.std.proofs.Common.{◌≡◌, ◌+◌, ℕ, List, [], ◌∷◌, ◌++◌, length, drop, min, refl, ◌∙◌, ap, arith, ⊎_elim}
use Rattle.std.proofs.lemmas.Bool.{cases_lt}
use Rattle.std.proofs.lemmas.List.{drop_all}
use Rattle.im_format.specs.Places.{values_in}
use Rattle.im_format.specs.declared.references.ValueRef.{ValueRef}
use Rattle.im_model.specs.declared.entries.Entry.{Entry}
use Rattle.im_vlog.specs.Sizes.{octets_in}

pub octets_in_both : (number : ℕ) (xs ys : List ValueRef) → octets_in number (xs ++ ys) ≡ octets_in number xs + octets_in number ys
octets_in_both number [] ys = omega arith
octets_in_both number (x ∷ xs) ys = omega (arith, octets_in_both number xs ys)

no_references : (number : ℕ) (es : List Entry) → values_in number es [] ≡ []
no_references number [] = refl
no_references number (e ∷ es) = refl

-- behind the last entry or the last reference there is no value
pub values_end : (number k : ℕ) (es : List Entry) (rs : List ValueRef) → k ≡ min (length es) (length rs)
    → values_in number (drop k es) (drop k rs) ≡ []
values_end number k es rs is =
    ⊎_elim
    (λ lt. ap (λ (l : List Entry). values_in number l (drop k rs)) (drop_all k es (omega (arith, lt, is))))
    (λ le. ap (λ (l : List ValueRef). values_in number (drop k es) l) (drop_all k rs (omega (arith, le, is))) ∙ no_references number (drop k es))
    (cases_lt (length es) (length rs))

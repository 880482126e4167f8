-- Behind a test of two numbers want of memory is the only error left.
use Rattle.std.proofs.Common.{◌≡◌, ◌⊎◌, inl, inr, ◌<◌, ◌≤◌, ℕ, Result, IfErr, refl, arith}
use Rattle.std.proofs.lemmas.Result.{IfErr-weaker}
use Rattle.im_model.specs.declared.headers.Header.{Header}
use Rattle.im_store.specs.Reading.{ExplainsHeader, ExplainsProve, IsBeyond}
use Rattle.im_store.specs.declared.errors.ProveError.{ProveError}
use Rattle.im_store.specs.declared.errors.ProveError.TheVariants as proves
use Rattle.im_table.specs.Known.{KnownPass}

-- of a number that is known to be durable no call finds that it is beyond what is durable
not_beyond : (old new : KnownPass) (s t durable : ℕ) → t ≤ old.view.least.durable → IsBeyond old new s t durable → ⊥
not_beyond old new s t durable known b = let least = b.saw.least in let beyond = b.beyond in omega (arith, least, beyond, known)

not_unordered : (s t : ℕ) → 1 ≤ s → s ≤ t → (s ≡ 0) ⊎ (t < s) → ⊥
not_unordered s t some order (inl none) = omega (arith, some, none)
not_unordered s t some order (inr apart) = omega (arith, order, apart)

pub header_short : (old new : KnownPass) (k : ℕ) (given : Result Header ProveError) → 1 ≤ k → k ≤ old.view.least.durable → IfErr given (λ e. ExplainsHeader old new k e) → IfErr given (λ e. e ≡ proves.Memory)
header_short old new k given some known = IfErr-weaker given _ _ short
  where
    short : (e : ProveError) → ExplainsHeader old new k e → e ≡ proves.Memory
    short (proves.Order s t) x = absurd (let none : k ≡ 0 = x.2 in let no : ⊥ = omega (arith, some, none) in no)
    short (proves.Beyond durable) x = absurd (not_beyond old new k k durable known x)
    short proves.Memory x = refl

pub prove_short : {T : Type 0} (old new : KnownPass) (s t : ℕ) (given : Result T ProveError) → 1 ≤ s → s ≤ t → t ≤ old.view.least.durable → IfErr given (λ e. ExplainsProve old new s t e) → IfErr given (λ e. e ≡ proves.Memory)
prove_short old new s t given some order known = IfErr-weaker given _ _ short
  where
    short : (e : ProveError) → ExplainsProve old new s t e → e ≡ proves.Memory
    short (proves.Order a b) x = absurd (not_unordered s t some order x.2)
    short (proves.Beyond durable) x = absurd (not_beyond old new s t durable known x)
    short proves.Memory x = refl

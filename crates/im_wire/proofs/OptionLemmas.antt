-- What a step that gave something says of the steps before it, and what it gives the steps behind it.
use Rattle.std.proofs.Common.{◌≡◌, Bool, true, false, if◌then◌else◌, Option, Some, None, option_map, option_and_then, Result, Ok, Err, refl, ap, ◌∙◌}
use Rattle.std.specs.Result.{result_ok}
use Rattle.im_octet.proofs.Common.{some-is}
use Rattle.im_wire.specs.declared.errors.WireError.{WireError}
use Rattle.im_wire.specs.declared.errors.WireError.TheVariants.{Memory, Syntax}
use Rattle.im_wire.specs.Gives.{◌>>=◌, Fails}

pub bind-some : {A B : Type 0} (o : Option A) (f : A → Option B) (y : B) → (o >>= f) ≡ Some y → (x : A) × (o ≡ Some x) × (f x ≡ Some y)
bind-some (Some x) f y e = (x, refl, e)
bind-some None f y e = cc e

pub then-some : {A B : Type 0} (o : Option A) (f : A → Option B) (y : B) → option_and_then f o ≡ Some y → (x : A) × (o ≡ Some x) × (f x ≡ Some y)
then-some (Some x) f y e = (x, refl, e)
then-some None f y e = cc e

pub map-some : {A B : Type 0} (o : Option A) (f : A → B) (y : B) → option_map f o ≡ Some y → (x : A) × (o ≡ Some x) × (f x ≡ y)
map-some (Some x) f y e = (x, refl, some-is (f x) y e)
map-some None f y e = cc e

pub if-some : {A : Type 0} (b : Bool) (x y : A) → (if b then Some x else None) ≡ Some y → (b ≡ true) × (x ≡ y)
if-some true x y e = (refl, some-is x y e)
if-some false x y e = cc e

pub ok-some : {A E : Type 0} (r : Result A E) (x : A) → result_ok r ≡ Some x → r ≡ Ok x
ok-some (Ok y) x e = ap Ok (some-is y x e)
ok-some (Err y) x e = cc e

-- behind a step that gave something
pub bind-of : {A B : Type 0} (o : Option A) (f : A → Option B) (x : A) → o ≡ Some x → (o >>= f) ≡ f x
bind-of o f x e = ap (λ (p : Option _). p >>= f) e

-- where a step gives nothing, all gives nothing
pub fails-behind : {A B : Type 0} (e : WireError) (o : Option A) (f : A → Option B) (whole : Option B) → whole ≡ (o >>= f) → Fails e o → Fails e whole
fails-behind Memory o f whole is none = tt
fails-behind Syntax o f whole is none = is ∙ ap (λ (p : Option _). p >>= f) none

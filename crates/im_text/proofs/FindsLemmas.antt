-- What the answer of a search says.
use Rattle.std.proofs.Common.{◌≡◌, Option, Some, None, refl, subst}
use Rattle.im_text.specs.Finds.{Finds}

-- where nothing was found, nothing has the property
pub Finds-none : {X : Type 0} (P : X → Type 0) (o : Option X) → ((x : X) → o ≡ Some x → ⊥) → Finds o P → (x : X) → P x → ⊥
Finds-none P None none h = h
Finds-none P (Some y) none h = absurd (none y refl)

-- what was found has the property
pub Finds-some : {X : Type 0} (P : X → Type 0) (o : Option X) (x : X) → o ≡ Some x → Finds o P → P x
Finds-some P o x e h = subst (λ (r : Option _). Finds r P) e h

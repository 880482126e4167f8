-- Maps from octet strings to numbers, by what they have for each.
use Rattle.std.specs.Map.{update}
use Rattle.std.specs.Str.{bytes_eq}
use Rattle.std.proofs.Common.{◌≡◌, ◌≢◌, ◌⊎◌, inl, inr, ℕ, List, refl, true, false, Bool, Option, Some, cond}
use Rattle.std.proofs.lemmas.Bool.{both_ways}
use Rattle.std.proofs.lemmas.Slice.Eq.{bytes_eq-Decides}

-- what a look-up gives for some octets after others were put at place n
pub put-cases : (find : List ℕ → Option ℕ) (put octets : List ℕ) (n : ℕ)
    → ((put ≡ octets) × (update bytes_eq find put (Some n) octets ≡ Some n)) ⊎ ((put ≢ octets) × (update bytes_eq find put (Some n) octets ≡ find octets))
put-cases find put octets n =
    let decided = bytes_eq-Decides put octets in
    elim (bytes_eq put octets) as (λ (b : Bool). bytes_eq put octets ≡ b
    → ((put ≡ octets) × (cond b (Some n) (find octets) ≡ Some n)) ⊎ ((put ≢ octets) × (cond b (Some n) (find octets) ≡ find octets))) [
      | true ↦ λ t. inl (decided.0 t, refl)
      | false ↦ λ f. inr (λ same. both_ways (bytes_eq put octets) f (decided.1 same), refl)
    ] refl

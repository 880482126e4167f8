-- Which preconditions hold after some transactions, and the first that doesn't.
use Rattle.std.specs.Prelude.{List, [], ◌∷◌, not, nat_le, length, Bool, All, IsTrue, Option, Some, None, if◌then◌else◌}
use Rattle.im_model.specs.declared.transactions.Transaction.{Transaction}
use Rattle.im_draft.specs.declared.preconditions.Pre.{Pre}
use Rattle.im_draft.specs.declared.preconditions.Pre.TheVariants as asks
use Rattle.im_versions.specs.Versions.{is_live, last_number}
use Rattle.im_versions.specs.declared.refusals.PlaceError.{PlaceError}
use Rattle.im_versions.specs.declared.refusals.PlaceError.TheVariants.{Full, Missing, Exists, Modified}

-- a precondition holds: its key is live; its key isn't; its key's last version isn't after transaction n
abbrev pub holds : List Transaction → Pre → Bool
holds history (asks.Exists key) = is_live history key
holds history (asks.Missing key) = not (is_live history key)
holds history (asks.Since key n) = nat_le (last_number history key) n

-- each of them holds
abbrev pub Admits : List Transaction → List Pre → Type 0
Admits history pres = All (λ pre. IsTrue (holds history pre)) pres

-- what is answered where it doesn't hold
abbrev pub refusal_of : List Transaction → Pre → PlaceError
refusal_of history (asks.Exists key) = Missing key
refusal_of history (asks.Missing key) = Exists key (last_number history key)
refusal_of history (asks.Since key n) = Modified key (last_number history key)

-- the refusal of the first that doesn't hold, in the order given, or none where each holds
abbrev pub first_refusal : List Transaction → List Pre → Option PlaceError
first_refusal history [] = None
first_refusal history (pre ∷ pres) =
    if holds history pre then first_refusal history pres else Some (refusal_of history pre)

-- why no transaction is placed behind these under these preconditions, or none where it is: that these are as many
-- as there may be, and else the first precondition that doesn't hold
abbrev pub place_refusal : List Transaction → List Pre → Option PlaceError
place_refusal history pres =
    if nat_le 1048576 (length history) then Some Full else first_refusal history pres

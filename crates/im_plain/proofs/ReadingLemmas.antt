-- What a loop over entries or transactions has read so far, and the last of a list.
use Rattle.std.proofs.Common.{◌≡◌, ◌<◌, ℕ, ◌+◌, List, [], ◌∷◌, ◌++◌, length, take, get_or, refl, arith, ap, ◌∙◌, Some, None, Option}
use Rattle.std.specs.List.{last_or}
use Rattle.std.specs.Option.{option_to_list, IsSome}
use Rattle.std.proofs.lemmas.List.{take_more, length-take-le}
use Rattle.im_model.specs.declared.transactions.Transaction.{Transaction}
use Rattle.im_versions.specs.Versions.{versions_in, all_versions}
use Rattle.im_versions.proofs.VersionLemmas.{versions-push}
use Rattle.im_octet.proofs.Common.{last-push}

-- one more transaction adds the versions that its entries are
pub all_versions_more : (history : List Transaction) (i : ℕ) (d : Transaction) → i < length history → all_versions (take (i + 1) history) ≡ all_versions (take i history) ++ versions_in (i + 1) (get_or history i d).entries
all_versions_more history i d h =
    let long : length (take i history) ≡ i = length-take-le i history (omega arith) in
    ap all_versions (take_more history i d h)
    ∙ versions-push (take i history) (get_or history i d)
    ∙ ap (λ n. all_versions (take i history) ++ versions_in (n + 1) (get_or history i d).entries) long

-- what leaves a list at its end is its last
pub last_popped : {X : Type 0} (xs ys : List X) (r : Option X) → xs ≡ ys ++ option_to_list r → (0 < length xs → IsSome r) → last_or None xs ≡ r
last_popped [] ys None e some = refl
last_popped {X} (x ∷ xs) ys None e some = let held : IsSome {T = X} None = some (omega arith) in cc
last_popped xs ys (Some x) e some = ap (last_or None) e ∙ last-push None ys x

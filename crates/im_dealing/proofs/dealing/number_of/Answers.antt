use Rattle.std.proofs.Common.{◌≡◌, ◌∙◌, List, ℕ, true, bytes_eq, sym}
use Rattle.std.proofs.lemmas.Slice.Eq.{bytes_eq-Decides}
use Rattle.im_dealing.proofs.DealLemmas.{at_name}
use Rattle.im_dealing.proofs.dealing.number_of.Goals as goal

-- the name in the place is the one that was looked for
pub returns-then-eq : goal.returns-then-eq
returns-then-eq c =
    let name : List ℕ = c.args.name.now in
    let first : List ℕ = c.index-names-number.result in
    let same : bytes_eq c.as_slice.result.now name ≡ true = cc in
    let equal : first ≡ name = sym c.as_slice.ensures ∙ (bytes_eq-Decides c.as_slice.result.now name).0 same in
    record { is = at_name c.args.names.now c.loop-number.number first name c.loop-number-test.true c.index-names-number.is equal }

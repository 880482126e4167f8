-- What is added to a list of strings, and when the lists of a dual proof are as long as its checks ask for.
use Rattle.std.specs.Prelude.{◌≡◌, ◌<◌, ◌≤◌, ◌+◌, ◌-◌, ◌^◌, ◌++◌, ℕ, List, length, nat_lt, if◌then◌else◌}
use Rattle.im_proof.specs.declared.proofs.DualProof.{DualProof}
use Rattle.im_hashed.specs.Messages.{HoldSame}

-- the new list holds just the strings of the old one and these
abbrev pub AddsStrings : List (List ℕ) → List (List ℕ) → List (List ℕ) → Type 0
AddsStrings old new strings = HoldSame new (old ++ strings)

-- the number that the linear terms of a dual proof begin with: where its source is below the end of the target's tree,
-- that end, and else the source
abbrev pub terms_start : ℕ → ℕ → ℕ
terms_start s size = if nat_lt s size then size else s

-- the numbers of a dual proof's chain and of its advance fit their fields, and the advance has a path for each term but
-- the last
pub record HasCountedLists (p : DualProof) : Type 0 where
  pub linear : terms_start p.source.id p.target.bl_tx_id + length p.linear ≤ 2 ^ 64
  pub terms : p.source.bl_tx_id + length p.linear_advance.terms < 2 ^ 64
  pub paths : length p.linear_advance.inclusions ≡ length p.linear_advance.terms - 1

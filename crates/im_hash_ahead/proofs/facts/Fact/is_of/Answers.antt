use Rattle.std.proofs.Common.{◌≡◌, rules}
use Rattle.std.proofs.lemmas.Bool.Decides.{Decides-eqb}
use Rattle.std.proofs.lemmas.Slice.Eq.{slice_eq-Decides}
use Rattle.im_hash_ahead.proofs.FactLemmas.{same-parts, three-parts}
use Rattle.im_hash_ahead.proofs.facts.Fact.is_of.Goals as goal

pub returns : goal.returns
returns c is =
    let same : c.as_slice-octets.result.now ≡ c.args.self.now.octets.items = search rules in
    let third = same-parts _ _ c.ne.result c.ne.ensures c.if-ne.false in
    let second = same-parts _ _ c.ne-2.result c.ne-2.ensures c.if-ne-2.false in
    let first = (slice_eq-Decides Decides-eqb _ _ _ c.eq.ensures).0 is in
    three-parts _ _ _ _ _ _ _ _ _ same c.split_at.ensures.by_index.0 c.split_at-2.ensures.by_index.0 first second third

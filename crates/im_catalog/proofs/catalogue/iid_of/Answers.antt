use Rattle.std.proofs.Common.{◌<◌, ◌^◌, length, refl, sym, subst, ◌∙◌, arith}
use Rattle.im_catalog.proofs.FoundLemmas.{key-long, iid-read, iid-there}
use Rattle.im_catalog.proofs.catalogue.iid_of.Goals as goal

pub split_at-requires : goal.split_at-requires
split_at-requires c = key-long c.args.key.now c.requires.0 c.requires.1 c.requires.3

pub returns : goal.returns
returns c = λ tid iid fits key.
    let small : c.in-Ok.iid < 2 ^ 32 = omega arith in
    iid-read c.args.key.now tid iid c.in-Ok.iid c.u32.new.self.left fits small key (sym c.split_at.ensures.back ∙ sym c.new-reader.ensures.left ∙ c.in-Ok.ensures.left)

pub unreachable-requires : goal.unreachable-requires
unreachable-requires c =
    iid-there c.args.key.now c.requires.0 c.requires.1 c.requires.3
    (subst (λ s. length s < 4) (c.new-reader.ensures.left ∙ c.split_at.ensures.back) (c.in-Err.ensures.short.0 refl))

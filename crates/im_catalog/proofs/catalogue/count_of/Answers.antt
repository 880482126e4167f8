use Rattle.std.proofs.Common.{◌<◌, ◌^◌, inl, inr, length, refl, sym, subst, ◌∙◌, arith}
use Rattle.im_catalog.proofs.FoundLemmas.{count-long, count-read}
use Rattle.im_catalog.proofs.catalogue.count_of.Goals as goal

pub returns-then-version : goal.returns-then-version
returns-then-version c = inl (c.if-version.true, refl)

pub returns : goal.returns
returns c =
    let fits : c.in-Ok.count < 2 ^ 32 = omega arith in
    inr (
      c.if-version.false,
      fits,
      count-read c.args.version.now.value c.u32.new.self.left c.in-Ok.count (c.requires c.if-version.false)
          (sym c.as_slice.ensures ∙ sym c.new-reader.ensures.left ∙ c.in-Ok.ensures.left),
    )

pub unreachable-requires : goal.unreachable-requires
unreachable-requires c =
    count-long c.args.version.now.value (c.requires c.if-version.false)
    (subst (λ s. length s < 4) (c.new-reader.ensures.left ∙ c.as_slice.ensures) (c.in-Err.ensures.short.0 refl))

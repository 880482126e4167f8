use Rattle.std.proofs.Common.{◌≡◌, ℕ, false, length, ap, sym, subst, refl, ◌∙◌, arith}
use Rattle.std.specs.List.{AllWithin}
use Rattle.im_versions.specs.declared.versions.Version.{Version}
use Rattle.im_index.specs.Marks.{is_upto}
use Rattle.im_index.proofs.PlaceLemmas.{search-down, search-first, search-same, search-up}
use Rattle.im_index.proofs.search.place.Goals as goal

pub halving-init : goal.halving-init
halving-init g c = search-first c.args.run.now c.args.key.now c.args.n _ _ refl

pub halving-preserved-then-is_upto : goal.halving-preserved-then-is_upto
halving-preserved-then-is_upto g c =
    let run = c.args.run.now in
    let key = c.args.key.now in
    let n = c.args.n in
    let v = c.index-run-middle.result in
    let told = ap (is_upto key n) (sym c.version.ensures) ∙ sym c.is_upto.ensures.value in
    search-same run key n _ _ _ _ _ _ _
    (search-up run key n c.halving.low c.halving.high _ _ c.halving.steps v c.halving.invariant c.requires c.halving-test.true refl c.index-run-middle.is (told ∙ c.if-is_upto.true))
    refl refl c.is_upto.ensures.cost

pub halving-preserved : goal.halving-preserved
halving-preserved g c =
    let run = c.args.run.now in
    let key = c.args.key.now in
    let n = c.args.n in
    let v = c.index-run-middle.result in
    let told = ap (is_upto key n) (sym c.version.ensures) ∙ sym c.is_upto.ensures.value in
    search-same run key n _ _ _ _ _ _ _
    (search-down run key n c.halving.low c.halving.high _ _ c.halving.steps v c.halving.invariant c.requires c.halving-test.true refl c.index-run-middle.is (told ∙ c.if-is_upto.false))
    refl refl c.is_upto.ensures.cost

pub returns-clause-parted : goal.returns-clause-parted
returns-clause-parted g c =
    let same : c.halving.high ≡ c.halving.low = omega arith in (
      c.halving.invariant.front,
      subst (λ (i : ℕ). AllWithin (λ (v : Version). is_upto c.args.key.now c.args.n v ≡ false) c.args.run.now i (length c.args.run.now)) same c.halving.invariant.behind,
    )

pub returns-clause-counted : goal.returns-clause-counted
returns-clause-counted g c = c.halving.invariant.counted

pub returns-clause-cost : goal.returns-clause-cost
returns-clause-cost g c = λ b fits. (c.halving.invariant.cost b fits).0

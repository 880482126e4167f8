use Rattle.std.proofs.Common.{◌≡◌, ◌-◌, ℕ, List, true, false, arith, ap, length, sym, subst, ◌∙◌}
use Rattle.std.proofs.lemmas.List.{get_or_read}
use Rattle.im_versions.specs.Versions.{begins_with}
use Rattle.im_versions.specs.declared.versions.Version.{Version}
use Rattle.im_index.proofs.BlockLemmas.{begun-up, part-first, part-length, part-sorted}
use Rattle.im_index.proofs.search.count_begun.Goals as goal

pub passing-init : goal.passing-init
passing-init g c = record {
  within = omega arith;
  front = λ k d low less. absurd (omega arith);
  cost = omega arith;
}

pub block_len-at-requires-clause-sorted : goal.block_len-at-requires-clause-sorted
block_len-at-requires-clause-sorted g c =
    part-sorted c.args.versions.now c.passing.at (length c.args.versions.now - c.passing.at) (omega arith) c.requires

pub block_len-at-requires-clause-some : goal.block_len-at-requires-clause-some
block_len-at-requires-clause-some g c =
    omega (arith, part-length c.args.versions.now c.passing.at (length c.args.versions.now - c.passing.at) (omega arith))

pub block_len-at-requires-clause-first : goal.block_len-at-requires-clause-first
block_len-at-requires-clause-first g c =
    part-first c.args.versions.now c.passing.at (length c.args.versions.now - c.passing.at) c.index-versions-at.result _ (omega arith) (omega arith)
    c.index-versions-at.is (c.as_slice.ensures ∙ ap (λ (w : Version). w.key) c.version-first.ensures)

pub passing-preserved : goal.passing-preserved
passing-preserved g c =
    let prefix : List ℕ = c.args.prefix.now in
    let versions : List Version = c.args.versions.now in
    let at : ℕ = c.passing.at in
    let long : ℕ = length versions - at in
    let v : Version = c.index-versions-at.result in
    let here : begins_with prefix v.key ≡ true =
    ap (λ (x : Version). begins_with prefix x.key) (sym c.version-first.ensures) ∙ sym c.begins.ensures.value ∙ c.if-not-begins.false in
    let size = part-length versions at long (omega arith) in
    record {
      within = omega (arith, size, c.block_len-at.ensures.within);
      front = begun-up prefix c.as_slice.result.now versions at long c.block_len-at.result v (omega arith) (omega (arith, size, c.block_len-at.ensures.within))
          (c.as_slice.ensures ∙ ap (λ (w : Version). w.key) c.version-first.ensures) here c.passing.invariant.front c.block_len-at.ensures.own;
      cost = omega (arith, c.begins.ensures.cost, c.passing.invariant.cost, c.block_len-at.ensures.some);
    }

pub returns-then-not-begins-clause-front : goal.returns-then-not-begins-clause-front
returns-then-not-begins-clause-front g c = c.passing.invariant.front

pub returns-then-not-begins-clause-next : goal.returns-then-not-begins-clause-next
returns-then-not-begins-clause-next g c = λ d within.
    let v : Version = c.index-versions-at.result in
    subst (λ (w : Version). begins_with c.args.prefix.now w.key ≡ false) (get_or_read c.args.versions.now c.passing.at v within c.index-versions-at.is d)
    (ap (λ (x : Version). begins_with c.args.prefix.now x.key) (sym c.version-first.ensures) ∙ sym c.begins.ensures.value ∙ c.if-not-begins.true)

pub returns-clause-front : goal.returns-clause-front
returns-clause-front g c = c.passing.invariant.front

pub returns-clause-next : goal.returns-clause-next
returns-clause-next g c = λ d within. absurd (omega arith)

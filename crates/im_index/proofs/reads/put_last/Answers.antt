use Rattle.std.proofs.Common.{◌≡◌, ◌-◌, ◌+◌, ◌++◌, ℕ, List, ap, arith, drop, length, sym, subst, take, ◌∙◌}
use Rattle.std.proofs.lemmas.List.{append-nil, take_all}
use Rattle.std.proofs.lemmas.List.Elements.{All-drop, All-take}
use Rattle.std.specs.List.{All, filter}
use Rattle.std.specs.Prelude.{IsTrue}
use Rattle.im_versions.specs.Versions.{begins_with}
use Rattle.im_versions.specs.declared.versions.Version.{Version}
use Rattle.im_index.specs.Newest.{HasNewest}
use Rattle.im_index.proofs.BlockLemmas.{part-first, part-length, part-own, part-sorted}
use Rattle.im_index.proofs.NewestLemmas.{block-next, is_within}
use Rattle.im_index.proofs.reads.put_last.Goals as goal

pub passing-init : goal.passing-init
passing-init c = record {
  within = omega arith;
  newest = λ before prefix has begins. subst (λ (vs : List Version). HasNewest vs prefix c.args.newest.now) (sym (append-nil before)) has;
}

pub block_len-count-requires-clause-sorted : goal.block_len-count-requires-clause-sorted
block_len-count-requires-clause-sorted c =
    part-sorted c.args.versions.now c.passing.at (length c.args.versions.now - c.passing.at) (omega arith) c.requires

pub block_len-count-requires-clause-some : goal.block_len-count-requires-clause-some
block_len-count-requires-clause-some c =
    omega (arith, part-length c.args.versions.now c.passing.at (length c.args.versions.now - c.passing.at) (omega arith))

pub block_len-count-requires-clause-first : goal.block_len-count-requires-clause-first
block_len-count-requires-clause-first c =
    part-first c.args.versions.now c.passing.at (length c.args.versions.now - c.passing.at) c.index-versions-at.result _ (omega arith) (omega arith)
    c.index-versions-at.is (c.as_slice.ensures ∙ ap (λ (w : Version). w.key) c.version-first.ensures)

pub put_block-requires-clause-sorted : goal.put_block-requires-clause-sorted
put_block-requires-clause-sorted c = part-sorted c.args.versions.now c.passing.at _ (omega arith) c.requires

pub put_block-requires-clause-some : goal.put_block-requires-clause-some
put_block-requires-clause-some c = omega arith

pub put_block-requires-clause-own : goal.put_block-requires-clause-own
put_block-requires-clause-own c = (
  c.as_slice.result.now,
  part-own c.as_slice.result.now c.args.versions.now c.passing.at (length c.args.versions.now - c.passing.at) c.block_len-count.result _ (omega arith)
      (omega arith) (omega arith) c.block_len-count.ensures.own,
)

pub passing-preserved : goal.passing-preserved
passing-preserved c =
    let versions : List Version = c.args.versions.now in
    let n : ℕ = c.args.n in
    let at : ℕ = c.passing.at in
    let count : ℕ = c.block_len-count.result in
    let size : at + count - at ≡ count = omega arith in
    record {
      within = omega arith;
      newest = λ before prefix has begins.
          (let Begun : Version → Type 0 = λ v. IsTrue (begins_with prefix v.key) in
          let front : List Version = before ++ filter (is_within n) (take at versions) in
          let mine : All Begun (take (at + count - at) (drop at versions)) =
          All-take Begun (at + count - at) (drop at versions) (All-drop Begun at versions begins) in
          block-next before versions prefix n at count c.put_block.new.newest
          (subst (λ (m : ℕ). HasNewest (front ++ filter (is_within n) (take m (drop at versions))) prefix c.put_block.new.newest) size
          (c.in_ok-put_block.ensures front prefix (c.passing.invariant.newest before prefix has begins) mine)));
    }

pub returns : goal.returns
returns c = λ before prefix has begins.
    subst (λ (vs : List Version). HasNewest (before ++ filter (is_within c.args.n) vs) prefix c.passing.newest)
    (take_all c.passing.at c.args.versions.now (omega arith)) (c.passing.invariant.newest before prefix has begins)

use Rattle.std.proofs.Common.{◌≡◌, ℕ, List, true, false, sym, subst, ◌∙◌, rules, arith}
use Rattle.std.proofs.lemmas.List.Sorted.{IsPartitionPoint-from_clause}
use Rattle.std.specs.List.Sorted.{IsPartitionPoint}
use Rattle.im_versions.specs.declared.versions.Version.{Version}
use Rattle.im_plan.proofs.BestLemmas.{at-any}
use Rattle.im_sqlsound.proofs.HangLemmas.{among-at}
use Rattle.im_sqlsound.proofs.TestLemmas.{test-fails}
use Rattle.im_sqlsound.proofs.UnderLemmas.{is_before, parted-before}
use Rattle.im_sqlsound.proofs.settled.is_among.Goals as goal

pub returns-then-at-shown : goal.returns-then-at-shown
returns-then-at-shown c =
    let shown = c.args.shown.now in
    let v = c.args.version.now in
    let at = c.partition_point-at.result in
    let rising = c.requires.2.rising in
    let lent = c.as_slice-key.result.now in
    let near = IsPartitionPoint-from_clause (is_before lent) shown at c.partition_point-at.ensures.partitioned (parted-before lent shown rising) (λ a r q k. search rules) in
    let point = subst (λ (key : List ℕ). IsPartitionPoint (λ (w : Version). is_before key w ≡ true) (λ (w : Version). is_before key w ≡ false) shown at) c.as_slice-key.ensures near in (
      λ e. (at, (c.if-at-shown.true, sym (c.is_same.ensures.0 e) ∙ c.index-shown-at.is ∙ at-any shown at c.index-shown-at.result v c.if-at-shown.true)),
      λ m. (let is = among-at shown rising v at point m in c.is_same.ensures.1 (c.index-shown-at.is ∙ at-any shown at c.index-shown-at.result v c.if-at-shown.true ∙ is.1)),
    )

pub returns : goal.returns
returns c =
    let shown = c.args.shown.now in
    let at = c.partition_point-at.result in
    let rising = c.requires.2.rising in
    let lent = c.as_slice-key.result.now in
    let near = IsPartitionPoint-from_clause (is_before lent) shown at c.partition_point-at.ensures.partitioned (parted-before lent shown rising) (λ a r q k. search rules) in
    let point = subst (λ (key : List ℕ). IsPartitionPoint (λ (w : Version). is_before key w ≡ true) (λ (w : Version). is_before key w ≡ false) shown at) c.as_slice-key.ensures near in
    test-fails (λ m. (let is = among-at shown rising c.args.version.now at point m in let no : ⊥ = omega (arith, is.0, c.if-at-shown.false) in no))

use Rattle.std.proofs.Common.{◌≡◌, ℕ, true, false, get_or, arith, subst, sym, ◌∙◌}
use Rattle.std.proofs.lemmas.List.{get_or_read}
use Rattle.im_versions.specs.Versions.{is_of}
use Rattle.im_versions.specs.declared.versions.Version.{Version}
use Rattle.im_index.proofs.BlockLemmas.{own-up}
use Rattle.im_index.proofs.blocks.doubled.Goals as goal

pub doubling-init : goal.doubling-init
doubling-init c = record {
  some = omega arith;
  within = omega arith;
  own = λ k d low less.
      (let same : 0 ≡ k = omega arith in
      subst (λ (m : ℕ). is_of c.args.key.now (get_or c.args.versions.now m d) ≡ true) same (c.requires.first d));
}

pub doubling-preserved : goal.doubling-preserved
doubling-preserved c =
    let v : Version = c.index-versions-last.result in
    let own : is_of c.args.key.now v ≡ true = sym c.has_key.ensures ∙ c.if-not-has_key.false in
    record {
      some = omega arith;
      within = omega arith;
      own = own-up c.args.key.now c.args.versions.now _ _ v c.requires.sorted c.requires.first (omega arith) c.index-versions-last.is own (omega arith);
    }

pub returns-then-not-has_key-clause-own : goal.returns-then-not-has_key-clause-own
returns-then-not-has_key-clause-own c = c.doubling.invariant.own

pub returns-then-not-has_key-clause-other : goal.returns-then-not-has_key-clause-other
returns-then-not-has_key-clause-other c = λ d inside.
    let v : Version = c.index-versions-last.result in
    subst (λ (w : Version). is_of c.args.key.now w ≡ false) (get_or_read c.args.versions.now _ v (omega arith) c.index-versions-last.is d)
    (sym c.has_key.ensures ∙ c.if-not-has_key.true)

pub returns-clause-own : goal.returns-clause-own
returns-clause-own c = c.doubling.invariant.own

pub returns-clause-other : goal.returns-clause-other
returns-clause-other c = λ d inside. absurd (omega arith)

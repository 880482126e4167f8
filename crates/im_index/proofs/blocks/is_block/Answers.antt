use Rattle.std.proofs.Common.{◌≡◌, true, false, arith, subst, sym, ◌∙◌}
use Rattle.std.proofs.lemmas.Bool.{not-true}
use Rattle.std.proofs.lemmas.List.{get_or_read}
use Rattle.im_versions.specs.Versions.{is_of}
use Rattle.im_versions.specs.declared.versions.Version.{Version}
use Rattle.im_index.proofs.BlockLemmas.{own-up}
use Rattle.im_index.proofs.blocks.is_block.Goals as goal

pub returns-then-count-versions-2-clause-own : goal.returns-then-count-versions-2-clause-own
returns-then-count-versions-2-clause-own c = λ whole.
    let v : Version = c.index-versions-last.result in
    let own : is_of c.args.key.now v ≡ true = sym c.has_key.ensures ∙ c.if-not-has_key.false in
    own-up c.args.key.now c.args.versions.now _ _ v c.requires.sorted c.requires.first (omega arith) c.index-versions-last.is own (omega arith)

pub returns-then-count-versions-2-clause-other : goal.returns-then-count-versions-2-clause-other
returns-then-count-versions-2-clause-other c = λ whole d inside. absurd (omega arith)

pub returns-clause-own : goal.returns-clause-own
returns-clause-own c = λ whole.
    let v : Version = c.index-versions-last.result in
    let own : is_of c.args.key.now v ≡ true = sym c.has_key.ensures ∙ c.if-not-has_key.false in
    own-up c.args.key.now c.args.versions.now _ _ v c.requires.sorted c.requires.first (omega arith) c.index-versions-last.is own (omega arith)

pub returns-clause-other : goal.returns-clause-other
returns-clause-other c = λ whole d inside.
    let w : Version = c.index-versions-count.result in
    subst (λ (x : Version). is_of c.args.key.now x ≡ false) (get_or_read c.args.versions.now _ w inside c.index-versions-count.is d)
    (sym c.has_key-2.ensures ∙ not-true _ whole)

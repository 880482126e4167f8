use Rattle.std.proofs.Common.{◌≡◌, ◌-◌, ◌∙◌, ap, sym, reverse}
use Rattle.im_model.specs.Trees.{node}
use Rattle.im_model.specs.Paths.{up}
use Rattle.im_model.proofs.Reversed.{up-nothing, up-last-left, up-last-right}
use Rattle.im_model.proofs.paths.+root_by_path.Goals as goal

pub returns-in-None : goal.returns-in-None
returns-in-None g t c =
    c.leaf_digest.ensures
    ∙ sym (up-nothing (g.H.Hash32.digest c.args.hash.now) c.args.width c.args.index c.args.digest.now c.args.path.now c.in-None.ensures.cases)

pub returns-then-index-k : goal.returns-then-index-k
returns-then-index-k g t c =
    c.node_digest.ensures ∙ ap (λ q. node (g.H.Hash32.digest c.args.hash.now) q c.in-Some.term.now) c.root_by_path.ensures
    ∙ sym (up-last-left (g.H.Hash32.digest c.args.hash.now) c.args.width c.args.index c.args.digest.now c.args.path.now c.in-Some.front.now c.in-Some.term.now
    c.split-k.result c.in-Some.ensures.cases.0 c.split-k.ensures.value c.if-index-k.true)

pub returns-else-index-k : goal.returns-else-index-k
returns-else-index-k g t c =
    let below : node (g.H.Hash32.digest c.args.hash.now) c.in-Some.term.now c.root_by_path-else-index-k.result
    ≡ node (g.H.Hash32.digest c.args.hash.now) c.in-Some.term.now (up (g.H.Hash32.digest c.args.hash.now) (c.args.width - c.split-k.result) (c.args.index - c.split-k.result) c.args.digest.now (reverse c.in-Some.front.now)) =
    ap (λ q. node (g.H.Hash32.digest c.args.hash.now) c.in-Some.term.now q) c.root_by_path-else-index-k.ensures
    ∙ ap (λ j. node (g.H.Hash32.digest c.args.hash.now) c.in-Some.term.now (up (g.H.Hash32.digest c.args.hash.now) j (c.args.index - c.split-k.result) c.args.digest.now (reverse c.in-Some.front.now))) c.saturating_sub-rest.ensures in
    c.node_digest-else-index-k.ensures ∙ below
    ∙ sym (up-last-right (g.H.Hash32.digest c.args.hash.now) c.args.width c.args.index c.args.digest.now c.args.path.now c.in-Some.front.now c.in-Some.term.now
    c.split-k.result c.in-Some.ensures.cases.0 c.split-k.ensures.value c.if-index-k.false)

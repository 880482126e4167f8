use Rattle.std.proofs.Common.{◌≡◌, ◌-◌, ◌∙◌, ap, sym, reverse}
use Rattle.im_model.specs.Trees.{node}
use Rattle.im_model.specs.Growth.{older}
use Rattle.im_model.proofs.Reversed.{older-nothing, older-last-left, older-last-right}
use Rattle.im_model.proofs.growth.+older_by.Goals as goal

pub returns-in-None : goal.returns-in-None
returns-in-None g t c = sym (older-nothing (g.H.Hash32.digest c.args.hash.now) c.args.m c.args.n c.args.first.now c.args.others.now c.in-None.ensures.cases)

pub returns-then-m-k : goal.returns-then-m-k
returns-then-m-k g t c =
    c.older_by.ensures
    ∙ sym (older-last-left (g.H.Hash32.digest c.args.hash.now) c.args.m c.args.n c.args.first.now c.args.others.now c.in-Some.front.now c.in-Some.term.now
    c.split-k.result c.in-Some.ensures.cases.0 c.split-k.ensures.value c.if-m-k.true)

pub returns-else-m-k : goal.returns-else-m-k
returns-else-m-k g t c =
    let below : node (g.H.Hash32.digest c.args.hash.now) c.in-Some.term.now c.older_by-else-m-k.result
    ≡ node (g.H.Hash32.digest c.args.hash.now) c.in-Some.term.now (older (g.H.Hash32.digest c.args.hash.now) (c.args.m - c.split-k.result) (c.args.n - c.split-k.result) c.args.first.now (reverse c.in-Some.front.now)) =
    ap (λ q. node (g.H.Hash32.digest c.args.hash.now) c.in-Some.term.now q) c.older_by-else-m-k.ensures
    ∙ ap (λ j. node (g.H.Hash32.digest c.args.hash.now) c.in-Some.term.now (older (g.H.Hash32.digest c.args.hash.now) (c.args.m - c.split-k.result) j c.args.first.now (reverse c.in-Some.front.now))) c.saturating_sub-rest.ensures in
    c.node_digest.ensures ∙ below
    ∙ sym (older-last-right (g.H.Hash32.digest c.args.hash.now) c.args.m c.args.n c.args.first.now c.args.others.now c.in-Some.front.now c.in-Some.term.now
    c.split-k.result c.in-Some.ensures.cases.0 c.split-k.ensures.value c.if-m-k.false)

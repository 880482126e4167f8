use Rattle.std.proofs.Common.{◌-◌, ◌∙◌, ap, sym, reverse}
use Rattle.im_model.specs.Trees.{node}
use Rattle.im_model.specs.Growth.{older, newer}
use Rattle.im_model.proofs.Reversed.{older-nothing, newer-nothing, older-last-left, older-last-right, newer-last-left, newer-last-right}
use Rattle.im_pathmove.proofs.roots.+roots_of.Goals as goal

pub returns-in-None-clause-older : goal.returns-in-None-clause-older
returns-in-None-clause-older g t c = sym (older-nothing (g.H.Hash32.digest c.args.hash.now) c.args.m c.args.n c.args.first.now c.args.terms.now c.in-None.ensures.cases)

pub returns-in-None-clause-newer : goal.returns-in-None-clause-newer
returns-in-None-clause-newer g t c = sym (newer-nothing (g.H.Hash32.digest c.args.hash.now) c.args.m c.args.n c.args.first.now c.args.terms.now c.in-None.ensures.cases)

pub returns-then-m-k-clause-older : goal.returns-then-m-k-clause-older
returns-then-m-k-clause-older g t c =
    c.roots_of-roots.ensures.older
    ∙ sym (older-last-left (g.H.Hash32.digest c.args.hash.now) c.args.m c.args.n c.args.first.now c.args.terms.now c.in-Some.front.now c.in-Some.term.now
    c.split-k.result c.in-Some.ensures.cases.0 c.split-k.ensures.value c.if-m-k.true)

pub returns-then-m-k-clause-newer : goal.returns-then-m-k-clause-newer
returns-then-m-k-clause-newer g t c =
    c.node_digest.ensures ∙ ap (λ q. node (g.H.Hash32.digest c.args.hash.now) q c.in-Some.term.now) c.roots_of-roots.ensures.newer
    ∙ sym (newer-last-left (g.H.Hash32.digest c.args.hash.now) c.args.m c.args.n c.args.first.now c.args.terms.now c.in-Some.front.now c.in-Some.term.now
    c.split-k.result c.in-Some.ensures.cases.0 c.split-k.ensures.value c.if-m-k.true)

pub returns-else-m-k-clause-older : goal.returns-else-m-k-clause-older
returns-else-m-k-clause-older g t c =
    c.node_digest-else-m-k.ensures
    ∙ ap (λ q. node (g.H.Hash32.digest c.args.hash.now) c.in-Some.term.now q) c.roots_of-roots-else-m-k.ensures.older
    ∙ ap (λ j. node (g.H.Hash32.digest c.args.hash.now) c.in-Some.term.now (older (g.H.Hash32.digest c.args.hash.now) (c.args.m - c.split-k.result) j c.args.first.now (reverse c.in-Some.front.now))) c.saturating_sub-rest.ensures
    ∙ sym (older-last-right (g.H.Hash32.digest c.args.hash.now) c.args.m c.args.n c.args.first.now c.args.terms.now c.in-Some.front.now c.in-Some.term.now
    c.split-k.result c.in-Some.ensures.cases.0 c.split-k.ensures.value c.if-m-k.false)

pub returns-else-m-k-clause-newer : goal.returns-else-m-k-clause-newer
returns-else-m-k-clause-newer g t c =
    c.node_digest-else-m-k-2.ensures
    ∙ ap (λ q. node (g.H.Hash32.digest c.args.hash.now) c.in-Some.term.now q) c.roots_of-roots-else-m-k.ensures.newer
    ∙ ap (λ j. node (g.H.Hash32.digest c.args.hash.now) c.in-Some.term.now (newer (g.H.Hash32.digest c.args.hash.now) (c.args.m - c.split-k.result) j c.args.first.now (reverse c.in-Some.front.now))) c.saturating_sub-rest.ensures
    ∙ sym (newer-last-right (g.H.Hash32.digest c.args.hash.now) c.args.m c.args.n c.args.first.now c.args.terms.now c.in-Some.front.now c.in-Some.term.now
    c.split-k.result c.in-Some.ensures.cases.0 c.split-k.ensures.value c.if-m-k.false)

use Rattle.std.proofs.Common.{◌≡◌, ◌-◌, ◌∙◌, ap, sym, reverse, subst}
use Rattle.std.proofs.lemmas.Result.{IfOk-weaker}
use Rattle.im_model.specs.Trees.{node}
use Rattle.im_model.specs.Paths.{up, up_strings}
use Rattle.im_model.proofs.Reversed.{up-nothing, up-last-left, up-last-right}
use Rattle.im_hashed.specs.Added.{AddsStrings}
use Rattle.im_hashed.proofs.PathLemmas.{path-none, path-left, path-right}
use Rattle.im_hashed.proofs.parts.+add_path.Goals as goal

pub returns-in-None-clause-root : goal.returns-in-None-clause-root
returns-in-None-clause-root g t c =
    IfOk-weaker c.add_leaf.result _ _ (λ r e. e ∙ sym (up-nothing (g.H.Hash32.digest c.args.hash.now) c.args.n c.args.i c.args.digest.now c.args.path.now c.in-None.ensures.cases)) c.add_leaf.ensures.digest

pub returns-in-None-clause-strings : goal.returns-in-None-clause-strings
returns-in-None-clause-strings g t c =
    IfOk-weaker c.add_leaf.result _ _
    (λ r h. path-none (g.H.Hash32.digest c.args.hash.now) c.args.n c.args.i c.args.digest.now c.args.path.now c.args.out.now.items c.add_leaf.new.out.items c.in-None.ensures.cases h)
    c.add_leaf.ensures.strings

pub returns-then-i-k-clause-root : goal.returns-then-i-k-clause-root
returns-then-i-k-clause-root g t c =
    IfOk-weaker c.add_node.result _ _
    (λ r e. e ∙ ap (λ q. node (g.H.Hash32.digest c.args.hash.now) q c.in-Some.term.now) c.in_ok-left-in-Some.ensures.root
    ∙ sym (up-last-left (g.H.Hash32.digest c.args.hash.now) c.args.n c.args.i c.args.digest.now c.args.path.now c.in-Some.front.now c.in-Some.term.now
    c.split-k.result c.in-Some.ensures.cases.0 c.split-k.ensures.value c.if-i-k.true))
    c.add_node.ensures.digest

pub returns-then-i-k-clause-strings : goal.returns-then-i-k-clause-strings
returns-then-i-k-clause-strings g t c =
    IfOk-weaker c.add_node.result _ _
    (λ r h. path-left (g.H.Hash32.digest c.args.hash.now) c.args.n c.args.i c.split-k.result c.args.digest.now c.in_ok-left-in-Some.left c.in-Some.term.now c.args.path.now c.in-Some.front.now
    c.args.out.now.items c.add_path.new.out.items c.add_node.new.out.items c.in-Some.ensures.cases.0 c.split-k.ensures.value c.if-i-k.true
    c.in_ok-left-in-Some.ensures.root c.in_ok-left-in-Some.ensures.strings h)
    c.add_node.ensures.strings

pub returns-in_ok-right-in-Some-clause-root : goal.returns-in_ok-right-in-Some-clause-root
returns-in_ok-right-in-Some-clause-root g t c =
    IfOk-weaker c.add_node-in-Some.result _ _
    (λ r e. e ∙ ap (λ q. node (g.H.Hash32.digest c.args.hash.now) c.in-Some.term.now q) c.in_ok-right-in-Some.ensures.root
    ∙ ap (λ j. node (g.H.Hash32.digest c.args.hash.now) c.in-Some.term.now (up (g.H.Hash32.digest c.args.hash.now) j (c.args.i - c.split-k.result) c.args.digest.now (reverse c.in-Some.front.now))) c.saturating_sub-rest.ensures
    ∙ sym (up-last-right (g.H.Hash32.digest c.args.hash.now) c.args.n c.args.i c.args.digest.now c.args.path.now c.in-Some.front.now c.in-Some.term.now
    c.split-k.result c.in-Some.ensures.cases.0 c.split-k.ensures.value c.if-i-k.false))
    c.add_node-in-Some.ensures.digest

pub returns-in_ok-right-in-Some-clause-strings : goal.returns-in_ok-right-in-Some-clause-strings
returns-in_ok-right-in-Some-clause-strings g t c =
    let rest : c.saturating_sub-rest.result ≡ c.args.n - c.split-k.result = c.saturating_sub-rest.ensures in
    IfOk-weaker c.add_node-in-Some.result _ _
    (λ r h. path-right (g.H.Hash32.digest c.args.hash.now) c.args.n c.args.i c.split-k.result c.args.digest.now c.in_ok-right-in-Some.right c.in-Some.term.now c.args.path.now c.in-Some.front.now
    c.args.out.now.items c.add_path-in-Some.new.out.items c.add_node-in-Some.new.out.items c.in-Some.ensures.cases.0 c.split-k.ensures.value c.if-i-k.false
    (c.in_ok-right-in-Some.ensures.root ∙ ap (λ j. up (g.H.Hash32.digest c.args.hash.now) j (c.args.i - c.split-k.result) c.args.digest.now (reverse c.in-Some.front.now)) rest)
    (subst (λ j. AddsStrings c.args.out.now.items c.add_path-in-Some.new.out.items (up_strings (g.H.Hash32.digest c.args.hash.now) j (c.args.i - c.split-k.result) c.args.digest.now (reverse c.in-Some.front.now))) rest c.in_ok-right-in-Some.ensures.strings) h)
    c.add_node-in-Some.ensures.strings

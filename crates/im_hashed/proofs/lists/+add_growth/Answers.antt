use Rattle.std.proofs.Common.{◌≡◌, ◌-◌, ◌∙◌, ap, sym, reverse, subst}
use Rattle.std.proofs.lemmas.Result.{IfOk-weaker}
use Rattle.im_model.specs.Trees.{node}
use Rattle.im_model.specs.Growth.{older, newer, grow_strings}
use Rattle.im_model.proofs.Reversed.{older-nothing, newer-nothing, older-last-left, older-last-right, newer-last-left, newer-last-right}
use Rattle.im_pathmove.specs.declared.roots.Roots.{Roots}
use Rattle.im_hashed.specs.Added.{AddsStrings}
use Rattle.im_hashed.proofs.ListLemmas.{grows-none, grows-beside, grows-below}
use Rattle.im_hashed.proofs.lists.+add_growth.Goals as goal

pub returns-in-None-clause-older : goal.returns-in-None-clause-older
returns-in-None-clause-older g t c = sym (older-nothing (g.H.Hash32.digest c.args.hash.now) c.args.m c.args.n c.args.first.now c.args.terms.now c.in-None.ensures.cases)

pub returns-in-None-clause-newer : goal.returns-in-None-clause-newer
returns-in-None-clause-newer g t c = sym (newer-nothing (g.H.Hash32.digest c.args.hash.now) c.args.m c.args.n c.args.first.now c.args.terms.now c.in-None.ensures.cases)

pub returns-in-None-clause-strings : goal.returns-in-None-clause-strings
returns-in-None-clause-strings g t c =
    grows-none (g.H.Hash32.digest c.args.hash.now) c.args.m c.args.n c.args.first.now c.args.terms.now c.args.out.now.items c.in-None.ensures.cases

pub returns-then-m-k-clause-older : goal.returns-then-m-k-clause-older
returns-then-m-k-clause-older g t c =
    IfOk-weaker c.add_beside.result _ _
    (λ r e. ap (λ (x : Roots). x.older) e ∙ c.in_ok-roots-in-Some.ensures.older
    ∙ sym (older-last-left (g.H.Hash32.digest c.args.hash.now) c.args.m c.args.n c.args.first.now c.args.terms.now c.in-Some.front.now c.in-Some.term.now
    c.split-k.result c.in-Some.ensures.cases.0 c.split-k.ensures.value c.if-m-k.true))
    c.add_beside.ensures.roots

pub returns-then-m-k-clause-newer : goal.returns-then-m-k-clause-newer
returns-then-m-k-clause-newer g t c =
    IfOk-weaker c.add_beside.result _ _
    (λ r e. ap (λ (x : Roots). x.newer) e ∙ ap (λ q. node (g.H.Hash32.digest c.args.hash.now) q c.in-Some.term.now) c.in_ok-roots-in-Some.ensures.newer
    ∙ sym (newer-last-left (g.H.Hash32.digest c.args.hash.now) c.args.m c.args.n c.args.first.now c.args.terms.now c.in-Some.front.now c.in-Some.term.now
    c.split-k.result c.in-Some.ensures.cases.0 c.split-k.ensures.value c.if-m-k.true))
    c.add_beside.ensures.roots

pub returns-then-m-k-clause-strings : goal.returns-then-m-k-clause-strings
returns-then-m-k-clause-strings g t c =
    IfOk-weaker c.add_beside.result _ _
    (λ r h. grows-beside (g.H.Hash32.digest c.args.hash.now) c.args.m c.args.n c.split-k.result c.args.first.now c.in-Some.term.now c.in_ok-roots-in-Some.roots.newer c.args.terms.now c.in-Some.front.now
    c.args.out.now.items c.add_growth.new.out.items c.add_beside.new.out.items c.in-Some.ensures.cases.0 c.split-k.ensures.value c.if-m-k.true
    c.in_ok-roots-in-Some.ensures.newer c.in_ok-roots-in-Some.ensures.strings h)
    c.add_beside.ensures.strings

pub returns-in_ok-roots-in-Some-2-clause-older : goal.returns-in_ok-roots-in-Some-2-clause-older
returns-in_ok-roots-in-Some-2-clause-older g t c =
    IfOk-weaker c.add_below.result _ _
    (λ r e. ap (λ (x : Roots). x.older) e ∙ ap (λ q. node (g.H.Hash32.digest c.args.hash.now) c.in-Some.term.now q) c.in_ok-roots-in-Some-2.ensures.older
    ∙ ap (λ j. node (g.H.Hash32.digest c.args.hash.now) c.in-Some.term.now (older (g.H.Hash32.digest c.args.hash.now) (c.args.m - c.split-k.result) j c.args.first.now (reverse c.in-Some.front.now))) c.saturating_sub-rest.ensures
    ∙ sym (older-last-right (g.H.Hash32.digest c.args.hash.now) c.args.m c.args.n c.args.first.now c.args.terms.now c.in-Some.front.now c.in-Some.term.now
    c.split-k.result c.in-Some.ensures.cases.0 c.split-k.ensures.value c.if-m-k.false))
    c.add_below.ensures.roots

pub returns-in_ok-roots-in-Some-2-clause-newer : goal.returns-in_ok-roots-in-Some-2-clause-newer
returns-in_ok-roots-in-Some-2-clause-newer g t c =
    IfOk-weaker c.add_below.result _ _
    (λ r e. ap (λ (x : Roots). x.newer) e ∙ ap (λ q. node (g.H.Hash32.digest c.args.hash.now) c.in-Some.term.now q) c.in_ok-roots-in-Some-2.ensures.newer
    ∙ ap (λ j. node (g.H.Hash32.digest c.args.hash.now) c.in-Some.term.now (newer (g.H.Hash32.digest c.args.hash.now) (c.args.m - c.split-k.result) j c.args.first.now (reverse c.in-Some.front.now))) c.saturating_sub-rest.ensures
    ∙ sym (newer-last-right (g.H.Hash32.digest c.args.hash.now) c.args.m c.args.n c.args.first.now c.args.terms.now c.in-Some.front.now c.in-Some.term.now
    c.split-k.result c.in-Some.ensures.cases.0 c.split-k.ensures.value c.if-m-k.false))
    c.add_below.ensures.roots

pub returns-in_ok-roots-in-Some-2-clause-strings : goal.returns-in_ok-roots-in-Some-2-clause-strings
returns-in_ok-roots-in-Some-2-clause-strings g t c =
    let rest : c.saturating_sub-rest.result ≡ c.args.n - c.split-k.result = c.saturating_sub-rest.ensures in
    IfOk-weaker c.add_below.result _ _
    (λ r h. grows-below (g.H.Hash32.digest c.args.hash.now) c.args.m c.args.n c.split-k.result c.args.first.now c.in-Some.term.now c.in_ok-roots-in-Some-2.roots.older c.in_ok-roots-in-Some-2.roots.newer c.args.terms.now c.in-Some.front.now
    c.args.out.now.items c.add_growth-in-Some.new.out.items c.add_below.new.out.items c.in-Some.ensures.cases.0 c.split-k.ensures.value c.if-m-k.false
    (c.in_ok-roots-in-Some-2.ensures.older ∙ ap (λ j. older (g.H.Hash32.digest c.args.hash.now) (c.args.m - c.split-k.result) j c.args.first.now (reverse c.in-Some.front.now)) rest)
    (c.in_ok-roots-in-Some-2.ensures.newer ∙ ap (λ j. newer (g.H.Hash32.digest c.args.hash.now) (c.args.m - c.split-k.result) j c.args.first.now (reverse c.in-Some.front.now)) rest)
    (subst (λ j. AddsStrings c.args.out.now.items c.add_growth-in-Some.new.out.items (grow_strings (g.H.Hash32.digest c.args.hash.now) (c.args.m - c.split-k.result) j c.args.first.now (reverse c.in-Some.front.now))) rest c.in_ok-roots-in-Some-2.ensures.strings) h)
    c.add_below.ensures.strings

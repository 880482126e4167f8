use Rattle.std.proofs.Common.{rules, ◌≡◌, ◌∙◌, List, ap, arith, subst, sym}
use Rattle.im_levels.specs.Leveled.{Stored}
use Rattle.im_proof.specs.Between.{anchor_between, dual_between}
use Rattle.im_proof.specs.Built.{headers_of}
use Rattle.im_table.specs.Histories.{history_of}
use Rattle.im_table.specs.declared.items.LogItem.{LogItem}
use Rattle.im_store.specs.Proving.{IsProvedOver}
use Rattle.im_store.proofs.ProveLemmas.{built_of, built_under, headers_within, one_anchor, one_dual}
use Rattle.im_store.proofs.store.Store.advance_of.Goals as goal

-- what it is built of
pub build-requires-clause-history : goal.build-requires-clause-history
build-requires-clause-history g c =
    let hash = g.N.TipName.digest in
    let both = c.show_both in
    let book : c.deref.result.now ≡ both.new.book = search rules in
    let headers = c.headers.ensures ∙ ap (λ (l : List LogItem). headers_of g.N.TipName.digest (history_of l)) book in
    let tree : c.deref-2.result.now ≡ both.new.tree = search rules in
    let same = c.tree.ensures ∙ tree in
    let over = both.ensures.over c.args.t (omega (arith, c.requires.some, c.requires.order)) (omega (arith, c.requires.durable, both.ensures.durable.0)) in
    let here = subst (λ (tree : Stored). IsProvedOver hash both.new.book tree c.args.t) (sym same) over in
    built_of _ hash both.new.book c.tree.result.now c.args.t c.headers.result.now c.args.self.now.hashed headers here

pub build-requires-clause-within : goal.build-requires-clause-within
build-requires-clause-within g c =
    let both = c.show_both in
    let book : c.deref.result.now ≡ both.new.book = search rules in
    let headers = c.headers.ensures ∙ ap (λ (l : List LogItem). headers_of g.N.TipName.digest (history_of l)) book in
    omega (arith, c.requires.durable, both.ensures.durable.0, headers_within g.N.TipName.digest both.new.book c.headers.result.now headers)

pub build-requires-clause-tree : goal.build-requires-clause-tree
build-requires-clause-tree g c =
    let hash = g.N.TipName.digest in
    let both = c.show_both in
    let book : c.deref.result.now ≡ both.new.book = search rules in
    let headers = c.headers.ensures ∙ ap (λ (l : List LogItem). headers_of g.N.TipName.digest (history_of l)) book in
    let tree : c.deref-2.result.now ≡ both.new.tree = search rules in
    let same = c.tree.ensures ∙ tree in
    let over = both.ensures.over c.args.t (omega (arith, c.requires.some, c.requires.order)) (omega (arith, c.requires.durable, both.ensures.durable.0)) in
    let here = subst (λ (tree : Stored). IsProvedOver hash both.new.book tree c.args.t) (sym same) over in
    built_under hash both.new.book c.tree.result.now c.args.t c.headers.result.now headers here

-- what the anchor is built of
pub anchor_between-requires-clause-history : goal.anchor_between-requires-clause-history
anchor_between-requires-clause-history g c =
    let hash = g.N.TipName.digest in
    let both = c.show_both in
    let book : c.deref-3.result.now ≡ both.new.book = search rules in
    let headers = c.headers-2.ensures ∙ ap (λ (l : List LogItem). headers_of g.N.TipName.digest (history_of l)) book in
    let tree : c.deref-4.result.now ≡ both.new.tree = search rules in
    let same = c.tree-2.ensures ∙ tree in
    let over = both.ensures.over c.args.t (omega (arith, c.requires.some, c.requires.order)) (omega (arith, c.requires.durable, both.ensures.durable.0)) in
    let here = subst (λ (tree : Stored). IsProvedOver hash both.new.book tree c.args.t) (sym same) over in
    built_of _ hash both.new.book c.tree-2.result.now c.args.t c.headers-2.result.now c.args.self.now.hashed headers here

pub anchor_between-requires-clause-within : goal.anchor_between-requires-clause-within
anchor_between-requires-clause-within g c =
    let both = c.show_both in
    let book : c.deref-3.result.now ≡ both.new.book = search rules in
    let headers = c.headers-2.ensures ∙ ap (λ (l : List LogItem). headers_of g.N.TipName.digest (history_of l)) book in
    omega (arith, c.requires.durable, both.ensures.durable.0, headers_within g.N.TipName.digest both.new.book c.headers-2.result.now headers)

pub anchor_between-requires-clause-tree : goal.anchor_between-requires-clause-tree
anchor_between-requires-clause-tree g c =
    let hash = g.N.TipName.digest in
    let both = c.show_both in
    let book : c.deref-3.result.now ≡ both.new.book = search rules in
    let headers = c.headers-2.ensures ∙ ap (λ (l : List LogItem). headers_of g.N.TipName.digest (history_of l)) book in
    let tree : c.deref-4.result.now ≡ both.new.tree = search rules in
    let same = c.tree-2.ensures ∙ tree in
    let over = both.ensures.over c.args.t (omega (arith, c.requires.some, c.requires.order)) (omega (arith, c.requires.durable, both.ensures.durable.0)) in
    let here = subst (λ (tree : Stored). IsProvedOver hash both.new.book tree c.args.t) (sym same) over in
    built_under hash both.new.book c.tree-2.result.now c.args.t c.headers-2.result.now headers here

pub returns-in_err-dual-clause-seen : goal.returns-in_err-dual-clause-seen
returns-in_err-dual-clause-seen g c = omega (arith, c.requires.durable, c.show_both.ensures.durable.1)

pub returns-in-Ok-clause-seen : goal.returns-in-Ok-clause-seen
returns-in-Ok-clause-seen g c = omega (arith, c.requires.durable, c.show_both.ensures.durable.1)

pub returns-in-Ok-clause-dual : goal.returns-in-Ok-clause-dual
returns-in-Ok-clause-dual g c =
    let hash = g.N.TipName.digest in
    let both = c.show_both in
    let book : c.deref.result.now ≡ both.new.book = search rules in
    let headers = c.headers.ensures ∙ ap (λ (l : List LogItem). headers_of g.N.TipName.digest (history_of l)) book in
    let over = both.ensures.over c.args.t (omega (arith, c.requires.some, c.requires.order)) (omega (arith, c.requires.durable, both.ensures.durable.0)) in
    subst (λ (l : List LogItem). c.in_ok-dual.dual ≡ dual_between hash (history_of l) c.args.s c.args.t) (sym both.ensures.seen)
    (one_dual _ hash (history_of both.new.book) c.args.s c.args.t c.headers.result.now c.in_ok-dual.dual c.args.self.now.hashed over.history headers c.in_ok-dual.ensures.value)

pub returns-in-Ok-clause-anchor : goal.returns-in-Ok-clause-anchor
returns-in-Ok-clause-anchor g c =
    let hash = g.N.TipName.digest in
    let both = c.show_both in
    let book : c.deref-3.result.now ≡ both.new.book = search rules in
    let headers = c.headers-2.ensures ∙ ap (λ (l : List LogItem). headers_of g.N.TipName.digest (history_of l)) book in
    let over = both.ensures.over c.args.t (omega (arith, c.requires.some, c.requires.order)) (omega (arith, c.requires.durable, both.ensures.durable.0)) in
    subst (λ (l : List LogItem). c.in-Ok.anchor ≡ anchor_between hash (history_of l) c.args.s c.args.t) (sym both.ensures.seen)
    (one_anchor _ hash (history_of both.new.book) c.args.s c.args.t c.headers-2.result.now c.in-Ok.anchor c.args.self.now.hashed over.history headers c.in-Ok.ensures.value)

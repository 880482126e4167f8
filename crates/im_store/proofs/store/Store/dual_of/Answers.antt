use Rattle.std.proofs.Common.{rules, ◌≡◌, ◌∙◌, List, ap, arith, subst, sym}
use Rattle.std.proofs.lemmas.Result.{IfOk-weaker}
use Rattle.im_levels.specs.Leveled.{Stored}
use Rattle.im_proof.specs.Between.{dual_between}
use Rattle.im_proof.specs.Built.{headers_of}
use Rattle.im_table.specs.Histories.{history_of}
use Rattle.im_table.specs.declared.items.LogItem.{LogItem}
use Rattle.im_store.specs.Proving.{IsProvedOver}
use Rattle.im_store.proofs.ProveLemmas.{built_of, built_under, headers_within, one_dual}
use Rattle.im_store.proofs.store.Store.dual_of.Goals as goal

-- what it is built of
pub build-requires-clause-history : goal.build-requires-clause-history
build-requires-clause-history g c =
    let hash = g.N.TipName.digest in
    let both = c.show_both in
    let book : c.deref.result.now ≡ both.new.book = search rules in
    let headers = c.headers.ensures ∙ ap (λ (l : List LogItem). headers_of g.N.TipName.digest (history_of l)) book in
    let tree : c.deref-2.result.now ≡ both.new.tree = search rules in
    let same = c.tree.ensures ∙ tree in
    let over = both.ensures.over c.args.t (omega (arith, c.requires.some, c.requires.order)) (omega (arith, c.requires.durable, both.ensures.durable.0)) in
    let here = subst (λ (tree : Stored). IsProvedOver hash both.new.book tree c.args.t) (sym same) over in
    built_of _ hash both.new.book c.tree.result.now c.args.t c.headers.result.now c.args.self.now.hashed headers here

pub build-requires-clause-within : goal.build-requires-clause-within
build-requires-clause-within g c =
    let both = c.show_both in
    let book : c.deref.result.now ≡ both.new.book = search rules in
    let headers = c.headers.ensures ∙ ap (λ (l : List LogItem). headers_of g.N.TipName.digest (history_of l)) book in
    omega (arith, c.requires.durable, both.ensures.durable.0, headers_within g.N.TipName.digest both.new.book c.headers.result.now headers)

pub build-requires-clause-tree : goal.build-requires-clause-tree
build-requires-clause-tree g c =
    let hash = g.N.TipName.digest in
    let both = c.show_both in
    let book : c.deref.result.now ≡ both.new.book = search rules in
    let headers = c.headers.ensures ∙ ap (λ (l : List LogItem). headers_of g.N.TipName.digest (history_of l)) book in
    let tree : c.deref-2.result.now ≡ both.new.tree = search rules in
    let same = c.tree.ensures ∙ tree in
    let over = both.ensures.over c.args.t (omega (arith, c.requires.some, c.requires.order)) (omega (arith, c.requires.durable, both.ensures.durable.0)) in
    let here = subst (λ (tree : Stored). IsProvedOver hash both.new.book tree c.args.t) (sym same) over in
    built_under hash both.new.book c.tree.result.now c.args.t c.headers.result.now headers here

pub returns-clause-seen : goal.returns-clause-seen
returns-clause-seen g c = omega (arith, c.requires.durable, c.show_both.ensures.durable.1)

pub returns-clause-dual : goal.returns-clause-dual
returns-clause-dual g c =
    let hash = g.N.TipName.digest in
    let both = c.show_both in
    let book : c.deref.result.now ≡ both.new.book = search rules in
    let headers = c.headers.ensures ∙ ap (λ (l : List LogItem). headers_of g.N.TipName.digest (history_of l)) book in
    let over = both.ensures.over c.args.t (omega (arith, c.requires.some, c.requires.order)) (omega (arith, c.requires.durable, both.ensures.durable.0)) in
    IfOk-weaker c.build.result _ _
    (λ proof each. subst (λ (l : List LogItem). proof ≡ dual_between hash (history_of l) c.args.s c.args.t) (sym both.ensures.seen)
    (one_dual _ hash (history_of both.new.book) c.args.s c.args.t c.headers.result.now proof c.args.self.now.hashed over.history headers each))
    c.build.ensures.value

use Rattle.std.proofs.Common.{rules, ◌≡◌, ◌≤◌, ◌∙◌, ◌-◌, List, length, get_or, ap, sym, arith}
use Rattle.std.proofs.lemmas.Result.{IfOk-weaker}
use Rattle.im_model.specs.History.{header_of}
use Rattle.im_model.specs.declared.headers.Header.{Header}
use Rattle.im_proof.specs.Built.{headers_of}
use Rattle.im_proof.proofs.HeaderLemmas.{headers-length, headers-nth}
use Rattle.im_table.specs.Histories.{history_of}
use Rattle.im_table.specs.declared.items.LogItem.{LogItem}
use Rattle.im_table.specs.declared.view.AllLooks.{AllLooks}
use Rattle.im_table.proofs.HistoryLemmas.{history_length}
use Rattle.im_store.proofs.GainLemmas.{follows_placed}
use Rattle.im_store.proofs.ListLemmas.{list_shown}
use Rattle.im_store.proofs.store.Store.copy_header.Goals as goal

pub bounds-headers-at : goal.bounds-headers-at
bounds-headers-at g c =
    let show = c.show in
    let book : c.deref.result.now ≡ show.new.self = search rules in
    let headers = c.headers-headers.ensures ∙ ap (λ (l : List LogItem). headers_of g.N.TipName.digest (history_of l)) book in
    omega (
      arith,
      c.requires.some,
      c.requires.durable,
      show.ensures.later.durable,
      show.ensures.durable,
      show.ensures.seen.1,
      ap (λ (l : List Header). length l) headers,
      headers-length g.N.TipName.digest (history_of show.new.self),
      history_length show.new.self,
    )

pub returns-clause-follows : goal.returns-clause-follows
returns-clause-follows g c = follows_placed c.show.result c.args.pass.now c.show.new.pass c.show.ensures.later c.show.ensures.adds c.show.ensures.looks

pub returns-clause-loads : goal.returns-clause-loads
returns-clause-loads g c = (ap (λ (l : AllLooks). l.durable) c.show.ensures.looks, ap (λ (l : AllLooks). l.failed) c.show.ensures.looks)

pub returns-clause-seen : goal.returns-clause-seen
returns-clause-seen g c =
    let show = c.show.ensures in
    omega (arith, c.requires.durable, show.later.durable, show.durable, show.seen.1, ap (λ (l : List LogItem). length l) show.seen.0)

-- the book's headers are those of the list
pub returns-clause-header : goal.returns-clause-header
returns-clause-header g c =
    let hash = g.N.TipName.digest in
    let show = c.show in
    let items : List LogItem = show.new.self in
    let header : Header = c.index-headers-at.result in
    let within : c.args.k ≤ length (history_of items) =
    omega (arith, c.requires.durable, show.ensures.later.durable, show.ensures.durable, show.ensures.seen.1, history_length items) in
    let book : c.deref.result.now ≡ items = search rules in
    let headers = c.headers-headers.ensures ∙ ap (λ (l : List LogItem). headers_of hash (history_of l)) book in
    let is : header ≡ header_of hash (history_of items) c.args.k =
    c.index-headers-at.is ∙ ap (λ (l : List Header). get_or l (c.args.k - 1) header) headers
    ∙ headers-nth hash (history_of items) c.args.k header c.requires.some within in
    let seen = ap (λ (l : List LogItem). header_of hash (history_of l) c.args.k) (sym show.ensures.seen.0) in
    IfOk-weaker c.try_clone.result _ _ (λ copy same. same ∙ is ∙ seen) c.try_clone.ensures

-- the book's list is the pass's
pub returns-clause-list : goal.returns-clause-list
returns-clause-list g c =
    let show = c.show in
    list_shown g.L.Law.allows g.N.TipName.digest g.N.TipName.logs c.args.self.now.tip.logs g.N.TipName.found show.new.self show.new.pass.view.seen show.ensures.seen.0 c.args.self.now.logged
    show.ensures.found show.ensures.history show.ensures.meets show.ensures.referred

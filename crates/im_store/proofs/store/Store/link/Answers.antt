use Rattle.std.proofs.Common.{rules, ◌≡◌, ◌≤◌, ◌+◌, ◌-◌, ◌∙◌, ℕ, List, length, min, take, drop, ap, sym, arith}
use Rattle.im_levels.specs.Leveled.{Stored}
use Rattle.im_linker.specs.Trees.{alhs_in}
use Rattle.im_model.specs.History.{alhs_of}
use Rattle.im_model.proofs.HistoryLemmas.{length-alhs_of}
use Rattle.im_octet.proofs.PartLemmas.{on-err}
use Rattle.im_table.specs.Histories.{history_of}
use Rattle.im_table.specs.declared.items.LogItem.{LogItem}
use Rattle.im_table.specs.declared.view.AllLooks.{AllLooks}
use Rattle.im_table.specs.declared.view.View.{View}
use Rattle.im_table.proofs.HistoryLemmas.{history_length}
use Rattle.im_table.proofs.PassLemmas.{later_both}
use Rattle.im_store.proofs.GainLemmas.{follows_placed, follows_shown, follows_then, load_durable_follows, load_durable_saw, saw_durable_on}
use Rattle.im_store.proofs.GrowLemmas.{linked_answer, part_length, unlinked_answer}
use Rattle.im_store.proofs.store.Store.link.Goals as goal

-- the leaves to be linked are behind the tree's, and durable
pub copied-requires-clause-order : goal.copied-requires-clause-order
copied-requires-clause-order g c =
    let tree = c.show-size in
    let load = c.load_durable-durable in
    let book = c.show in
    let size : ℕ = tree.result in
    let end : ℕ = c.min-end.result in
    let durable : ℕ = load.result in
    let told : size ≤ tree.new.pass.view.least.durable = tree.ensures.durable in
    let least : tree.new.pass.view.least.durable ≤ durable = load.ensures.finds.least in
    let word : load.new.pass.view.least.durable ≡ durable = ap (λ (v : View). v.least.durable) load.ensures.view in
    let later : load.new.pass.view.least.durable ≤ book.new.pass.view.least.durable = book.ensures.later.durable in
    let far : book.new.pass.view.least.durable ≤ length book.new.self = omega (arith, book.ensures.durable, book.ensures.seen.1) in
    let few : length book.new.self ≤ 1048576 = omega (arith, book.ensures.history.few, history_length book.new.self) in
    let order : size ≤ end = omega arith in
    let reach : end ≤ durable = omega arith in
    order

pub copied-requires-clause-within : goal.copied-requires-clause-within
copied-requires-clause-within g c =
    let tree = c.show-size in
    let load = c.load_durable-durable in
    let book = c.show in
    let size : ℕ = tree.result in
    let end : ℕ = c.min-end.result in
    let durable : ℕ = load.result in
    let told : size ≤ tree.new.pass.view.least.durable = tree.ensures.durable in
    let least : tree.new.pass.view.least.durable ≤ durable = load.ensures.finds.least in
    let word : load.new.pass.view.least.durable ≡ durable = ap (λ (v : View). v.least.durable) load.ensures.view in
    let later : load.new.pass.view.least.durable ≤ book.new.pass.view.least.durable = book.ensures.later.durable in
    let far : book.new.pass.view.least.durable ≤ length book.new.self = omega (arith, book.ensures.durable, book.ensures.seen.1) in
    let few : length book.new.self ≤ 1048576 = omega (arith, book.ensures.history.few, history_length book.new.self) in
    let order : size ≤ end = omega arith in
    let reach : end ≤ durable = omega arith in
    let same : c.deref.result.now ≡ book.new.self = search rules in
    let here : c.alhs.result.now ≡ alhs_of g.N.TipName.digest (history_of book.new.self) =
    c.alhs.ensures ∙ ap (λ (l : List LogItem). alhs_of g.N.TipName.digest (history_of l)) same in
    let all : length c.alhs.result.now ≡ length book.new.self =
    ap (λ (l : List (List ℕ)). length l) here ∙ length-alhs_of g.N.TipName.digest (history_of book.new.self) ∙ history_length book.new.self in
    omega arith

-- the Alh that are copied are those of the pass's list behind the tree's
pub link-linked-requires-clause-next : goal.link-linked-requires-clause-next
link-linked-requires-clause-next g c =
    let tree = c.show-size in
    let load = c.load_durable-durable in
    let book = c.show in
    let size : ℕ = tree.result in
    let end : ℕ = c.min-end.result in
    let durable : ℕ = load.result in
    let told : size ≤ tree.new.pass.view.least.durable = tree.ensures.durable in
    let least : tree.new.pass.view.least.durable ≤ durable = load.ensures.finds.least in
    let word : load.new.pass.view.least.durable ≡ durable = ap (λ (v : View). v.least.durable) load.ensures.view in
    let later : load.new.pass.view.least.durable ≤ book.new.pass.view.least.durable = book.ensures.later.durable in
    let far : book.new.pass.view.least.durable ≤ length book.new.self = omega (arith, book.ensures.durable, book.ensures.seen.1) in
    let few : length book.new.self ≤ 1048576 = omega (arith, book.ensures.history.few, history_length book.new.self) in
    let order : size ≤ end = omega arith in
    let reach : end ≤ durable = omega arith in
    let hash = g.N.TipName.digest in
    let all : List (List ℕ) = alhs_in hash book.new.pass.view.seen in
    let tree_same : c.deref_mut-3.result.now ≡ tree.new.self = search rules in
    let same : c.deref.result.now ≡ book.new.self = search rules in
    let here : c.alhs.result.now ≡ all = c.alhs.ensures ∙ ap (λ (l : List LogItem). alhs_of hash (history_of l)) (same ∙ sym book.ensures.seen.0) in
    let long : length all ≡ length book.new.self =
    length-alhs_of hash (history_of book.new.pass.view.seen) ∙ history_length book.new.pass.view.seen ∙ ap (λ (l : List LogItem). length l) book.ensures.seen.0 in
    let copy : c.as_slice.result.now ≡ take (end - size) (drop size all) =
    c.as_slice.ensures.value ∙ c.in_ok-alhs.ensures ∙ ap (λ (l : List (List ℕ)). take (end - size) (drop size l)) here in
    let count : length c.as_slice.result.now ≡ end - size = ap (λ (l : List (List ℕ)). length l) copy ∙ part_length all size end order (omega arith) in
    copy ∙ ap (λ (n : ℕ). take n (drop size all)) (sym count)
    ∙ ap (λ (n : ℕ). take (length c.as_slice.result.now) (drop n all)) tree.ensures.size.0
    ∙ ap (λ (t : Stored). take (length c.as_slice.result.now) (drop t.size all)) (sym tree_same)

pub link-linked-requires-clause-within : goal.link-linked-requires-clause-within
link-linked-requires-clause-within g c =
    let tree = c.show-size in
    let load = c.load_durable-durable in
    let book = c.show in
    let size : ℕ = tree.result in
    let end : ℕ = c.min-end.result in
    let durable : ℕ = load.result in
    let told : size ≤ tree.new.pass.view.least.durable = tree.ensures.durable in
    let least : tree.new.pass.view.least.durable ≤ durable = load.ensures.finds.least in
    let word : load.new.pass.view.least.durable ≡ durable = ap (λ (v : View). v.least.durable) load.ensures.view in
    let later : load.new.pass.view.least.durable ≤ book.new.pass.view.least.durable = book.ensures.later.durable in
    let far : book.new.pass.view.least.durable ≤ length book.new.self = omega (arith, book.ensures.durable, book.ensures.seen.1) in
    let few : length book.new.self ≤ 1048576 = omega (arith, book.ensures.history.few, history_length book.new.self) in
    let order : size ≤ end = omega arith in
    let reach : end ≤ durable = omega arith in
    let hash = g.N.TipName.digest in
    let all : List (List ℕ) = alhs_in hash book.new.pass.view.seen in
    let tree_same : c.deref_mut-3.result.now ≡ tree.new.self = search rules in
    let there : c.deref_mut-3.result.now.size ≡ tree.new.self.size = ap (λ (t : Stored). t.size) tree_same in
    let same : c.deref.result.now ≡ book.new.self = search rules in
    let here : c.alhs.result.now ≡ all = c.alhs.ensures ∙ ap (λ (l : List LogItem). alhs_of hash (history_of l)) (same ∙ sym book.ensures.seen.0) in
    let long : length all ≡ length book.new.self =
    length-alhs_of hash (history_of book.new.pass.view.seen) ∙ history_length book.new.pass.view.seen ∙ ap (λ (l : List LogItem). length l) book.ensures.seen.0 in
    let copy : c.as_slice.result.now ≡ take (end - size) (drop size all) =
    c.as_slice.ensures.value ∙ c.in_ok-alhs.ensures ∙ ap (λ (l : List (List ℕ)). take (end - size) (drop size l)) here in
    let count : length c.as_slice.result.now ≡ end - size = ap (λ (l : List (List ℕ)). length l) copy ∙ part_length all size end order (omega arith) in
    let shown : size ≡ tree.new.self.size = tree.ensures.size.0 in
    let items : length book.new.pass.view.seen ≡ length book.new.self = ap (λ (l : List LogItem). length l) book.ensures.seen.0 in
    (omega arith, omega arith)

-- what the three steps before have told
pub returns-clause-ok : goal.returns-clause-ok
returns-clause-ok g c =
    let tree = c.show-size in
    let load = c.load_durable-durable in
    let book = c.show in
    let size : ℕ = tree.result in
    let end : ℕ = c.min-end.result in
    let durable : ℕ = load.result in
    let told : size ≤ tree.new.pass.view.least.durable = tree.ensures.durable in
    let least : tree.new.pass.view.least.durable ≤ durable = load.ensures.finds.least in
    let word : load.new.pass.view.least.durable ≡ durable = ap (λ (v : View). v.least.durable) load.ensures.view in
    let later : load.new.pass.view.least.durable ≤ book.new.pass.view.least.durable = book.ensures.later.durable in
    let far : book.new.pass.view.least.durable ≤ length book.new.self = omega (arith, book.ensures.durable, book.ensures.seen.1) in
    let few : length book.new.self ≤ 1048576 = omega (arith, book.ensures.history.few, history_length book.new.self) in
    let order : size ≤ end = omega arith in
    let reach : end ≤ durable = omega arith in
    let hash = g.N.TipName.digest in
    let all : List (List ℕ) = alhs_in hash book.new.pass.view.seen in
    let tree_same : c.deref_mut-3.result.now ≡ tree.new.self = search rules in
    let before : ℕ = c.deref_mut-3.result.now.size in
    let there : before ≡ tree.new.self.size = ap (λ (t : Stored). t.size) tree_same in
    let same : c.deref.result.now ≡ book.new.self = search rules in
    let here : c.alhs.result.now ≡ all = c.alhs.ensures ∙ ap (λ (l : List LogItem). alhs_of hash (history_of l)) (same ∙ sym book.ensures.seen.0) in
    let long : length all ≡ length book.new.self =
    length-alhs_of hash (history_of book.new.pass.view.seen) ∙ history_length book.new.pass.view.seen ∙ ap (λ (l : List LogItem). length l) book.ensures.seen.0 in
    let copy : c.as_slice.result.now ≡ take (end - size) (drop size all) =
    c.as_slice.ensures.value ∙ c.in_ok-alhs.ensures ∙ ap (λ (l : List (List ℕ)). take (end - size) (drop size l)) here in
    let count : length c.as_slice.result.now ≡ end - size = ap (λ (l : List (List ℕ)). length l) copy ∙ part_length all size end order (omega arith) in
    let last = c.link-linked in
    let a = follows_shown c.args.pass.now tree.new.pass tree.ensures.later tree.ensures.adds tree.ensures.looks in
    let b = follows_then 0 c.args.pass.now tree.new.pass load.new.pass a
    (load_durable_follows tree.new.pass load.new.pass load.result load.ensures.table load.ensures.view load.ensures.finds.least) in
    let d = follows_then 0 c.args.pass.now load.new.pass book.new.pass b
    (follows_placed book.result load.new.pass book.new.pass book.ensures.later book.ensures.adds book.ensures.looks) in
    let saw = saw_durable_on c.args.pass.now tree.new.pass load.new.pass last.new.pass load.result a
    (load_durable_saw tree.new.pass load.new.pass load.result load.ensures.table load.ensures.view load.ensures.finds.least)
    (later_both load.new.pass book.new.pass last.new.pass book.ensures.later last.ensures.later)
    (ap (λ (l : AllLooks). l.durable) last.ensures.looks ∙ ap (λ (l : AllLooks). l.durable) book.ensures.looks) in
    let shown : size ≡ tree.new.self.size = tree.ensures.size.0 in
    let linked : tree.new.pass.view.least.linked ≡ size = tree.ensures.size.1 in
    let rose : c.args.pass.now.view.least.linked ≤ tree.new.pass.view.least.linked = tree.ensures.later.linked in
    let known : c.args.pass.now.view.least.linked ≤ before = omega arith in
    let below : before ≤ durable = omega arith in
    let is : length c.as_slice.result.now ≡ min (before + c.args.most) durable - before = omega arith in
    linked_answer c.args.pass.now book.new.pass last.new.pass c.args.most before durable (length c.as_slice.result.now) last.new.self.size last.result d saw known below is
    last.ensures.size last.ensures.adds

pub returns-clause-later : goal.returns-clause-later
returns-clause-later g c =
    let tree = c.show-size in
    let load = c.load_durable-durable in
    let book = c.show in
    let a = follows_shown c.args.pass.now tree.new.pass tree.ensures.later tree.ensures.adds tree.ensures.looks in
    let b = follows_then 0 c.args.pass.now tree.new.pass load.new.pass a
    (load_durable_follows tree.new.pass load.new.pass load.result load.ensures.table load.ensures.view load.ensures.finds.least) in
    let d = follows_then 0 c.args.pass.now load.new.pass book.new.pass b
    (follows_placed book.result load.new.pass book.new.pass book.ensures.later book.ensures.adds book.ensures.looks) in
    later_both c.args.pass.now book.new.pass c.link-linked.new.pass d.later c.link-linked.ensures.later

pub returns-clause-err : goal.returns-clause-err
returns-clause-err g c =
    let tree = c.show-size in
    let load = c.load_durable-durable in
    let book = c.show in
    let a = follows_shown c.args.pass.now tree.new.pass tree.ensures.later tree.ensures.adds tree.ensures.looks in
    let b = follows_then 0 c.args.pass.now tree.new.pass load.new.pass a
    (load_durable_follows tree.new.pass load.new.pass load.result load.ensures.table load.ensures.view load.ensures.finds.least) in
    let d = follows_then 0 c.args.pass.now load.new.pass book.new.pass b
    (follows_placed book.result load.new.pass book.new.pass book.ensures.later book.ensures.adds book.ensures.looks) in
    unlinked_answer c.args.pass.now book.new.pass c.link-linked.new.pass _ c.link-linked.result d c.link-linked.ensures.err

-- there is no memory for the copies
pub returns-in_err-alhs-clause-later : goal.returns-in_err-alhs-clause-later
returns-in_err-alhs-clause-later g c =
    let tree = c.show-size in
    let load = c.load_durable-durable in
    let book = c.show in
    let a = follows_shown c.args.pass.now tree.new.pass tree.ensures.later tree.ensures.adds tree.ensures.looks in
    let b = follows_then 0 c.args.pass.now tree.new.pass load.new.pass a
    (load_durable_follows tree.new.pass load.new.pass load.result load.ensures.table load.ensures.view load.ensures.finds.least) in
    let d = follows_then 0 c.args.pass.now load.new.pass book.new.pass b
    (follows_placed book.result load.new.pass book.new.pass book.ensures.later book.ensures.adds book.ensures.looks) in
    d.later

pub returns-in_err-alhs-clause-err : goal.returns-in_err-alhs-clause-err
returns-in_err-alhs-clause-err g c =
    let tree = c.show-size in
    let load = c.load_durable-durable in
    let book = c.show in
    let a = follows_shown c.args.pass.now tree.new.pass tree.ensures.later tree.ensures.adds tree.ensures.looks in
    let b = follows_then 0 c.args.pass.now tree.new.pass load.new.pass a
    (load_durable_follows tree.new.pass load.new.pass load.result load.ensures.table load.ensures.view load.ensures.finds.least) in
    let d = follows_then 0 c.args.pass.now load.new.pass book.new.pass b
    (follows_placed book.result load.new.pass book.new.pass book.ensures.later book.ensures.adds book.ensures.looks) in
    on-err c.from_residual.result d.gains

use Rattle.std.proofs.Common.{◌≤◌, ◌+◌, ◌∙◌, ℕ, List, length, take, drop, ap, sym, subst, arith}
use Rattle.std.proofs.lemmas.List.{length-map}
use Rattle.std.specs.Prelude.{IfOk}
use Rattle.im_format.specs.declared.references.ValueRef.{ValueRef}
use Rattle.im_model.specs.History.{alhs_of}
use Rattle.im_model.specs.declared.transactions.Transaction.{Transaction}
use Rattle.im_model.proofs.HistoryLemmas.{length-alhs_of}
use Rattle.im_table.specs.Histories.{history_of}
use Rattle.im_table.specs.Records.{AreRecordsOf}
use Rattle.im_table.specs.declared.items.LogItem.{LogItem}
use Rattle.im_table.proofs.HistoryLemmas.{history_length}
use Rattle.im_index.proofs.BlockLemmas.{part-length}
use Rattle.im_seated_book.proofs.RecordLemmas.{ok_then, records_are}
use Rattle.im_seated_book.proofs.seated.SeatedBook.records.Goals as goal

pub part-transactions-requires : goal.part-transactions-requires
part-transactions-requires g c =
    let items = c.self.inside.pass.view.seen in
    let within : c.args.behind + c.args.count ≤ length items = subst (λ (l : List LogItem). c.args.behind + c.args.count ≤ length l) (sym c.self.view_is) c.requires.within in
    omega (arith, within, ap (λ (l : List Transaction). length l) (c.transactions.ensures ∙ c.self.invariant.1.transactions), history_length items)

pub part-refs-requires : goal.part-refs-requires
part-refs-requires g c =
    let items = c.self.inside.pass.view.seen in
    let within : c.args.behind + c.args.count ≤ length items = subst (λ (l : List LogItem). c.args.behind + c.args.count ≤ length l) (sym c.self.view_is) c.requires.within in
    omega (arith, within, ap (λ (l : List (List ValueRef)). length l) (c.as_slice.ensures.value ∙ c.self.invariant.1.refs_are), length-map items (λ (x : LogItem). x.refs))

pub part-alhs-requires : goal.part-alhs-requires
part-alhs-requires g c =
    let hash = g.N.TipName.digest in
    let items = c.self.inside.pass.view.seen in
    let h = c.self.invariant.1 in
    let within : c.args.behind + c.args.count ≤ length items = subst (λ (l : List LogItem). c.args.behind + c.args.count ≤ length l) (sym c.self.view_is) c.requires.within in
    let alhs = c.alhs.ensures ∙ h.is_book.alhs ∙ ap (λ (l : List Transaction). alhs_of hash l) h.transactions in
    omega (arith, within, ap (λ (l : List (List ℕ)). length l) alhs, length-alhs_of hash (history_of items), history_length items)

pub records_of-requires-clause-alhs : goal.records_of-requires-clause-alhs
records_of-requires-clause-alhs g c =
    let hash = g.N.TipName.digest in
    let items = c.self.inside.pass.view.seen in
    let h = c.self.invariant.1 in
    let within : c.args.behind + c.args.count ≤ length items = subst (λ (l : List LogItem). c.args.behind + c.args.count ≤ length l) (sym c.self.view_is) c.requires.within in
    let alhs = c.alhs.ensures ∙ h.is_book.alhs ∙ ap (λ (l : List Transaction). alhs_of hash l) h.transactions in
    let most : c.args.behind + c.args.count ≤ length c.alhs.result.now = omega (arith, within, ap (λ (l : List (List ℕ)). length l) alhs, length-alhs_of hash (history_of items), history_length items) in
    let few : c.args.behind + c.args.count ≤ length c.transactions.result.now = omega (arith, within, ap (λ (l : List Transaction). length l) (c.transactions.ensures ∙ h.transactions), history_length items) in
    ap (λ (l : List (List ℕ)). length l) c.part-alhs.ensures ∙ part-length c.alhs.result.now c.args.behind c.args.count most
    ∙ sym (ap (λ (l : List Transaction). length l) c.part-transactions.ensures ∙ part-length c.transactions.result.now c.args.behind c.args.count few)

pub returns-clause-count : goal.returns-clause-count
returns-clause-count g c =
    let hash = g.N.TipName.digest in
    let items = c.self.inside.pass.view.seen in
    let h = c.self.invariant.1 in
    let behind = c.args.behind in
    let count = c.args.count in
    let within : behind + count ≤ length items = subst (λ (l : List LogItem). behind + count ≤ length l) (sym c.self.view_is) c.requires.within in
    let alhs = h.is_book.alhs ∙ ap (λ (l : List Transaction). alhs_of hash l) h.transactions in
    ok_then c.records_of.result _ _ _ _ c.records_of.ensures.transactions c.records_of.ensures.refs c.records_of.ensures.alhs
    (λ records txs refs alh_rows. (records_are hash items behind count records.items h.referred within
    (txs ∙ c.part-transactions.ensures ∙ ap (λ (l : List Transaction). take count (drop behind l)) (c.transactions.ensures ∙ h.transactions))
    (refs ∙ c.part-refs.ensures ∙ ap (λ (l : List (List ValueRef)). take count (drop behind l)) (c.as_slice.ensures.value ∙ h.refs_are))
    (alh_rows ∙ c.part-alhs.ensures ∙ ap (λ (l : List (List ℕ)). take count (drop behind l)) (c.alhs.ensures ∙ alhs))).0)

pub returns-clause-records : goal.returns-clause-records
returns-clause-records g c =
    let hash = g.N.TipName.digest in
    let items = c.self.inside.pass.view.seen in
    let h = c.self.invariant.1 in
    let behind = c.args.behind in
    let count = c.args.count in
    let within : behind + count ≤ length items = subst (λ (l : List LogItem). behind + count ≤ length l) (sym c.self.view_is) c.requires.within in
    let alhs = h.is_book.alhs ∙ ap (λ (l : List Transaction). alhs_of hash l) h.transactions in
    subst (λ (l : List LogItem). IfOk c.records_of.result (λ records. AreRecordsOf hash l behind records.items)) c.self.view_is
    (ok_then c.records_of.result _ _ _ _ c.records_of.ensures.transactions c.records_of.ensures.refs c.records_of.ensures.alhs
    (λ records txs refs alh_rows. (records_are hash items behind count records.items h.referred within
    (txs ∙ c.part-transactions.ensures ∙ ap (λ (l : List Transaction). take count (drop behind l)) (c.transactions.ensures ∙ h.transactions))
    (refs ∙ c.part-refs.ensures ∙ ap (λ (l : List (List ValueRef)). take count (drop behind l)) (c.as_slice.ensures.value ∙ h.refs_are))
    (alh_rows ∙ c.part-alhs.ensures ∙ ap (λ (l : List (List ℕ)). take count (drop behind l)) (c.alhs.ensures ∙ alhs))).1))

use Rattle.std.proofs.Common.{rules, ◌≡◌, ◌≤◌, ◌<◌, ◌+◌, ◌∙◌, ℕ, ℤ, Option, List, [], ◌∷◌, ◌++◌, false, refl, length, map, ap, sym, subst, arith}
use Rattle.std.specs.Prelude.{IfSome}
use Rattle.im_digest.specs.Digests.{Hash}
use Rattle.im_format.specs.Places.{AreAppended}
use Rattle.im_format.specs.Records.{AreReferences}
use Rattle.im_format.specs.declared.references.ValueRef.{ValueRef}
use Rattle.im_model.specs.History.{alhs_of, bl_root_of, IsTransaction}
use Rattle.im_model.specs.declared.entries.Entry.{Entry}
use Rattle.im_model.specs.declared.transactions.Transaction.{Transaction}
use Rattle.im_linker.specs.Trees.{alhs_in}
use Rattle.im_table.specs.References.{references_of, HaveLengths}
use Rattle.im_table.specs.declared.items.LogItem.{LogItem}
use Rattle.im_table.proofs.HistoryLemmas.{history_length}
use Rattle.im_vlog.specs.Ends.{HaveRoom}
use Rattle.im_book.specs.Booked.{Booked, IsBook, last_bl}
use Rattle.im_seated_book.specs.Seats.{HasTimed, HoldsItems}
use Rattle.im_model.proofs.HistoryLemmas.{last-bl-behind}
use Rattle.im_book.proofs.BookLemmas.{book-same}
use Rattle.im_seated_book.proofs.RootLemmas.{values_told}
use Rattle.im_seated_book.proofs.SeatLemmas.{asked_is, found_within, lengths_fit, holds_more, holds_same, timed_more}
use Rattle.im_seated_book.proofs.seated.SeatedBook.put.Goals as goal

pub append_values-requires-clause-few : goal.append_values-requires-clause-few
append_values-requires-clause-few g c =
    omega (arith, ap (λ l. length l) c.as_slice.ensures, ap (λ l. length l) c.requires.asked.2, c.requires.asked.1.few)

pub append_values-requires-clause-room : goal.append_values-requires-clause-room
append_values-requires-clause-room g c =
    let number : length c.self.inside.pass.view.seen + 1 ≡ c.len-number.result + 1 = ap (λ (n : ℕ). n + 1) (ap (λ (l : List LogItem). length l) c.self.view_is ∙ sym c.len-number.ensures) in
    subst (λ (n : ℕ). HaveRoom n c.self.inside.ends) number c.self.invariant.1.room

pub entry_root_over-eh-requires-clause-some : goal.entry_root_over-eh-requires-clause-some
entry_root_over-eh-requires-clause-some g c =
    omega (arith, ap (λ l. length l) c.as_slice-2.ensures, ap (λ l. length l) c.requires.asked.2, c.requires.asked.1.some)

pub entry_root_over-eh-requires-clause-count : goal.entry_root_over-eh-requires-clause-count
entry_root_over-eh-requires-clause-count g c =
    let told = values_told (g.H.Hash32.digest c.args.hash.now) (c.len-number.result + 1) c.as_slice.result.now c.in_ok-refs.refs c.in_ok-refs.ensures.references in
    omega (arith, told.0, ap (λ l. length l) c.as_slice.ensures, ap (λ l. length l) c.as_slice-2.ensures, ap (λ l. length l) c.as_slice-3.ensures)

pub entry_root_over-eh-requires-clause-values : goal.entry_root_over-eh-requires-clause-values
entry_root_over-eh-requires-clause-values g c =
    let hash = g.H.Hash32.digest c.args.hash.now in
    let told = values_told hash (c.len-number.result + 1) c.as_slice.result.now c.in_ok-refs.refs c.in_ok-refs.ensures.references in
    ap (λ (l : List ValueRef). map (λ (r : ValueRef). r.hval) l) c.as_slice-3.ensures ∙ told.1
    ∙ ap (λ (l : List Entry). map (λ (e : Entry). hash e.value) l) (c.as_slice.ensures ∙ sym c.as_slice-2.ensures)

pub header_for-header-requires-clause-book : goal.header_for-header-requires-clause-book
header_for-header-requires-clause-book g c =
    let same = c.reserve.ensures.same in
    let book = book-same g.N.TipName.digest c.reserve.new.self c.self.inside.book same.0 same.1 same.2 c.self.invariant.1.is_book in
    subst (λ (h : Hash). IsBook h c.reserve.new.self) (sym c.requires.hash) book

pub header_for-header-requires-clause-room : goal.header_for-header-requires-clause-room
header_for-header-requires-clause-room g c =
    omega (
      arith,
      ap (λ (l : List Transaction). length l) c.reserve.ensures.same.0,
      ap (λ (l : List Transaction). length l) c.self.invariant.1.transactions,
      history_length c.self.inside.pass.view.seen,
      ap (λ (l : List LogItem). length l) c.self.view_is,
      c.requires.room,
    )

pub header_for-header-requires-clause-limits : goal.header_for-header-requires-clause-limits
header_for-header-requires-clause-limits g c =
    let asked = c.requires.asked in
    let count : length c.reserve.new.self.transactions ≡ length c.self.inside.pass.view.seen =
    ap (λ (l : List Transaction). length l) (c.reserve.ensures.same.0 ∙ c.self.invariant.1.transactions) ∙ history_length c.self.inside.pass.view.seen in
    let seen : c.under-bl.new.pass.view.seen ≡ c.self.inside.pass.view.seen = search rules in
    let made = c.transaction_now-tx.ensures in
    let within : c.transaction_now-tx.result.bl ≤ length c.reserve.new.self.transactions = omega (arith, made.over, c.under-bl.ensures.within, ap (λ (l : List LogItem). length l) seen, count) in
    asked_is asked.0 c.transaction_now-tx.result (length c.reserve.new.self.transactions) asked.1 (made.writes ∙ asked.2) within made.fits

pub header_for-header-requires-clause-root : goal.header_for-header-requires-clause-root
header_for-header-requires-clause-root g c =
    let hash = g.N.TipName.digest in
    let bl = c.transaction_now-tx.result.bl in
    let seen : c.under-bl.new.pass.view.seen ≡ c.self.inside.pass.view.seen = search rules in
    let alhs : alhs_in hash c.under-bl.new.pass.view.seen ≡ c.reserve.new.self.alhs =
    ap (λ (l : List LogItem). alhs_in hash l) seen ∙ ap (λ (l : List Transaction). alhs_of hash l) (sym c.self.invariant.1.transactions)
    ∙ sym c.self.invariant.1.is_book.alhs ∙ sym c.reserve.ensures.same.2 in
    subst (λ (h : Hash). c.under-bl.result.1 ≡ bl_root_of h c.reserve.new.self.alhs bl) (sym c.requires.hash)
    (c.under-bl.ensures.root ∙ ap (λ (n : ℕ). bl_root_of hash (alhs_in hash c.under-bl.new.pass.view.seen) n) (sym c.transaction_now-tx.ensures.over)
    ∙ ap (λ (l : List (List ℕ)). bl_root_of hash l bl) alhs)

pub store_placed-requires-clause-next : goal.store_placed-requires-clause-next
store_placed-requires-clause-next g c =
    let seen : c.under-bl.new.pass.view.seen ≡ c.args.self.now = search rules in
    ap (λ (n : ℕ). n + 1) (c.len-number.ensures ∙ ap (λ (l : List LogItem). length l) (sym seen))

pub store_placed-requires-clause-lawful : goal.store_placed-requires-clause-lawful
store_placed-requires-clause-lawful g c =
    let seen : c.under-bl.new.pass.view.seen ≡ c.args.self.now = search rules in
    let item : LogItem = record { found = false; tx = c.transaction_now-tx.result; refs = c.in_ok-refs.refs } in
    subst (λ (l : List LogItem). g.L.Law.allows (l ++ item ∷ [])) (sym seen) (c.requires.law item refl c.transaction_now-tx.ensures.writes)

pub store_placed-requires-clause-laid : goal.store_placed-requires-clause-laid
store_placed-requires-clause-laid g c =
    let seen : c.under-bl.new.pass.view.seen ≡ c.self.inside.pass.view.seen = search rules in
    let logs : c.self.inside.logs ≡ c.args.tip.now.logs = c.self.invariant.4 ∙ sym c.requires.tip.1 in
    let number : c.len-number.result + 1 ≡ length c.under-bl.new.pass.view.seen + 1 =
    ap (λ (n : ℕ). n + 1) (c.len-number.ensures ∙ ap (λ (l : List LogItem). length l) (sym c.self.view_is ∙ sym seen)) in
    let put = c.in_ok-refs.ensures.appended (references_of c.self.inside.pass.view.seen) c.self.invariant.1.ends_are in
    subst (λ (w : ℕ). AreAppended w (length c.under-bl.new.pass.view.seen + 1) 0 (references_of c.under-bl.new.pass.view.seen) c.in_ok-refs.refs) logs
    (subst (λ (n : ℕ). AreAppended c.self.inside.logs n 0 (references_of c.under-bl.new.pass.view.seen) c.in_ok-refs.refs) number
    (subst (λ (l : List LogItem). AreAppended c.self.inside.logs (c.len-number.result + 1) 0 (references_of l) c.in_ok-refs.refs) (sym seen) put))

pub store_placed-requires-clause-sized : goal.store_placed-requires-clause-sized
store_placed-requires-clause-sized g c =
    let made = g.H.Hash32.digest c.args.hash.now in
    let fits : AreReferences made (c.len-number.result + 1) c.args.entries c.in_ok-refs.refs =
    subst (λ (l : List Entry). AreReferences made (c.len-number.result + 1) l c.in_ok-refs.refs) c.as_slice.ensures c.in_ok-refs.ensures.references in
    subst (λ (l : List Entry). HaveLengths l c.in_ok-refs.refs) (sym c.transaction_now-tx.ensures.writes) (lengths_fit made (c.len-number.result + 1) c.args.entries c.in_ok-refs.refs fits)

pub invariant_of-self : goal.invariant_of-self
invariant_of-self g c =
    let left = c.in_err-reserve.ensures.left in
    let pass = c.self.inside.pass.view in (
      search rules,
      subst (λ (b : Booked). HoldsItems g.N.TipName.digest g.N.TipName.found pass.seen b c.self.inside.refs.items c.self.inside.ends) (sym left) c.self.invariant.1,
      subst (λ (b : Booked). last_bl b.transactions ≤ pass.least.linked) (sym left) c.self.invariant.2,
      c.self.invariant.3,
      c.self.invariant.4,
      c.self.invariant.5,
      c.self.invariant.6,
    )

pub invariant_of-self-in_err-reserve-2 : goal.invariant_of-self-in_err-reserve-2
invariant_of-self-in_err-reserve-2 g c =
    let pass = c.self.inside.pass.view in
    let same = c.reserve.ensures.same in
    let book = book-same g.N.TipName.digest c.reserve.new.self c.self.inside.book same.0 same.1 same.2 c.self.invariant.1.is_book in (
      search rules,
      holds_same g.N.TipName.digest g.N.TipName.found pass.seen c.self.inside.book c.reserve.new.self c.self.inside.refs.items c.reserve-2.new.self.items c.self.inside.ends c.self.invariant.1 same.0 book (search rules),
      subst (λ (l : List Transaction). last_bl l ≤ pass.least.linked) (sym same.0) c.self.invariant.2,
      c.self.invariant.3,
      c.self.invariant.4,
      c.self.invariant.5,
      c.self.invariant.6,
    )

pub invariant_of-self-2 : goal.invariant_of-self-2
invariant_of-self-2 g c =
    let hash = g.N.TipName.digest in
    let made = g.H.Hash32.digest c.args.hash.now in
    let found = g.N.TipName.found in
    let items = c.self.inside.pass.view.seen in
    let asked = c.requires.asked in
    let bl = c.under-bl.result.0 in
    let tx = c.transaction_now-tx.result in
    let clock = c.transaction_now-tx.ensures in
    let item : LogItem = record { found = false; tx = tx; refs = c.in_ok-refs.refs } in
    let same = c.reserve.ensures.same in
    let before = c.reserve.new.self in
    let whole = book-same hash before c.self.inside.book same.0 same.1 same.2 c.self.invariant.1.is_book in
    let held = holds_same hash found items c.self.inside.book before c.self.inside.refs.items c.reserve-2.new.self.items c.self.inside.ends c.self.invariant.1 same.0 whole (search rules) in
    let count : length before.transactions ≡ length items = ap (λ (l : List Transaction). length l) (same.0 ∙ c.self.invariant.1.transactions) ∙ history_length items in
    let here : length items ≡ length c.args.self.now = ap (λ (l : List LogItem). length l) c.self.view_is in
    let seen : c.under-bl.new.pass.view.seen ≡ items = search rules in
    let within : tx.bl ≤ length before.transactions = omega (arith, clock.over, c.under-bl.ensures.within, ap (λ (l : List LogItem). length l) seen, count) in
    let limits : IsTransaction (length before.transactions) tx = asked_is asked.0 tx (length before.transactions) asked.1 (clock.writes ∙ asked.2) within clock.fits in
    let room : length before.transactions < 1048576 = omega (arith, count, here, c.requires.room) in
    let up : c.self.inside.pass.view.least.linked ≤ bl = search rules in
    let over : last_bl before.transactions ≤ tx.bl = omega (arith, clock.over, subst (λ (l : List Transaction). last_bl l ≤ c.self.inside.pass.view.least.linked) (sym same.0) c.self.invariant.2, up) in
    let is = subst (λ (h : Hash). IsBook h c.push.new.self) c.requires.hash
    (c.push.ensures.book made (subst (λ (h : Hash). IsBook h before) (sym c.requires.hash) whole) room limits over c.header_for-header.ensures c.alh-digest.ensures) in
    let number : c.len-number.result + 1 ≡ length items + 1 = ap (λ (n : ℕ). n + 1) (c.len-number.ensures ∙ sym here) in
    let referred = subst (λ (h : Hash). AreReferences h (length items + 1) tx.entries c.in_ok-refs.refs) c.requires.hash
    (subst (λ (n : ℕ). AreReferences made n tx.entries c.in_ok-refs.refs) number
    (subst (λ (l : List Entry). AreReferences made (c.len-number.result + 1) l c.in_ok-refs.refs) (c.as_slice.ensures ∙ sym clock.writes) c.in_ok-refs.ensures.references)) in
    let behind = c.in_ok-refs.ensures.ends (references_of items) c.self.invariant.1.ends_are in
    let rooms = subst (λ (n : ℕ). HaveRoom (n + 1) c.append_values.new.ends) number c.append_values.ensures.room in
    let grown : c.split.result.view.seen ≡ items ++ item ∷ [] = search rules in
    let more = holds_more hash found items item before c.push.new.self c.reserve-2.new.self.items c.push_reserved.new.self.items c.self.inside.ends c.append_values.new.ends held refl
    c.push.ensures.grown is (search rules) referred behind rooms in
    let timed = timed_more g.N.TipName.time (g.C.Clock.constant c.self.inside.clock) (g.C.Clock.constant c.transaction_now-tx.new.clock) g.N.TipName.given (g.C.Clock.given c.self.inside.clock) (g.C.Clock.given c.transaction_now-tx.new.clock)
    found items item c.self.invariant.3 clock.same (subst (λ (o : Option ℤ). IfSome o (λ t. tx.ts ≡ t)) c.self.invariant.3.same clock.told) clock.given (found_within found items c.self.invariant.1.goes_on) in
    let linked : c.split.result.view.least.linked ≡ bl = search rules in
    let last : last_bl c.push.new.self.transactions ≡ bl = ap (λ (l : List Transaction). last_bl l) c.push.ensures.grown ∙ last-bl-behind 0 before.transactions tx ∙ clock.over in (
      search rules,
      subst (λ (l : List LogItem). HoldsItems hash found l c.push.new.self c.push_reserved.new.self.items c.append_values.new.ends) (sym grown) more,
      omega (arith, last, linked),
      subst (λ (l : List LogItem). HasTimed g.N.TipName.time (g.C.Clock.constant c.transaction_now-tx.new.clock) g.N.TipName.given (g.C.Clock.given c.transaction_now-tx.new.clock) found l) (sym grown) timed,
      c.self.invariant.4,
      c.self.invariant.5,
      c.self.invariant.6,
    )

pub returns-clause-placed : goal.returns-clause-placed
returns-clause-placed g c =
    let clock = c.transaction_now-tx.ensures in
    record {
      item = record { found = false; tx = c.transaction_now-tx.result; refs = c.in_ok-refs.refs };
      number_is = ap (λ (n : ℕ). n + 1) c.len-number.ensures;
      fresh = refl;
      entries_are = clock.writes;
      bl_is = search rules;
      timed = subst (λ (o : Option ℤ). IfSome o (λ t. c.transaction_now-tx.result.ts ≡ t)) c.self.invariant.3.same clock.told;
      seen = search rules;
      adds = record { own = search rules; leaves = search rules; faults = search rules };
      least = search rules;
      most = search rules;
    }

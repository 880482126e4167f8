use Rattle.std.proofs.Common.{◌≡◌, ◌≤◌, ◌∙◌, List, length, ap, sym, subst, arith}
use Rattle.im_digest.specs.Digests.{Hash}
use Rattle.im_journal.specs.declared.ends.Ends.{Ends}
use Rattle.im_linker.specs.Trees.{IsTreeOf}
use Rattle.im_seated_book.specs.Seats.{HasTimed, HoldsItems}
use Rattle.im_seated_index.specs.Seats.{HasTaken}
use Rattle.im_seated_journal.specs.Seats.{ServesItems}
use Rattle.im_table.specs.Known.{TableId}
use Rattle.im_table.specs.Passes.{book_role, index_role, journal_role, tree_role, IsKeeper, IsPassOf}
use Rattle.im_table.specs.declared.items.LogItem.{LogItem}
use Rattle.im_table.specs.declared.view.Least.{Least}
use Rattle.im_model.specs.declared.transactions.Transaction.{Transaction}
use Rattle.im_book.specs.Booked.{last_bl}
use Rattle.im_table.proofs.HistoryLemmas.{history_length}
use Rattle.im_store.specs.Found.{items_of}
use Rattle.im_store.proofs.OpenLemmas.{bl_below, found_count, found_taken, found_timed, opened_holds, opened_serves, same_clock, same_disk, same_found, same_hash, same_logs, same_table}
use Rattle.im_store.proofs.opened.Opened.named.Goals as goal

-- what the opened store keeps is what is put under the locks: `i.records` are those that were found, and `i.parts_are` says the parts
pub new-journal-requires-clause-serves : goal.new-journal-requires-clause-serves
new-journal-requires-clause-serves g c =
    let v = c.self.view_is in
    let i = c.self.invariant in
    let p = i.parts_are in
    let rs = i.records in
    let items : List LogItem = items_of rs in
    let hash : Hash = g.H.Hash32.digest c.self.inside.hash.now in
    let digest : hash ≡ g.N.TipName.digest = ap g.H.Hash32.digest (same_hash v) ∙ c.requires.hash in
    let found : items ≡ g.N.TipName.found = sym p.found ∙ same_found v ∙ c.requires.tip.1 in
    let told = g.D.Disk.told in
    let faults = g.D.Disk.faults in
    let journal = c.self.inside.journal in
    let synced = ap g.D.Disk.told (same_disk v) ∙ c.requires.disk.0 in
    let before = ap g.D.Disk.faults (same_disk v) ∙ c.requires.disk.1 in
    let seen : c.seats_of-seats.result.writer.view.seen ≡ items = (c.seats_of-seats.ensures.writer items p.view).seen in
    let serves = opened_serves told faults hash rs i.batches journal i.joined_is i.rests i.all g.N.TipName.faults g.N.TipName.synced i.going before synced in
    subst (λ (l : List LogItem). ServesItems told faults g.N.TipName.digest g.N.TipName.found g.N.TipName.synced g.N.TipName.faults l journal) (sym seen)
    (subst (λ (l : List LogItem). ServesItems told faults g.N.TipName.digest l g.N.TipName.synced g.N.TipName.faults items journal) found
    (subst (λ (h : Hash). ServesItems told faults h items g.N.TipName.synced g.N.TipName.faults items journal) digest serves))

pub new-journal-requires-clause-words : goal.new-journal-requires-clause-words
new-journal-requires-clause-words g c =
    let i = c.self.invariant in
    let p = i.parts_are in
    let items : List LogItem = items_of i.records in
    let least = (c.seats_of-seats.ensures.writer items p.view).least in
    (ap (λ (l : Least). l.durable) least ∙ found_count i.records ∙ sym i.all, ap (λ (l : Least). l.failed) least ∙ sym i.going)

pub new-index-requires-clause-taken : goal.new-index-requires-clause-taken
new-index-requires-clause-taken g c =
    let i = c.self.invariant in
    let p = i.parts_are in
    let items : List LogItem = items_of i.records in
    let least = (c.seats_of-seats.ensures.indexer items p.view).least in
    let taken = (found_taken items c.self.inside.parts.index p.index_is).1 in
    (ap (λ (l : Least). l.indexed) least ∙ sym taken, omega (arith, taken, ap (λ (l : Least). l.durable) least))

pub new-index-requires-clause-first : goal.new-index-requires-clause-first
new-index-requires-clause-first g c =
    let i = c.self.invariant in
    let p = i.parts_are in
    let items : List LogItem = items_of i.records in
    let seen : c.seats_of-seats.result.indexer.view.seen ≡ items = (c.seats_of-seats.ensures.indexer items p.view).seen in
    subst (λ (l : List LogItem). HasTaken l c.self.inside.parts.index) (sym seen) (found_taken items c.self.inside.parts.index p.index_is).0

pub new-book-requires-clause-items : goal.new-book-requires-clause-items
new-book-requires-clause-items g c =
    let v = c.self.view_is in
    let i = c.self.invariant in
    let p = i.parts_are in
    let rs = i.records in
    let items : List LogItem = items_of rs in
    let hash : Hash = g.H.Hash32.digest c.self.inside.hash.now in
    let digest : hash ≡ g.N.TipName.digest = ap g.H.Hash32.digest (same_hash v) ∙ c.requires.hash in
    let found : items ≡ g.N.TipName.found = sym p.found ∙ same_found v ∙ c.requires.tip.1 in
    let book = c.self.inside.parts.book in
    let refs = c.self.inside.parts.refs.items in
    let ends = c.self.inside.journal.ends.values in
    let seen : c.seats_of-seats.result.keeper.view.seen ≡ items = (c.seats_of-seats.ensures.keeper items p.view).seen in
    let holds = opened_holds g.D.Disk.told g.D.Disk.faults hash rs i.batches c.self.inside.journal i.joined_is i.rests i.all book refs p.transactions_are p.book_is p.refs_are p.records_are in
    subst (λ (e : Ends). HoldsItems g.N.TipName.digest g.N.TipName.found c.seats_of-seats.result.keeper.view.seen book refs e.values) (sym c.ends.ensures)
    (subst (λ (l : List LogItem). HoldsItems g.N.TipName.digest g.N.TipName.found l book refs ends) (sym seen)
    (subst (λ (l : List LogItem). HoldsItems g.N.TipName.digest l items book refs ends) found (subst (λ (h : Hash). HoldsItems h items items book refs ends) digest holds)))

pub new-book-requires-clause-over : goal.new-book-requires-clause-over
new-book-requires-clause-over g c =
    let i = c.self.invariant in
    let p = i.parts_are in
    let items : List LogItem = items_of i.records in
    let book = c.self.inside.parts.book in
    let least = (c.seats_of-seats.ensures.keeper items p.view).least in
    let below : last_bl book.transactions ≤ length book.transactions = bl_below book.transactions p.book_is.history in
    omega (arith, below, ap (λ (l : List Transaction). length l) p.transactions_are, history_length items, ap (λ (l : Least). l.linked) least)

pub new-book-requires-clause-timed : goal.new-book-requires-clause-timed
new-book-requires-clause-timed g c =
    let v = c.self.view_is in
    let i = c.self.invariant in
    let p = i.parts_are in
    let rs = i.records in
    let items : List LogItem = items_of rs in
    let hash : Hash = g.H.Hash32.digest c.self.inside.hash.now in
    let digest : hash ≡ g.N.TipName.digest = ap g.H.Hash32.digest (same_hash v) ∙ c.requires.hash in
    let found : items ≡ g.N.TipName.found = sym p.found ∙ same_found v ∙ c.requires.tip.1 in
    let time = ap g.C.Clock.constant (same_clock v) ∙ c.requires.clock.0 in
    let given = ap g.C.Clock.given (same_clock v) ∙ c.requires.clock.1 in
    let constant = g.C.Clock.constant c.self.inside.clock in
    let told = g.C.Clock.given c.self.inside.clock in
    let seen : c.seats_of-seats.result.keeper.view.seen ≡ items = (c.seats_of-seats.ensures.keeper items p.view).seen in
    subst (λ (l : List LogItem). HasTimed g.N.TipName.time constant g.N.TipName.given told g.N.TipName.found l) (sym seen)
    (subst (λ (l : List LogItem). HasTimed g.N.TipName.time constant g.N.TipName.given told l items) found
    (subst (λ t. HasTimed t constant g.N.TipName.given told items items) time
    (subst (λ l. HasTimed constant constant l told items items) given (found_timed constant told items))))

pub new-tree-requires-clause-size : goal.new-tree-requires-clause-size
new-tree-requires-clause-size g c =
    let p = c.self.invariant.parts_are in
    let items : List LogItem = items_of c.self.invariant.records in
    let least = (c.seats_of-seats.ensures.linker items p.view).least in
    (ap (λ (l : Least). l.linked) least ∙ sym p.whole, omega (arith, p.whole, ap (λ (l : Least). l.durable) least))

pub new-tree-requires-clause-leaves : goal.new-tree-requires-clause-leaves
new-tree-requires-clause-leaves g c =
    let v = c.self.view_is in
    let i = c.self.invariant in
    let p = i.parts_are in
    let rs = i.records in
    let items : List LogItem = items_of rs in
    let hash : Hash = g.H.Hash32.digest c.self.inside.hash.now in
    let digest : hash ≡ g.N.TipName.digest = ap g.H.Hash32.digest (same_hash v) ∙ c.requires.hash in
    let found : items ≡ g.N.TipName.found = sym p.found ∙ same_found v ∙ c.requires.tip.1 in
    let seen : c.seats_of-seats.result.linker.view.seen ≡ items = (c.seats_of-seats.ensures.linker items p.view).seen in
    subst (λ (l : List LogItem). IsTreeOf g.N.TipName.digest l c.self.inside.parts.tree) (sym seen)
    (subst (λ (h : Hash). IsTreeOf h items c.self.inside.parts.tree) digest p.tree_is)

-- the pass has each role
pub seats_of-seats-requires-clause-table : goal.seats_of-seats-requires-clause-table
seats_of-seats-requires-clause-table g c = c.self.invariant.parts_are.table

pub seats_of-seats-requires-clause-opens : goal.seats_of-seats-requires-clause-opens
seats_of-seats-requires-clause-opens g c = (items_of c.self.invariant.records, c.self.invariant.parts_are.view)

-- each lies under a lock
pub new-journal-requires-clause-pass : goal.new-journal-requires-clause-pass
new-journal-requires-clause-pass g c =
    let p = c.self.invariant.parts_are in
    let seat = c.seats_of-seats.ensures.writer (items_of c.self.invariant.records) p.view in
    subst (λ (t : TableId). IsKeeper t journal_role c.seats_of-seats.result.writer) (same_table c.self.view_is ∙ c.requires.tip.0) seat.keeper

pub new-index-requires-clause-pass : goal.new-index-requires-clause-pass
new-index-requires-clause-pass g c =
    let p = c.self.invariant.parts_are in
    let seat = c.seats_of-seats.ensures.indexer (items_of c.self.invariant.records) p.view in
    subst (λ (t : TableId). IsKeeper t index_role c.seats_of-seats.result.indexer) (same_table c.self.view_is ∙ c.requires.tip.0) seat.keeper

pub new-book-requires-clause-pass : goal.new-book-requires-clause-pass
new-book-requires-clause-pass g c =
    let p = c.self.invariant.parts_are in
    let seat = c.seats_of-seats.ensures.keeper (items_of c.self.invariant.records) p.view in
    subst (λ (t : TableId). IsKeeper t book_role c.seats_of-seats.result.keeper) (same_table c.self.view_is ∙ c.requires.tip.0) seat.keeper

pub new-tree-requires-clause-pass : goal.new-tree-requires-clause-pass
new-tree-requires-clause-pass g c =
    let p = c.self.invariant.parts_are in
    let seat = c.seats_of-seats.ensures.linker (items_of c.self.invariant.records) p.view in
    subst (λ (t : TableId). IsKeeper t tree_role c.seats_of-seats.result.linker) (same_table c.self.view_is ∙ c.requires.tip.0) seat.keeper

pub new-book-requires-clause-logs : goal.new-book-requires-clause-logs
new-book-requires-clause-logs g c =
    let p = c.self.invariant.parts_are in
    (same_logs c.self.view_is ∙ c.requires.tip.2, p.some, p.few)

-- the store is what the name says
pub of-requires-clause-tip : goal.of-requires-clause-tip
of-requires-clause-tip g c =
    let v = c.self.view_is in
    let p = c.self.invariant.parts_are in
    (same_table v ∙ c.requires.tip.0, p.logs_are ∙ same_logs v ∙ c.requires.tip.2, same_found v ∙ c.requires.tip.1)

pub of-requires-clause-hash : goal.of-requires-clause-hash
of-requires-clause-hash g c = ap g.H.Hash32.digest (same_hash c.self.view_is) ∙ c.requires.hash

-- the pass that is handed out has seen and knows all of it
pub returns-clause-seen : goal.returns-clause-seen
returns-clause-seen g c =
    let v = c.self.view_is in
    let p = c.self.invariant.parts_are in
    let first = c.seats_of-seats.ensures.left (items_of c.self.invariant.records) p.view in
    first.seen ∙ sym p.found ∙ same_found v ∙ c.requires.tip.1

pub returns-clause-durable : goal.returns-clause-durable
returns-clause-durable g c =
    let v = c.self.view_is in
    let p = c.self.invariant.parts_are in
    let first = c.seats_of-seats.ensures.left (items_of c.self.invariant.records) p.view in
    ap (λ (l : Least). l.durable) first.least ∙ ap (λ (l : List LogItem). length l) (sym p.found ∙ same_found v ∙ c.requires.tip.1)

pub returns-clause-known : goal.returns-clause-known
returns-clause-known g c =
    let v = c.self.view_is in
    let p = c.self.invariant.parts_are in
    let first = c.seats_of-seats.ensures.left (items_of c.self.invariant.records) p.view in
    let count = ap (λ (l : List LogItem). length l) (sym p.found ∙ same_found v ∙ c.requires.tip.1) in
    (ap (λ (l : Least). l.linked) first.least ∙ count, ap (λ (l : Least). l.indexed) first.least ∙ count, ap (λ (l : Least). l.failed) first.least)

pub returns-clause-pass : goal.returns-clause-pass
returns-clause-pass g c =
    let v = c.self.view_is in
    let p = c.self.invariant.parts_are in
    let first = c.seats_of-seats.ensures.left (items_of c.self.invariant.records) p.view in
    (subst (λ (t : TableId). IsPassOf t c.seats_of-seats.new.pass) (same_table v ∙ c.requires.tip.0) first.pass_is, first.whole)

pub returns-clause-none : goal.returns-clause-none
returns-clause-none g c =
    let first = c.seats_of-seats.ensures.left (items_of c.self.invariant.records) c.self.invariant.parts_are.view in
    (first.own, first.leaves, first.faults)

use Rattle.std.proofs.Common.{◌≡◌, ◌≤◌, ◌∙◌, ◌<◌, List, length, get_or, map, refl, ap, arith, subst, sym}
use Rattle.im_digest.specs.Digests.{Hash}
use Rattle.im_levels.specs.Leveled.{Stored}
use Rattle.im_model.specs.Entries.{entry_digest}
use Rattle.im_model.specs.History.{transaction_of}
use Rattle.im_model.specs.declared.entries.Entry.{Entry}
use Rattle.im_model.specs.declared.transactions.Transaction.{Transaction}
use Rattle.im_proof.specs.Between.{no_entry}
use Rattle.im_proof.specs.Built.{path_of}
use Rattle.im_table.specs.Histories.{history_of}
use Rattle.im_table.proofs.HistoryLemmas.{history_length}
use Rattle.im_store.specs.Proving.{IsProvedOver}
use Rattle.im_store.proofs.ProveLemmas.{built_of, built_under, headers_within, one_dual, transaction_read}
use Rattle.im_store.proofs.store.Store.shown.Goals as goal

-- what the proof is built of
pub build-requires-clause-history : goal.build-requires-clause-history
build-requires-clause-history g c =
    let hash = g.N.TipName.digest in
    let here = subst (λ (tree : Stored). IsProvedOver hash c.args.book.now tree c.args.s) (sym c.tree.ensures) c.requires.over in
    built_of _ hash c.args.book.now c.tree.result.now c.args.s c.headers.result.now c.args.self.now.hashed c.headers.ensures here

pub build-requires-clause-within : goal.build-requires-clause-within
build-requires-clause-within g c =
    omega (arith, c.requires.over.within, headers_within g.N.TipName.digest c.args.book.now c.headers.result.now c.headers.ensures)

pub build-requires-clause-tree : goal.build-requires-clause-tree
build-requires-clause-tree g c =
    let hash = g.N.TipName.digest in
    let here = subst (λ (tree : Stored). IsProvedOver hash c.args.book.now tree c.args.s) (sym c.tree.ensures) c.requires.over in
    built_under hash c.args.book.now c.tree.result.now c.args.s c.headers.result.now c.headers.ensures here

-- the transaction is there
pub bounds-transactions-at : goal.bounds-transactions-at
bounds-transactions-at g c =
    omega (
      arith,
      c.requires.some,
      c.requires.order,
      c.requires.over.within,
      ap (λ (l : List Transaction). length l) c.transactions-transactions.ensures,
      history_length c.args.book.now,
    )

pub entry_and_path-requires : goal.entry_and_path-requires
entry_and_path-requires g c =
    let within : c.args.t ≤ length c.args.book.now = omega (arith, c.requires.order, c.requires.over.within) in
    let tx : Transaction = c.index-transactions-at.result in
    let is = transaction_read c.args.book.now c.transactions-transactions.result.now c.args.t tx c.transactions-transactions.ensures c.requires.some within c.index-transactions-at.is in
    let entries : c.as_slice-entries.result.now ≡ (transaction_of (history_of c.args.book.now) c.args.t).entries =
    c.as_slice-entries.ensures ∙ ap (λ (t : Transaction). t.entries) (sym c.index-transactions-at.is ∙ is) in
    subst (λ (l : List Entry). c.args.i < length l) (sym entries) c.requires.index

pub returns-in-Ok : goal.returns-in-Ok
returns-in-Ok g c =
    let hash = g.N.TipName.digest in
    let made : Hash = g.H.Hash32.digest c.args.self.now.hash.now in
    let history : List Transaction = history_of c.args.book.now in
    let within : c.args.t ≤ length c.args.book.now = omega (arith, c.requires.order, c.requires.over.within) in
    let tx : Transaction = c.index-transactions-at.result in
    let is = transaction_read c.args.book.now c.transactions-transactions.result.now c.args.t tx c.transactions-transactions.ensures c.requires.some within c.index-transactions-at.is in
    let entries : c.as_slice-entries.result.now ≡ (transaction_of history c.args.t).entries =
    c.as_slice-entries.ensures ∙ ap (λ (t : Transaction). t.entries) (sym c.index-transactions-at.is ∙ is) in
    record {
      dual_is = one_dual _ hash history c.args.t c.args.s c.headers.result.now c.in_ok-dual.dual c.args.self.now.hashed c.requires.over.history c.headers.ensures
          c.in_ok-dual.ensures.value;
      entry_is = c.in-Ok.ensures.entry ∙ ap (λ (l : List Entry). get_or l c.args.i no_entry) entries;
      index_is = refl;
      path_is = c.in-Ok.ensures.path ∙ ap (λ (l : List Entry). path_of made (map (entry_digest made) l) c.args.i) entries
          ∙ ap (λ (h : Hash). path_of h (map (entry_digest h) (transaction_of history c.args.t).entries) c.args.i) c.args.self.now.hashed;
    }

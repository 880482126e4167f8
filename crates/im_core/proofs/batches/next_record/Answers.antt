use Rattle.std.proofs.Common.{◌≡◌, List, length, sym, ◌∙◌, ap, subst, arith}
use Rattle.im_core.proofs.BatchLemmas.{alh-is, tx-few}
use Rattle.im_digest.specs.Digests.{Hash}
use Rattle.im_format.specs.Records.{AreReferences}
use Rattle.im_model.specs.declared.entries.Entry.{Entry}
use Rattle.im_model.specs.declared.transactions.Transaction.{Transaction}
use Rattle.im_core.proofs.batches.next_record.Goals as goal

pub alh-digest-requires-clause-book : goal.alh-digest-requires-clause-book
alh-digest-requires-clause-book g c = (g.H.Hash32.digest c.args.hash.now, c.requires.book)

pub append_values-requires-clause-id : goal.append_values-requires-clause-id
append_values-requires-clause-id g c = (c.requires.some, omega (arith, c.requires.within, c.requires.book.history.few))

pub append_values-requires-clause-few : goal.append_values-requires-clause-few
append_values-requires-clause-few g c =
    let few = tx-few (g.H.Hash32.digest c.args.hash.now) c.args.book.now c.args.number c.requires.book c.requires.some c.requires.within in
    let same : c.as_slice-entries.result.now ≡ c.tx-lent.result.now.entries = c.as_slice-entries.ensures in
    omega (arith, few, ap (λ (l : List Entry). length l) (same ∙ ap (λ (t : Transaction). t.entries) c.tx-lent.ensures))

pub append_values-requires-clause-room : goal.append_values-requires-clause-room
append_values-requires-clause-room g c = c.requires.room

pub returns-clause-tx : goal.returns-clause-tx
returns-clause-tx g c = c.in_ok-tx.ensures ∙ c.tx-lent.ensures

pub returns-clause-is : goal.returns-clause-is
returns-clause-is g c =
    let hash : Hash = g.H.Hash32.digest c.args.hash.now in
    let entries : c.as_slice-entries.result.now ≡ c.in_ok-tx.tx.entries = c.as_slice-entries.ensures ∙ ap (λ (t : Transaction). t.entries) (sym c.in_ok-tx.ensures) in
    record {
      refs = subst (λ (l : List Entry). AreReferences hash c.args.number l c.in_ok-refs.refs) entries c.in_ok-refs.ensures.references;
      alh = c.alh-digest.ensures hash c.requires.book ∙ alh-is hash c.args.book.now.transactions c.args.number c.requires.some c.requires.within;
    }

pub returns-clause-put : goal.returns-clause-put
returns-clause-put g c before are = c.in_ok-refs.ensures.appended before are

pub returns-clause-ends : goal.returns-clause-ends
returns-clause-ends g c before are = c.in_ok-refs.ensures.ends before are

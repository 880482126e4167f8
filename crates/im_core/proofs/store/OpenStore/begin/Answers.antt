use Rattle.std.proofs.Common.{◌≡◌, ◌<◌, ◌≤◌, ◌+◌, ◌∙◌, ℕ, List, length, sym, ap, subst, false, arith}
use Rattle.std.proofs.lemmas.Result.{on_ok_weaker}
use Rattle.im_core.specs.Staged.{AreBehind}
use Rattle.im_core.specs.declared.store.OpenStore.{OpenStore}
use Rattle.im_core.specs.Parts.{tells, IsUp}
use Rattle.im_core.proofs.StageLemmas.{begun-up, behind-as, covers-by, first-as, idle-first, next-by, ok-then}
use Rattle.im_core.proofs.UpLemmas.{placed-count}
use Rattle.im_digest.specs.Digests.{Hash}
use Rattle.im_format.specs.declared.records.Record.{Record}
use Rattle.im_format.specs.declared.spans.Span.{Span}
use Rattle.im_journal.specs.Holding.{AreFirst, AreNext}
use Rattle.im_journal.specs.Kept.{IsInBatch}
use Rattle.im_journal.specs.declared.batches.Step.TheVariants.{Idle}
use Rattle.im_journal.specs.declared.ends.Ends.{Ends}
use Rattle.im_journal.proofs.Single.{has_piece}
use Rattle.im_machine.specs.Machines.{Machine}
use Rattle.im_core.proofs.store.OpenStore.begin.Goals as goal

-- what is known before the journal is asked
first-of : (hash : Hash) (s : OpenStore) (m : Machine) (d : ℕ) (e : Ends) → IsUp hash s m → s.stopped ≡ false → s.journal.batch.step ≡ Idle → d ≡ s.journal.durable → e ≡ s.journal.ends
    → AreFirst hash s.book.transactions m.batches d e
first-of hash s m d e u stopped idle count place =
    first-as hash m.placed s.book.transactions m.batches s.journal.durable d s.journal.ends e u.lists.placed_is count place (idle-first hash s m u stopped idle).1.first

pub records_behind-requires-clause-book : goal.records_behind-requires-clause-book
records_behind-requires-clause-book g c = c.requires.up.1.lists.book_is

pub records_behind-requires-clause-order : goal.records_behind-requires-clause-order
records_behind-requires-clause-order g c = omega (arith, c.requires.behind, c.durable-durable.ensures)

pub records_behind-requires-clause-first : goal.records_behind-requires-clause-first
records_behind-requires-clause-first g c =
    (c.requires.up.0.batches, first-of (g.H.Hash32.digest c.args.hash.now) c.args.self.now c.requires.up.0 c.durable-durable.result c.ends-ends.result.now c.requires.up.1 c.requires.going c.requires.step c.durable-durable.ensures c.ends-ends.ensures)

-- the records, by the machine's numbers
made-of : (hash : Hash) (s : OpenStore) (m : Machine) (d last : ℕ) (rs : List Record) → IsUp hash s m → d ≡ s.journal.durable → AreBehind hash s.book.transactions m.batches d last rs
    → AreBehind hash m.placed m.batches m.durable last rs
made-of hash s m d last rs u count behind = behind-as hash m.placed s.book.transactions m.batches m.durable d last rs u.lists.placed_is (count ∙ u.durable) behind

next-of : (hash : Hash) (s : OpenStore) (m : Machine) (last : ℕ) (rs : List Record) → IsUp hash s m → s.journal.durable < last → last ≤ length s.book.transactions
    → AreBehind hash m.placed m.batches m.durable last rs → AreNext hash m.placed m.batches s.journal.durable rs
next-of hash s m last rs u less within behind =
    subst (λ (n : ℕ). AreNext hash m.placed m.batches n rs) (sym u.durable)
    (next-by hash m.placed m.batches m.durable last rs (omega (arith, less, u.durable)) (omega (arith, within, placed-count hash s m u)) behind)

pub begin-answer-requires-clause-next : goal.begin-answer-requires-clause-next
begin-answer-requires-clause-next g c none =
    let hash : Hash = g.H.Hash32.digest c.args.hash.now in
    let s : OpenStore = c.args.self.now in
    let m : Machine = c.requires.up.0 in
    let u : IsUp hash s m = c.requires.up.1 in
    let rs : List Record = c.in_ok-records.records.items in
    let first = first-of hash s m c.durable-durable.result c.ends-ends.result.now u c.requires.going c.requires.step c.durable-durable.ensures c.ends-ends.ensures in
    let behind = made-of hash s m c.durable-durable.result c.args.last rs u c.durable-durable.ensures (c.in_ok-records.ensures m.batches first) in (
      hash,
      m.placed,
      m.batches,
      (idle-first hash s m u c.requires.going c.requires.step).1,
      subst (λ (l : List Record). AreNext hash m.placed m.batches s.journal.durable l) (sym c.as_slice-made.ensures.value) (next-of hash s m c.args.last rs u c.requires.behind c.requires.within behind),
    )

pub returns-clause-begun : goal.returns-clause-begun
returns-clause-begun g c m u =
    let hash : Hash = g.H.Hash32.digest c.args.hash.now in
    let s : OpenStore = c.args.self.now in
    let rs : List Record = c.in_ok-records.records.items in
    let first = first-of hash s m c.durable-durable.result c.ends-ends.result.now u c.requires.going c.requires.step c.durable-durable.ensures c.ends-ends.ensures in
    let behind = made-of hash s m c.durable-durable.result c.args.last rs u c.durable-durable.ensures (c.in_ok-records.ensures m.batches first) in
    let next = next-of hash s m c.args.last rs u c.requires.behind c.requires.within behind in
    let rest = (idle-first hash s m u c.requires.going c.requires.step).1 in
    let ens = c.begin-answer.ensures in
    let r = c.begin-answer.result in
    let j = c.begin-answer.new.self in
    let made : c.as_slice-made.result.now ≡ rs = c.as_slice-made.ensures.value in
    on_ok_weaker c.begun.result
    (λ is.
    let mid = ok-then r _ is (ens.begun hash m.placed m.batches rest (subst (λ (l : List Record). AreNext hash m.placed m.batches s.journal.durable l) (sym made) next)) in
    let pieces = ok-then r _ is ens.pieces in
    let some : 0 < length j.batch.pieces = omega (arith, ap (λ (l : List Span). length l) pieces.0, has_piece s.journal.ends (s.journal.durable + 1) c.as_slice-made.result.now) in (
      rs,
      covers-by hash m c.args.last rs behind,
      begun-up hash s m j rs u ens.disk ens.kept.1 (ens.kept.2 ∙ (u.going (sym u.stopped ∙ c.requires.going)).none) (ok-then r _ is ens.step) pieces.1 some
          (subst (λ (l : List Record). IsInBatch tells hash m.placed m.batches l j) made mid),
    ))
    c.begun.ensures

pub returns-clause-step : goal.returns-clause-step
returns-clause-step g c = on_ok_weaker c.begun.result (λ is. ok-then c.begin-answer.result _ is c.begin-answer.ensures.step) c.begun.ensures

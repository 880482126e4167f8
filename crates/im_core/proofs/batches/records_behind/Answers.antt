use Rattle.std.proofs.Common.{◌+◌, ◌≡◌, List, sym, subst, arith}
use Rattle.im_core.proofs.BatchLemmas.{made-all, made-more, made-none, AreMade}
use Rattle.im_digest.specs.Digests.{Hash}
use Rattle.im_format.specs.declared.records.Record.{Record}
use Rattle.im_core.proofs.batches.records_behind.Goals as goal

pub next_record-requires-clause-room : goal.next_record-requires-clause-room
next_record-requires-clause-room g c = c.loop-before.invariant.room

pub loop-before-init : goal.loop-before-init
loop-before-init g c =
    let hash : Hash = g.H.Hash32.digest c.args.hash.now in
    let placed = c.args.book.now.transactions in
    subst (λ (l : List Record). AreMade hash placed c.args.durable c.args.durable c.args.ends.now c.args.ends.now.values l) (sym c.in_ok-records.ensures.items)
    (made-none hash placed c.requires.first.0 c.args.durable c.args.ends.now c.requires.first.1)

pub loop-before-preserved : goal.loop-before-preserved
loop-before-preserved g c =
    let hash : Hash = g.H.Hash32.digest c.args.hash.now in
    let placed = c.args.book.now.transactions in
    let made = c.in_ok-record.ensures in
    subst (λ (l : List Record). AreMade hash placed c.args.durable (c.loop-before.before + 1) c.args.ends.now c.next_record.new.log_ends l) (sym c.in_ok-push.ensures.items)
    (made-more hash placed c.args.durable c.loop-before.before c.args.ends.now c.loop-before.log_ends c.next_record.new.log_ends c.loop-before.records.items c.in_ok-record.record
    c.loop-before.invariant c.loop-before.auto.before (omega (arith, c.loop-before-test.true, c.requires.within)) made.tx made.is made.put made.ends c.next_record.ensures.room)

pub returns : goal.returns
returns g c batches first =
    let hash : Hash = g.H.Hash32.digest c.args.hash.now in
    let all : c.loop-before.before ≡ c.args.last = omega (arith, c.loop-before-test.false, c.loop-before.auto.before-end, c.requires.order) in
    made-all hash c.args.book.now.transactions batches c.args.durable c.loop-before.before c.args.last c.args.ends.now c.loop-before.log_ends c.loop-before.records.items all
    c.loop-before.invariant first

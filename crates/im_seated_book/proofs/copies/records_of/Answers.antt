use Rattle.std.proofs.Common.{rules, ◌<◌, ◌∙◌, length}
use Rattle.im_format.specs.declared.records.Record.{Record}
use Rattle.im_seated_book.proofs.RecordLemmas.{mapped_more}
use Rattle.im_seated_book.proofs.copies.records_of.Goals as goal

pub loop-k-preserved : goal.loop-k-preserved
loop-k-preserved c =
    let one = c.in_ok-record.ensures in
    let grown = c.in_ok-push.ensures.items in
    let inv = c.loop-k.invariant in
    let within : c.loop-k.k < length c.args.transactions.now = search rules in
    let refs : c.loop-k.k < length c.args.refs.now = search rules in
    let alhs : c.loop-k.k < length c.args.alhs.now = search rules in record {
      transactions = mapped_more (λ (r : Record). r.tx) c.loop-k.records.items _ c.in_ok-record.record c.args.transactions.now _ c.loop-k.k grown inv.transactions within (one.0 ∙ c.index-transactions-k.is);
      refs = mapped_more (λ (r : Record). r.refs) c.loop-k.records.items _ c.in_ok-record.record c.args.refs.now _ c.loop-k.k grown inv.refs refs (one.1 ∙ c.as_slice.ensures ∙ c.index-refs-k.is);
      alhs = mapped_more (λ (r : Record). r.alh) c.loop-k.records.items _ c.in_ok-record.record c.args.alhs.now _ c.loop-k.k grown inv.alhs alhs one.2;
    }

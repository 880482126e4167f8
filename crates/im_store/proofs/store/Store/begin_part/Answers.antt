use Rattle.std.proofs.Common.{◌≡◌, ◌∙◌, ℕ, List, length, refl, ap, arith, subst, sym}
use Rattle.std.proofs.lemmas.Result.{on_ok_weaker}
use Rattle.im_journal.specs.declared.errors.JournalError.TheVariants as halts
use Rattle.im_format.specs.declared.records.Record.{Record}
use Rattle.im_model.specs.History.{IsHistory}
use Rattle.im_table.specs.Histories.{history_of, GoesOn}
use Rattle.im_table.specs.Records.{AreRecordsOf}
use Rattle.im_table.specs.declared.items.LogItem.{LogItem}
use Rattle.im_table.specs.declared.view.AllLooks.{AllLooks}
use Rattle.im_table.proofs.FrontLemmas.{prefix_length}
use Rattle.im_octet.proofs.Common.{if-err}
use Rattle.im_store.proofs.FlushLemmas.{always_ok, begun_memory}
use Rattle.im_store.proofs.GainLemmas.{follows_placed, follows_then}
use Rattle.im_store.proofs.store.Store.begin_part.Goals as goal

-- what is placed is behind what is durable
pub overflow_sub-placed : goal.overflow_sub-placed
overflow_sub-placed g c =
    let show = c.show-placed in
    omega (
      arith,
      c.requires.some,
      prefix_length c.args.pass.now.view.seen show.new.pass.view.seen show.ensures.later.seen,
      ap (λ (l : List LogItem). length l) show.ensures.seen.0,
      show.ensures.seen.1,
      c.durable-durable.ensures,
      ap (λ k. k.durable) c.journal.ensures,
    )

-- the list that the pass has seen is the book's
pub begin-begun-requires-clause-history : goal.begin-begun-requires-clause-history
begin-begun-requires-clause-history g c =
    let show = c.show-placed.ensures in
    subst (λ (l : List LogItem). IsHistory (history_of l)) (sym show.seen.0) show.history

pub begin-begun-requires-clause-found : goal.begin-begun-requires-clause-found
begin-begun-requires-clause-found g c =
    let show = c.show-placed.ensures in
    subst (λ (l : List LogItem). GoesOn g.N.TipName.found l) (sym show.seen.0) show.found

pub begin-begun-requires-clause-next : goal.begin-begun-requires-clause-next
begin-begun-requires-clause-next g c =
    let show = c.show-placed.ensures in
    let records = c.in_ok-records.records in
    let seen = c.show-placed.new.pass.view.seen in
    let durable = c.durable-durable.ensures ∙ ap (λ k. k.durable) c.journal.ensures in
    let here = subst (λ (l : List LogItem). AreRecordsOf g.N.TipName.digest l c.durable-durable.result records.items) (sym show.seen.0) c.in_ok-records.ensures.records in
    subst (λ (l : List Record). AreRecordsOf g.N.TipName.digest seen c.args.journal.now.durable l) (sym c.as_slice.ensures.value)
    (subst (λ (n : ℕ). AreRecordsOf g.N.TipName.digest seen n records.items) durable here)

pub begin-begun-requires-clause-some : goal.begin-begun-requires-clause-some
begin-begun-requires-clause-some g c =
    omega (arith, c.in_ok-records.ensures.count, c.halved-count.ensures.some, ap (λ (l : List Record). length l) c.as_slice.ensures.value)

pub returns-clause-follows : goal.returns-clause-follows
returns-clause-follows g c =
    let show = c.show-placed in
    let begun = c.begin-begun in
    let a = follows_placed show.result c.args.pass.now show.new.pass show.ensures.later show.ensures.adds show.ensures.looks in
    let b = follows_placed begun.ensures.looks.0 show.new.pass begun.new.pass begun.ensures.later begun.ensures.adds begun.ensures.looks.2 in
    follows_then 0 c.args.pass.now show.new.pass begun.new.pass a b

pub returns-clause-placed : goal.returns-clause-placed
returns-clause-placed g c =
    let show = c.show-placed in
    let begun = c.begin-begun in
    omega (
      arith,
      prefix_length c.args.pass.now.view.seen show.new.pass.view.seen show.ensures.later.seen,
      prefix_length show.new.pass.view.seen begun.new.pass.view.seen begun.ensures.later.seen,
      begun.ensures.looks.1,
      ap (λ (l : AllLooks). l.placed.last) begun.ensures.looks.2,
    )

pub returns-clause-failed : goal.returns-clause-failed
returns-clause-failed g c =
    ap (λ (l : AllLooks). l.failed) c.begin-begun.ensures.looks.2 ∙ ap (λ (l : AllLooks). l.failed) c.show-placed.ensures.looks

pub returns-clause-durable : goal.returns-clause-durable
returns-clause-durable g c =
    ap (λ (l : AllLooks). l.durable) c.begin-begun.ensures.looks.2 ∙ ap (λ (l : AllLooks). l.durable) c.show-placed.ensures.looks

pub returns-in_err-records-clause-follows : goal.returns-in_err-records-clause-follows
returns-in_err-records-clause-follows g c =
    let show = c.show-placed in
    follows_placed show.result c.args.pass.now show.new.pass show.ensures.later show.ensures.adds show.ensures.looks

pub returns-in_err-records-clause-placed : goal.returns-in_err-records-clause-placed
returns-in_err-records-clause-placed g c =
    let show = c.show-placed in
    omega (
      arith,
      prefix_length c.args.pass.now.view.seen show.new.pass.view.seen show.ensures.later.seen,
      ap (λ (l : List LogItem). length l) show.ensures.seen.0,
      show.ensures.seen.1,
      ap (λ (l : AllLooks). l.placed.last) show.ensures.looks,
    )

pub returns-in_err-records-clause-failed : goal.returns-in_err-records-clause-failed
returns-in_err-records-clause-failed g c = ap (λ (l : AllLooks). l.failed) c.show-placed.ensures.looks

pub returns-in_err-records-clause-durable : goal.returns-in_err-records-clause-durable
returns-in_err-records-clause-durable g c = ap (λ (l : AllLooks). l.durable) c.show-placed.ensures.looks

pub returns-in_err-records-clause-memory : goal.returns-in_err-records-clause-memory
returns-in_err-records-clause-memory g c = if-err (λ cause. cause ≡ halts.Memory) c.from_residual.result halts.Memory c.from_residual.ensures.1 refl

-- a batch is begun, or there is no memory for it
pub returns-clause-words : goal.returns-clause-words
returns-clause-words g c = always_ok c.begin-begun.result _ c.begin-begun.ensures.words

pub returns-clause-begun : goal.returns-clause-begun
returns-clause-begun g c = on_ok_weaker c.begin-begun.result (λ staging idle. cc (staging, idle)) c.begin-begun.ensures.step

pub returns-clause-going : goal.returns-clause-going
returns-clause-going g c = c.begin-begun.ensures.kept.2 ∙ c.requires.going

pub returns-clause-memory : goal.returns-clause-memory
returns-clause-memory g c =
    begun_memory c.begin-begun.result (λ n stop. omega (arith, c.requires.going, c.begin-begun.ensures.going n stop)) c.begin-begun.ensures.device

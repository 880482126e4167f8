use Rattle.std.proofs.Common.{rules, ◌≡◌, ◌≤◌, ◌∙◌, List, length, ap, sym, subst}
use Rattle.im_table.specs.Histories.{history_of}
use Rattle.im_table.specs.Records.{AreRecordsOf}
use Rattle.im_table.specs.declared.items.LogItem.{LogItem}
use Rattle.im_table.specs.declared.view.View.{View}
use Rattle.im_journal.specs.Kept.{Kept}
use Rattle.im_seated_journal.specs.Seats.{ServesItems}
use Rattle.im_journal.specs.declared.batches.Step.TheVariants.{Idle}
use Rattle.im_seated_journal.proofs.BeginLemmas.{begin_count, begin_serves, ready_for}
use Rattle.im_seated_journal.proofs.ServeLemmas.{serves_later}
use Rattle.im_seated_journal.proofs.seated.SeatedJournal.begin.Goals as goal

pub begin-answer-requires-clause-idle : goal.begin-answer-requires-clause-idle
begin-answer-requires-clause-idle g c = subst (λ (k : Kept g.row.D.Denot). k.failures ≡ 0 → k.batch.step ≡ Idle) (sym c.self.view_is) c.requires.idle

pub begin-answer-requires-clause-next : goal.begin-answer-requires-clause-next
begin-answer-requires-clause-next g c sound =
    let k = c.self.inside.journal in
    let s = serves_later c.fetch.ensures.theirs c.self.invariant.3 in
    let idle = subst (λ (k : Kept g.row.D.Denot). k.failures ≡ 0 → k.batch.step ≡ Idle) (sym c.self.view_is) c.requires.idle in
    let are = subst (λ (k : Kept g.row.D.Denot). AreRecordsOf g.N.TipName.digest c.args.pass.now.view.seen k.durable c.args.records.now) (sym c.self.view_is) c.requires.next in
    let a = ready_for c.args.tip.now.logs _ _ c.args.records.now k s sound (idle sound) c.fetch.ensures.mine c.requires.history c.requires.found c.load_placed.ensures.sees.lawful.laid c.requires.some are in
    (g.N.TipName.digest, history_of a.items, s.batches, a.rest, a.next)

pub invariant_of-self : goal.invariant_of-self
invariant_of-self g c =
    let k = c.self.inside.journal in
    let call = c.begin-answer.ensures in
    let rs = c.args.records.now in
    let list = c.fetch.new.pass.view.seen in
    let new = c.begin-answer.new.self in
    let seen : View → List LogItem = λ v. v.seen in
    let s = serves_later c.fetch.ensures.theirs c.self.invariant.3 in
    let idle = subst (λ (k : Kept g.row.D.Denot). k.failures ≡ 0 → k.batch.step ≡ Idle) (sym c.self.view_is) c.requires.idle in
    let are = subst (λ (k : Kept g.row.D.Denot). AreRecordsOf g.N.TipName.digest c.args.pass.now.view.seen k.durable rs) (sym c.self.view_is) c.requires.next in
    let after = begin_serves list rs k new c.begin-answer.result s idle
    (λ sound. ready_for c.args.tip.now.logs _ _ rs k s sound (idle sound) c.fetch.ensures.mine c.requires.history c.requires.found c.load_placed.ensures.sees.lawful.laid c.requires.some are)
    c.requires.some call.begun call.step call.pieces call.disk call.kept call.err (λ failed. (call.stopped failed).0) in (
      search rules,
      search rules,
      search rules,
      subst (λ (l : List LogItem). ServesItems g.D.Disk.told g.D.Disk.faults g.N.TipName.digest g.N.TipName.found g.N.TipName.synced g.N.TipName.faults l new)
          (sym (ap seen c.split.ensures.right.1 ∙ ap seen c.load_placed.ensures.sees.view)) after,
    )

pub returns-clause-looks : goal.returns-clause-looks
returns-clause-looks g c =
    let before : length c.split.new.pass.view.seen ≤ c.load_placed.result = search rules in
    (c.load_placed.result, before, search rules)

pub returns-clause-count : goal.returns-clause-count
returns-clause-count g c =
    let k = c.self.inside.journal in
    let call = c.begin-answer.ensures in
    let rs = c.args.records.now in
    let s = serves_later c.fetch.ensures.theirs c.self.invariant.3 in
    let idle = subst (λ (k : Kept g.row.D.Denot). k.failures ≡ 0 → k.batch.step ≡ Idle) (sym c.self.view_is) c.requires.idle in
    let are = subst (λ (k : Kept g.row.D.Denot). AreRecordsOf g.N.TipName.digest c.args.pass.now.view.seen k.durable rs) (sym c.self.view_is) c.requires.next in
    begin_count c.fetch.new.pass.view.seen rs k c.begin-answer.new.self c.begin-answer.result s
    (λ sound. ready_for c.args.tip.now.logs _ _ rs k s sound (idle sound) c.fetch.ensures.mine c.requires.history c.requires.found c.load_placed.ensures.sees.lawful.laid c.requires.some are)
    call.begun (λ failed. (call.stopped failed).0)

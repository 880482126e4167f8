use Rattle.std.proofs.Common.{rules, ◌≡◌, ◌≤◌, ◌+◌, ℕ, List, ap, sym, subst, arith}
use Rattle.std.specs.Prelude.{◌⊎◌, IsSome}
use Rattle.im_digest.specs.Digests.{Hash}
use Rattle.im_table.specs.Histories.{history_of}
use Rattle.im_table.specs.declared.items.LogItem.{LogItem}
use Rattle.im_table.specs.declared.view.View.{View}
use Rattle.im_journal.specs.Kept.{Kept}
use Rattle.im_seated_journal.specs.Seats.{ServesItems}
use Rattle.im_journal.specs.Values.{HoldsBatches}
use Rattle.im_seated_journal.proofs.SeatReads.{one_more, read_calm, read_one, read_rose, value_held}
use Rattle.im_seated_journal.proofs.ServeLemmas.{serves_later}
use Rattle.im_seated_journal.proofs.StepLemmas.{read_goes}
use Rattle.im_seated_journal.proofs.seated.SeatedJournal.read_value.Goals as goal

pub put_back-requires-clause-one : goal.put_back-requires-clause-one
put_back-requires-clause-one g c =
    let one = read_one _ _ c.self.inside.journal.failures c.read_value-answer.new.self.failures c.read_value-answer.result (omega arith) c.read_value-answer.ensures.counted in
    subst (λ (n : ℕ). (n ≡ c.failures-before.result) ⊎ (n ≡ c.failures-before.result + 1)) (sym c.failures.ensures)
    (subst (λ (n : ℕ). (c.read_value-answer.new.self.failures ≡ n) ⊎ (c.read_value-answer.new.self.failures ≡ n + 1)) (sym c.failures-before.ensures) one)

pub invariant_of-self : goal.invariant_of-self
invariant_of-self g c =
    let faults = g.D.Disk.faults in
    let before = g.N.TipName.faults in
    let seen : View → List LogItem = λ v. v.seen in
    let old = c.self.inside.journal in
    let new = c.read_value-answer.new.self in
    let call = c.read_value-answer.ensures in
    let result = c.read_value-answer.result in
    let s = serves_later c.fetch.ensures.theirs c.self.invariant.3 in
    let more : old.failures ≤ new.failures = one_more old.failures new.failures (read_one _ _ old.failures new.failures result (omega arith) call.counted) in
    let after = read_goes c.fetch.new.pass.view.seen old new s call.told call.kept call.at_rest call.in_batch call.held more
    (read_rose before (faults old.disk) (faults new.disk) old.failures new.failures result s.rose call.counted)
    (read_calm before (faults old.disk) (faults new.disk) old.failures new.failures result s.calm call.counted) in (
      search rules,
      search rules,
      search rules,
      subst (λ (l : List LogItem). ServesItems g.D.Disk.told g.D.Disk.faults g.N.TipName.digest g.N.TipName.found g.N.TipName.synced g.N.TipName.faults l new) (sym (ap seen c.put_back.ensures.keeper.1)) after,
    )

pub returns-clause-placed : goal.returns-clause-placed
returns-clause-placed g c octets has some =
    let old = c.self.inside.journal in
    let mine = c.args.pass.now.view.seen in
    let s = serves_later c.fetch.ensures.theirs c.self.invariant.3 in
    let known : c.fetch.new.pass.view.least.durable ≡ old.durable = search rules in
    let few : c.args.pass.now.view.least.durable ≤ old.durable = omega (arith, known, c.fetch.ensures.durable.0) in
    let value = value_held mine c.fetch.new.pass.view.seen c.args.pass.now.view.least.durable old octets c.args.value.now s c.fetch.ensures.mine few has in
    let holds = subst (λ (h : Hash). HoldsBatches g.D.Disk.told h (history_of s.items) s.batches old) (sym c.requires.hash) s.holds in
    let tells = subst (λ (k : Kept g.row.D.Denot). IsSome (g.D.Disk.told k.disk)) (sym c.self.view_is) some in
    c.read_value-answer.ensures.placed (history_of s.items) s.batches octets holds tells value

pub returns-clause-sound : goal.returns-clause-sound
returns-clause-sound g c octets want got has some =
    let old = c.self.inside.journal in
    let mine = c.args.pass.now.view.seen in
    let s = serves_later c.fetch.ensures.theirs c.self.invariant.3 in
    let known : c.fetch.new.pass.view.least.durable ≡ old.durable = search rules in
    let few : c.args.pass.now.view.least.durable ≤ old.durable = omega (arith, known, c.fetch.ensures.durable.0) in
    let value = value_held mine c.fetch.new.pass.view.seen c.args.pass.now.view.least.durable old octets c.args.value.now s c.fetch.ensures.mine few has in
    let holds = subst (λ (h : Hash). HoldsBatches g.D.Disk.told h (history_of s.items) s.batches old) (sym c.requires.hash) s.holds in
    let tells = subst (λ (k : Kept g.row.D.Denot). IsSome (g.D.Disk.told k.disk)) (sym c.self.view_is) some in
    c.read_value-answer.ensures.sound (history_of s.items) s.batches octets want got holds tells value

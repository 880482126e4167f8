use Rattle.std.proofs.Common.{arith, true, ℕ, refl, ◌≡◌, ◌∙◌, length, take, sym, ap, subst, List, drop, Ok, ◌+◌}
use Rattle.im_disk.specs.Moments.{Leaves}
use Rattle.im_format.specs.Standing.{Stands}
use Rattle.im_journal.specs.Kept.{HasStaged, StandsBy}
use Rattle.im_journal.specs.declared.batches.Step.{Step}
use Rattle.im_journal.specs.declared.batches.Step.TheVariants.{Idle, Staging}
use Rattle.im_journal.specs.declared.errors.JournalError.TheVariants.{DiskFault, Memory, Stopped}
use Rattle.im_journal.proofs.Held.{held_by}
use Rattle.im_journal.proofs.Mids.{can_stay, err_then, mid_of, ok_isnt, rest_of, staged_left}
use Rattle.im_format.specs.declared.spans.Span.{Span}
use Rattle.im_journal.specs.Made.{Makes, calls_to_stage, spans_to_stage, writes_of}
use Rattle.im_journal.specs.Pieces.{pieces_of}
use Rattle.im_journal.proofs.Making.{left_as, none_makes, stage_none, unbegun_makes}
use Rattle.im_journal.proofs.journal.Journal.stage.Goals as goal

pub returns-in_err-go-clause-any_moment : goal.returns-in_err-go-clause-any_moment
returns-in_err-go-clause-any_moment g c hash history batches rs can = can_stay g.D.Disk.told hash history batches rs c.args.records.now c.args.self.now can

pub returns-in_err-begin_batch-in-Idle-clause-any_moment : goal.returns-in_err-begin_batch-in-Idle-clause-any_moment
returns-in_err-begin_batch-in-Idle-clause-any_moment g c hash history batches rs can =
    let now = c.args.self.now in
    subst (λ d. Leaves (StandsBy now.batch.step hash history now.durable (length rs)) (g.D.Disk.told now.disk) (g.D.Disk.told d)) (sym c.begin_batch.ensures.disk)
    (can_stay g.D.Disk.told hash history batches rs c.args.records.now now can)

pub returns-in_ok-begin_batch-in-Idle-clause-any_moment : goal.returns-in_ok-begin_batch-in-Idle-clause-any_moment
returns-in_ok-begin_batch-in-Idle-clause-any_moment g c hash history batches rs can =
    let told = g.D.Disk.told in
    let now = c.args.self.now in
    let end = told c.put_batch.new.self.disk in
    let idle : now.batch.step ≡ Idle = sym (ap (λ k. k.batch.step) c.self.view_is) ∙ c.in-Idle.is in
    let rest = rest_of told hash history batches rs c.args.records.now now can idle in
    let mid = c.in_ok-begin_batch-in-Idle.ensures.ok hash history batches rest.0 rest.1 in
    let one = c.put_batch.ensures.any_moment hash history batches c.args.records.now mid in
    let two = subst (λ d. Leaves (λ image. Stands hash image (take c.begin_batch.new.self.durable history)) (told d) end) c.begin_batch.ensures.disk one in
    let three = subst (λ (n : ℕ). Leaves (λ image. Stands hash image (take n history)) (told now.disk) end) c.begin_batch.ensures.kept.1 two in
    subst (λ (s : Step). Leaves (StandsBy s hash history now.durable (length rs)) (told now.disk) end) (sym idle) three

pub returns-in-Staging-clause-any_moment : goal.returns-in-Staging-clause-any_moment
returns-in-Staging-clause-any_moment g c hash history batches rs can =
    let told = g.D.Disk.told in
    let now = c.args.self.now in
    let staging : now.batch.step ≡ Staging = sym (ap (λ k. k.batch.step) c.self.view_is) ∙ c.in-Staging.is in
    let mid = mid_of told hash history batches rs c.args.records.now now can (λ idle. cc) in
    subst (λ (s : Step). Leaves (StandsBy s hash history now.durable (length rs)) (told now.disk) (told c.put_batch-in-Staging.new.self.disk)) (sym staging)
    (c.put_batch-in-Staging.ensures.any_moment hash history batches rs mid)

pub returns-in_default : goal.returns-in_default
returns-in_default g c =
    let now = c.args.self.now in
    let zero : now.failures ≡ 0 = c.in_ok-go.ensures.going (refl {a = true}) in
    let not_idle : now.batch.step ≡ Idle → ⊥ = λ e. c.in_default.not-Idle (ap (λ k. k.batch.step) c.self.view_is ∙ e) in
    let not_staging : now.batch.step ≡ Staging → ⊥ = λ e. c.in_default.not-Staging (ap (λ k. k.batch.step) c.self.view_is ∙ e) in
    record {
      staged = λ hash history batches rs can.
          (mid_of g.D.Disk.told hash history batches rs c.args.records.now now can not_idle, staged_left now.batch.step not_idle not_staging);
      again = λ hash history batches rs can e. absurd (ok_isnt tt Memory e);
      any_moment = λ hash history batches rs can. can_stay g.D.Disk.told hash history batches rs c.args.records.now now can;
      held = λ hash history batches rs can e. absurd (ok_isnt tt DiskFault e);
      kept = (refl, refl);
      left = λ e. absurd (ok_isnt tt DiskFault e);
      unstaged = λ e. absurd (ok_isnt tt Memory e);
      calls = subst (λ (l : List Span). Makes DiskFault Memory (writes_of l) (calls_to_stage now c.args.records.now) (g.D.Disk.told now.disk) (g.D.Disk.told now.disk) (Ok tt))
          (sym (stage_none now.batch.step now c.args.records.now not_idle not_staging)) (none_makes tt (calls_to_stage now c.args.records.now) (g.D.Disk.told now.disk));
      counted = record { later = omega arith; rose = λ e. absurd (ok_isnt tt DiskFault e); more = λ e. absurd (ok_isnt tt DiskFault e); faults = λ n. refl; failures = λ n. refl };
      stopped = λ lt. absurd (omega (arith, zero, lt));
      nothing = λ none has. (refl, refl);
      going = λ faults e. absurd (ok_isnt tt (Stopped faults) e);
      step = λ no. absurd (no (staged_left now.batch.step not_idle not_staging));
    }

pub returns-in_err-begin_batch-in-Idle-clause-nothing : goal.returns-in_err-begin_batch-in-Idle-clause-nothing
returns-in_err-begin_batch-in-Idle-clause-nothing g c zero has = absurd (subst HasStaged (sym (ap (λ k. k.batch.step) c.self.view_is) ∙ c.in-Idle.is) has)

pub returns-in_ok-begin_batch-in-Idle-clause-nothing : goal.returns-in_ok-begin_batch-in-Idle-clause-nothing
returns-in_ok-begin_batch-in-Idle-clause-nothing g c zero has = absurd (subst HasStaged (sym (ap (λ k. k.batch.step) c.self.view_is) ∙ c.in-Idle.is) has)

pub returns-in-Staging-clause-nothing : goal.returns-in-Staging-clause-nothing
returns-in-Staging-clause-nothing g c zero has = absurd (subst HasStaged (sym (ap (λ k. k.batch.step) c.self.view_is) ∙ c.in-Staging.is) has)

pub returns-in_ok-begin_batch-in-Idle-clause-calls : goal.returns-in_ok-begin_batch-in-Idle-clause-calls
returns-in_ok-begin_batch-in-Idle-clause-calls g c =
    let told = g.D.Disk.told in
    let now = c.args.self.now in
    let k = c.begin_batch.new.self in
    let end = told c.put_batch.new.self.disk in
    let idle : now.batch.step ≡ Idle = sym (ap (λ k. k.batch.step) c.self.view_is) ∙ c.in-Idle.is in
    let pieces = c.in_ok-begin_batch-in-Idle.ensures.pieces in
    let all : drop k.batch.written k.batch.pieces ≡ pieces_of now.ends (now.durable + 1) c.args.records.now = ap (λ (n : ℕ). drop n k.batch.pieces) pieces.1 ∙ pieces.0 in
    let handed = c.args.records.now in
    let new = c.put_batch.new.self in
    let result = c.put_batch.result in
    let left = writes_of (drop new.batch.written new.batch.pieces) in
    let calls = writes_of (pieces_of now.ends (now.durable + 1) handed) in
    let one = subst (λ (l : List Span). Makes DiskFault Memory (writes_of l) left (told k.disk) end result) all c.put_batch.ensures.calls in
    let two = subst (λ d. Makes DiskFault Memory calls left (told d) end result) c.begin_batch.ensures.disk one in
    let three = left_as calls left (calls_to_stage new handed) (told now.disk) end result
    (λ e. ap (λ (s : Step). writes_of (spans_to_stage s new handed)) (sym (err_then result Memory (new.batch.step ≡ Staging) c.put_batch.ensures.stays e))) two in
    subst (λ (s : Step). Makes DiskFault Memory (writes_of (spans_to_stage s now handed)) (calls_to_stage new handed) (told now.disk) end result) (sym idle) three

pub returns-in-Staging-clause-calls : goal.returns-in-Staging-clause-calls
returns-in-Staging-clause-calls g c =
    let told = g.D.Disk.told in
    let now = c.args.self.now in
    let staging : now.batch.step ≡ Staging = sym (ap (λ k. k.batch.step) c.self.view_is) ∙ c.in-Staging.is in
    let handed = c.args.records.now in
    let new = c.put_batch-in-Staging.new.self in
    let result = c.put_batch-in-Staging.result in
    let calls = writes_of (drop now.batch.written now.batch.pieces) in
    let left = writes_of (drop new.batch.written new.batch.pieces) in
    subst (λ (s : Step). Makes DiskFault Memory (writes_of (spans_to_stage s now handed)) (calls_to_stage new handed) (told now.disk) (told new.disk) result) (sym staging)
    (left_as calls left (calls_to_stage new handed) (told now.disk) (told new.disk) result
    (λ e. ap (λ (s : Step). writes_of (spans_to_stage s new handed)) (sym (err_then result Memory (new.batch.step ≡ Staging) c.put_batch-in-Staging.ensures.stays e)))
    c.put_batch-in-Staging.ensures.calls)

pub returns-in_err-begin_batch-in-Idle-clause-calls : goal.returns-in_err-begin_batch-in-Idle-clause-calls
returns-in_err-begin_batch-in-Idle-clause-calls g c =
    let told = g.D.Disk.told in
    let now = c.args.self.now in
    let result = c.from_residual-in_err-begin_batch-in-Idle.result in
    let handed = c.args.records.now in
    let same : c.begin_batch.new.self ≡ now = c.in_err-begin_batch-in-Idle.ensures.err in
    subst (λ k. Makes DiskFault Memory (calls_to_stage now handed) (calls_to_stage k handed) (told now.disk) (told k.disk) result) (sym same)
    (unbegun_makes (calls_to_stage now handed) (told now.disk) result c.from_residual-in_err-begin_batch-in-Idle.ensures.1)

pub returns-in_ok-begin_batch-in-Idle-clause-left : goal.returns-in_ok-begin_batch-in-Idle-clause-left
returns-in_ok-begin_batch-in-Idle-clause-left g c e = err_then c.put_batch.result DiskFault (c.put_batch.new.self.batch.step ≡ Staging) c.put_batch.ensures.stays e

pub returns-in-Staging-clause-left : goal.returns-in-Staging-clause-left
returns-in-Staging-clause-left g c e = err_then c.put_batch-in-Staging.result DiskFault (c.put_batch-in-Staging.new.self.batch.step ≡ Staging) c.put_batch-in-Staging.ensures.stays e

pub returns-in_ok-begin_batch-in-Idle-clause-held : goal.returns-in_ok-begin_batch-in-Idle-clause-held
returns-in_ok-begin_batch-in-Idle-clause-held g c hash history batches rs can e =
    let told = g.D.Disk.told in
    let now = c.args.self.now in
    let handed = c.args.records.now in
    let idle : now.batch.step ≡ Idle = sym (ap (λ k. k.batch.step) c.self.view_is) ∙ c.in-Idle.is in
    let rest = rest_of told hash history batches rs handed now can idle in
    let mid = c.in_ok-begin_batch-in-Idle.ensures.ok hash history batches rest.0 rest.1 in
    held_by told hash history batches handed c.begin_batch.new.self c.put_batch.new.self Staging mid c.put_batch.ensures.kept.0 c.put_batch.ensures.kept.1
    (c.put_batch.ensures.any_moment hash history batches handed mid).1 (c.put_batch.ensures.here hash history batches handed mid)

pub returns-in-Staging-clause-held : goal.returns-in-Staging-clause-held
returns-in-Staging-clause-held g c hash history batches rs can e =
    let told = g.D.Disk.told in
    let now = c.args.self.now in
    let staging : now.batch.step ≡ Staging = sym (ap (λ k. k.batch.step) c.self.view_is) ∙ c.in-Staging.is in
    let mid = mid_of told hash history batches rs c.args.records.now now can (λ idle. cc) in
    held_by told hash history batches rs now c.put_batch-in-Staging.new.self Staging mid c.put_batch-in-Staging.ensures.kept.0 c.put_batch-in-Staging.ensures.kept.1
    (c.put_batch-in-Staging.ensures.any_moment hash history batches rs mid).1 (c.put_batch-in-Staging.ensures.here hash history batches rs mid)

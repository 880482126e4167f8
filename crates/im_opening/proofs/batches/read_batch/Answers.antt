use Rattle.std.proofs.Common.{arith, ◌≡◌, ◌+◌, ℕ, length, refl, sym, ◌∙◌, ap, subst, Ok, Err, ne_eqb, if◌then◌else◌}
use Rattle.im_clog.specs.Marks.{mark_at}
use Rattle.im_disk.specs.Disk.{seen}
use Rattle.std.proofs.lemmas.Bool.{eq-eqb}
use Rattle.im_format.specs.Damages.{Reached, batch_checks, numbers}
use Rattle.im_mtree.specs.Checks.{first_fail}
use Rattle.im_opening.specs.Parts.{mark_checks}
use Rattle.im_opening.specs.Reach.{reached_of}
use Rattle.im_format.specs.declared.damages.Damage.{Damage}
use Rattle.im_opening.specs.declared.errors.OpenError.TheVariants.{Damaged}
use Rattle.im_opening.proofs.BatchFinds.{end-finds, mark-tells, records-tell}
use Rattle.im_opening.proofs.Finding.{at-told, cause-err, cause-ok, cause-other, judge-err, ok-leaves}
use Rattle.im_opening.proofs.batches.read_batch.Goals as goal

pub returns-in_err-check_mark-clause-first : goal.returns-in_err-check_mark-clause-first
returns-in_err-check_mark-clause-first g c t is =
    let hash = g.H.Hash32.digest c.args.hash.now in
    let p = c.args.progress.now in
    let d = c.in_err-check_mark.field-0.0 in
    let mark = at-told (λ t. c.args.mark.now ≡ mark_at (seen t 1) c.args.gate) (g.D.Disk.told c.args.disk.now) t c.requires.mark is in
    let same : c.len.result ≡ length p.alhs.items = omega (arith, c.len.ensures, p.alhs.ok) in
    let P : ℕ → Type 0 = λ n. first_fail (mark_checks c.args.mark.now c.args.gate n) ≡ Err d in
    judge-err _ _ (Damaged d) c.from_residual.ensures.1
    (mark-tells hash (seen t) c.args.mark.now c.args.gate (reached_of p) mark (Damaged d) (subst P same (sym c.in_err-check_mark.ensures.first)))

pub returns-in_err-read_records-clause-first : goal.returns-in_err-read_records-clause-first
returns-in_err-read_records-clause-first g c t is =
    let hash = g.H.Hash32.digest c.args.hash.now in
    let p = c.args.progress.now in
    let e = c.in_err-read_records.field-0.0 in
    let mark = at-told (λ t. c.args.mark.now ≡ mark_at (seen t 1) c.args.gate) (g.D.Disk.told c.args.disk.now) t c.requires.mark is in
    let same : c.len.result ≡ length p.alhs.items = omega (arith, c.len.ensures, p.alhs.ok) in
    let P : ℕ → Type 0 = λ n. first_fail (mark_checks c.args.mark.now c.args.gate n) ≡ Ok tt in
    judge-err _ _ e c.from_residual-in_err-read_records.ensures.1
    (records-tell hash (seen t) c.args.mark.now c.args.gate (reached_of p) mark e (subst P same (sym c.in_ok-check_mark.ensures.first))
    (c.in_err-read_records.ensures.first t is).is)

pub returns-then-mark-progress-clause-first : goal.returns-then-mark-progress-clause-first
returns-then-mark-progress-clause-first g c t is =
    let hash = g.H.Hash32.digest c.args.hash.now in
    let p = c.args.progress.now in
    let now = c.read_records.new.progress in
    let m = c.args.mark.now in
    let mark = at-told (λ t. m ≡ mark_at (seen t 1) c.args.gate) (g.D.Disk.told c.args.disk.now) t c.requires.mark is in
    let same : c.len.result ≡ length p.alhs.items = omega (arith, c.len.ensures, p.alhs.ok) in
    let P : ℕ → Type 0 = λ n. first_fail (mark_checks m c.args.gate n) ≡ Ok tt in
    let place = ap (λ (r : Reached). r.place) (c.in_ok-read_records.ensures.read t is).reached_is in
    let d = numbers 1 (c.args.gate + 17) now.place m.end in
    let Q : Damage → Type 0 = λ x. first_fail (batch_checks hash (seen t) c.args.gate (reached_of p)) ≡ Err x in
    record {
      is = subst Q (sym c.damage-found.ensures)
          (end-finds hash (seen t) m c.args.gate (reached_of p) mark now.place place (subst P same (sym c.in_ok-check_mark.ensures.first))
          (c.in_ok-read_records.ensures.first t is).is
          ∙ ap (λ b. if b then Ok tt else Err d) (ne_eqb m.end now.place c.if-mark-progress.true));
    }

pub returns-clause-first : goal.returns-clause-first
returns-clause-first g c t is =
    let hash = g.H.Hash32.digest c.args.hash.now in
    let p = c.args.progress.now in
    let now = c.read_records.new.progress in
    let m = c.args.mark.now in
    let mark = at-told (λ t. m ≡ mark_at (seen t 1) c.args.gate) (g.D.Disk.told c.args.disk.now) t c.requires.mark is in
    let same : c.len.result ≡ length p.alhs.items = omega (arith, c.len.ensures, p.alhs.ok) in
    let P : ℕ → Type 0 = λ n. first_fail (mark_checks m c.args.gate n) ≡ Ok tt in
    let place = ap (λ (r : Reached). r.place) (c.in_ok-read_records.ensures.read t is).reached_is in
    let d = numbers 1 (c.args.gate + 17) now.place m.end in
    record {
      is =
          end-finds hash (seen t) m c.args.gate (reached_of p) mark now.place place (subst P same (sym c.in_ok-check_mark.ensures.first))
          (c.in_ok-read_records.ensures.first t is).is
          ∙ ap (λ b. if b then Ok tt else Err d) (eq-eqb m.end now.place c.if-mark-progress.false);
    }

pub returns-in_err-check_mark-clause-cause : goal.returns-in_err-check_mark-clause-cause
returns-in_err-check_mark-clause-cause g c =
    let d = c.in_err-check_mark.field-0.0 in
    cause-err _ _ (Damaged d) _ (cause-other {U = Unit {0}} _ _ (Damaged d) refl (λ e. absurd (cc (e)))) c.from_residual.ensures.1

pub returns-in_err-read_records-clause-cause : goal.returns-in_err-read_records-clause-cause
returns-in_err-read_records-clause-cause g c =
    cause-err _ _ c.in_err-read_records.field-0.0 _ c.in_err-read_records.ensures.cause c.from_residual-in_err-read_records.ensures.1

pub returns-then-mark-progress-clause-cause : goal.returns-then-mark-progress-clause-cause
returns-then-mark-progress-clause-cause g c =
    cause-other _ _ (Damaged c.damage-found.result) (ok-leaves _ _ tt c.in_ok-read_records.ensures.cause) (λ e. absurd (cc (e)))

pub returns-clause-cause : goal.returns-clause-cause
returns-clause-cause g c = cause-ok _ _ _ (ok-leaves _ _ tt c.in_ok-read_records.ensures.cause)

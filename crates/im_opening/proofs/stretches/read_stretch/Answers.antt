use Rattle.std.proofs.Common.{arith, ◌≡◌, ℕ, List, refl, ◌∙◌, ap, subst}
use Rattle.std.proofs.lemmas.Bool.{false≢true}
use Rattle.im_clog.specs.Marks.{mark_at}
use Rattle.im_clog.specs.declared.marks.Mark.{Mark}
use Rattle.im_disk.specs.Disk.{seen}
use Rattle.im_format.specs.Batches.{Counts}
use Rattle.im_format.specs.Damages.{image_checks}
use Rattle.im_opening.specs.Reach.{reached_of}
use Rattle.im_opening.proofs.BatchesLeft.{batches-tell}
use Rattle.im_opening.proofs.Finding.{at-told, ok-leaves, tell-err}
use Rattle.im_opening.proofs.StretchLemmas.{left-next, reached-next}
use Rattle.im_opening.proofs.stretches.read_stretch.Goals as goal

pub batches-init : goal.batches-init
batches-init g c = record { told = refl; faults = refl; on = omega arith; reached = c.requires.reached; left = c.requires.left }

pub batches-preserved : goal.batches-preserved
batches-preserved g c =
    let hash = g.H.Hash32.digest c.args.hash.now in
    let inv = c.batches.invariant in
    let commits = c.args.commits.now in
    let ens = c.in_ok-read_batch-in-Ok.ensures in
    let counted : Counts commits c.batches.reading.gate = c.in-Ok.ensures.counts.0 refl in
    record {
      told = ens.told ∙ inv.told;
      faults = ok-leaves _ _ c.in_ok-read_batch-in-Ok.field-0 ens.cause ∙ inv.faults;
      on = omega (arith, inv.on);
      reached =
          reached-next hash commits c.args.source.now.log.now c.batches.reading _ c.in-Ok.mark.count inv.reached refl refl counted.whole
          ens.more ens.some ens.within ens.fits ens.whole;
      left =
          left-next hash (g.D.Disk.told c.args.disk.now) c.batches.reading _ c.in-Ok.mark.count inv.left refl refl
          (λ t is.
          let log = at-told (λ t. commits ≡ seen t 1) (g.D.Disk.told c.args.disk.now) t c.requires.commits is in
          let C : List ℕ → Type 0 = λ l. Counts l c.batches.reading.gate in
          let M : List ℕ → Type 0 = λ l. c.in-Ok.mark ≡ mark_at l c.batches.reading.gate in (
            subst C log counted,
            ap (λ (m : Mark). m.count) (subst M log c.in-Ok.ensures.mark),
            ens.read t (inv.told ∙ is),
            (ens.first t (inv.told ∙ is)).is,
          ));
    }

pub returns-then-len-window-clause-left : goal.returns-then-len-window-clause-left
returns-then-len-window-clause-left g c =
    let hash = g.H.Hash32.digest c.args.hash.now in
    let inv = c.batches.invariant in
    let commits = c.args.commits.now in
    let ens = c.in_ok-read_batch-in-Ok.ensures in
    let counted : Counts commits c.batches.reading.gate = c.in-Ok.ensures.counts.0 refl in
    left-next hash (g.D.Disk.told c.args.disk.now) c.batches.reading _ c.in-Ok.mark.count inv.left refl refl
    (λ t is.
    let log = at-told (λ t. commits ≡ seen t 1) (g.D.Disk.told c.args.disk.now) t c.requires.commits is in
    let C : List ℕ → Type 0 = λ l. Counts l c.batches.reading.gate in
    let M : List ℕ → Type 0 = λ l. c.in-Ok.mark ≡ mark_at l c.batches.reading.gate in (
      subst C log counted,
      ap (λ (m : Mark). m.count) (subst M log c.in-Ok.ensures.mark),
      ens.read t (inv.told ∙ is),
      (ens.first t (inv.told ∙ is)).is,
    ))

pub returns-in_err-read_batch-in-Ok-clause-unfit : goal.returns-in_err-read_batch-in-Ok-clause-unfit
returns-in_err-read_batch-in-Ok-clause-unfit g c t is =
    let hash = g.H.Hash32.digest c.args.hash.now in
    let inv = c.batches.invariant in
    let commits = c.args.commits.now in
    let r = c.batches.reading in
    let log = at-told (λ t. commits ≡ seen t 1) (g.D.Disk.told c.args.disk.now) t c.requires.commits is in
    let C : List ℕ → Type 0 = λ l. Counts l r.gate in
    tell-err (image_checks hash (seen t)) _ c.in_err-read_batch-in-Ok.field-0.0 c.from_residual.ensures.1
    (batches-tell hash (seen t) r.gate r.batches r.progress.records.items (reached_of r.progress) c.in_err-read_batch-in-Ok.field-0.0 (inv.left.is t is)
    (subst C log (c.in-Ok.ensures.counts.0 refl)) (c.in_err-read_batch-in-Ok.ensures.first t (inv.told ∙ is)).is)

pub returns-in-Err-clause-last : goal.returns-in-Err-clause-last
returns-in-Err-clause-last g c counts = false≢true (c.in-Err.ensures.counts.1 counts)

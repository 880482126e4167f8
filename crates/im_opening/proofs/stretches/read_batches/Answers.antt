use Rattle.std.proofs.Common.{◌≡◌, refl, sym, ◌∙◌, subst, Option}
use Rattle.std.specs.Prelude.{IfSome}
use Rattle.im_clog.specs.Marks.{IsUncounted}
use Rattle.im_disk.specs.Disk.{Told, seen}
use Rattle.im_format.specs.Batches.{Counts}
use Rattle.im_opening.specs.Parts.{Shows}
use Rattle.im_opening.specs.Stretches.{AreAllRead, IsLeft}
use Rattle.im_opening.specs.declared.stretches.BatchesRead.{BatchesRead}
use Rattle.im_opening.proofs.Finding.{at-some, at-told, ok-leaves}
use Rattle.im_opening.proofs.StretchLemmas.{all-fine, all-reached}
use Rattle.im_opening.proofs.stretches.read_batches.Goals as goal

pub stretches-init : goal.stretches-init
stretches-init g c =
    let hash = g.H.Hash32.digest c.args.hash.now in
    record {
      told = refl;
      faults = refl;
      reached = c.new-reading.ensures.reached hash c.args.commits.now c.args.source.now.log.now;
      left = c.new-reading.ensures.left hash (g.D.Disk.told c.args.disk.now);
    }

pub read_stretch-requires-clause-shows : goal.read_stretch-requires-clause-shows
read_stretch-requires-clause-shows g c =
    let S : Option Told → Type 0 = λ o. IfSome o (λ t. Shows (seen t) c.args.source.now.log.now c.args.source.now.lengths) in
    subst S (sym c.stretches.invariant.told) c.requires.shows

pub read_stretch-requires-clause-commits : goal.read_stretch-requires-clause-commits
read_stretch-requires-clause-commits g c =
    let S : Option Told → Type 0 = λ o. IfSome o (λ t. c.args.commits.now ≡ seen t 1) in
    subst S (sym c.stretches.invariant.told) c.requires.commits

pub read_stretch-requires-clause-known : goal.read_stretch-requires-clause-known
read_stretch-requires-clause-known g c = c.empty-window.ensures (g.H.Hash32.digest c.args.hash.now)

pub read_stretch-requires-clause-left : goal.read_stretch-requires-clause-left
read_stretch-requires-clause-left g c =
    subst (λ o. IsLeft (g.H.Hash32.digest c.args.hash.now) o c.stretches.reading) (sym c.stretches.invariant.told) c.stretches.invariant.left

pub stretches-preserved : goal.stretches-preserved
stretches-preserved g c =
    let inv = c.stretches.invariant in
    let ens = c.in-Ok-None.ensures in
    record {
      told = ens.told ∙ inv.told;
      faults = ok-leaves _ _ c.in-Ok-None.field-0 ens.cause ∙ inv.faults;
      reached = ens.reached;
      left = subst (λ o. IsLeft (g.H.Hash32.digest c.args.hash.now) o c.read_stretch.new.reading) inv.told ens.left;
    }

pub returns-in-Err-clause-first : goal.returns-in-Err-clause-first
returns-in-Err-clause-first g c t is = record { is = c.in-Err.ensures.unfit t (c.stretches.invariant.told ∙ is) }

pub returns-in-Ok-Some-clause-all : goal.returns-in-Ok-Some-clause-all
returns-in-Ok-Some-clause-all g c =
    let hash = g.H.Hash32.digest c.args.hash.now in
    let was = g.D.Disk.told c.args.disk.now in
    let commits = c.args.commits.now in
    let log = c.args.source.now.log.now in
    let ens = c.in-Ok-Some.ensures in
    let r = c.read_stretch.new.reading in
    let left : IsLeft hash was r = subst (λ o. IsLeft hash o r) c.stretches.invariant.told ens.left in
    let why = at-some (λ why. IsUncounted commits r.gate why) c.in-Ok-Some.field-0 c.in-Ok-Some.behind ens.behind c.in-Ok-Some.field-0-is in
    let last = at-some (λ why. Counts commits r.gate → ⊥) c.in-Ok-Some.field-0 c.in-Ok-Some.behind ens.last c.in-Ok-Some.field-0-is in
    let A : BatchesRead → Type 0 = λ read. AreAllRead hash was commits log read in
    subst A (sym c.all_read.ensures)
    (all-reached hash was commits log r c.in-Ok-Some.behind ens.reached left why last (λ t is. at-told (λ t. commits ≡ seen t 1) was t c.requires.commits is))

pub returns-in-Ok-Some-clause-first : goal.returns-in-Ok-Some-clause-first
returns-in-Ok-Some-clause-first g c t is =
    let hash = g.H.Hash32.digest c.args.hash.now in
    let was = g.D.Disk.told c.args.disk.now in
    let commits = c.args.commits.now in
    let ens = c.in-Ok-Some.ensures in
    let r = c.read_stretch.new.reading in
    let left : IsLeft hash was r = subst (λ o. IsLeft hash o r) c.stretches.invariant.told ens.left in
    let last = at-some (λ why. Counts commits r.gate → ⊥) c.in-Ok-Some.field-0 c.in-Ok-Some.behind ens.last c.in-Ok-Some.field-0-is in
    record { is = all-fine hash was commits r t left last (at-told (λ t. commits ≡ seen t 1) was t c.requires.commits is) is }

use Rattle.std.proofs.Common.{◌≡◌, sym, subst}
use Rattle.im_disk.specs.Disk.{seen}
use Rattle.im_opening.specs.Stretches.{AreAllRead}
use Rattle.im_opening.specs.declared.stretches.BatchesRead.{BatchesRead}
use Rattle.im_opening.proofs.Finding.{at-told}
use Rattle.im_opening.proofs.StretchLemmas.{all-fine, all-reached}
use Rattle.im_opening.proofs.stretches.read_batches_on.Goals as goal

pub read_windows-requires-clause-reached : goal.read_windows-requires-clause-reached
read_windows-requires-clause-reached g c κs within = c.new-reading.ensures.reached (g.H.Hash32.digest c.args.hash.now) c.args.commits.now c.args.source.now.log.now

pub read_windows-requires-clause-left : goal.read_windows-requires-clause-left
read_windows-requires-clause-left g c κs within = c.new-reading.ensures.left (g.H.Hash32.digest c.args.hash.now) (g.D.Disk.told c.args.disk.now)

pub returns-in-Ok-clause-all : goal.returns-in-Ok-clause-all
returns-in-Ok-clause-all g c =
    let hash = g.H.Hash32.digest c.args.hash.now in
    let was = g.D.Disk.told c.args.disk.now in
    let commits = c.args.commits.now in
    let log = c.args.source.now.log.now in
    let ens = c.in-Ok.ensures in
    let A : BatchesRead → Type 0 = λ read. AreAllRead hash was commits log read in
    subst A (sym c.all_read.ensures)
    (all-reached hash was commits log c.read_windows.new.reading c.in-Ok.behind ens.reached ens.left ens.behind ens.last
    (λ t is. at-told (λ t. commits ≡ seen t 1) was t c.requires.commits is))

pub returns-in-Ok-clause-first : goal.returns-in-Ok-clause-first
returns-in-Ok-clause-first g c t is =
    let was = g.D.Disk.told c.args.disk.now in
    let commits = c.args.commits.now in
    record {
      is =
          all-fine (g.H.Hash32.digest c.args.hash.now) was commits c.read_windows.new.reading t c.in-Ok.ensures.left c.in-Ok.ensures.last
          (at-told (λ t. commits ≡ seen t 1) was t c.requires.commits is) is;
    }

pub returns-in-Err-clause-first : goal.returns-in-Err-clause-first
returns-in-Err-clause-first g c t is = record { is = c.in-Err.ensures.unfit t is }

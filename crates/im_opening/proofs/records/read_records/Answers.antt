use Rattle.std.proofs.Common.{arith, refl, ◌∙◌}
use Rattle.im_disk.specs.Disk.{seen}
use Rattle.im_opening.specs.Reach.{reached_of}
use Rattle.im_opening.proofs.Finding.{judge-err, ok-leaves}
use Rattle.im_opening.proofs.RecordsLeft.{records-first, records-last, records-next, records-tell}
use Rattle.im_opening.proofs.records.read_records.Goals as goal

pub loop-i-preserved : goal.loop-i-preserved
loop-i-preserved g c =
    let hash = g.H.Hash32.digest c.args.hash.now in
    let inv = c.loop-i.invariant in
    let first = c.args.progress.now in
    let now = c.loop-i.progress in
    let next = c.read_known.new.progress in
    let ens = c.in_ok-read_known.ensures in
    record {
      told = ens.told ∙ inv.told;
      faults = ok-leaves _ _ c.in_ok-read_known.field-0 ens.cause ∙ inv.faults;
      place = ens.within;
      many = omega (arith, ens.more, inv.many);
      fits = ens.fits;
      whole = ens.whole;
      left = λ t is.
          let told = inv.told ∙ is in
          records-next hash (seen t) c.args.count first.records.items (reached_of first) c.loop-i._i now.records.items (reached_of now)
          next.records.items (reached_of next) (inv.left t is) c.loop-i-test.true (ens.read t told).records_are (ens.read t told).reached_is (ens.first t told).is;
    }

pub returns-in_err-read_known-clause-first : goal.returns-in_err-read_known-clause-first
returns-in_err-read_known-clause-first g c t is =
    let hash = g.H.Hash32.digest c.args.hash.now in
    let inv = c.loop-i.invariant in
    let first = c.args.progress.now in
    let now = c.loop-i.progress in
    judge-err _ _ c.in_err-read_known.field-0.0 c.from_residual.ensures.1
    (records-tell hash (seen t) c.args.count first.records.items (reached_of first) c.loop-i._i now.records.items (reached_of now)
    c.in_err-read_known.field-0.0 (inv.left t is) c.loop-i-test.true (c.in_err-read_known.ensures.first t (inv.told ∙ is)).is)

pub returns-clause-first : goal.returns-clause-first
returns-clause-first g c t is =
    let hash = g.H.Hash32.digest c.args.hash.now in
    let inv = c.loop-i.invariant in
    let first = c.args.progress.now in
    let now = c.loop-i.progress in
    let all = records-last hash (seen t) c.args.count first.records.items (reached_of first) c.loop-i._i now.records.items (reached_of now)
    (inv.left t is) c.loop-i-test.false in
    record { is = all.fine }

pub returns-clause-read : goal.returns-clause-read
returns-clause-read g c t is =
    let hash = g.H.Hash32.digest c.args.hash.now in
    let inv = c.loop-i.invariant in
    let first = c.args.progress.now in
    let now = c.loop-i.progress in
    let all = records-last hash (seen t) c.args.count first.records.items (reached_of first) c.loop-i._i now.records.items (reached_of now)
    (inv.left t is) c.loop-i-test.false in
    record { records_are = all.records_are; reached_is = all.behind_is }

pub loop-i-init : goal.loop-i-init
loop-i-init g c = record {
  told = refl;
  faults = refl;
  place = c.requires.place;
  many = omega arith;
  fits = c.requires.fits;
  whole = c.requires.whole;
  left = λ t is. records-first (g.H.Hash32.digest c.args.hash.now) (seen t) c.args.count c.args.progress.now.records.items (reached_of c.args.progress.now);
}

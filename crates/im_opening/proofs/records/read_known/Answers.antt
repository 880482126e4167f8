use Rattle.std.proofs.Common.{sym, subst}
use Rattle.std.specs.Prelude.{OnOk}
use Rattle.im_disk.specs.Disk.{seen}
use Rattle.im_format.specs.Damages.{record_checks}
use Rattle.im_opening.specs.Answers.{Judges}
use Rattle.im_opening.specs.Reach.{Fits, IsOneMore, IsWholeProgress, reached_of}
use Rattle.im_opening.proofs.records.read_known.Goals as goal

-- what is said of a hash that knows some digests is said of the hash
pub returns-clause-fits : goal.returns-clause-fits
returns-clause-fits g c =
    subst (λ h. OnOk c.read_record.result (Fits (g.H.Hash32.digest h) c.read_record.new.progress)) c.of-known.ensures c.read_record.ensures.fits

pub returns-clause-whole : goal.returns-clause-whole
returns-clause-whole g c =
    subst (λ h. OnOk c.read_record.result (IsWholeProgress (g.H.Hash32.digest h) c.read_record.new.progress)) c.of-known.ensures c.read_record.ensures.whole

pub returns-clause-read : goal.returns-clause-read
returns-clause-read g c t is =
    subst (λ h. OnOk c.read_record.result (IsOneMore (g.H.Hash32.digest h) (seen t) c.args.progress.now c.read_record.new.progress)) c.of-known.ensures
    (c.read_record.ensures.read t is)

pub returns-clause-first : goal.returns-clause-first
returns-clause-first g c t is =
    subst (λ h. Judges (record_checks (g.H.Hash32.digest h) (seen t) (reached_of c.args.progress.now)) c.read_record.result) c.of-known.ensures
    (c.read_record.ensures.first t is)

pub read_record-requires-clause-fits : goal.read_record-requires-clause-fits
read_record-requires-clause-fits g c = subst (λ h. Fits (g.H.Hash32.digest h) c.args.progress.now) (sym c.of-known.ensures) c.requires.fits

pub read_record-requires-clause-whole : goal.read_record-requires-clause-whole
read_record-requires-clause-whole g c = subst (λ h. IsWholeProgress (g.H.Hash32.digest h) c.args.progress.now) (sym c.of-known.ensures) c.requires.whole

pub of-known-requires : goal.of-known-requires
of-known-requires g c = record { near = c.near_of-near.ensures (g.H.Hash32.digest c.args.hash.now) c.requires.known; far = c.requires.known.far }

use Rattle.std.proofs.Common.{length}
use Rattle.im_opening.proofs.AheadLemmas.{place-within}
use Rattle.im_opening.proofs.ahead.AheadDisk.read.Goals as goal

pub fetch-requires-clause-within : goal.fetch-requires-clause-within
fetch-requires-clause-within g c =
    place-within (g.D.Disk.told c.args.self.now) c.args.file c.args.at (length c.args.buffer.now) c.requires.within

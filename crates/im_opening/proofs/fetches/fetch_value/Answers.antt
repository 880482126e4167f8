use Rattle.std.proofs.Common.{◌≡◌, ◌+◌, ◌≤◌, length, arith, rules}
use Rattle.im_disk.specs.Disk.{seen}
use Rattle.im_opening.specs.Parts.{Shows}
use Rattle.im_opening.proofs.Finding.{at-told, if-told}
use Rattle.im_opening.proofs.fetches.fetch_value.Goals as goal

-- the value lies within its log, whose length is known
pub read-requires-clause-within : goal.read-requires-clause-within
read-requires-clause-within g c =
    let told = g.D.Disk.told c.args.disk.now in
    let n = length c.split_at_mut-octets.result.0.now in
    let size : n ≡ c.args.fields.now.len = search rules in
    if-told (λ t. c.args.fields.now.place + n ≤ length (seen t (2 + c.args.fields.now.log))) told (λ t is.
    let shows = at-told (λ t. Shows (seen t) c.args.source.now.log.now c.args.source.now.lengths) told t c.requires.shows is in
    let long = shows.lengths_are c.args.fields.now.log (omega arith) in
    omega (arith, long, size))

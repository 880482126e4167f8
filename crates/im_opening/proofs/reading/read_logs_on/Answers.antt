use Rattle.std.proofs.Common.{arith, ◌≡◌, ◌∙◌, sym, subst, Option}
use Rattle.im_disk.specs.Disk.{Told, seen}
use Rattle.im_opening.specs.Opening.{IsGivenBy}
use Rattle.im_opening.specs.Stretches.{AreAllRead}
use Rattle.im_opening.specs.declared.reading.Opened.{Opened}
use Rattle.im_opening.proofs.Finding.{at-told}
use Rattle.im_opening.proofs.GivenLemmas.{given-by}
use Rattle.im_opening.proofs.reading.read_logs_on.Goals as goal
use Rattle.im_format.proofs.FieldsBack.{IsSmall}
use Rattle.im_format.proofs.HeldRecords.{Has32}

pub returns-clause-given : goal.returns-clause-given
returns-clause-given g c =
    let hash = g.H.Hash32.digest c.args.hash.now in
    let was = g.D.Disk.told c.args.disk.now in
    let ens = c.in_ok-read.ensures in
    let told = c.in_ok-lengths.ensures.told in
    let read = c.in_ok-read.read in
    let commits = c.args.commits.now in
    let log = c.args.log.now in
    let long : Has32 hash = record { long = (g.met.H.Hash32 g.world.𝓛 g.world.𝓜 g.world.𝓡 ((λ s x. x), (λ x. x), (λ x. x), λ x. x)).size c.args.hash.now } in
    let small_log : IsSmall log = record { small = λ i. omega (arith, (c.type_inv.log i).fits) } in
    let small_commits : IsSmall commits = record { small = λ i. omega (arith, (c.type_inv.commits i).fits) } in
    let A : Option Told → Type 0 = λ o. AreAllRead hash o commits log read in
    let all : AreAllRead hash was commits log read = subst A told ens.all in
    let R : Opened → Type 0 = λ o. IsGivenBy hash was o in
    subst R (sym (c.opened_of.ensures hash all.fits all.whole all.gate))
    (given-by hash long was commits log small_commits small_log read all
    (λ t is. (at-told (λ t. commits ≡ seen t 1) was t c.requires.commits is, at-told (λ t. log ≡ seen t 0) was t c.requires.log is))
    (λ t is. (ens.first t (told ∙ is)).is))

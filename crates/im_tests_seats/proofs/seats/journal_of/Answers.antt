use Rattle.std.proofs.Common.{◌≡◌, ◌==◌, ◌∙◌, length, true, sym, arith}
use Rattle.std.proofs.lemmas.Bool.Decides.{nat_tests}
use Rattle.std.proofs.lemmas.List.{nil_from_length}
use Rattle.std.specs.Vec.{vec_len}
use Rattle.im_digest.specs.Digests.{sum_digest}
use Rattle.im_tests_seats.proofs.StartLemmas.{serves_none}
use Rattle.im_tests_seats.proofs.seats.journal_of.Goals as goal

pub returns-else-not-is_empty-clause-serves : goal.returns-else-not-is_empty-clause-serves
returns-else-not-is_empty-clause-serves g c =
    let opened = c.in-Ok.opened in
    let test : (vec_len opened.found.records == 0) ≡ true = sym c.is_empty.ensures ∙ c.if-not-is_empty.false in
    let zeros : vec_len opened.found.records ≡ 0 = grind (arith, nat_tests) in
    let count : length opened.found.records.items ≡ 0 = sym opened.found.records.ok.0 ∙ zeros in
    serves_none g.D.Disk.told g.D.Disk.faults sum_digest opened.journal opened.found.records.items c.in-Ok.ensures.rests (nil_from_length opened.found.records.items count) c.in-Ok.ensures.fresh.0

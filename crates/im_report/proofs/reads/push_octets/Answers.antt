use Rattle.im_octet.proofs.PartLemmas.{behind-err}
use Rattle.im_report.specs.Reads.{bare_or_hex}
use Rattle.im_report.proofs.reads.push_octets.Goals as goal

pub returns-clause-part : goal.returns-clause-part
returns-clause-part c =
    behind-err c.push_printed.result c.args.out.now.items _ c.push_printed.new.out.items c.args.text.now (bare_or_hex c.args.octets.now)
    c.in_ok-extend_from_slice.ensures.items c.push_printed.ensures.part

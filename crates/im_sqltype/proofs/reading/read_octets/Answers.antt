use Rattle.std.proofs.Common.{◌++◌, ◌∙◌, ap, sym}
use Rattle.im_sqltype.specs.Texts.{octets_text}
use Rattle.im_sqltype.proofs.OctetLemmas.{at_end, none_behind}
use Rattle.im_sqltype.proofs.reading.read_octets.Goals as goal

pub returns-in-End : goal.returns-in-End
returns-in-End c =
    at_end c.args.text.now c.loop-octet.octets.items c.loop-octet.left.now c.in-End.rest.now c.loop-octet.invariant c.in-End.ensures
    ∙ ap (λ octets. octets_text octets ++ c.in-End.rest.now) (sym c.from_vec.ensures)

pub returns-in-Nothing : goal.returns-in-Nothing
returns-in-Nothing c = none_behind c.args.text.now c.loop-octet.octets.items c.loop-octet.left.now c.loop-octet.invariant c.in-Nothing.ensures

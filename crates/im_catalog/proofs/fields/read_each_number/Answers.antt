use Rattle.std.proofs.Common.{◌+◌, subst, sym}
use Rattle.im_octet.specs.Fields.{field2}
use Rattle.im_catalog.specs.Fronts.{StandsFirst, AreMany}
use Rattle.im_catalog.specs.Parts.{FitsTwo, fields_text}
use Rattle.im_catalog.proofs.CutLemmas.{many-more, many-none}
use Rattle.im_catalog.proofs.PartLemmas.{number-cut}
use Rattle.im_catalog.proofs.fields.read_each_number.Goals as goal

pub loop-at-preserved : goal.loop-at-preserved
loop-at-preserved c =
    let rest = c.in-Some.rest.now in
    subst (λ numbers. StandsFirst (AreMany FitsTwo (c.loop-at._at + 1)) fields_text c.args.text.now numbers rest) (sym c.in_ok-push.ensures.items)
    (many-more FitsTwo field2 c.args.text.now c.loop-at.left.now rest c.loop-at.numbers.items c.in-Some.number c.loop-at._at c.loop-at.invariant c.in-Some.ensures)

pub returns-in_default : goal.returns-in_default
returns-in_default c =
    many-none FitsTwo field2 number-cut c.args.text.now c.loop-at.left.now c.loop-at.numbers.items c.loop-at._at c.args.count
    c.loop-at-test.true c.loop-at.invariant c.in_default.ensures

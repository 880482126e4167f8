use Rattle.std.proofs.Common.{MatchOption, subst}
use Rattle.im_sqlmodel.specs.Tables.{numbers_text}
use Rattle.im_catalog.specs.Fronts.{StandsFirst, NoneStandsFirst}
use Rattle.im_catalog.specs.Parts.{AreColumnNumbers}
use Rattle.im_catalog.proofs.TableLemmas.{key-none}
use Rattle.im_catalog.proofs.reading.read_key.Goals as goal

pub returns-in-None : goal.returns-in-None
returns-in-None c =
    let text = c.args.text.now in
    key-none text
    (subst (λ found. MatchOption found (NoneStandsFirst AreColumnNumbers numbers_text text) (λ front. StandsFirst AreColumnNumbers numbers_text text front.0.items front.1.now)) c.in-None.is c.in_ok-numbers.ensures)

use Rattle.std.proofs.Common.{MatchOption, subst}
use Rattle.im_catalog.specs.Fronts.{StandsFirst, NoneStandsFirst, AreMany}
use Rattle.im_catalog.specs.Parts.{FitsTwo, fields_text}
use Rattle.im_catalog.proofs.ColumnLemmas.{list-none_without_count, list-none_without_each, list-stands}
use Rattle.im_catalog.proofs.fields.read_numbers.Goals as goal

pub returns-in_default : goal.returns-in_default
returns-in_default c = list-none_without_count c.args.text.now c.in_default.ensures

pub returns-in-Some-2 : goal.returns-in-Some-2
returns-in-Some-2 c =
    let behind = c.in-Some.behind.now in
    let count = c.in-Some.count in
    list-stands c.args.text.now behind c.in-Some-2.rest.now count c.in-Some-2.numbers.items c.in-Some.ensures
    (subst (λ found. MatchOption found (NoneStandsFirst (AreMany FitsTwo count) fields_text behind) (λ front. StandsFirst (AreMany FitsTwo count) fields_text behind front.0.items front.1.now)) c.in-Some-2.is c.in_ok-numbers.ensures)

pub returns-in-None : goal.returns-in-None
returns-in-None c =
    let behind = c.in-Some.behind.now in
    let count = c.in-Some.count in
    list-none_without_each c.args.text.now behind count c.in-Some.ensures
    (subst (λ found. MatchOption found (NoneStandsFirst (AreMany FitsTwo count) fields_text behind) (λ front. StandsFirst (AreMany FitsTwo count) fields_text behind front.0.items front.1.now)) c.in-None.is c.in_ok-numbers.ensures)

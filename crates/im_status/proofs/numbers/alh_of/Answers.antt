use Rattle.std.proofs.Common.{◌∙◌, ap, sym}
use Rattle.std.specs.Prelude.{option_copied}
use Rattle.im_status.proofs.NumberLemmas.{last-none, last-some}
use Rattle.im_status.proofs.numbers.alh_of.Goals as goal

pub returns-in-Some : goal.returns-in-Some
returns-in-Some g c = λ history are.
    last-some (g.H.Hash32.digest c.args.hash.now) history c.args.alhs.now c.in-Some.alh.now are (sym c.last.ensures.value ∙ ap option_copied c.in-Some.is)

pub returns-in-None : goal.returns-in-None
returns-in-None g c = λ history are.
    c.hash.ensures ∙ last-none (g.H.Hash32.digest c.args.hash.now) history c.args.alhs.now are (sym c.last.ensures.value ∙ ap option_copied c.in-None.is)

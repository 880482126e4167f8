use Rattle.std.proofs.Common.{◌<◌, List, sym, subst, ap, ◌∙◌}
use Rattle.std.specs.List.{AllPairs}
use Rattle.im_model.specs.declared.headers.Header.{Header}
use Rattle.im_facts.specs.Keeping.{Keeping}
use Rattle.im_facts.proofs.NoteLemmas.{led-rises}
use Rattle.im_facts.proofs.clients.FactClient.headers.Goals as goal

pub returns-clause-rising : goal.returns-clause-rising
returns-clause-rising g c = λ hash led.
    subst (λ (l : List Header). AllPairs (λ (a b : Header). a.id < b.id) l)
    (sym (ap (λ (k : Keeping g.row.H.Denot). k.kept.headers) c.self.view_is) ∙ sym c.as_slice.ensures.value)
    (led-rises hash c.args.self.now.kept led).headers

use Rattle.std.proofs.Common.{List, sym, subst, ap, ◌∙◌}
use Rattle.std.specs.List.{AllPairs}
use Rattle.im_facts.specs.Facts.{IsBefore}
use Rattle.im_facts.specs.Keeping.{Keeping}
use Rattle.im_facts.specs.declared.facts.EntryFact.{EntryFact}
use Rattle.im_facts.proofs.NoteLemmas.{led-rises}
use Rattle.im_facts.proofs.clients.FactClient.entries.Goals as goal

pub returns-clause-rising : goal.returns-clause-rising
returns-clause-rising g c = λ hash led.
    subst (λ (l : List EntryFact). AllPairs IsBefore l)
    (sym (ap (λ (k : Keeping g.row.H.Denot). k.kept.entries) c.self.view_is) ∙ sym c.as_slice.ensures.value)
    (led-rises hash c.args.self.now.kept led).entries

use Rattle.std.proofs.Common.{◌<◌, List, sym, subst, ap, ◌∙◌}
use Rattle.std.specs.List.{AllPairs}
use Rattle.im_model.specs.declared.headers.Header.{Header}
use Rattle.im_facts.specs.Facts.{IsBefore}
use Rattle.im_facts.specs.Keeping.{Keeping}
use Rattle.im_facts.specs.declared.facts.EntryFact.{EntryFact}
use Rattle.im_facts.proofs.clients.FactClient.put.Goals as goal

pub put_headers-requires-clause-rising : goal.put_headers-requires-clause-rising
put_headers-requires-clause-rising g c =
    subst (λ (l : List Header). AllPairs (λ (a b : Header). a.id < b.id) l)
    (sym (ap (λ (k : Keeping g.row.H.Denot). k.kept.headers) c.self.view_is) ∙ sym c.make_room-room.ensures.headers)
    c.requires.headers

pub put_entries-requires-clause-rising : goal.put_entries-requires-clause-rising
put_entries-requires-clause-rising g c =
    subst (λ (l : List EntryFact). AllPairs IsBefore l)
    (sym (ap (λ (k : Keeping g.row.H.Denot). k.kept.entries) c.self.view_is) ∙ sym c.make_room-room.ensures.entries)
    c.requires.entries

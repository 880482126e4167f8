use Rattle.std.proofs.Common.{List, sym, subst}
use Rattle.std.specs.List.{AllByRecursion}
use Rattle.std.proofs.lemmas.Bool.{both_ways}
use Rattle.im_model.specs.declared.headers.Header.{Header}
use Rattle.im_facts.specs.Facts.{IsAlike, IsEntryAlike, headers_shown, entries_shown}
use Rattle.im_facts.specs.Keeping.{known_of}
use Rattle.im_facts.specs.declared.facts.EntryFact.{EntryFact}
use Rattle.im_facts.proofs.AgreeLemmas.{header-differs, entry-differs}
use Rattle.im_facts.proofs.clients.FactClient.agrees.Goals as goal

pub returns-then-headers_agree-clause-no : goal.returns-then-headers_agree-clause-no
returns-then-headers_agree-clause-no g c = λ is messages.
    entry-differs (known_of c.args.self.now.kept messages) c.args.message.now (λ all.
    both_ways c.entries_agree.result is
    (c.entries_agree.ensures.1 (subst (λ (l : List EntryFact). AllByRecursion (IsEntryAlike l) (entries_shown c.args.message.now)) (sym c.entries.ensures.list) all)))

pub returns-else-headers_agree-clause-no : goal.returns-else-headers_agree-clause-no
returns-else-headers_agree-clause-no g c = λ is messages.
    header-differs (known_of c.args.self.now.kept messages) c.args.message.now (λ all.
    both_ways c.headers_agree.result is
    (c.headers_agree.ensures.1 (subst (λ (l : List Header). AllByRecursion (IsAlike l) (headers_shown c.args.message.now)) (sym c.headers.ensures.list) all)))

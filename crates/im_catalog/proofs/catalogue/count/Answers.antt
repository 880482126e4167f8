use Rattle.std.proofs.Common.{take, sym, ap, ◌∙◌}
use Rattle.im_versions.specs.Versions.{last_version}
use Rattle.im_catalog.proofs.FoundLemmas.{count-there, count-found, count-none}
use Rattle.im_catalog.proofs.catalogue.count.Goals as goal

pub get-requires : goal.get-requires
get-requires g c = (c.requires.0, c.requires.1, c.requires.2)

pub count_of-requires : goal.count_of-requires
count_of-requires g c = λ live.
    count-there (take c.args.n c.requires.0) c.in-Some.version c.requires.3
    (sym c.in-Some.is ∙ c.in_ok-version.ensures c.requires.0 c.requires.1 c.requires.2 ∙ ap (last_version (take c.args.n c.requires.0)) c.tables_key.ensures) live

pub returns-in-Some : goal.returns-in-Some
returns-in-Some g c = λ history stands few sound.
    count-found (take c.args.n history) c.in-Some.version c.count_of.result
    (sym c.in-Some.is ∙ c.in_ok-version.ensures history stands few ∙ ap (last_version (take c.args.n history)) c.tables_key.ensures) c.count_of.ensures

pub returns-in-None : goal.returns-in-None
returns-in-None g c = λ history stands few sound.
    count-none (take c.args.n history)
    (sym c.in-None.is ∙ c.in_ok-version.ensures history stands few ∙ ap (last_version (take c.args.n history)) c.tables_key.ensures)

use Rattle.std.proofs.Common.{take, sym, ap, ◌∙◌}
use Rattle.im_versions.specs.Versions.{last_version}
use Rattle.im_sqlmodel.specs.Rows.{TableIs}
use Rattle.im_catalog.specs.Found.{SaysTable}
use Rattle.im_catalog.proofs.FoundLemmas.{if-ok, table-there, table-found, table-none}
use Rattle.im_catalog.proofs.catalogue.table.Goals as goal

pub get-requires : goal.get-requires
get-requires g c = (c.requires.0, c.requires.1, c.requires.2)

pub table_of-requires : goal.table_of-requires
table_of-requires g c = λ live.
    table-there (take c.args.n c.requires.0) c.args.name.now c.in-Some.version c.requires.3
    (sym c.in-Some.is ∙ c.in_ok-version.ensures c.requires.0 c.requires.1 c.requires.2
    ∙ ap (last_version (take c.args.n c.requires.0)) (c.as_slice.ensures ∙ c.in_ok-key.ensures)) live

pub returns-in-Some : goal.returns-in-Some
returns-in-Some g c = λ history stands few sound.
    if-ok (SaysTable c.args.name.now c.in-Some.version) (TableIs (take c.args.n history) c.args.name.now) c.table_of.result
    (λ found says. table-found (take c.args.n history) c.args.name.now c.in-Some.version found
    (sym c.in-Some.is ∙ c.in_ok-version.ensures history stands few ∙ ap (last_version (take c.args.n history)) (c.as_slice.ensures ∙ c.in_ok-key.ensures)) says)
    c.table_of.ensures

pub returns : goal.returns
returns g c = λ history stands few sound.
    table-none (take c.args.n history) c.args.name.now
    (sym c.in-None.is ∙ c.in_ok-version.ensures history stands few ∙ ap (last_version (take c.args.n history)) (c.as_slice.ensures ∙ c.in_ok-key.ensures))

use Rattle.std.proofs.Common.{List, take, sym, subst, ◌∙◌}
use Rattle.std.specs.List.{All, AllZip}
use Rattle.im_versions.specs.Versions.{IsScan}
use Rattle.im_versions.specs.declared.versions.Version.{Version}
use Rattle.im_sqlmodel.specs.Rows.{IsIndexVersion}
use Rattle.im_catalog.specs.Found.{HasIndexText}
use Rattle.im_catalog.proofs.FoundLemmas.{indexes-there}
use Rattle.im_catalog.proofs.catalogue.indexes.Goals as goal

pub scan-requires : goal.scan-requires
scan-requires g c = (c.requires.0, c.requires.1, c.requires.2)

pub indexes_of-requires-clause-table : goal.indexes_of-requires-clause-table
indexes_of-requires-clause-table g c = c.requires.4.0

pub indexes_of-requires-clause-texts : goal.indexes_of-requires-clause-texts
indexes_of-requires-clause-texts g c =
    let scan = subst (λ prefix. IsScan (take c.args.n c.requires.0) prefix c.in_ok-shown.shown) (c.as_slice.ensures ∙ c.in_ok-prefix.ensures) (c.in_ok-shown.ensures c.requires.0 c.requires.1 c.requires.2) in
    subst (All (HasIndexText c.args.table.now)) (sym c.as_slice-2.ensures) (indexes-there (take c.args.n c.requires.0) c.args.table.now c.in_ok-shown.shown c.requires.3 c.requires.4 scan)

pub returns : goal.returns
returns g c = λ history stands few sound of. (
  c.in_ok-shown.shown,
  subst (λ prefix. IsScan (take c.args.n history) prefix c.in_ok-shown.shown) (c.as_slice.ensures ∙ c.in_ok-prefix.ensures) (c.in_ok-shown.ensures history stands few),
  subst (λ (shown : List Version). AllZip (IsIndexVersion c.args.table.now) shown c.in_ok-indexes.indexes) c.as_slice-2.ensures c.in_ok-indexes.ensures,
)

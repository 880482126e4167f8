use Rattle.std.proofs.Common.{◌≡◌, true, false, List, Some, All, Vec, Global, take, sym, subst}
use Rattle.std.specs.List.{AllZip}
use Rattle.im_versions.specs.Versions.{last_version, begins_with}
use Rattle.im_versions.specs.declared.versions.Version.{Version}
use Rattle.im_sqlmodel.specs.Keys.{table_prefix}
use Rattle.im_sqlsound.specs.Stepping.{IsPartBy, AreParts}
use Rattle.im_sqlsound.specs.declared.found.TableFound.{TableFound}
use Rattle.im_sqlsound.proofs.TestLemmas.{some-weaker}
use Rattle.im_sqlsound.proofs.parts.parts_at.Goals as goal

pub parts_said-requires-clause-front : goal.parts_said-requires-clause-front
parts_said-requires-clause-front g c =
    let r = c.requires in
    subst (All (λ (v : Version). begins_with table_prefix v.key ≡ true)) (sym c.as_slice.ensures) (c.in_ok-said.ensures r.0 r.1 r.3).begin

pub parts_said-requires-clause-view : goal.parts_said-requires-clause-view
parts_said-requires-clause-view g c =
    let r = c.requires in
    (r.0, r.1, r.2, r.3, r.4, subst (All (λ (v : Version). (last_version (take c.args.before r.0) v.key ≡ Some v) × (v.deleted ≡ false))) (sym c.as_slice.ensures) (c.in_ok-said.ensures r.0 r.1 r.3).live)

pub returns : goal.returns
returns g c = λ history stands few low sound.
    let before = take c.args.before history in
    let h = take c.args.n history in
    let own = c.args.own.now in
    let scan = c.in_ok-said.ensures history stands low in
    let live = subst (All (λ (v : Version). (last_version before v.key ≡ Some v) × (v.deleted ≡ false))) (sym c.as_slice.ensures) scan.live in
    some-weaker (λ (fs : Vec TableFound Global). AllZip (IsPartBy before h own) c.as_slice.result.now fs.items) (λ (fs : Vec TableFound Global). AreParts before h own fs.items) c.in_ok-parts.parts
    (λ fs zip. (c.in_ok-said.said, scan, subst (λ (vs : List Version). AllZip (IsPartBy before h own) vs fs.items) c.as_slice.ensures zip))
    (c.in_ok-parts.ensures history stands few low sound live)

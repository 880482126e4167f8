use Rattle.std.proofs.Common.{◌≡◌, ◌+◌, true, false, [], List, Option, IfSome, Some, take, sym, subst}
use Rattle.std.specs.List.{AllZip}
use Rattle.im_versions.specs.Versions.{last_version, begins_with}
use Rattle.im_versions.specs.declared.versions.Version.{Version}
use Rattle.im_sqlmodel.specs.Keys.{table_prefix}
use Rattle.im_catalog.proofs.ZipLemmas.{zip-more}
use Rattle.im_sqlsound.specs.Stepping.{IsPartBy}
use Rattle.im_sqlsound.specs.declared.found.TableFound.{TableFound}
use Rattle.im_sqlsound.proofs.SayLemmas.{zip-whole}
use Rattle.im_sqlsound.proofs.parts.parts_said.Goals as goal

pub part_by-requires-clause-front : goal.part_by-requires-clause-front
part_by-requires-clause-front g c =
    subst (λ (v : Version). begins_with table_prefix v.key ≡ true) (sym c.version-item.is) (c.requires.front c.loop-version.version-index c.version-item.result c.loop-version-test.true)

pub part_by-requires-clause-view : goal.part_by-requires-clause-view
part_by-requires-clause-view g c =
    let r = c.requires.view in
    let is = subst (λ (v : Version). (last_version (take c.args.before r.0) v.key ≡ Some v) × (v.deleted ≡ false)) (sym c.version-item.is)
    (r.5 c.loop-version.version-index c.version-item.result c.loop-version-test.true) in
    (r.0, r.1, r.2, r.3, r.4, is.0, is.1)

pub loop-version-init : goal.loop-version-init
loop-version-init g c = λ history stands few low sound live.
    subst (λ (fs : List TableFound). AllZip (IsPartBy (take c.args.before history) (take c.args.n history) c.args.own.now) [] fs) (sym c.new-tables.ensures.items) tt

pub loop-version-preserved : goal.loop-version-preserved
loop-version-preserved g c = λ history stands few low sound live.
    let said = c.args.said.now in
    let v = c.version-item.result in
    let by = IsPartBy (take c.args.before history) (take c.args.n history) c.args.own.now in
    let is = subst (λ (w : Version). (last_version (take c.args.before history) w.key ≡ Some w) × (w.deleted ≡ false)) (sym c.version-item.is)
    (live c.loop-version.version-index v c.loop-version-test.true) in
    let found = subst (λ (o : Option TableFound). IfSome o (by v)) c.in-Some.is (c.in_ok-found.ensures history stands few low sound is.0 is.1) in
    subst (λ (fs : List TableFound). AllZip by (take (c.loop-version.version-index + 1) said) fs) (sym c.in_ok-add-in-Some.ensures)
    (zip-more by said c.loop-version.tables.items c.loop-version.version-index v c.in-Some.found c.loop-version-test.true c.version-item.is (c.loop-version.invariant history stands few low sound live) found)

pub returns : goal.returns
returns g c = λ history stands few low sound live.
    zip-whole (IsPartBy (take c.args.before history) (take c.args.n history) c.args.own.now) c.args.said.now c.loop-version.tables.items c.loop-version.version-index c.loop-version-test.false
    (c.loop-version.invariant history stands few low sound live)

use Rattle.std.proofs.Common.{◌≡◌, false, List, Option, IfSome, MatchOption, Some, take, sym, ap, subst, ◌∙◌}
use Rattle.im_model.specs.declared.transactions.Transaction.{Transaction}
use Rattle.im_versions.specs.Versions.{last_version}
use Rattle.im_versions.specs.declared.versions.Version.{Version}
use Rattle.im_catalog.proofs.FoundLemmas.{if-ok}
use Rattle.im_sqlmodel.specs.Kept.{IsTableOf}
use Rattle.im_sqlmodel.specs.declared.tables.Table.{Table}
use Rattle.im_sqlsound.specs.Sounding.{SaysNoTable, IsTableVersion}
use Rattle.im_sqlsound.specs.Stepping.{IsPart, IsPartBy}
use Rattle.im_sqlsound.specs.declared.found.TableFound.{TableFound}
use Rattle.im_sqlsound.proofs.TestLemmas.{some-weaker}
use Rattle.im_sqlsound.proofs.parts.part_by.Goals as goal

table-by : (history : List Transaction) (v : Version) (t : Table) → last_version history v.key ≡ Some v → v.deleted ≡ false → IsTableVersion v t → IsTableOf history t
table-by history v t last alive is = (is.0, (v, ap (last_version history) (sym is.1) ∙ last, alive, is.2))

pub part_of-requires : goal.part_of-requires
part_of-requires g c =
    let r = c.requires.view in
    let v = c.args.version.now in
    let said = subst (λ (o : Option Table). MatchOption o (SaysNoTable v) (IsTableVersion v)) c.in-Some.is c.in_ok-table.ensures in
    (r.0, r.1, r.2, r.3, r.4, table-by (take c.args.before r.0) v c.in-Some.table r.5 r.6 said)

pub returns-in-Some : goal.returns-in-Some
returns-in-Some g c = λ history stands few low sound last alive.
    let v = c.args.version.now in
    let t : Table = c.in-Some.table in
    let before = take c.args.before history in
    let h = take c.args.n history in
    let own = c.args.own.now in
    let said = subst (λ (o : Option Table). MatchOption o (SaysNoTable v) (IsTableVersion v)) c.in-Some.is c.in_ok-table.ensures in
    if-ok (λ (o : Option TableFound). IfSome o (λ f. (f.table ≡ t) × IsPart before h own f)) (λ (o : Option TableFound). IfSome o (IsPartBy before h own v)) c.part_of.result
    (λ o is. some-weaker (λ (f : TableFound). (f.table ≡ t) × IsPart before h own f) (IsPartBy before h own v) o (λ f has. (subst (IsTableVersion v) (sym has.0) said, has.1)) is)
    (c.part_of.ensures history stands few low sound (table-by before v t last alive said))

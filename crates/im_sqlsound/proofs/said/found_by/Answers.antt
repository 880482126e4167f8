use Rattle.std.proofs.Common.{◌≡◌, Option, MatchOption, sym, subst}
use Rattle.im_catalog.proofs.FoundLemmas.{if-ok}
use Rattle.im_sqlmodel.specs.declared.tables.Table.{Table}
use Rattle.im_sqlsound.specs.Sounding.{SaysNoTable, IsTableVersion, IsFound, IsFoundBy}
use Rattle.im_sqlsound.specs.declared.found.TableFound.{TableFound}
use Rattle.im_sqlsound.proofs.TablesLemmas.{one-version}
use Rattle.im_sqlsound.proofs.TestLemmas.{match-weaker}
use Rattle.im_sqlsound.proofs.said.found_by.Goals as goal

pub found_of-requires-clause-table : goal.found_of-requires-clause-table
found_of-requires-clause-table c =
    (subst (λ (o : Option Table). MatchOption o (SaysNoTable c.args.version.now) (IsTableVersion c.args.version.now)) c.in-Some.is c.in_ok-table.ensures).0

pub returns-in-Some : goal.returns-in-Some
returns-in-Some c =
    let v = c.args.version.now in
    let shown = c.args.shown.now in
    let table = c.in-Some.table in
    let said = subst (λ (o : Option Table). MatchOption o (SaysNoTable v) (IsTableVersion v)) c.in-Some.is c.in_ok-table.ensures in
    if-ok (λ (o : Option TableFound). MatchOption o ((f : TableFound) → f.table ≡ table → IsFound shown f → ⊥) (λ f. (f.table ≡ table) × IsFound shown f))
    (λ (o : Option TableFound). MatchOption o ((f : TableFound) → IsFoundBy shown v f → ⊥) (IsFoundBy shown v)) c.found_of.result
    (λ o is. match-weaker ((f : TableFound) → f.table ≡ table → IsFound shown f → ⊥) ((f : TableFound) → IsFoundBy shown v f → ⊥) (λ (f : TableFound). (f.table ≡ table) × IsFound shown f) (IsFoundBy shown v) o
    (λ none f by. none f (one-version v f.table table by.0 said) by.1)
    (λ f has. (subst (IsTableVersion v) (sym has.0) said, has.1)) is)
    c.found_of.ensures

pub returns-in-None : goal.returns-in-None
returns-in-None c = λ f by.
    let v = c.args.version.now in
    let none = subst (λ (o : Option Table). MatchOption o (SaysNoTable v) (IsTableVersion v)) c.in-None.is c.in_ok-table.ensures in
    none f.table by.0

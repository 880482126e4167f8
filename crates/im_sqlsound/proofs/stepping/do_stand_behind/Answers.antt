use Rattle.std.proofs.Common.{Option, IfSome, Vec, Global, take, sym, subst}
use Rattle.im_sqlsound.specs.Stepping.{AreParts}
use Rattle.im_sqlsound.specs.declared.found.TableFound.{TableFound}
use Rattle.im_sqlsound.proofs.TestLemmas.{test-none}
use Rattle.im_sqlsound.proofs.stepping.do_stand_behind.Goals as goal

pub returns-in_default : goal.returns-in_default
returns-in_default g c = λ history stands few low sound. test-none

pub returns : goal.returns
returns g c = λ history stands few low sound told.
    let before = take c.args.before history in
    let h = take c.args.n history in
    let parts = subst (λ (o : Option (Vec TableFound Global)). IfSome o (λ (fs : Vec TableFound Global). AreParts before h c.args.own.now fs.items)) c.in-Some.is (c.in_ok-tables.ensures history stands few low sound) in
    let stand = c.in_ok-stand.ensures history stands few told in
    record {
      tables = c.as_slice.result.now;
      parts = subst (AreParts before h c.args.own.now) (sym c.as_slice.ensures.value) parts;
      marks = stand.0;
      marked = stand.1;
      entered = stand.2;
    }

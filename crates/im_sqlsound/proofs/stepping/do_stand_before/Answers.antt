use Rattle.std.proofs.Common.{Option, IfSome, Vec, Global, take, sym, subst}
use Rattle.im_sqlsound.specs.Stepping.{AreParts}
use Rattle.im_sqlsound.specs.declared.found.TableFound.{TableFound}
use Rattle.im_sqlsound.proofs.TestLemmas.{test-none}
use Rattle.im_sqlsound.proofs.stepping.do_stand_before.Goals as goal

pub returns-in_default : goal.returns-in_default
returns-in_default g c = λ history stands low sound. test-none

pub returns : goal.returns
returns g c = λ history stands low sound told.
    let h = take c.args.before history in
    let parts = subst (λ (o : Option (Vec TableFound Global)). IfSome o (λ (fs : Vec TableFound Global). AreParts h h c.args.own.now fs.items)) c.in-Some.is (c.in_ok-tables.ensures history stands low low sound) in
    let stood = c.in_ok-stood.ensures history stands low told in
    record {
      tables = c.as_slice.result.now;
      parts = subst (AreParts h h c.args.own.now) (sym c.as_slice.ensures.value) parts;
      known = stood.0;
      entered = stood.1;
    }

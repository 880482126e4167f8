use Rattle.std.proofs.Common.{List, Option, IfSome, take, refl, subst}
use Rattle.std.specs.List.{AllZip}
use Rattle.im_sqlmodel.specs.Keys.{rows_prefix}
use Rattle.im_sqlmodel.specs.Rows.{IsStoredRow}
use Rattle.im_sqlmodel.specs.declared.rows.StoredRow.{StoredRow}
use Rattle.im_sqlsound.specs.Stepping.{live_own}
use Rattle.im_sqlsound.proofs.parts.part_of.Goals as goal

pub returns : goal.returns
returns g c = λ history stands few low sound of.
    let t = c.args.table in (
      refl,
      record {
        indexes = c.in-Ok.ensures history stands low sound of;
        rows = subst (λ (o : Option (List StoredRow)). IfSome o (AllZip (IsStoredRow t) (live_own (take c.args.n history) (rows_prefix t.tid) c.args.own.now))) c.in-Some.is (c.in-Ok-own_rows.ensures history stands few);
      },
    )

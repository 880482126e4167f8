use Rattle.std.proofs.Common.{refl}
use Rattle.im_verify.proofs.KeepLemmas.{read_is}
use Rattle.im_verify.proofs.show.show_kept.Goals as goal

pub returns-in-Ok-clause-ok : goal.returns-in-Ok-clause-ok
returns-in-Ok-clause-ok g c = c.show_lines.ensures.ok (g.P.Keeper.kept c.args.keeper.now)
    (read_is (g.P.Keeper.kept c.args.keeper.now) (g.P.Keeper.kept c.args.keeper.now) c.in-Ok.lines.items c.as_slice.result.now refl c.as_slice.ensures.value c.in-Ok.ensures.lines)

pub returns-in-Ok-clause-part : goal.returns-in-Ok-clause-part
returns-in-Ok-clause-part g c = c.show_lines.ensures.part (g.P.Keeper.kept c.args.keeper.now)
    (read_is (g.P.Keeper.kept c.args.keeper.now) (g.P.Keeper.kept c.args.keeper.now) c.in-Ok.lines.items c.as_slice.result.now refl c.as_slice.ensures.value c.in-Ok.ensures.lines)

pub returns-in-Ok-clause-stops : goal.returns-in-Ok-clause-stops
returns-in-Ok-clause-stops g c = c.show_lines.ensures.stops (g.P.Keeper.kept c.args.keeper.now)
    (read_is (g.P.Keeper.kept c.args.keeper.now) (g.P.Keeper.kept c.args.keeper.now) c.in-Ok.lines.items c.as_slice.result.now refl c.as_slice.ensures.value c.in-Ok.ensures.lines)

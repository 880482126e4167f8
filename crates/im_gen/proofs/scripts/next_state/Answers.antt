use Rattle.std.proofs.Common.{◌*◌, ◌^◌}
use Rattle.std.proofs.Math.Nat.{mod-add-mod}
use Rattle.im_gen.proofs.scripts.next_state.Goals as goal

pub returns : goal.returns
returns c = mod-add-mod (c.args.x * 6364136223846793005) (2 ^ 64) 1442695040888963407

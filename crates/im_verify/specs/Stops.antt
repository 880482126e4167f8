-- Which stop a keeper's error is, in keeping a line, and how a run ends.
use Rattle.std.specs.Prelude.{Result, Ok as Took, Err}
use Rattle.im_edge.specs.declared.keeper.KeeperError.{KeeperError}
use Rattle.im_edge.specs.declared.keeper.KeeperError.TheVariants as keeper
use Rattle.im_verify.specs.declared.ended.Ended.{Ended}
use Rattle.im_verify.specs.declared.ended.Ended.TheVariants as ended
use Rattle.im_verify.specs.declared.lines.LineEnd.{LineEnd}
use Rattle.im_verify.specs.declared.lines.LineEnd.TheVariants as end
use Rattle.im_verify.specs.declared.stops.Stop.{Stop}
use Rattle.im_verify.specs.declared.stops.Stop.TheVariants as line

abbrev pub stop_of : KeeperError → Stop
stop_of keeper.Failed = line.KeeperFault
stop_of keeper.Memory = line.Memory

-- how a run ends whose stream's lines were taken so
abbrev pub ended_by : Result LineEnd Stop → Ended
ended_by (Took end.Fine) = ended.Ok
ended_by (Took end.Refused) = ended.Refused
ended_by (Took end.Forked) = ended.Forked
ended_by (Err line.WriteFault) = ended.WriteFault
ended_by (Err line.KeeperFault) = ended.KeeperFault
ended_by (Err line.Memory) = ended.Memory

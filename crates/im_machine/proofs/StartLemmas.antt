-- Empty files stand for the empty history, and the machine begins behind opening them.
use Rattle.std.proofs.Common.{◌<◌, ◌+◌, [], refl, arith, inl}
use Rattle.im_digest.specs.Digests.{Hash}
use Rattle.im_disk.specs.Disk.{seen}
use Rattle.im_format.specs.Standing.{Stands}
use Rattle.im_machine.specs.Machines.{blank, start}
use Rattle.im_machine.specs.Steps.{Steps}
use Rattle.im_machine.specs.declared.events.Event.TheVariants as on
use Rattle.im_machine.specs.declared.outputs.Output.TheVariants as tells

-- by no batches
abbrev pub stands-none : (hash : Hash) → Stands hash (seen blank.disk) []
stands-none hash = record {
  batches = [];
  there = record {
    counted = λ b l. absurd (omega arith);
    last = λ c. absurd (let whole : 0 + 25 < 0 = c.whole in omega arith);
    filled = λ i d l. absurd (omega arith);
    reads = λ i d l. absurd (omega arith);
    lie = λ i d l. absurd (omega arith);
  };
  transactions_are = refl;
  history_is = record { few = omega arith; follow = tt };
  records_are = tt;
}

pub begins : (hash : Hash) → Steps hash blank on.Open (tells.Opened 0) start
begins hash = inl ((refl, ([], stands-none hash)), ([], stands-none hash, refl, refl))

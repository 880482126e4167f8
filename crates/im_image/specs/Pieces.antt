-- The piece of a file that a call wrote.
use Rattle.std.specs.Prelude.{ℕ, ◌==◌, List, if◌then◌else◌, Option, Some, None}
use Rattle.im_disk.specs.declared.calls.Call.{Call}
use Rattle.im_disk.specs.declared.calls.Call.TheVariants.{Wrote, Tore, Synced, Missed}

-- the place and the octets of a piece
pub record Piece : Type 0 where
  pub at : ℕ
  pub octets : List ℕ

-- the piece of a file that a call wrote; a failed write wrote none
abbrev pub piece_of : Call → ℕ → Option Piece
piece_of (Wrote number place piece) file = if number == file then Some (record { at = place; octets = piece }) else None
piece_of (Tore number place n) file = None
piece_of Synced file = None
piece_of Missed file = None

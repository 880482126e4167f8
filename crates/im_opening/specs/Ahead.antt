-- Octets that were read ahead.
use Rattle.std.specs.Prelude.{◌≡◌, length}
use Rattle.im_disk.specs.Disk.{Files}
use Rattle.im_format.specs.Spans.{octets_at}
use Rattle.im_opening.specs.declared.ahead.Piece.{Piece}

-- the image has these octets at the piece's place
pub record IsPiece (image : Files) (piece : Piece) : Type 0 where
  pub octets_are : piece.octets.items ≡ octets_at (image piece.file) piece.at (length piece.octets.items)

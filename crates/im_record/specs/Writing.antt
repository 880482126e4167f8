-- Which records can be written.
use Rattle.std.specs.Prelude.{◌≡◌, ◌<◌, ◌^◌, length}
use Rattle.im_format.specs.declared.records.Record.{Record}

-- one reference for each entry, whose number fits its field
pub record IsWhole (r : Record) : Type 0 where
  pub refs : length r.refs ≡ length r.tx.entries
  pub few : length r.tx.entries < 2 ^ 32

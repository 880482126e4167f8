-- What a transaction is asked to write, and under which preconditions.
use Rattle.std.specs.Prelude.{◌≢◌, ◌≤◌, List, length, All, AllPairs}
use Rattle.im_model.specs.History.{IsEntry}
use Rattle.im_model.specs.declared.entries.Entry.{Entry}
use Rattle.im_draft.specs.declared.preconditions.Pre.{Pre}

-- the entries, in order, and the preconditions, in the order in which they are judged
pub record Asked : Type 0 where
  pub entries : List Entry
  pub pres : List Pre

-- 1 to 1024 entries within the limits, with distinct keys
pub record IsAsked (asked : Asked) : Type 0 where
  pub some : 1 ≤ length asked.entries
  pub few : length asked.entries ≤ 1024
  pub each : All IsEntry asked.entries
  pub distinct : AllPairs (λ a b. a.key ≢ b.key) asked.entries

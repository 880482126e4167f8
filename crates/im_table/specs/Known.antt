-- What contracts see of a pass and of a tip.
use Rattle.std.specs.Prelude.{ℕ, List, [], false}
use Rattle.im_model.specs.History.{no_transaction}
use Rattle.im_table.specs.declared.view.View.{View}
use Rattle.im_table.specs.declared.items.LogItem.{LogItem}
pub use Rattle.atomic_table.specs.Seated.{TableId}

-- a pass: the tip that it is of, and its view
pub record KnownPass : Type 0 where
  pub table : TableId
  pub view : View

-- a tip: its name, what was found when it was opened, and the number of value logs
pub record Place : Type 0 where
  pub table : TableId
  pub found : List LogItem
  pub logs : ℕ

-- the name of no tip
abbrev pub no_table : TableId
no_table = record { words = 0; slots = 0; views_name = 0; atom = 0; block = 0; offset = 0; slot_names = [] }

-- stands where no transaction is placed
abbrev pub no_item : LogItem
no_item = record { found = false; tx = no_transaction; refs = [] }

-- The passes that lie under the locks, and the one that is handed out, as a store gets its name.
use Rattle.std.specs.Prelude.{◌≡◌, [], List}
use Rattle.im_table.specs.Known.{KnownPass, TableId}
use Rattle.im_table.specs.Passes.{IsKeeper, IsPassOf}
use Rattle.im_table.specs.Views.{opener}
use Rattle.im_table.specs.declared.items.LogItem.{LogItem}
use Rattle.im_table.specs.declared.roles.Roles.{Roles}

-- a pass lies under the lock of this role, and has seen and knows all that was found
pub record IsSeat (table : TableId) (role : Roles) (found : List LogItem) (pass : KnownPass) : Type 0 where
  pub keeper : IsKeeper table role pass
  pub seen : pass.view.seen ≡ found
  pub least : pass.view.least ≡ (opener found).least

-- a pass without a role has the whole weight, has seen and knows all that was found, and has done nothing that is counted
pub record IsFirst (table : TableId) (found : List LogItem) (pass : KnownPass) : Type 0 where
  pub pass_is : IsPassOf table pass
  pub whole : pass.view.weight ≡ 1048576
  pub seen : pass.view.seen ≡ found
  pub least : pass.view.least ≡ (opener found).least
  pub own : pass.view.own ≡ []
  pub leaves : pass.view.leaves ≡ 0
  pub faults : pass.view.faults ≡ 0

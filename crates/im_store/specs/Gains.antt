-- What a call adds to its pass.
use Rattle.std.specs.Prelude.{◌≡◌, ◌+◌, ◌++◌, [], ℕ, List, max}
use Rattle.im_table.specs.Known.{KnownPass}
use Rattle.im_table.specs.Passes.{Later}
use Rattle.im_table.specs.declared.view.Least.{Least}
use Rattle.im_store.specs.Loads.{LooksOn}

-- these numbers of transactions that it placed stand behind its own, and it has so many leaves and so many told failures more
pub record Gains (numbers : List ℕ) (more told : ℕ) (old new : KnownPass) : Type 0 where
  pub own : new.view.own ≡ old.view.own ++ numbers
  pub leaves : new.view.leaves ≡ old.view.leaves + more
  pub faults : new.view.faults ≡ old.view.faults + told

-- a pass behind some steps that placed and linked nothing, and told so many failures
pub record HasStepped (faults : ℕ) (old new : KnownPass) : Type 0 where
  pub later : Later old new
  pub gains : Gains [] 0 faults old new
  pub looks : LooksOn old.view.looks new.view.looks

-- of two passes' known numbers the greater ones
abbrev pub greater_of : Least → Least → Least
greater_of a b = record {
  durable = max a.durable b.durable;
  linked = max a.linked b.linked;
  indexed = max a.indexed b.indexed;
  failed = max a.failed b.failed;
}

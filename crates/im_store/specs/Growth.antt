-- What `link` and `index` answer.
use Rattle.std.specs.Prelude.{◌≡◌, ◌+◌, ◌≤◌, ℕ, min}
use Rattle.im_table.specs.Known.{KnownPass}
use Rattle.im_store.specs.Loads.{SawDurable, SawIndexed}

-- from as many as were linked, which are no fewer than the pass knew, to so many more, at most to what is durable, as loaded in the call:
-- never to fewer
pub record IsLinked (old new : KnownPass) (most before result : ℕ) : Type 0 where
  pub durable : ℕ
  pub saw : SawDurable old new durable
  pub known : old.view.least.linked ≤ before
  pub is : result ≡ min (before + most) durable
  pub grows : before ≤ result
  pub shown : result ≤ new.view.least.linked

-- the same of those that were indexed, as loaded in the call
pub record IsIndexed (old new : KnownPass) (most before result : ℕ) : Type 0 where
  pub durable : ℕ
  pub saw : SawDurable old new durable
  pub begun : SawIndexed old new before
  pub is : result ≡ min (before + most) durable
  pub grows : before ≤ result
  pub shown : result ≤ new.view.least.indexed

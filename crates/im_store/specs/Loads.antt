-- The loads that a call made.
use Rattle.std.specs.Prelude.{◌≡◌, ◌<◌, ◌≤◌, ℕ}
use Rattle.im_table.specs.Known.{KnownPass}
use Rattle.im_table.specs.declared.view.AllLooks.{AllLooks}
use Rattle.im_table.specs.declared.view.Looks.{Looks}

-- a word was loaded in the call, and the last load of it gave this number
pub record IsLoaded (old new : Looks) (number : ℕ) : Type 0 where
  pub more : old.count < new.count
  pub last : new.last ≡ number

-- no load is forgotten
pub record LooksOn (old new : AllLooks) : Type 0 where
  pub placed : old.placed.count ≤ new.placed.count
  pub durable : old.durable.count ≤ new.durable.count
  pub linked : old.linked.count ≤ new.linked.count
  pub indexed : old.indexed.count ≤ new.indexed.count
  pub failed : old.failed.count ≤ new.failed.count

-- the word durable was loaded in the call, gave this number, no smaller than the pass knew before, and the pass knows it
pub record SawDurable (old new : KnownPass) (number : ℕ) : Type 0 where
  pub loaded : IsLoaded old.view.looks.durable new.view.looks.durable number
  pub least : old.view.least.durable ≤ number
  pub known : number ≤ new.view.least.durable

-- fewer than so many transactions were durable, as loaded in the call
pub record SawFewer (old new : KnownPass) (n : ℕ) : Type 0 where
  pub durable : ℕ
  pub saw : SawDurable old new durable
  pub fewer : durable < n

-- the word indexed was loaded in the call, gave this number, no smaller than the pass knew before, and the pass knows it
pub record SawIndexed (old new : KnownPass) (number : ℕ) : Type 0 where
  pub loaded : IsLoaded old.view.looks.indexed new.view.looks.indexed number
  pub least : old.view.least.indexed ≤ number
  pub known : number ≤ new.view.least.indexed

-- the word failed was loaded in the call: so many calls of the disk had failed, and the pass knows it
pub record SawFailures (old new : KnownPass) (faults : ℕ) : Type 0 where
  pub loaded : IsLoaded old.view.looks.failed new.view.looks.failed faults
  pub some : 0 < faults
  pub known : faults ≤ new.view.least.failed

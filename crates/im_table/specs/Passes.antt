-- Passes that callers have, and those that lie under locks.
use Rattle.std.specs.Prelude.{◌≡◌, ◌+◌, ◌<◌, ◌≤◌, ℕ, false, true, [], ◌∷◌, ◌++◌}
use mathlib.Core.List.{IsPrefix}
use Rattle.im_table.specs.Known.{TableId, KnownPass}
use Rattle.im_table.specs.Views.{no_roles}
use Rattle.im_table.specs.declared.roles.Roles.{Roles}

-- a pass of a caller: it is of this tip, has no role, and some weight
abbrev pub IsPassOf : TableId → KnownPass → Type 0
IsPassOf table p = (p.table ≡ table) × (p.view.roles ≡ no_roles) × (0 < p.view.weight)

-- one role alone
abbrev pub journal_role : Roles
journal_role = record { journal = true; index = false; book = false; tree = false }

abbrev pub index_role : Roles
index_role = record { journal = false; index = true; book = false; tree = false }

abbrev pub book_role : Roles
book_role = record { journal = false; index = false; book = true; tree = false }

abbrev pub tree_role : Roles
tree_role = record { journal = false; index = false; book = false; tree = true }

-- a pass that lies under a lock: it is of this tip, has these roles and no weight, and has done nothing that is counted
abbrev pub IsKeeper : TableId → Roles → KnownPass → Type 0
IsKeeper table roles p =
    (p.table ≡ table) × (p.view.roles ≡ roles) × (p.view.weight ≡ 0) × (p.view.own ≡ []) × (p.view.leaves ≡ 0) × (p.view.faults ≡ 0)

-- a pass behind a call: its list begins with the one before, no number that it knows has fallen, and it is of the same
-- tip, with the same roles and weight
pub record Later (old new : KnownPass) : Type 0 where
  pub table : new.table ≡ old.table
  pub roles : new.view.roles ≡ old.view.roles
  pub weight : new.view.weight ≡ old.view.weight
  pub seen : IsPrefix old.view.seen new.view.seen
  pub durable : old.view.least.durable ≤ new.view.least.durable
  pub linked : old.view.least.linked ≤ new.view.least.linked
  pub indexed : old.view.least.indexed ≤ new.view.least.indexed
  pub failed : old.view.least.failed ≤ new.view.least.failed

-- a pass that has the role of the book alone, while it places
abbrev pub IsPlacer : TableId → KnownPass → Type 0
IsPlacer table p = (p.table ≡ table) × (p.view.roles ≡ book_role) × (0 < p.view.weight)

-- it has placed, linked and told no more
pub record AddsNothing (old new : KnownPass) : Type 0 where
  pub own : new.view.own ≡ old.view.own
  pub leaves : new.view.leaves ≡ old.view.leaves
  pub faults : new.view.faults ≡ old.view.faults

-- it has placed this number, and linked and told no more
pub record AddsNumber (number : ℕ) (old new : KnownPass) : Type 0 where
  pub own : new.view.own ≡ old.view.own ++ number ∷ []
  pub leaves : new.view.leaves ≡ old.view.leaves
  pub faults : new.view.faults ≡ old.view.faults

-- it has linked so many leaves more, and placed and told no more
pub record AddsLeaves (count : ℕ) (old new : KnownPass) : Type 0 where
  pub own : new.view.own ≡ old.view.own
  pub leaves : new.view.leaves ≡ old.view.leaves + count
  pub faults : new.view.faults ≡ old.view.faults

-- it has told so many failures more, and placed and linked no more
pub record AddsFaults (count : ℕ) (old new : KnownPass) : Type 0 where
  pub own : new.view.own ≡ old.view.own
  pub leaves : new.view.leaves ≡ old.view.leaves
  pub faults : new.view.faults ≡ old.view.faults + count

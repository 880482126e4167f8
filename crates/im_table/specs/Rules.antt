-- The rule of the five words and the views, and what a step tells.
use Rattle.std.specs.Prelude.{◌≡◌, ◌⊎◌, ℕ, ◌+◌, ◌-◌, ◌≤◌, List, [], ◌∷◌, length, Bool, true, cond}
use Rattle.std.specs.List.{sum_by, All}
use mathlib.Core.Option.{some}
use mathlib.Core.List.{IsPrefix}
use lib.ListN.{get_elem?}
use Rattle.atomic_table.specs.Table.{State}
use Rattle.im_table.specs.declared.view.View.{View}
use Rattle.im_table.specs.declared.view.Least.{Least}
use Rattle.im_table.specs.declared.items.LogItem.{LogItem}
use Rattle.im_table.specs.Views.{placed_by, untold, looked_placed}
use Rattle.im_model.specs.Counts.{times}

-- no slot of the table is used
abbrev pub NoSlot : Type 0
NoSlot = Unit {0}

-- the one list, and what the other words say
pub record Marks : Type 0 where
  pub log : List LogItem
  pub durable : ℕ
  pub linked : ℕ
  pub indexed : ℕ
  pub failed : ℕ

-- the words in their order
abbrev pub words_of : Marks → List ℕ
words_of m = length m.log ∷ m.durable ∷ m.linked ∷ m.indexed ∷ m.failed ∷ []

-- the list begins with what was found, and no word goes past another
pub record Ordered (found : List LogItem) (m : Marks) : Type 0 where
  pub begins : IsPrefix found m.log
  pub linked : m.linked ≤ m.durable
  pub indexed : m.indexed ≤ m.durable
  pub durable : m.durable ≤ length m.log
  pub old : length found ≤ m.linked

-- these numbers are no more than the words
pub record AtMost (a : Least) (m : Marks) : Type 0 where
  pub durable : a.durable ≤ m.durable
  pub linked : a.linked ≤ m.linked
  pub indexed : a.indexed ≤ m.indexed
  pub failed : a.failed ≤ m.failed

-- what the rule says of one view
pub record FitsRule (allows : List LogItem → Type 0) (m : Marks) (v : View) : Type 0 where
  pub seen : IsPrefix v.seen m.log
  pub told : IsPrefix v.told m.log
  pub less : AtMost v.told_least m
  pub lawful : allows v.seen
  pub durable : v.least.durable ≤ m.durable
  pub linked : v.least.linked ≤ m.linked
  pub indexed : v.least.indexed ≤ m.indexed
  pub failed : v.least.failed ≤ m.failed
  pub book : v.roles.book ≡ true → v.seen ≡ m.log
  pub journal : v.roles.journal ≡ true → (v.least.durable ≡ m.durable) × (v.least.failed ≡ m.failed)
  pub tree : v.roles.tree ≡ true → v.least.linked ≡ m.linked
  pub index : v.roles.index ≡ true → v.least.indexed ≡ m.indexed
  pub idle : v.weight ≡ 0 → (v.own ≡ []) × (v.leaves ≡ 0) × (v.faults ≡ 0)
  pub within : All (λ n. n ≤ length v.seen) v.own

-- what is counted over all views
pub data Tally : Type 0 where
  journals : Tally
  indexes : Tally
  books : Tally
  trees : Tally
  weights : Tally
  leaves : Tally
  faults : Tally
  owns : ℕ → Tally

-- how much of it a view has
abbrev pub share : Tally → View → ℕ
share journals v = cond v.roles.journal 1 0
share indexes v = cond v.roles.index 1 0
share books v = cond v.roles.book 1 0
share trees v = cond v.roles.tree 1 0
share weights v = v.weight
share leaves v = v.leaves
share faults v = v.faults
share (owns n) v = times n v.own

-- how much of it there is in all
abbrev pub whole : List LogItem → Marks → Tally → ℕ
whole found m journals = 1
whole found m indexes = 1
whole found m books = 1
whole found m trees = 1
whole found m weights = 1048576
whole found m leaves = m.linked - length found
whole found m faults = m.failed
whole found m (owns n) = times n (placed_by m.log)

-- the rule: one list and words, which each view fits, and of which the views have their shares
pub record HoldsRule (allows : List LogItem → Type 0) (found : List LogItem) (s : State NoSlot View) : Type 0 where
  pub marks : Marks
  pub words : s.words ≡ words_of marks
  pub ordered : Ordered found marks
  pub fits : (k : ℕ) (v : View) → get_elem? s.views k ≡ some v → FitsRule allows marks v
  pub sums : (t : Tally) → sum_by (share t) s.views ≡ whole found marks t

-- what a load of `placed` tells
pub record SeesPlaced (allows : List LogItem → Type 0) (v : View) (n : ℕ) (w : View) : Type 0 where
  pub view : w ≡ looked_placed v n
  pub lawful : allows v.seen
  pub least : length v.seen ≤ n
  pub durable : v.least.durable ≤ n
  pub linked : v.least.linked ≤ n
  pub indexed : v.least.indexed ≤ n
  pub whole : v.roles.book ≡ true → n ≡ length v.seen

-- a load gives no less than was known, and just that to the one who holds the word's role
pub record Loads (role : Bool) (known n : ℕ) : Type 0 where
  pub least : known ≤ n
  pub exact : role ≡ true → n ≡ known

-- what a load behind a join tells: what was taken over is no more than what was chosen
pub record Compares (v : View) (n : ℕ) (w : View) : Type 0 where
  pub view : w ≡ untold v
  pub begins : (v.roles.book ≡ true) ⊎ (length v.told ≤ length v.seen) → IsPrefix v.told v.seen
  pub durable : (v.roles.journal ≡ true) ⊎ (v.told_least.durable ≤ v.least.durable) → v.told_least.durable ≤ v.least.durable
  pub linked : (v.roles.tree ≡ true) ⊎ (v.told_least.linked ≤ v.least.linked) → v.told_least.linked ≤ v.least.linked
  pub indexed : (v.roles.index ≡ true) ⊎ (v.told_least.indexed ≤ v.least.indexed) → v.told_least.indexed ≤ v.least.indexed
  pub failed : (v.roles.journal ≡ true) ⊎ (v.told_least.failed ≤ v.least.failed) → v.told_least.failed ≤ v.least.failed
  pub least : length v.seen ≤ n
  pub whole : v.roles.book ≡ true → n ≡ length v.seen

-- what a load by the holder of the book's role tells: with the whole weight all numbers, leaves and failures are its own
pub record Closes (allows : List LogItem → Type 0) (found : List LogItem) (v : View) (n : ℕ) (w : View) : Type 0 where
  pub view : w ≡ v
  pub begins : IsPrefix found v.seen
  pub lawful : allows v.seen
  pub whole : n ≡ length v.seen
  pub owned : v.weight ≡ 1048576 → (k : ℕ) → times k v.own ≡ times k (placed_by v.seen)
  pub leaves : v.weight ≡ 1048576 → v.roles.tree ≡ true → v.leaves + length found ≡ v.least.linked
  pub faults : v.weight ≡ 1048576 → v.roles.journal ≡ true → v.faults ≡ v.least.failed

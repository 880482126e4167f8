-- What each step makes of a view, and the numbers of a list's items.
use Rattle.std.specs.Prelude.{◌≡◌, ℕ, suc, ◌+◌, ◌-◌, ◌||◌, ◌&&◌, not, max, min, List, [], ◌∷◌, ◌++◌, length, Bool, true, false, cond, ltb}
use Rattle.im_table.specs.declared.view.View.{View}
use Rattle.im_table.specs.declared.items.LogItem.{LogItem}
use Rattle.im_table.specs.declared.view.Looks.{Looks}
use Rattle.im_table.specs.declared.view.AllLooks.{AllLooks}
use Rattle.im_table.specs.declared.roles.Roles.{Roles}
use Rattle.im_table.specs.declared.view.Least.{Least}

-- the numbers, from k on, of the items that were not found
abbrev pub numbers : ℕ → List LogItem → List ℕ
numbers k [] = []
numbers k (x ∷ xs) = cond x.found (numbers (suc k) xs) (k ∷ numbers (suc k) xs)

-- the numbers of the items of a whole list that were not found
abbrev pub placed_by : List LogItem → List ℕ
placed_by log = numbers 1 log

-- no load was made
abbrev pub never : Looks
never = record { count = 0; last = 0 }

abbrev pub no_looks : AllLooks
no_looks = record { placed = never; durable = never; linked = never; indexed = never; failed = never }

-- one load more, which gave n
abbrev pub once_more : Looks → ℕ → Looks
once_more l n = record { count = l.count + 1; last = n }

-- a view behind a load that gave n: the word placed isn't kept, and each other word is known
abbrev pub looked_placed : View → ℕ → View
looked_placed v n = record v { looks = record v.looks { placed = once_more v.looks.placed n } }

abbrev pub looked_durable : View → ℕ → View
looked_durable v n = record v { least = record v.least { durable = n }; looks = record v.looks { durable = once_more v.looks.durable n } }

abbrev pub looked_linked : View → ℕ → View
looked_linked v n = record v { least = record v.least { linked = n }; looks = record v.looks { linked = once_more v.looks.linked n } }

abbrev pub looked_indexed : View → ℕ → View
looked_indexed v n = record v { least = record v.least { indexed = n }; looks = record v.looks { indexed = once_more v.looks.indexed n } }

abbrev pub looked_failed : View → ℕ → View
looked_failed v n = record v { least = record v.least { failed = n }; looks = record v.looks { failed = once_more v.looks.failed n } }

-- behind the store that places an item
abbrev pub added : View → LogItem → View
added v x = record v { seen = v.seen ++ x ∷ []; own = v.own ++ (length v.seen + 1) ∷ [] }

-- behind the store of the word durable
abbrev pub view_settled : View → ℕ → View
view_settled v n = record v { least = record v.least { durable = n } }

-- behind the store of one failure more
abbrev pub failed_once : View → View
failed_once v = record v { least = record v.least { failed = v.least.failed + 1 }; faults = v.faults + 1 }

-- behind the store of the word linked
abbrev pub linked_to : View → ℕ → View
linked_to v n = record v { least = record v.least { linked = n }; leaves = v.leaves + (n - v.least.linked) }

-- behind the store of the word indexed
abbrev pub indexed_to : View → ℕ → View
indexed_to v n = record v { least = record v.least { indexed = n } }

abbrev pub no_roles : Roles
no_roles = record { journal = false; index = false; book = false; tree = false }

-- these roles without some
abbrev pub without : Roles → Roles → Roles
without all some = record { journal = all.journal && not some.journal; index = all.index && not some.index; book = all.book && not some.book; tree = all.tree && not some.tree }

-- the roles of either
abbrev pub either_of : Roles → Roles → Roles
either_of a b = record { journal = a.journal || b.journal; index = a.index || b.index; book = a.book || b.book; tree = a.tree || b.tree }

-- some of these roles
pub record AreHeld (all some : Roles) : Type 0 where
  pub journal : some.journal ≡ true → all.journal ≡ true
  pub index : some.index ≡ true → all.index ≡ true
  pub book : some.book ≡ true → all.book ≡ true
  pub tree : some.tree ≡ true → all.tree ≡ true

-- nothing is known
abbrev pub zeros : Least
zeros = record { durable = 0; linked = 0; indexed = 0; failed = 0 }

-- of a pass that is split, the view that stays
abbrev pub left_of : Roles → ℕ → View → View
left_of roles weight v = record v { roles = without v.roles roles; weight = v.weight - weight }

-- and that of the new pass
abbrev pub right_of : Roles → ℕ → View → View
right_of roles weight v = record { seen = v.seen; told = []; told_least = zeros; own = []; least = v.least; roles = roles; weight = weight; leaves = 0; faults = 0; looks = no_looks }

-- of two front parts of one list the longer, and the shorter
abbrev pub longer : List LogItem → List LogItem → List LogItem
longer xs ys = cond (ltb (length xs) (length ys)) ys xs

abbrev pub shorter : List LogItem → List LogItem → List LogItem
shorter xs ys = cond (ltb (length xs) (length ys)) xs ys

-- of two lists that of the pass that has the role of the book, else the longer; and the other one
abbrev pub chosen : Bool → Bool → List LogItem → List LogItem → List LogItem
chosen b c xs ys = cond b xs (cond c ys (longer xs ys))

abbrev pub other_of : Bool → Bool → List LogItem → List LogItem → List LogItem
other_of b c xs ys = cond b ys (cond c xs (shorter xs ys))

-- of two known numbers that of the pass that has the role, else the greater; and the other one
abbrev pub pick : Bool → Bool → ℕ → ℕ → ℕ
pick b c x y = cond b x (cond c y (max x y))

abbrev pub rest_of : Bool → Bool → ℕ → ℕ → ℕ
rest_of b c x y = cond b y (cond c x (min x y))

abbrev pub picked : Roles → Roles → Least → Least → Least
picked a b x y = record { durable = pick a.journal b.journal x.durable y.durable; linked = pick a.tree b.tree x.linked y.linked; indexed = pick a.index b.index x.indexed y.indexed; failed = pick a.journal b.journal x.failed y.failed }

abbrev pub rests : Roles → Roles → Least → Least → Least
rests a b x y = record { durable = rest_of a.journal b.journal x.durable y.durable; linked = rest_of a.tree b.tree x.linked y.linked; indexed = rest_of a.index b.index x.indexed y.indexed; failed = rest_of a.journal b.journal x.failed y.failed }

-- behind a join, before what was taken over is compared
abbrev pub together : View → View → View
together v w = record {
  seen = chosen v.roles.book w.roles.book v.seen w.seen;
  told = other_of v.roles.book w.roles.book v.seen w.seen;
  own = v.own ++ w.own;
  told_least = rests v.roles w.roles v.least w.least;
  least = picked v.roles w.roles v.least w.least;
  roles = either_of v.roles w.roles;
  weight = v.weight + w.weight;
  leaves = v.leaves + w.leaves;
  faults = v.faults + w.faults;
  looks = v.looks;
}

-- nothing is left to compare
abbrev pub untold : View → View
untold v = record v { told = []; told_least = zeros }

-- behind a join: the list, numbers and roles of both, and the sums
abbrev pub view_joined : View → View → View
view_joined v w = untold (together v w)

-- the view of a pass that was taken in
abbrev pub spent : View
spent = record { seen = []; told = []; told_least = zeros; own = []; least = zeros; roles = no_roles; weight = 0; leaves = 0; faults = 0; looks = no_looks }

-- the view of the first pass, where this was found
abbrev pub opener : List LogItem → View
opener found = record {
  seen = found;
  told = [];
  told_least = zeros;
  own = [];
  least = record { durable = length found; linked = length found; indexed = length found; failed = 0 };
  roles = record { journal = true; index = true; book = true; tree = true };
  weight = 1048576;
  leaves = 0;
  faults = 0;
  looks = no_looks;
}

-- The tree of a list of items.
use Rattle.std.specs.Prelude.{◌≡◌, ℕ, List, length, take}
use Rattle.im_digest.specs.Digests.{Hash}
use Rattle.im_levels.specs.Leveled.{IsLeveled, Stored}
use Rattle.im_model.specs.History.{alhs_of, bl_root_of}
use Rattle.im_table.specs.Histories.{history_of}
use Rattle.im_table.specs.declared.items.LogItem.{LogItem}

-- the Alh of each item, in order
abbrev pub alhs_in : Hash → List LogItem → List (List ℕ)
alhs_in hash items = alhs_of hash (history_of items)

-- the tree has the first Alh of these items, as many as its size says
abbrev pub IsTreeOf : Hash → List LogItem → Stored → Type 0
IsTreeOf hash items tree = IsLeveled hash (take tree.size (alhs_in hash items)) tree

-- its root, 32 zeros where it has no leaf
abbrev pub IsRootOf : Hash → Stored → List ℕ → Type 0
IsRootOf hash tree root = (leaves : List (List ℕ)) → IsLeveled hash leaves tree → root ≡ bl_root_of hash leaves (length leaves)

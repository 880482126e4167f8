-- The law of a store whose keys that begin with octet 00 are SQL's.
use Rattle.std.specs.Prelude.{◌≡◌, ℕ, suc, Bool, true, cond, List, [], ◌∷◌, length, take, refl}
use Rattle.std.specs.List.{All, count_by}
use Rattle.std.proofs.Common.{ap, subst, arith}
use Rattle.std.proofs.lemmas.List.{take_all}
use Rattle.std.proofs.lemmas.List.Sums.{sum_by-cons}
use Rattle.im_model.specs.History.{IsHistory}
use Rattle.im_sqlmodel.specs.Kept.{IsSqlKept, SqlKept}
use Rattle.im_table.specs.Histories.{history_of}
use Rattle.im_table.specs.declared.items.LogItem.{LogItem}
use Rattle.im_table.proofs.HistoryLemmas.{history_length}

-- how many of these items were found as the store was opened
abbrev pub found_in : List LogItem → ℕ
found_in items = count_by (λ item. item.found) items

-- A list that is a history: where its keys were SQL's behind what was found, they are behind all of it.
abbrev pub KeepsSql : List LogItem → Type 0
KeepsSql items = IsHistory (history_of items) → SqlKept (found_in items) (history_of items)

-- an item that was found counts one, and another none
abbrev pub found_mark : LogItem → ℕ
found_mark item = cond item.found 1 0

-- those that were found whole are as many as were found
pub all-found : (items : List LogItem) → All (λ item. item.found ≡ true) items → found_in items ≡ length items
all-found [] all = refl
all-found (item ∷ items) all =
    let one : found_mark item ≡ 1 = ap (λ (b : Bool). cond b 1 0) (all 0 item (omega arith)) in
    let rest : found_in items ≡ length items = all-found items (λ i d h. all (suc i) d (omega (arith, h))) in
    omega (arith, sum_by-cons found_mark item items, one, rest)

-- a list that was found whole meets the law
pub found-keeps : (items : List LogItem) → All (λ item. item.found ≡ true) items → KeepsSql items
found-keeps items all is kept =
    let whole : take (found_in items) (history_of items) ≡ history_of items =
    take_all (found_in items) (history_of items) (omega (arith, all-found items all, history_length items)) in
    subst IsSqlKept whole kept

-- Lists that meet the law, and grow.
use Rattle.std.proofs.Common.{◌≡◌, ◌≤◌, ◌∙◌, ◌++◌, ◌∷◌, [], ℕ, Bool, true, false, cond, List, None, Some, inl, inr, length, nat_le, suc, take, ap, refl, sym, subst, arith}
use Rattle.std.specs.List.{All}
use Rattle.std.proofs.lemmas.Bool.{cases_Bool}
use Rattle.std.proofs.lemmas.List.{map-append, take-append-le}
use Rattle.std.proofs.lemmas.List.Sums.{count_by-le-length, sum_by-append, sum_by-cons, sum_by_push}
use Rattle.std.proofs.Math.Seq.{take-length}
use Rattle.im_draft.specs.declared.preconditions.Pre.{Pre}
use Rattle.im_model.specs.History.{IsHistory}
use Rattle.im_model.specs.declared.transactions.Transaction.{Transaction}
use Rattle.im_model.proofs.HistoryLemmas.{IsHistory-take}
use Rattle.im_sqllaw.specs.Law.{all-found, found_in, found_mark, KeepsSql}
use Rattle.im_sqlmodel.specs.Kept.{IsSqlKept, SqlKept}
use Rattle.im_table.specs.Histories.{history_of, GoesOn}
use Rattle.im_table.specs.declared.items.LogItem.{LogItem}
use Rattle.im_table.proofs.HistoryLemmas.{history_length}
use Rattle.im_versions.specs.Admits.{Admits, first_refusal, place_refusal}
use Rattle.im_versions.specs.declared.refusals.PlaceError.TheVariants.{Full}
use Rattle.im_versions.proofs.VersionLemmas.{refusal-none}

-- no more were found than there are
pub found-within : (items : List LogItem) → found_in items ≤ length (history_of items)
found-within items = omega (arith, count_by-le-length (λ (item : LogItem). item.found) items, history_length items)

fresh-mark : (item : LogItem) → item.found ≡ false → found_mark item ≡ 0
fresh-mark item is = ap (λ (b : Bool). cond b 1 0) is

-- where none was found, they count none
none-found : (items : List LogItem) → All (λ item. item.found ≡ false) items → found_in items ≡ 0
none-found [] none = refl
none-found (item ∷ items) none =
    omega (arith, sum_by-cons found_mark item items, fresh-mark item (none 0 item (omega arith)), none-found items (λ i d h. none (suc i) d (omega (arith, h))))

-- of what was found and what goes on behind it, so many were found
pub found-first : (found rest : List LogItem) → All (λ item. item.found ≡ true) found → All (λ item. item.found ≡ false) rest → found_in (found ++ rest) ≡ length found
found-first found rest all fresh = omega (arith, sum_by-append found_mark found rest, all-found found all, none-found rest fresh)

-- an item that wasn't found isn't counted
pub found-push : (items : List LogItem) (item : LogItem) → item.found ≡ false → found_in (items ++ item ∷ []) ≡ found_in items
found-push items item fresh = omega (arith, sum_by_push found_mark items item, fresh-mark item fresh)

-- the first of a history that grows is one
pub history-before : (history : List Transaction) (tx : Transaction) → IsHistory (history ++ tx ∷ []) → IsHistory history
history-before history tx is =
    subst IsHistory (take-append-le (length history) history (tx ∷ []) (omega arith) ∙ take-length history) (IsHistory-take (history ++ tx ∷ []) (length history) is)

-- behind what is placed there is room, and each precondition holds
pub placed-admits : (history : List Transaction) (pres : List Pre) → place_refusal history pres ≡ None → Admits history pres
placed-admits history pres none = elim (cases_Bool (nat_le 1048576 (length history))) [
  | inl full ↦ absurd (
      let some : Some Full ≡ None = sym (ap (λ b. cond b (Some Full) (first_refusal history pres)) full) ∙ none in
      cc)
  | inr room ↦ (refusal-none history pres).0 (sym (ap (λ b. cond b (Some Full) (first_refusal history pres)) room) ∙ none)
]

-- what keeps the keys of each history keeps the law
pub law-push : (items : List LogItem) (item : LogItem) → item.found ≡ false
    → (IsHistory (history_of items ++ item.tx ∷ []) → SqlKept (found_in items) (history_of items) → SqlKept (found_in items) (history_of items ++ item.tx ∷ []))
    → KeepsSql items → KeepsSql (items ++ item ∷ [])
law-push items item fresh keeps met is =
    let grown : history_of (items ++ item ∷ []) ≡ history_of items ++ item.tx ∷ [] = map-append (λ (x : LogItem). x.tx) items (item ∷ []) in
    let longer : IsHistory (history_of items ++ item.tx ∷ []) = subst IsHistory grown is in
    let kept : SqlKept (found_in items) (history_of items ++ item.tx ∷ []) = keeps longer (met (history-before (history_of items) item.tx longer)) in
    subst (λ (n : ℕ). SqlKept n (history_of (items ++ item ∷ []))) (sym (found-push items item fresh)) (subst (λ (h : List Transaction). SqlKept (found_in items) h) (sym grown) kept)

-- a list that meets the law, and goes on behind what was found
pub law-kept : (found items : List LogItem) → GoesOn found items → All (λ item. item.found ≡ true) found → IsHistory (history_of items) → KeepsSql items → IsSqlKept (history_of found)
    → IsSqlKept (history_of items)
law-kept found items goes all is met kept =
    let count : found_in items ≡ length (history_of found) =
    ap found_in goes.begins ∙ found-first found goes.rest all goes.fresh ∙ sym (history_length found) in
    let list : history_of items ≡ history_of found ++ history_of goes.rest = ap history_of goes.begins ∙ map-append (λ (x : LogItem). x.tx) found goes.rest in
    let first : take (found_in items) (history_of items) ≡ history_of found =
    ap (λ (n : ℕ). take n (history_of items)) count ∙ ap (λ (h : List Transaction). take (length (history_of found)) h) list
    ∙ take-append-le (length (history_of found)) (history_of found) (history_of goes.rest) (omega arith) ∙ take-length (history_of found) in
    met is (subst IsSqlKept (sym first) kept)

-- An index of the keys of the first transactions of a list.
use Rattle.std.proofs.Common.{◌≡◌, ◌≤◌, ◌+◌, ◌-◌, ◌*◌, ◌<◌, ℕ, List, [], ◌∷◌, ◌++◌, length, take, drop, arith, ap, sym, subst, ◌∙◌, length-append, mul-le-mul_right}
use Rattle.std.proofs.Math.Nat.{add-mul}
use Rattle.std.proofs.lemmas.List.{length-drop, length-map, map-append, take-append-drop, take-append-le, take_all}
use Rattle.im_model.specs.declared.transactions.Transaction.{Transaction}
use Rattle.im_index.specs.Indexed.{Indexed, IsIndexOf}
use Rattle.im_index.specs.Keys.{bare, bare_transaction}
use Rattle.im_book.specs.Keyed.{IsKeyed}

-- an index of no transaction is one of the first of any
pub keyed-new : (keys : Indexed) (transactions : List Transaction) → IsIndexOf keys [] → IsKeyed keys transactions
keyed-new keys transactions is = record {
  within = omega (arith, is.taken);
  first = subst (λ (n : ℕ). IsIndexOf keys (bare (take n transactions))) (sym is.taken) is;
}

-- it stays so while a transaction comes behind them
pub keyed-more : (keys : Indexed) (transactions after : List Transaction) (tx : Transaction) → IsKeyed keys transactions → after ≡ transactions ++ tx ∷ [] → IsKeyed keys after
keyed-more keys transactions after tx is grown =
    let first : take keys.taken after ≡ take keys.taken transactions =
    ap (λ (ts : List Transaction). take keys.taken ts) grown ∙ take-append-le keys.taken transactions (tx ∷ []) is.within in
    record {
      within = omega (arith, is.within, ap length grown, length-append transactions (tx ∷ []));
      first = subst (λ (ts : List Transaction). IsIndexOf keys (bare ts)) (sym first) is.first;
    }

-- the transactions behind the place, as a slice has them
pub behind-is : (transactions : List Transaction) (start : ℕ) → take (length transactions - start) (drop start transactions) ≡ drop start transactions
behind-is transactions start = take_all (length transactions - start) (drop start transactions) (omega (arith, length-drop start transactions))

-- an index that took the others has all
pub keyed-all : (old new : Indexed) (transactions rest : List Transaction) (start : ℕ) → start ≡ old.taken → rest ≡ drop start transactions
    → IsIndexOf new (bare (take old.taken transactions) ++ bare rest) → IsIndexOf new (bare transactions)
keyed-all old new transactions rest start at behind is =
    let n : ℕ = old.taken in
    subst (λ (ts : List Transaction). IsIndexOf new ts)
    (ap (λ (ts : List Transaction). bare (take n transactions) ++ bare ts) behind
    ∙ ap (λ (m : ℕ). bare (take n transactions) ++ bare (drop m transactions)) at
    ∙ sym (map-append bare_transaction (take n transactions) (drop n transactions))
    ∙ ap (λ (ts : List Transaction). bare ts) (take-append-drop n transactions)) is

-- one of all is one of the first
pub keyed-whole : (keys : Indexed) (transactions : List Transaction) → IsIndexOf keys (bare transactions) → IsKeyed keys transactions
keyed-whole keys transactions is =
    let size : keys.taken ≡ length transactions = is.taken ∙ length-map transactions bare_transaction in
    record {
      within = omega (arith, size);
      first = subst (λ (ts : List Transaction). IsIndexOf keys (bare ts)) (sym (take_all keys.taken transactions (omega (arith, size)))) is;
    }

-- and the other way round, where it has as many
pub keyed-history : (keys : Indexed) (transactions : List Transaction) → IsKeyed keys transactions → keys.taken ≡ length transactions → IsIndexOf keys (bare transactions)
keyed-history keys transactions is size =
    subst (λ (ts : List Transaction). IsIndexOf keys (bare ts)) (take_all keys.taken transactions (omega (arith, size))) is.first

-- the transactions that it lacks fit behind those that it has
pub keyed-rest : (keys : Indexed) (transactions rest : List Transaction) (start : ℕ) → IsKeyed keys transactions → start ≡ keys.taken → rest ≡ drop start transactions
    → keys.taken + length rest ≡ length transactions
keyed-rest keys transactions rest start is at behind = omega (arith, at, is.within, ap length behind, length-drop start transactions)

-- the steps for one precondition more
pub judged-more : (n s old steps more : ℕ) → steps ≤ old + n * s → more ≤ steps + s → more ≤ old + (n + 1) * s
judged-more n s old steps more so now = omega (arith, so, now, add-mul n 1 s)

-- and for some are no more than for all
pub judged-cost : (n m s old steps more : ℕ) → n < m → steps ≤ old + n * s → more ≤ steps + s → more ≤ old + m * s
judged-cost n m s old steps more h so now = omega (arith, judged-more n s old steps more so now, mul-le-mul_right {m = n + 1} {n = m} s (omega (arith, h)))

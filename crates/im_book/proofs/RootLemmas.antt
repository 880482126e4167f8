-- The leaves of a tree that is raised, and its root.
use Rattle.std.proofs.Common.{◌≡◌, ◌<◌, ◌≤◌, ◌+◌, ℕ, List, [], ◌∷◌, ◌++◌, zero, suc, length, take, refl, arith, ap, subst, ◌∙◌, sym, get_or}
use Rattle.std.proofs.lemmas.List.{length-take-le, take-append-le}
use Rattle.im_digest.specs.Digests.{Hash}
use Rattle.im_mtree.specs.Kept.{IsFrontier, KeptRoots}
use Rattle.im_model.specs.History.{last_bl_or, Follow, IsHistory, IsTransaction}
use Rattle.im_model.specs.declared.transactions.Transaction.{Transaction}
use Rattle.im_model.proofs.HistoryLemmas.{Follow-item}
use Rattle.im_book.specs.Booked.{last_bl}

-- the tree of a transaction is no smaller than that of the last one before it
last-bl-at : (n bl : ℕ) (txs : List Transaction) (i : ℕ) (tx : Transaction) → Follow n bl txs → i < length txs → last_bl_or bl (take i txs) ≤ (get_or txs i tx).bl
last-bl-at n bl [] i tx f h = absurd (omega arith)
last-bl-at n bl (t ∷ txs) zero tx f h = f.1
last-bl-at n bl (t ∷ txs) (suc i) tx f h = last-bl-at (n + 1) t.bl txs i tx f.2 (omega arith)

-- the next transaction of a history fits behind those before it
pub next-fits : (txs before : List Transaction) (tx : Transaction) → IsHistory txs → take (length before) txs ≡ before → length before < length txs → tx ≡ get_or txs (length before) tx
    → IsTransaction (length before) tx × (last_bl before ≤ tx.bl)
next-fits txs before tx h first within is =
    let tree : last_bl (take (length before) txs) ≤ (get_or txs (length before) tx).bl = last-bl-at 0 0 txs (length before) tx h.follow within in
    let P : List Transaction → Type 0 = λ b. last_bl b ≤ (get_or txs (length before) tx).bl in
    let Q : Transaction → Type 0 = λ t. last_bl before ≤ t.bl in
    (Follow-item txs (length before) (length before) tx h.follow within refl is, subst Q (sym is) (subst P first tree))

-- what is kept of a tree stays so while an Alh comes behind them
pub kept-behind : (hash : Hash) (alhs after : List (List ℕ)) (n : ℕ) (digest : List ℕ) (frontier : KeptRoots) → n ≤ length alhs → IsFrontier hash (take n alhs) frontier → after ≡ alhs ++ digest ∷ []
    → IsFrontier hash (take frontier.size after) frontier
kept-behind hash alhs after n digest frontier within f grown =
    let size : frontier.size ≡ n = f.counted ∙ length-take-le n alhs within in
    let same : take n alhs ≡ take frontier.size after =
    sym (take-append-le n alhs (digest ∷ []) within) ∙ ap (λ (l : List (List ℕ)). take n l) (sym grown) ∙ ap (λ (m : ℕ). take m after) (sym size) in
    subst (λ (l : List (List ℕ)). IsFrontier hash l frontier) same f

-- The tree of a list that goes on, and its root.
use Rattle.std.proofs.Common.{◌≡◌, ℕ, ◌+◌, ◌≤◌, List, [], ◌∷◌, ◌++◌, length, take, drop, refl, ap, sym, subst, ◌∙◌, arith}
use Rattle.std.proofs.Math.Seq.{take-add}
use Rattle.std.proofs.lemmas.List.{length-take}
use mathlib.Core.List.{IsPrefix}
use Rattle.im_digest.specs.Digests.{Hash}
use Rattle.im_levels.specs.Leveled.{IsLeveled, Stored}
use Rattle.im_model.specs.Headers.{alh}
use Rattle.im_model.specs.History.{alhs_from, bl_root_of, next_header}
use Rattle.im_model.specs.declared.transactions.Transaction.{Transaction}
use Rattle.im_model.proofs.HistoryLemmas.{length-alhs_of, root-of-first}
use Rattle.im_table.specs.Histories.{history_of}
use Rattle.im_table.specs.declared.items.LogItem.{LogItem}
use Rattle.im_table.proofs.FrontLemmas.{prefix_self, prefix_trans}
use Rattle.im_table.proofs.HistoryLemmas.{history_front, history_length, part_front, take_front}
use Rattle.im_linker.specs.Trees.{alhs_in, IsTreeOf}

-- the Alh of transactions stand behind those before them
alhs_begin : (hash : Hash) (alhs : List (List ℕ)) (txs : List Transaction) → IsPrefix alhs (alhs_from hash alhs txs)
alhs_begin hash alhs [] = prefix_self alhs
alhs_begin hash alhs (tx ∷ txs) =
    let one : List (List ℕ) = alh hash (next_header hash alhs tx) ∷ [] in
    prefix_trans alhs (alhs ++ one) (alhs_from hash (alhs ++ one) txs) (one, refl) (alhs_begin hash (alhs ++ one) txs)

-- those of a front part begin those of the history
alhs_front : (hash : Hash) (alhs : List (List ℕ)) (xs ys : List Transaction) → IsPrefix xs ys → IsPrefix (alhs_from hash alhs xs) (alhs_from hash alhs ys)
alhs_front hash alhs [] ys p = alhs_begin hash alhs ys
alhs_front hash alhs (x ∷ xs) [] p = absurd (cc (p.1))
alhs_front hash alhs (x ∷ xs) (y ∷ ys) p =
    let heads : x ≡ y = cc (p.1) in
    let behind : Transaction → List (List ℕ) = λ t. alhs ++ alh hash (next_header hash alhs t) ∷ [] in
    subst (λ (t : Transaction). IsPrefix (alhs_from hash (behind x) xs) (alhs_from hash (behind t) ys)) heads
    (alhs_front hash (behind x) xs ys (p.0, cc (p.1)))

-- and so for items
pub alhs_in_front : (hash : Hash) (xs ys : List LogItem) → IsPrefix xs ys → IsPrefix (alhs_in hash xs) (alhs_in hash ys)
alhs_in_front hash xs ys p = alhs_front hash [] (history_of xs) (history_of ys) (history_front xs ys p)

-- there is an Alh for each item
pub alhs_in_length : (hash : Hash) (xs : List LogItem) → length (alhs_in hash xs) ≡ length xs
alhs_in_length hash xs = length-alhs_of hash (history_of xs) ∙ history_length xs

-- the tree has no more leaves than there are items
pub tree_within : (hash : Hash) (xs : List LogItem) (tree : Stored) → IsTreeOf hash xs tree → tree.size ≤ length xs
tree_within hash xs tree h = omega (arith, h.counted, length-take tree.size (alhs_in hash xs), alhs_in_length hash xs)

-- the tree of a front part is one of the list
pub tree_front : (hash : Hash) (xs ys : List LogItem) (tree : Stored) → IsPrefix xs ys → IsTreeOf hash xs tree → IsTreeOf hash ys tree
tree_front hash xs ys tree p h =
    let within : tree.size ≤ length (alhs_in hash xs) = omega (arith, tree_within hash xs tree h, alhs_in_length hash xs) in
    subst (λ (leaves : List (List ℕ)). IsLeveled hash leaves tree) (take_front (alhs_in hash xs) (alhs_in hash ys) tree.size (alhs_in_front hash xs ys p) within) h

-- a tree with the Alh of the items behind its own is one of the list
pub tree_linked : (hash : Hash) (before mine all : List LogItem) (alhs : List (List ℕ)) (old new : Stored) → IsTreeOf hash before old → IsPrefix before all → IsPrefix mine all
    → alhs ≡ take (length alhs) (drop old.size (alhs_in hash mine)) → old.size + length alhs ≤ length mine → new.size ≡ old.size + length alhs
    → IsLeveled hash (take old.size (alhs_in hash before) ++ alhs) new → IsTreeOf hash all new
tree_linked hash before mine all alhs old new h p q next le size leveled =
    let n : ℕ = old.size in
    let m : ℕ = length alhs in
    let leaves : List (List ℕ) = alhs_in hash all in
    let within : n ≤ length (alhs_in hash before) = omega (arith, tree_within hash before old h, alhs_in_length hash before) in
    let front : take n (alhs_in hash before) ≡ take n leaves = take_front (alhs_in hash before) leaves n (alhs_in_front hash before all p) within in
    let long : n + m ≤ length (alhs_in hash mine) = omega (arith, le, alhs_in_length hash mine) in
    let rest : alhs ≡ take m (drop n leaves) = next ∙ part_front (alhs_in hash mine) leaves n m (alhs_in_front hash mine all q) long in
    let seam : take n (alhs_in hash before) ++ alhs ≡ take new.size leaves =
    ap (λ (l : List (List ℕ)). l ++ alhs) front ∙ ap (λ (l : List (List ℕ)). take n leaves ++ l) rest
    ∙ sym (take-add n m leaves) ∙ ap (λ (k : ℕ). take k leaves) (sym size) in
    subst (λ (l : List (List ℕ)). IsLeveled hash l new) seam leveled

-- the root of a tree of items
pub tree_root : (hash : Hash) (xs : List LogItem) (tree : Stored) (made : List ℕ) → IsTreeOf hash xs tree
    → ((leaves : List (List ℕ)) → IsLeveled hash leaves tree → made ≡ bl_root_of hash leaves (length leaves)) → made ≡ bl_root_of hash (alhs_in hash xs) tree.size
tree_root hash xs tree made h is =
    let within : tree.size ≤ length (alhs_in hash xs) = omega (arith, tree_within hash xs tree h, alhs_in_length hash xs) in
    is (take tree.size (alhs_in hash xs)) h ∙ root-of-first hash (alhs_in hash xs) tree.size within

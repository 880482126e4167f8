-- Histories that grow and are cut, and the number of their Alh.
use Rattle.std.proofs.Common.{◌≡◌, ◌<◌, ◌≤◌, length, ℕ, suc, zero, ◌+◌, ◌-◌, ◌==◌, if◌then◌else◌, ne_eqb, ap, List, [], ◌∷◌, ◌++◌, take, arith, subst, ◌∙◌, sym, get_or, length-append, zero-add, All, refl}
use Rattle.std.proofs.Math.Seq.{take-length}
use Rattle.std.proofs.lemmas.List.{length-take, length-take-le}
use Rattle.im_digest.specs.Digests.{Hash}
use Rattle.im_model.specs.Headers.{alh}
use Rattle.im_model.specs.History.{next_header, alh_of, alhs_from, alhs_of, bl_root_of, first_alh, last_bl_or, no_digest, Follow, IsTransaction, IsHistory}
use Rattle.im_model.specs.Trees.{root}
use Rattle.im_model.specs.declared.transactions.Transaction.{Transaction}

-- a transaction of those that follow each other lies within the limits
pub Follow-at : (n bl : ℕ) (txs : List Transaction) (i : ℕ) (d : Transaction) → Follow n bl txs → i < length txs → IsTransaction (n + i) (get_or txs i d)
Follow-at n bl [] i d f h = absurd (omega arith)
Follow-at n bl (tx ∷ txs) zero d f h =
    let same : n ≡ n + 0 = omega arith in
    subst (λ (m : ℕ). IsTransaction m tx) same f.0
Follow-at n bl (tx ∷ txs) (suc i) d f h =
    let same : n + 1 + i ≡ n + suc i = omega arith in
    subst (λ (m : ℕ). IsTransaction m (get_or txs i d)) same (Follow-at (n + 1) tx.bl txs i d f.2 (omega arith))

-- the same of one that code has read by its index
pub Follow-item : (txs : List Transaction) (i m : ℕ) (tx : Transaction) → Follow 0 0 txs → i < length txs → m ≡ i → tx ≡ get_or txs i tx → IsTransaction m tx
Follow-item txs i m tx f h same is =
    let index : 0 + i ≡ m = omega arith in
    let P : ℕ → Type 0 = λ j. IsTransaction j tx in
    let Q : Transaction → Type 0 = λ x. IsTransaction (0 + i) x in
    subst P index (subst Q (sym is) (Follow-at 0 0 txs i tx f h))

-- the first of those that follow each other do so too
pub Follow-take : (n bl : ℕ) (txs : List Transaction) (i : ℕ) → Follow n bl txs → Follow n bl (take i txs)
Follow-take n bl txs zero f = tt
Follow-take n bl [] (suc i) f = tt
Follow-take n bl (tx ∷ txs) (suc i) f = (f.0, f.1, Follow-take (n + 1) tx.bl txs i f.2)

-- a transaction behind others, over a tree no smaller than that of the last
pub Follow-behind : (n bl : ℕ) (txs : List Transaction) (tx : Transaction) → Follow n bl txs → last_bl_or bl txs ≤ tx.bl → IsTransaction (n + length txs) tx → Follow n bl (txs ++ tx ∷ [])
Follow-behind n bl [] tx f over is =
    let same : n + 0 ≡ n = omega arith in
    let P : ℕ → Type 0 = λ m. IsTransaction m tx in
    (subst P same is, over, tt)
Follow-behind n bl (t ∷ txs) tx f over is =
    let same : n + suc (length txs) ≡ n + 1 + length txs = omega arith in
    let P : ℕ → Type 0 = λ m. IsTransaction m tx in
    (f.0, f.1, Follow-behind (n + 1) t.bl txs tx f.2 over (subst P same is))

-- the last tree is that of the transaction that was placed last
pub last-bl-behind : (bl : ℕ) (history : List Transaction) (tx : Transaction) → last_bl_or bl (history ++ tx ∷ []) ≡ tx.bl
last-bl-behind bl [] tx = refl
last-bl-behind bl (t ∷ txs) tx = last-bl-behind t.bl txs tx

-- the first transactions of a history are one
pub IsHistory-take : (txs : List Transaction) (i : ℕ) → IsHistory txs → IsHistory (take i txs)
IsHistory-take txs i h = record {
  few = let most : length (take i txs) ≤ length txs = omega (arith, length-take i txs) in let few : length txs ≤ 1048576 = h.few in omega arith;
  follow = Follow-take 0 0 txs i h.follow;
}

pub length-alhs_from : (hash : Hash) (alhs : List (List ℕ)) (txs : List Transaction) → length (alhs_from hash alhs txs) ≡ length alhs + length txs
length-alhs_from hash alhs [] = omega arith
length-alhs_from hash alhs (tx ∷ txs) =
    let one : List (List ℕ) = alh hash (next_header hash alhs tx) ∷ [] in
    length-alhs_from hash (alhs ++ one) txs ∙ omega (arith, length-append alhs one)

-- there is an Alh for each transaction
pub length-alhs_of : (hash : Hash) (txs : List Transaction) → length (alhs_of hash txs) ≡ length txs
length-alhs_of hash txs = length-alhs_from hash [] txs ∙ zero-add (length txs)

-- the last transaction's tree is within what each one's is
pub last-least : (bl most : ℕ) (txs : List Transaction) → bl ≤ most → All (λ t. t.bl ≤ most) txs → last_bl_or bl txs ≤ most
last-least bl most [] le each = le
last-least bl most (t ∷ txs) le each = last-least t.bl most txs (each 0 t (omega arith)) (λ i d lt. each (suc i) d (omega (arith, lt)))

-- no transaction of a history has a larger tree than the whole
pub linked-all : (txs : List Transaction) → IsHistory txs → All (λ (tx : Transaction). tx.bl ≤ length txs) txs
linked-all txs h = λ i d lt. omega (arith, lt, (Follow-at 0 0 txs i d h.follow lt).linked)

-- the Alh of a number from 1 on
pub alh-at : (hash : Hash) (history : List Transaction) (n : ℕ) → alh_of hash history (n + 1) ≡ get_or (alhs_of hash history) n []
alh-at hash history n =
    let place : n + 1 - 1 ≡ n = omega arith in
    ap (λ b. if b then first_alh hash else get_or (alhs_of hash history) (n + 1 - 1) []) (ne_eqb (n + 1) 0 (λ e. omega arith))
    ∙ ap (λ (i : ℕ). get_or (alhs_of hash history) i []) place

-- the root over the first n leaves, told of them alone
pub root-of-first : (hash : Hash) (leaves : List (List ℕ)) (n : ℕ) → n ≤ length leaves → bl_root_of hash (take n leaves) (length (take n leaves)) ≡ bl_root_of hash leaves n
root-of-first hash leaves n within =
    let first : List (List ℕ) = take n leaves in
    ap (λ (ls : List (List ℕ)). if length first == 0 then no_digest else root hash ls) (take-length first)
    ∙ ap (λ (m : ℕ). if m == 0 then no_digest else root hash first) (length-take-le n leaves within)

-- the root of a tree that isn't empty
pub root-of-some : (hash : Hash) (alhs : List (List ℕ)) (bl : ℕ) (made : List ℕ) → 0 < bl → made ≡ root hash (take bl alhs) → made ≡ bl_root_of hash alhs bl
root-of-some hash alhs bl made some is =
    is ∙ sym (ap (λ b. if b then no_digest else root hash (take bl alhs)) (ne_eqb bl 0 (λ e. omega (arith, e))))

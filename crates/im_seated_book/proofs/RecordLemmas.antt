-- The records of items, copied.
use Rattle.std.proofs.Common.{◌≡◌, ℕ, zero, suc, ◌+◌, ◌-◌, ◌<◌, ◌≤◌, ◌∙◌, List, [], ◌∷◌, ◌++◌, length, map, take, drop, get_or, refl, sym, ap, subst, arith, Result, Ok, Err}
use Rattle.std.specs.Prelude.{IfOk}
use Rattle.std.proofs.lemmas.List.{drop_more, length-map, map-append, take_more}
use Rattle.im_digest.specs.Digests.{Hash}
use Rattle.im_index.proofs.BlockLemmas.{part-length}
use Rattle.im_format.specs.Records.{AreRecords, AreReferences}
use Rattle.im_format.specs.declared.records.Record.{Record}
use Rattle.im_format.specs.declared.references.ValueRef.{ValueRef}
use Rattle.im_model.specs.History.{alhs_of}
use Rattle.im_model.specs.declared.transactions.Transaction.{Transaction}
use Rattle.im_model.proofs.HistoryLemmas.{length-alhs_of, alh-at}
use Rattle.im_table.specs.Histories.{history_of}
use Rattle.im_table.specs.Records.{AreRecordsOf}
use Rattle.im_table.specs.declared.items.LogItem.{LogItem}
use Rattle.im_table.proofs.HistoryLemmas.{history_length}
use Rattle.im_seated_book.specs.Seats.{HaveReferences}

-- what is made of one element more is that of the first elements with the next
pub mapped_more : {A B : Type 0} (f : A → B) (xs ys : List A) (x : A) (zs : List B) (d : B) (k : ℕ) → ys ≡ xs ++ x ∷ [] → map f xs ≡ take k zs → k < length zs → f x ≡ get_or zs k d → map f ys ≡ take (k + 1) zs
mapped_more {A} {B} f xs ys x zs d k grown is within next =
    ap (λ (l : List A). map f l) grown ∙ map-append f xs (x ∷ []) ∙ ap (λ (l : List B). l ++ f x ∷ []) is
    ∙ ap (λ (y : B). take k zs ++ y ∷ []) next ∙ sym (take_more zs k d within)

-- the references of the items behind the first
referred_drop : (hash : Hash) (m n : ℕ) (items : List LogItem) → HaveReferences hash m items → HaveReferences hash (m + n) (drop n items)
referred_drop hash m zero items are =
    let same : m ≡ m + 0 = omega arith in
    subst (λ (k : ℕ). HaveReferences hash k items) same are
referred_drop hash m (suc n) [] are = tt
referred_drop hash m (suc n) (x ∷ items) are =
    let same : m + 1 + n ≡ m + suc n = omega arith in
    subst (λ (k : ℕ). HaveReferences hash k (drop n items)) same (referred_drop hash (m + 1) n items are.1)

-- records of the first of some items, of which the first has number n + 1
rows : (hash : Hash) (history : List Transaction) (n : ℕ) (items : List LogItem) (rs : List Record) → HaveReferences hash (n + 1) items → map (λ (r : Record). r.tx) rs ≡ take (length rs) (history_of items)
    → map (λ (r : Record). r.refs) rs ≡ take (length rs) (map (λ (x : LogItem). x.refs) items) → map (λ (r : Record). r.alh) rs ≡ take (length rs) (drop n (alhs_of hash history)) → n + length rs ≤ length history
    → AreRecords hash history (n + 1) rs
rows hash history n items [] are txs refs alhs le = tt
rows hash history n [] (r ∷ rs) are txs refs alhs le = absurd (cc (txs))
rows hash history n (x ∷ items) (r ∷ rs) are txs refs alhs le =
    let tx : x.tx ≡ r.tx = cc (txs) in
    let ref : x.refs ≡ r.refs = cc (refs) in
    let inside : n < length (alhs_of hash history) = omega (arith, le, length-alhs_of hash history) in
    let split : drop n (alhs_of hash history) ≡ get_or (alhs_of hash history) n [] ∷ drop (n + 1) (alhs_of hash history) = drop_more (alhs_of hash history) n [] inside in
    let told : map (λ (s : Record). s.alh) (r ∷ rs) ≡ take (suc (length rs)) (get_or (alhs_of hash history) n [] ∷ drop (n + 1) (alhs_of hash history)) =
    alhs ∙ ap (λ (l : List (List ℕ)). take (suc (length rs)) l) split in
    let head : r.alh ≡ get_or (alhs_of hash history) n [] = cc (told) in
    let fits = subst (λ (l : List ValueRef). AreReferences hash (n + 1) r.tx.entries l) ref (subst (λ (t : Transaction). AreReferences hash (n + 1) t.entries x.refs) tx are.0) in (
      record { refs = fits; alh = head ∙ sym (alh-at hash history n) },
      rows hash history (n + 1) items rs are.1 (cc (txs)) (cc (refs)) (cc (told)) (omega (arith, le)),
    )

-- records with the transactions, references and Alh of the items behind the first are theirs
pub records_are : (hash : Hash) (items : List LogItem) (behind count : ℕ) (rs : List Record) → HaveReferences hash 1 items → behind + count ≤ length items
    → map (λ (r : Record). r.tx) rs ≡ take count (drop behind (history_of items)) → map (λ (r : Record). r.refs) rs ≡ take count (drop behind (map (λ (x : LogItem). x.refs) items))
    → map (λ (r : Record). r.alh) rs ≡ take count (drop behind (alhs_of hash (history_of items))) → (length rs ≡ count) × AreRecordsOf hash items behind rs
records_are hash items behind count rs referred within txs refs alhs =
    let history = history_of items in
    let many : length rs ≡ count = sym (length-map rs (λ (r : Record). r.tx)) ∙ ap (λ (l : List Transaction). length l) txs ∙ part-length history behind count (omega (arith, within, history_length items)) in
    let tx_rows = txs ∙ ap (λ (n : ℕ). take n (drop behind history)) (sym many) in
    let ref_rows = refs ∙ ap (λ (n : ℕ). take n (drop behind (map (λ (x : LogItem). x.refs) items))) (sym many) in
    let alh_rows = alhs ∙ ap (λ (n : ℕ). take n (drop behind (alhs_of hash history))) (sym many) in
    let number : 1 + behind ≡ behind + 1 = omega arith in
    let rest = subst (λ (n : ℕ). HaveReferences hash n (drop behind items)) number (referred_drop hash 1 behind items referred) in (
      many,
      record {
        within = omega (arith, within, many);
        transactions_are = tx_rows;
        refs_are = ref_rows;
        records_are = rows hash history behind (drop behind items) rs rest (tx_rows ∙ ap (λ (l : List Transaction). take (length rs) l) (drop-map behind items (λ (x : LogItem). x.tx)))
            (ref_rows ∙ ap (λ (l : List (List ValueRef)). take (length rs) l) (drop-map behind items (λ (x : LogItem). x.refs))) alh_rows (omega (arith, within, many, history_length items));
      },
    )
  where
    drop-map : {B : Type 0} (n : ℕ) (xs : List LogItem) (f : LogItem → B) → drop n (map f xs) ≡ map f (drop n xs)
    drop-map zero xs f = refl
    drop-map (suc n) [] f = refl
    drop-map (suc n) (x ∷ xs) f = drop-map n xs f

-- what holds of an answer's value
pub ok_then : {X E : Type 0} (r : Result X E) (P Q R S : X → Type 0) → IfOk r P → IfOk r Q → IfOk r R → ((x : X) → P x → Q x → R x → S x) → IfOk r S
ok_then (Ok x) P Q R S p q r f = f x p q r
ok_then (Err e) P Q R S p q r f = tt

-- Values of the list that threads share, read through the journal's lock.
use Rattle.std.proofs.Common.{◌≡◌, ℕ, zero, suc, ◌+◌, ◌^◌, ◌-◌, ◌<◌, ◌≤◌, ◌∙◌, List, [], ◌∷◌, length, map, take, Option, Some, slice_get, refl, sym, ap, subst, arith, inl, inr, Result, Ok, Err}
use Rattle.std.specs.Prelude.{◌⊎◌}
use Rattle.std.proofs.lemmas.Bool.{cases_lt}
use mathlib.Core.List.{IsPrefix}
use Rattle.im_digest.specs.Digests.{Hash}
use Rattle.im_disk.specs.Disk.{Told}
use Rattle.im_model.specs.declared.transactions.Transaction.{Transaction}
use Rattle.im_format.specs.Batches.{joined}
use Rattle.im_format.specs.declared.records.Record.{Record}
use Rattle.im_format.specs.declared.references.ValueRef.{ValueRef}
use Rattle.im_vlog.specs.declared.showing.ValueError.{ValueError}
use Rattle.im_vlog.specs.declared.showing.ValueError.TheVariants.{DiskFault, Corrupt, Memory}
use Rattle.im_table.specs.Histories.{history_of}
use Rattle.im_table.specs.Views.{failed_once}
use Rattle.im_table.specs.declared.items.LogItem.{LogItem}
use Rattle.im_table.specs.declared.view.View.{View}
use Rattle.im_table.proofs.FrontLemmas.{get_front}
use Rattle.im_table.proofs.HistoryLemmas.{history_length}
use Rattle.im_journal.specs.Faults.{IsReadCounted}
use Rattle.im_journal.specs.Kept.{Kept}
use Rattle.im_seated_journal.specs.Seats.{HasItemValue, RoseBy, ServesItems, refs_in, told_failures}
use Rattle.im_journal.specs.Values.{HasValue}
use Rattle.im_seated_journal.proofs.ServeLemmas.{first_of, rose_more}

module _ {A : Type 0} where
  -- what stands at a place of the first elements stands there in the list, and the place is one of theirs
  get_taken : (xs : List A) (n k : ℕ) (x : A) → slice_get (take n xs) k ≡ Some x → (k < n) × (slice_get xs k ≡ Some x)
  get_taken [] zero k x h = absurd (cc (h))
  get_taken [] (suc n) k x h = absurd (cc (h))
  get_taken (y ∷ xs) zero k x h = absurd (cc (h))
  get_taken (y ∷ xs) (suc n) zero x h = (omega arith, h)
  get_taken (y ∷ xs) (suc n) (suc k) x h = let rest = get_taken xs n k x h in (omega (arith, rest.0), rest.1)

  get_within : (xs : List A) (n k : ℕ) (x : A) → k < n → slice_get xs k ≡ Some x → slice_get (take n xs) k ≡ Some x
  get_within xs zero k x lt h = absurd (omega (arith, lt))
  get_within [] (suc n) k x lt h = absurd (cc (h))
  get_within (y ∷ xs) (suc n) zero x lt h = h
  get_within (y ∷ xs) (suc n) (suc k) x lt h = get_within xs n k x (omega (arith, lt)) h

  -- and what stands at a place of the list in the front part, where it reaches there
  get_back : (xs ys : List A) (n : ℕ) (x : A) → IsPrefix xs ys → n < length xs → slice_get ys n ≡ Some x → slice_get xs n ≡ Some x
  get_back [] ys n x p lt h = absurd (omega (arith, lt))
  get_back (y ∷ xs) [] n x p lt h = absurd (cc (p.1))
  get_back (y ∷ xs) (z ∷ ys) zero x p lt h = cc (p.1, h)
  get_back (y ∷ xs) (z ∷ ys) (suc n) x p lt h = get_back xs ys n x (p.0, cc (p.1)) (omega (arith, lt)) h

  get_mapped : {B : Type 0} (f : A → B) (xs : List A) (n : ℕ) (x : A) → slice_get xs n ≡ Some x → slice_get (map f xs) n ≡ Some (f x)
  get_mapped f [] n x h = absurd (cc (h))
  get_mapped f (y ∷ xs) zero x h = let same : y ≡ x = cc (h) in ap (λ (z : A). Some (f z)) same
  get_mapped f (y ∷ xs) (suc n) x h = get_mapped f xs n x h

  get_source : {B : Type 0} (f : A → B) (xs : List A) (n : ℕ) (y : B) → slice_get (map f xs) n ≡ Some y → (x : A) × (slice_get xs n ≡ Some x) × (f x ≡ y)
  get_source f [] n y h = absurd (cc (h))
  get_source f (x ∷ xs) zero y h = (x, refl, cc (h))
  get_source f (x ∷ xs) (suc n) y h = get_source f xs n y h

-- a record of the batches at the place of a durable item is that item's
record_at : (hash : Hash) (items : List LogItem) (batches : List (List Record)) (durable number : ℕ) (holder : LogItem) → map (λ (r : Record). r.tx) (joined batches) ≡ take durable (history_of items)
    → map (λ (r : Record). r.refs) (joined batches) ≡ take durable (refs_in items) → number < durable → slice_get items number ≡ Some holder
    → (r : Record) × (slice_get (joined batches) number ≡ Some r) × (r.tx ≡ holder.tx) × (r.refs ≡ holder.refs)
record_at hash items batches durable number holder txs refs lt at =
    let tx_there = get_within (history_of items) durable number holder.tx lt (get_mapped (λ (i : LogItem). i.tx) items number holder at) in
    let refs_there = get_within (refs_in items) durable number holder.refs lt (get_mapped (λ (i : LogItem). i.refs) items number holder at) in
    let first = get_source (λ (r : Record). r.tx) (joined batches) number holder.tx (subst (λ (l : List Transaction). slice_get l number ≡ Some holder.tx) (sym txs) tx_there) in
    let second = get_source (λ (r : Record). r.refs) (joined batches) number holder.refs (subst (λ (l : List (List ValueRef)). slice_get l number ≡ Some holder.refs) (sym refs) refs_there) in
    let same : first.0 ≡ second.0 = cc (first.1, second.1) in
    (first.0, first.1, first.2, ap (λ (r : Record). r.refs) same ∙ second.2)

module _ {D : Type 0} {told : D → Option Told} {faults : D → ℕ} {hash : Hash} {found : List LogItem} {synced : Option Told} {before : ℕ} where
  -- a value of a durable item is one of the batches
  pub value_held : (mine seen : List LogItem) (durable : ℕ) (k : Kept D) (value : List ℕ) (ref : ValueRef) → (s : ServesItems told faults hash found synced before seen k) → IsPrefix mine seen
      → durable ≤ k.durable → HasItemValue (take durable mine) value ref → HasValue (joined s.batches) value ref
  value_held mine seen durable k value ref s begins le has =
      let here = get_taken mine durable has.number has.holder has.holder_is in
      let first = first_of s.items s.batches k s.holds in
      let within : has.number < length s.items = omega (arith, here.0, le, first.placed, history_length s.items) in
      let there = get_back s.items seen has.number has.holder s.begins within (get_front mine seen has.number has.holder begins here.1) in
      let r = record_at hash s.items s.batches k.durable has.number has.holder first.transactions_are s.refs_are (omega (arith, here.0, le)) there in
      record {
        number = has.number;
        place = has.place;
        holder = r.0;
        entry = has.entry;
        holder_is = r.1;
        entry_is = ap (λ (t : Transaction). slice_get t.entries has.place) r.2 ∙ has.entry_is;
        value_is = has.value_is;
        reference_is = ap (λ (l : List ValueRef). slice_get l has.place) r.3 ∙ has.reference_is;
      }

-- both counts stay
stays : (before was now old new : ℕ) → RoseBy before was old → now ≡ was → new ≡ old → RoseBy before now new
stays before was now old new rose n o = subst (λ (k : ℕ). RoseBy before k new) (sym n) (subst (λ (k : ℕ). RoseBy before was k) (sym o) rose)

-- a read counts one failure more, or none
pub read_one : {T : Type 0} (was now old new : ℕ) (r : Result T ValueError) → old ≤ 2 ^ 64 - 1 → IsReadCounted was now old new r → (new ≡ old) ⊎ (new ≡ old + 1)
read_one was now old new (Ok x) most counted = inl (counted.failures (λ f. absurd (cc (f))))
read_one was now old new (Err DiskFault) most counted = elim (cases_lt old (2 ^ 64 - 1)) [
  | inl below ↦ inr (omega (arith, counted.more refl, below))
  | inr full ↦ inl (omega (arith, counted.more refl, full, most))
]
read_one was now old new (Err (Corrupt want got)) most counted = inl (counted.failures (λ f. absurd (cc (f))))
read_one was now old new (Err Memory) most counted = inl (counted.failures (λ f. absurd (cc (f))))

pub read_rose : {T : Type 0} (before was now old new : ℕ) (r : Result T ValueError) → RoseBy before was old → IsReadCounted was now old new r → RoseBy before now new
read_rose before was now old new (Ok x) rose counted = stays before was now old new rose (counted.faults (λ f. absurd (cc (f)))) (counted.failures (λ f. absurd (cc (f))))
read_rose before was now old new (Err DiskFault) rose counted = rose_more before was now old new rose (counted.rose refl) (omega (arith, counted.more refl))
read_rose before was now old new (Err (Corrupt want got)) rose counted = stays before was now old new rose (counted.faults (λ f. absurd (cc (f)))) (counted.failures (λ f. absurd (cc (f))))
read_rose before was now old new (Err Memory) rose counted = stays before was now old new rose (counted.faults (λ f. absurd (cc (f)))) (counted.failures (λ f. absurd (cc (f))))

pub read_calm : {T : Type 0} (before was now old new : ℕ) (r : Result T ValueError) → (old ≡ 0 → was ≡ before) → IsReadCounted was now old new r → new ≡ 0 → now ≡ before
read_calm before was now old new (Ok x) calm counted none = counted.faults (λ f. absurd (cc (f))) ∙ calm (sym (counted.failures (λ f. absurd (cc (f)))) ∙ none)
read_calm before was now old new (Err DiskFault) calm counted none = absurd (omega (arith, none, counted.more refl))
read_calm before was now old new (Err (Corrupt want got)) calm counted none = counted.faults (λ f. absurd (cc (f))) ∙ calm (sym (counted.failures (λ f. absurd (cc (f)))) ∙ none)
read_calm before was now old new (Err Memory) calm counted none = counted.faults (λ f. absurd (cc (f))) ∙ calm (sym (counted.failures (λ f. absurd (cc (f)))) ∙ none)

-- a count with one more, or none, is no less
pub one_more : (old new : ℕ) → (new ≡ old) ⊎ (new ≡ old + 1) → old ≤ new
one_more old new (inl same) = omega (arith, same)
one_more old new (inr more) = omega (arith, more)

-- a count that isn't the old one is one more
pub one_left : (old new : ℕ) → (new ≡ old) ⊎ (new ≡ old + 1) → (new ≡ old → ⊥) → new ≡ old + 1
one_left old new (inl same) other = absurd (other same)
one_left old new (inr more) other = more

-- where no failure is told a view is as it was
pub told_none : (v : View) (n : ℕ) → n ≡ v.least.failed → v ≡ told_failures v n
told_none v n is =
    let none : v.faults ≡ v.faults + (v.least.failed - v.least.failed) = omega arith in
    ap (λ (f : ℕ). record v { faults = f }) none ∙ ap (λ (k : ℕ). told_failures v k) (sym is)

-- where one is told
pub told_one : (v : View) (n : ℕ) → n ≡ v.least.failed + 1 → failed_once v ≡ told_failures v n
told_one v n is =
    let one : v.faults + 1 ≡ v.faults + (v.least.failed + 1 - v.least.failed) = omega arith in
    ap (λ (f : ℕ). record v { least = record v.least { failed = v.least.failed + 1 }; faults = f }) one ∙ ap (λ (k : ℕ). told_failures v k) (sym is)

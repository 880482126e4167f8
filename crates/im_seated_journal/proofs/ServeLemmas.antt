-- What the journal's lock keeps, and what it tells of the disk's images.
use Rattle.std.proofs.Common.{◌≡◌, ℕ, ◌+◌, ◌^◌, ◌-◌, ◌<◌, ◌≤◌, ◌∙◌, List, [], length, take, refl, sym, ap, subst, arith, inl, inr, Result, Ok, Err}
use Rattle.std.specs.Prelude.{◌⊎◌, min, Option, IsErrOf, OnErr, OnOk}
use Rattle.std.proofs.Math.Seq.{take-length}
use Rattle.std.proofs.lemmas.Bool.{cases_lt}
use mathlib.Core.List.{IsPrefix}
use Rattle.im_digest.specs.Digests.{Hash}
use Rattle.im_disk.specs.Disk.{Files, Images, Told}
use Rattle.im_disk.specs.Moments.{Leaves, LeavesNow}
use Rattle.im_disk.proofs.Leaving.{if_told, leaves_nothing, leaves_weaker}
use Rattle.im_model.specs.declared.transactions.Transaction.{Transaction}
use Rattle.im_format.specs.Batches.{gate_of, spans_of}
use Rattle.im_format.specs.Standing.{Stands, StandsFrom}
use Rattle.im_format.specs.declared.records.Record.{Record}
use Rattle.im_table.specs.Histories.{history_of}
use Rattle.im_table.specs.declared.items.LogItem.{LogItem}
use Rattle.im_table.proofs.FrontLemmas.{prefix_length, prefix_trans}
use Rattle.im_table.proofs.HistoryLemmas.{history_front, history_length, take_front}
use Rattle.im_journal.specs.Faults.{IsCounted}
use Rattle.im_journal.specs.Holding.{AreFirst}
use Rattle.im_journal.specs.Kept.{HasSealed, HasStaged, IsAtRest, IsAtStep, Kept, StandsBy}
use Rattle.im_journal.specs.Pieces.{end_of}
use Rattle.im_seated_journal.specs.Seats.{IsBatchOf, IsGoing, RoseBy, ServesItems}
use Rattle.im_journal.specs.Values.{HoldsBatches}
use Rattle.im_journal.specs.declared.batches.Step.{Step}
use Rattle.im_journal.specs.declared.batches.Step.TheVariants.{Idle}
use Rattle.im_journal.specs.declared.errors.JournalError.{JournalError}
use Rattle.im_journal.specs.declared.errors.JournalError.TheVariants.{DiskFault, Memory, Stopped}
use Rattle.im_journal.proofs.Longer.{front_longer}
use Rattle.im_journal.proofs.Held.{from_either}
use Rattle.im_journal.proofs.Mids.{gated_at_last, mid_stands, ok_isnt, rest_stands}

-- what a journal answers is one of four
pub by_answer : {T : Type 0} (r : Result T JournalError) (P : Type 0) → OnOk r P → (IsErrOf r Memory → P) → (IsErrOf r DiskFault → P) → ((n : ℕ) → IsErrOf r (Stopped n) → P) → P
by_answer (Ok x) P ok memory fault stopped = ok
by_answer (Err DiskFault) P ok memory fault stopped = fault refl
by_answer (Err (Stopped n)) P ok memory fault stopped = stopped n refl
by_answer (Err Memory) P ok memory fault stopped = memory refl

-- where P gives Q, images that have P have Q
now_weaker : (P Q : Files → Type 0) → ((image : Files) → P image → Q image) → (o : Option Told) → LeavesNow P o → LeavesNow Q o
now_weaker P Q f o l =
    if_told (λ t. (image : Files) → Images t image → P image) (λ t. (image : Files) → Images t image → Q image) (λ t h image from. f image (h image from)) o l

-- an image that stands for a front part of a list that goes on
pub stands_more : (hash : Hash) (least : ℕ) (xs ys : List LogItem) → IsPrefix xs ys → (image : Files) → StandsFrom hash least (history_of xs) image → StandsFrom hash least (history_of ys) image
stands_more hash least xs ys p image from =
    let h = history_front xs ys p in
    subst (λ (l : List Transaction). StandsFrom hash least l image) h.1 (front_longer hash (history_of xs) h.0 least image from)

-- an image of a batch in progress
pub stands_batch : (hash : Hash) (items : List LogItem) (s : Step) (durable count : ℕ) → durable + count ≤ length (history_of items) → (image : Files)
    → StandsBy s hash (history_of items) durable count image → StandsFrom hash durable (history_of items) image
stands_batch hash items s durable count more image by =
    from_either hash (history_of items) durable count image (omega (arith, more)) more (gated_at_last s hash (history_of items) durable count image by)

-- one failure more, or none
pub rose_more : (before was now old new : ℕ) → RoseBy before was old → min (was + 1) (2 ^ 64 - 1) ≤ now → new ≤ old + 1 → RoseBy before now new
rose_more before was now old new (inl le) rose few = elim (cases_lt was (2 ^ 64 - 1)) [
  | inl below ↦ inl (omega (arith, le, rose, few, below))
  | inr full ↦ inr (omega (arith, rose, full))
]
rose_more before was now old new (inr full) rose few = inr (omega (arith, full, rose))

pub counted_rose : {T : Type 0} (before was now old new : ℕ) (r : Result T JournalError) → RoseBy before was old → IsCounted was now old new r → RoseBy before now new
counted_rose before was now old new r rose counted = by_answer r (RoseBy before now new) (ok r counted) (λ e. same e (λ f. absurd (cc (e, f))))
    (λ e. rose_more before was now old new rose (counted.rose e) (omega (arith, counted.more e))) (λ n e. same e (λ f. absurd (cc (e, f))))
  where
    here : now ≡ was → new ≡ old → RoseBy before now new
    here n o = subst (λ (k : ℕ). RoseBy before k new) (sym n) (subst (λ (k : ℕ). RoseBy before was k) (sym o) rose)

    same : {e : JournalError} → IsErrOf r e → (IsErrOf r DiskFault → ⊥) → RoseBy before now new
    same e other = here (counted.faults other) (counted.failures other)

    ok : {T : Type 0} (r : Result T JournalError) → IsCounted was now old new r → OnOk r (RoseBy before now new)
    ok (Ok x) c = here (c.faults (ok_isnt x DiskFault)) (c.failures (ok_isnt x DiskFault))
    ok (Err e) c = tt

-- the disk counted none where none was counted before, and none now
pub counted_calm : {T : Type 0} (before was now old new : ℕ) (r : Result T JournalError) → (old ≡ 0 → was ≡ before) → IsCounted was now old new r → new ≡ 0 → now ≡ before
counted_calm before was now old new r calm counted none = by_answer r (now ≡ before) (ok r counted) (λ e. same e (λ f. absurd (cc (e, f))))
    (λ e. absurd (omega (arith, none, counted.more e))) (λ n e. same e (λ f. absurd (cc (e, f))))
  where
    same : {e : JournalError} → IsErrOf r e → (IsErrOf r DiskFault → ⊥) → now ≡ before
    same e other = counted.faults other ∙ calm (sym (counted.failures other) ∙ none)

    ok : {T : Type 0} (r : Result T JournalError) → IsCounted was now old new r → OnOk r (now ≡ before)
    ok (Ok x) c = c.faults (ok_isnt x DiskFault) ∙ calm (sym (c.failures (ok_isnt x DiskFault)) ∙ none)
    ok (Err e) c = tt

-- what is known behind a step
abbrev pub Goes : {D : Type 0} → (D → Option Told) → (D → ℕ) → Hash → List LogItem → Option Told → ℕ → List LogItem → Kept D → Kept D → Type 0
Goes told faults hash found synced before seen k next =
    ServesItems told faults hash found synced before seen next × Leaves (StandsFrom hash k.durable (history_of seen)) (told k.disk) (told next.disk)

module _ {D : Type 0} {told : D → Option Told} {hash : Hash} where
  -- each image stands for a front part that holds what is durable
  images_in : (items : List LogItem) (batches : List (List Record)) (k : Kept D) → HoldsBatches told hash (history_of items) batches k → LeavesNow (StandsFrom hash k.durable (history_of items)) (told k.disk)
  images_in items batches k (inl rest) =
      now_weaker (λ image. Stands hash image (take k.durable (history_of items))) (StandsFrom hash k.durable (history_of items))
      (λ image stands. record { count = k.durable; no_fewer = omega arith; no_more = rest.first.placed; stands = stands }) (told k.disk)
      (rest_stands told hash (history_of items) batches k rest)
  images_in items batches k (inr (inl mid)) =
      now_weaker (StandsBy k.batch.step hash (history_of items) k.durable (length mid.0)) (StandsFrom hash k.durable (history_of items))
      (stands_batch hash items k.batch.step k.durable (length mid.0) mid.1.next.placed) (told k.disk)
      (mid_stands told hash (history_of items) batches mid.0 k mid.1)
  images_in items batches k (inr (inr held)) = held.images

  -- the batches are the first transactions of the list
  pub first_of : (items : List LogItem) (batches : List (List Record)) (k : Kept D) → HoldsBatches told hash (history_of items) batches k → AreFirst hash (history_of items) batches k.durable k.ends
  first_of items batches k (inl rest) = rest.first
  first_of items batches k (inr (inl mid)) = mid.1.first
  first_of items batches k (inr (inr held)) = held.first

  -- at rest each image stands for what is durable of the list
  pub rests_whole : (seen : List LogItem) (items : List LogItem) (batches : List (List Record)) (k : Kept D) → IsPrefix items seen → IsAtRest told hash (history_of items) batches k
      → LeavesNow (λ image. Stands hash image (take k.durable (history_of seen))) (told k.disk)
  rests_whole seen items batches k p rest =
      let same = take_front (history_of items) (history_of seen) k.durable (history_front items seen p) rest.first.placed in
      subst (λ (l : List Transaction). LeavesNow (λ image. Stands hash image l) (told k.disk)) same (rest_stands told hash (history_of items) batches k rest)

module _ {D : Type 0} {told : D → Option Told} {faults : D → ℕ} {hash : Hash} {found : List LogItem} {synced : Option Told} {before : ℕ} where
  -- the list goes on
  pub serves_later : {seen more : List LogItem} {k : Kept D} → IsPrefix seen more → ServesItems told faults hash found synced before seen k → ServesItems told faults hash found synced before more k
  serves_later {seen} {more} p s = record {
    items = s.items;
    begins = prefix_trans s.items seen more s.begins p;
    batches = s.batches;
    last = s.last;
    holds = s.holds;
    refs_are = s.refs_are;
    going = s.going;
    old = s.old;
    rose = s.rose;
    calm = s.calm;
    made = s.made;
    moments = s.moments;
  }

  -- each image stands for a front part of the list that holds what is durable
  pub serves_images : (seen : List LogItem) (k : Kept D) → ServesItems told faults hash found synced before seen k → LeavesNow (StandsFrom hash k.durable (history_of seen)) (told k.disk)
  serves_images seen k s =
      now_weaker (StandsFrom hash k.durable (history_of s.items)) (StandsFrom hash k.durable (history_of seen)) (stands_more hash k.durable s.items seen s.begins) (told k.disk)
      (images_in s.items s.batches k s.holds)

  -- and so it did at each moment since opening
  pub serves_moments : (seen : List LogItem) (k : Kept D) → ServesItems told faults hash found synced before seen k → Leaves (StandsFrom hash (length found) (history_of seen)) synced (told k.disk)
  serves_moments seen k s =
      leaves_weaker (StandsFrom hash (length found) (history_of s.items)) (StandsFrom hash (length found) (history_of seen)) (stands_more hash (length found) s.items seen s.begins) synced (told k.disk) s.moments

  -- a step that does nothing
  pub nothing_goes : (seen : List LogItem) (k next : Kept D) → next ≡ k → ServesItems told faults hash found synced before seen k → Goes told faults hash found synced before seen k next
  nothing_goes seen k next same s =
      subst (λ (n : Kept D). Goes told faults hash found synced before seen k n) (sym same) (s, (leaves_nothing (StandsFrom hash k.durable (history_of seen)) (told k.disk), serves_images seen k s))

  -- the batch in progress, where one is
  pub batch_in : (seen : List LogItem) (k : Kept D) (s : ServesItems told faults hash found synced before seen k) → k.failures ≡ 0 → (k.batch.step ≡ Idle → ⊥) → IsBatchOf told hash s.items s.batches s.last k
  batch_in seen k s sound busy = batch (s.going sound)
    where
      batch : IsGoing told hash s.items s.batches s.last k → IsBatchOf told hash s.items s.batches s.last k
      batch (inl rest) = absurd (busy rest.0.idle)
      batch (inr mid) = mid

  -- at rest there is none
  pub rest_in : (seen : List LogItem) (k : Kept D) (s : ServesItems told faults hash found synced before seen k) → k.failures ≡ 0 → k.batch.step ≡ Idle
      → IsAtRest told hash (history_of s.items) s.batches k × (s.last ≡ [])
  rest_in seen k s sound idle = rest (s.going sound)
    where
      rest : IsGoing told hash s.items s.batches s.last k → IsAtRest told hash (history_of s.items) s.batches k × (s.last ≡ [])
      rest (inl at) = at
      rest (inr mid) = absurd (subst (λ (x : Step). IsAtStep x (told k.disk) (end_of k.ends) (spans_of s.batches) (gate_of (length s.batches)) k.batch.pieces k.batch.written) idle mid.batch.at)

  -- what is durable is within the list
  pub durable_within : (seen : List LogItem) (k : Kept D) → ServesItems told faults hash found synced before seen k → k.durable ≤ length seen
  durable_within seen k s = omega (arith, (first_of s.items s.batches k s.holds).placed, history_length s.items, prefix_length s.items seen s.begins)

  -- a journal that is at rest, and of which no call of the disk has failed
  pub serves_whole : (seen : List LogItem) (k : Kept D) → ServesItems told faults hash found synced before seen k → k.failures ≡ 0 → k.batch.step ≡ Idle
      → LeavesNow (λ image. Stands hash image (take k.durable (history_of seen))) (told k.disk)
  serves_whole seen k s sound idle = rests_whole seen s.items s.batches k s.begins (rest_in seen k s sound idle).0

  -- and one of which all of the list is durable: a batch in progress would have an item behind it
  pub serves_settled : (seen : List LogItem) (k : Kept D) → ServesItems told faults hash found synced before seen k → k.failures ≡ 0 → length seen ≤ k.durable
      → LeavesNow (λ image. Stands hash image (history_of seen)) (told k.disk)
  serves_settled seen k s sound all = whole (s.going sound)
    where
      every : take k.durable (history_of seen) ≡ history_of seen
      every =
          let count : k.durable ≡ length (history_of seen) = omega (arith, all, durable_within seen k s, history_length seen) in
          ap (λ (n : ℕ). take n (history_of seen)) count ∙ take-length (history_of seen)

      whole : IsGoing told hash s.items s.batches s.last k → LeavesNow (λ image. Stands hash image (history_of seen)) (told k.disk)
      whole (inl rest) = subst (λ (l : List Transaction). LeavesNow (λ image. Stands hash image l) (told k.disk)) every (rests_whole seen s.items s.batches k s.begins rest.0)
      whole (inr mid) = absurd (omega (arith, all, mid.batch.next.placed, mid.batch.next.some, history_length s.items, prefix_length s.items seen s.begins))

-- a staged batch is in progress, and so is a sealed one
pub staged_busy : (s : Step) → HasStaged s → s ≡ Idle → ⊥
staged_busy s h is = subst (λ (x : Step). HasStaged x) is h

pub sealed_busy : (s : Step) → HasSealed s → s ≡ Idle → ⊥
sealed_busy s h is = subst (λ (x : Step). HasSealed x) is h

-- a call counts one failure more, or none
pub counted_one : {T : Type 0} (was now old new : ℕ) (r : Result T JournalError) → old ≤ 2 ^ 64 - 1 → IsCounted was now old new r → (new ≡ old) ⊎ (new ≡ old + 1)
counted_one was now old new (Ok x) most counted = inl (counted.failures (ok_isnt x DiskFault))
counted_one was now old new (Err DiskFault) most counted = elim (cases_lt old (2 ^ 64 - 1)) [
  | inl below ↦ inr (omega (arith, counted.more refl, below))
  | inr full ↦ inl (omega (arith, counted.more refl, full, most))
]
counted_one was now old new (Err (Stopped n)) most counted = inl (counted.failures (λ f. absurd (cc (f))))
counted_one was now old new (Err Memory) most counted = inl (counted.failures (λ f. absurd (cc (f))))

-- what is durable doesn't fall
pub durable_rises : {T : Type 0} (r : Result T JournalError) (count : ℕ) (E F : Type 0) (old new : ℕ) → OnOk r ((new ≡ old + count) × F) → OnErr r (E × (new ≡ old)) → old ≤ new
durable_rises (Ok x) count E F old new moved kept = omega (arith, moved.0)
durable_rises (Err e) count E F old new moved kept = omega (arith, kept.1)

-- what holds on success where no call has failed holds on success
pub on_sound : {T : Type 0} (failures : ℕ) (r : Result T JournalError) (P : Type 0) → (failures ≡ 0 → OnOk r P) → (0 < failures → r ≡ Err (Stopped failures)) → OnOk r P
on_sound failures (Err e) P h stopped = tt
on_sound failures (Ok x) P h stopped = elim (cases_lt 0 failures) [
  | inl failed ↦ absurd (ok_isnt x (Stopped failures) (stopped failed))
  | inr none ↦ h (omega (arith, none))
]

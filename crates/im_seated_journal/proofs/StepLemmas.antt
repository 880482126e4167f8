-- What the journal's lock keeps behind a step of a batch.
use Rattle.std.proofs.Common.{◌≡◌, ℕ, ◌+◌, ◌<◌, ◌≤◌, ◌∙◌, List, [], ◌∷◌, ◌++◌, length, map, take, drop, refl, sym, ap, subst, arith, inl, inr, Result, Ok, Err}
use Rattle.std.specs.Prelude.{Option, IsErrOf, OnErr, OnOk}
use Rattle.std.proofs.Math.Seq.{take-add}
use Rattle.std.proofs.lemmas.Bool.{cases_lt}
use Rattle.std.proofs.lemmas.List.{map-append}
use Rattle.im_octet.proofs.Common.{on-ok}
use Rattle.im_digest.specs.Digests.{Hash}
use Rattle.im_disk.specs.Disk.{Told}
use Rattle.im_disk.specs.Moments.{Leaves, LeavesNow}
use Rattle.im_disk.specs.declared.calls.Call.{Call}
use Rattle.im_disk.proofs.Leaving.{leaves_both, leaves_weaker}
use Rattle.im_model.specs.declared.transactions.Transaction.{Transaction}
use Rattle.im_format.specs.Batches.{gate_of, joined, spans_of}
use Rattle.im_format.specs.Standing.{Stands, StandsFrom}
use Rattle.im_format.specs.declared.records.Record.{Record}
use Rattle.im_format.specs.declared.references.ValueRef.{ValueRef}
use Rattle.im_table.specs.Histories.{history_of}
use Rattle.im_table.specs.declared.items.LogItem.{LogItem}
use Rattle.im_table.proofs.HistoryLemmas.{history_length}
use Rattle.im_journal.specs.Durable.{HoldsDurable}
use Rattle.im_journal.specs.Faults.{IsCounted}
use Rattle.im_journal.specs.Kept.{CanStage, HasSealed, HasStaged, IsAtRest, IsAtStep, IsInBatch, Kept, StandsBy}
use Rattle.im_journal.specs.Made.{MadeUpTo, Makes, calls_to_seal, calls_to_settle, calls_to_stage}
use Rattle.im_journal.specs.Pieces.{end_of, ends_after, pieces_of}
use Rattle.im_journal.specs.Values.{HoldsBatches}
use Rattle.im_journal.specs.declared.batches.Step.{Step}
use Rattle.im_journal.specs.declared.batches.Step.TheVariants.{Gated, Idle, Sealed, Staged, Staging}
use Rattle.im_journal.specs.declared.ends.Ends.{Ends}
use Rattle.im_journal.specs.declared.errors.JournalError.{JournalError}
use Rattle.im_journal.specs.declared.errors.JournalError.TheVariants.{DiskFault, Memory, Stopped}
use Rattle.im_journal.proofs.Mids.{ok_isnt}
use Rattle.im_journal.proofs.Prefixes.{joined_more}
use Rattle.im_seated_journal.specs.Calls.{calls_left}
use Rattle.im_seated_journal.specs.Seats.{IsBatchOf, IsGoing, RoseBy, ServesItems, refs_in}
use Rattle.im_seated_journal.proofs.CallLemmas.{StepMakes, seal_makes, settle_makes, stage_makes}
use Rattle.im_seated_journal.proofs.MadeLemmas.{read_made, settled_made, stepped_made}
use Rattle.im_seated_journal.proofs.ServeLemmas.{Goes, batch_in, by_answer, counted_calm, counted_rose, nothing_goes, on_sound, rests_whole, sealed_busy, staged_busy, stands_batch, stands_more}

-- what a step of a batch in progress does, but for the one that settles it
pub record BatchStep {D T : Type 0} (told : D → Option Told) (hash : Hash) (items : List LogItem) (batches : List (List Record)) (rs : List Record) (k next : Kept D) (r : Result T JournalError) : Type 0 where
  pub step : Step
  pub ok : OnOk r (IsInBatch told hash (history_of items) batches rs next)
  pub again : IsErrOf r Memory → IsInBatch told hash (history_of items) batches rs next
  pub held : IsErrOf r DiskFault → HoldsDurable told hash (history_of items) batches next
  pub moments : Leaves (StandsBy step hash (history_of items) k.durable (length rs)) (told k.disk) (told next.disk)

-- and which calls it makes
abbrev pub MakesLeft : {D T : Type 0} → (D → Option Told) → Kept D → Kept D → Result T JournalError → Type 0
MakesLeft told k next r = (calls : List Call) (o : Option Told) → MadeUpTo calls (calls_left k.batch.step k) o (told k.disk) → StepMakes told calls o next r

-- behind want of memory the batch is in progress still, and its pieces are not all written
again_batch : {D : Type 0} (told : D → Option Told) (hash : Hash) (history : List Transaction) (batches : List (List Record)) (rs : List Record) (k : Kept D)
    → CanStage told hash history batches rs [] k → 1 ≤ length rs → IsInBatch told hash history batches rs k
again_batch told hash history batches rs k (inl can) some = absurd (omega (arith, some, ap (λ (l : List Record). length l) can.2))
again_batch told hash history batches rs k (inr mid) some = mid

staging_of : (s : Step) → (s ≡ Idle → ⊥) → (HasStaged s → ⊥) → s ≡ Staging
staging_of Idle busy not = absurd (busy refl)
staging_of Staging busy not = refl
staging_of Staged busy not = absurd (not tt)
staging_of Sealed busy not = absurd (not tt)
staging_of Gated busy not = absurd (not tt)

-- the items of the batches, with those of one more
refs_settled : {D : Type 0} (items : List LogItem) (batches : List (List Record)) (rs : List Record) (k next : Kept D) → map (λ (r : Record). r.refs) (joined batches) ≡ take k.durable (refs_in items)
    → map (λ (r : Record). r.refs) rs ≡ take (length rs) (drop k.durable (refs_in items)) → next.durable ≡ k.durable + length rs
    → map (λ (r : Record). r.refs) (joined (batches ++ rs ∷ [])) ≡ take next.durable (refs_in items)
refs_settled items batches rs k next first more durable =
    let refs : Record → List ValueRef = λ r. r.refs in
    ap (λ (l : List Record). map refs l) (joined_more batches rs) ∙ map-append refs (joined batches) rs
    ∙ ap (λ (l : List (List ValueRef)). l ++ map refs rs) first ∙ ap (λ (l : List (List ValueRef)). take k.durable (refs_in items) ++ l) more
    ∙ sym (take-add k.durable (length rs) (refs_in items)) ∙ ap (λ (n : ℕ). take n (refs_in items)) (sym durable)

module _ {D : Type 0} {told : D → Option Told} {faults : D → ℕ} {hash : Hash} {found : List LogItem} {synced : Option Told} {before : ℕ} where
  -- a list's moments behind a step
  moved : (seen : List LogItem) (k next : Kept D) → (s : ServesItems told faults hash found synced before seen k)
      → Leaves (StandsFrom hash k.durable (history_of s.items)) (told k.disk) (told next.disk) → Leaves (StandsFrom hash k.durable (history_of seen)) (told k.disk) (told next.disk)
  moved seen k next s l =
      leaves_weaker (StandsFrom hash k.durable (history_of s.items)) (StandsFrom hash k.durable (history_of seen)) (stands_more hash k.durable s.items seen s.begins) (told k.disk) (told next.disk) l

  -- and those since it was opened
  since : (seen : List LogItem) (k next : Kept D) → (s : ServesItems told faults hash found synced before seen k)
      → Leaves (StandsFrom hash k.durable (history_of s.items)) (told k.disk) (told next.disk) → Leaves (StandsFrom hash (length found) (history_of s.items)) synced (told next.disk)
  since seen k next s l =
      leaves_both (StandsFrom hash (length found) (history_of s.items)) synced (told k.disk) (told next.disk) s.moments
      (leaves_weaker (StandsFrom hash k.durable (history_of s.items)) (StandsFrom hash (length found) (history_of s.items))
      (λ image from. record { count = from.count; no_fewer = omega (arith, from.no_fewer, s.old); no_more = from.no_more; stands = from.stands }) (told k.disk) (told next.disk) l)

  -- a step of the batch in progress that moves nothing that is durable
  batch_goes : {T : Type 0} (seen : List LogItem) (k next : Kept D) (r : Result T JournalError) (s : ServesItems told faults hash found synced before seen k) → k.failures ≡ 0
      → IsBatchOf told hash s.items s.batches s.last k → BatchStep told hash s.items s.batches s.last k next r → MakesLeft told k next r → next.durable ≡ k.durable
      → IsCounted (faults k.disk) (faults next.disk) k.failures next.failures r → ((n : ℕ) → IsErrOf r (Stopped n) → ⊥) → Goes told faults hash found synced before seen k next
  batch_goes {T} seen k next r s sound mid b makes durable counted going =
      let history = history_of s.items in
      let refs = ap (λ (n : ℕ). take (length s.last) (drop n (refs_in s.items))) (sym durable) in
      let batch_of : IsInBatch told hash history s.batches s.last next → IsBatchOf told hash s.items s.batches s.last next = λ m. record { batch = m; refs_are = mid.refs_are ∙ refs } in
      let held = HoldsBatches told hash history s.batches next in
      let in_batch = IsInBatch told hash history s.batches s.last next in
      let fault : IsErrOf r DiskFault → next.failures ≡ 0 → ⊥ = λ e none. absurd (omega (arith, none, counted.more e)) in
      let moments = leaves_weaker (StandsBy b.step hash history k.durable (length s.last)) (StandsFrom hash k.durable history)
      (stands_batch hash s.items b.step k.durable (length s.last) mid.batch.next.placed) (told k.disk) (told next.disk) b.moments in (
        record {
          items = s.items;
          begins = s.begins;
          batches = s.batches;
          last = s.last;
          holds = by_answer r held (on-ok in_batch held r (λ m. inr (inl (s.last, m))) b.ok) (λ e. inr (inl (s.last, b.again e))) (λ e. inr (inr (b.held e))) (λ n e. absurd (going n e));
          refs_are = s.refs_are ∙ ap (λ (n : ℕ). take n (refs_in s.items)) (sym durable);
          going = λ none. by_answer r (IsGoing told hash s.items s.batches s.last next) (on-ok in_batch (IsGoing told hash s.items s.batches s.last next) r (λ m. inr (batch_of m)) b.ok)
              (λ e. inr (batch_of (b.again e))) (λ e. absurd (fault e none)) (λ n e. absurd (going n e));
          old = omega (arith, s.old, durable);
          rose = counted_rose before (faults k.disk) (faults next.disk) k.failures next.failures r s.rose counted;
          calm = counted_calm before (faults k.disk) (faults next.disk) k.failures next.failures r s.calm counted;
          made = stepped_made s.items s.batches s.last k next r s.made (makes _ _ (s.made.left sound)) durable fault going;
          moments = since seen k next s moments;
        },
        moved seen k next s moments,
      )

  -- the step that settles the batch in progress
  settled_goes : {T : Type 0} (seen : List LogItem) (k next : Kept D) (x : T) (s : ServesItems told faults hash found synced before seen k) → k.failures ≡ 0 → IsBatchOf told hash s.items s.batches s.last k
      → IsAtRest told hash (history_of s.items) (s.batches ++ s.last ∷ []) next × (next.durable ≡ k.durable + length s.last)
      → Leaves (StandsBy Gated hash (history_of s.items) k.durable (length s.last)) (told k.disk) (told next.disk) → MakesLeft {T = T} told k next (Ok x)
      → IsCounted {T = T} (faults k.disk) (faults next.disk) k.failures next.failures (Ok x) → Goes told faults hash found synced before seen k next
  settled_goes {T} seen k next x s sound mid ok moments makes counted =
      let all = leaves_weaker (StandsBy Gated hash (history_of s.items) k.durable (length s.last)) (StandsFrom hash k.durable (history_of s.items))
      (stands_batch hash s.items Gated k.durable (length s.last) mid.batch.next.placed) (told k.disk) (told next.disk) moments in (
        record {
          items = s.items;
          begins = s.begins;
          batches = s.batches ++ s.last ∷ [];
          last = [];
          holds = inl ok.0;
          refs_are = refs_settled s.items s.batches s.last k next s.refs_are mid.refs_are ok.1;
          going = λ none. inl (ok.0, refl);
          old = omega (arith, s.old, ok.1);
          rose = counted_rose {T = T} before (faults k.disk) (faults next.disk) k.failures next.failures (Ok x) s.rose counted;
          calm = counted_calm {T = T} before (faults k.disk) (faults next.disk) k.failures next.failures (Ok x) s.calm counted;
          made = settled_made s.items s.batches s.last k next x s.made (makes _ _ (s.made.left sound)) ok.0.idle (omega (arith, ok.0.first.placed, history_length s.items));
          moments = since seen k next s all;
        },
        moved seen k next s all,
      )

  -- the pieces that are left are written
  pub stage_goes : {T : Type 0} (seen : List LogItem) (k next : Kept D) (r : Result T JournalError) → ServesItems told faults hash found synced before seen k → (k.failures ≡ 0 → k.batch.step ≡ Idle → ⊥)
      → ((h : Hash) (history : List Transaction) (batches : List (List Record)) (rs : List Record) → CanStage told h history batches rs [] k → OnOk r (IsInBatch told h history batches rs next × HasStaged next.batch.step))
      → ((h : Hash) (history : List Transaction) (batches : List (List Record)) (rs : List Record) → CanStage told h history batches rs [] k → IsErrOf r Memory → CanStage told h history batches rs [] next)
      → ((h : Hash) (history : List Transaction) (batches : List (List Record)) (rs : List Record) → CanStage told h history batches rs [] k → IsErrOf r DiskFault → HoldsDurable told h history batches next)
      → ((h : Hash) (history : List Transaction) (batches : List (List Record)) (rs : List Record) → CanStage told h history batches rs [] k
      → Leaves (StandsBy k.batch.step h history k.durable (length rs)) (told k.disk) (told next.disk))
      → (next.ends ≡ k.ends) × (next.durable ≡ k.durable) → IsCounted (faults k.disk) (faults next.disk) k.failures next.failures r
      → Makes DiskFault Memory (calls_to_stage k []) (calls_to_stage next []) (told k.disk) (told next.disk) r → ((HasStaged k.batch.step → ⊥) → OnOk r (next.batch.step ≡ Staged))
      → (k.failures ≡ 0 → HasStaged k.batch.step → next ≡ k) → (IsErrOf r Memory → HasStaged next.batch.step → ⊥)
      → (0 < k.failures → next ≡ k) → ((n : ℕ) → IsErrOf r (Stopped n) → 0 < k.failures) → Goes told faults hash found synced before seen k next
  stage_goes seen k next r s busy staged again held moments kept counted makes step nothing unstaged stopped going = elim (cases_lt 0 k.failures) [
    | inl failed ↦ nothing_goes seen k next (stopped failed) s
    | inr none ↦ (
        let sound : k.failures ≡ 0 = omega (arith, none) in
        let mid = batch_in seen k s sound (busy sound) in
        let history = history_of s.items in
        let can : CanStage told hash history s.batches s.last [] k = inr mid.batch in
        let more : IsErrOf r Memory → IsInBatch told hash history s.batches s.last next = λ e. again_batch told hash history s.batches s.last next (again hash history s.batches s.last can e) mid.batch.next.some in
        let left : IsErrOf r Memory → next.batch.step ≡ Staging = λ e. staging_of next.batch.step (λ idle. absurd (in_progress next (more e) idle)) (unstaged e) in
        batch_goes seen k next r s sound mid
        (record { step = k.batch.step; ok = on-ok _ _ r (λ h. h.0) (staged hash history s.batches s.last can); again = more; held = held hash history s.batches s.last can; moments = moments hash history s.batches s.last can })
        (λ calls o h. stage_makes told k next r calls o (busy sound) makes kept.0 step (nothing sound) left h)
        kept.1 counted (λ n e. absurd (omega (arith, none, going n e))))
  ]
    where
      in_progress : (x : Kept D) → IsInBatch told hash (history_of s.items) s.batches s.last x → x.batch.step ≡ Idle → ⊥
      in_progress x m idle = subst (λ (y : Step). IsAtStep y (told x.disk) (end_of x.ends) (spans_of s.batches) (gate_of (length s.batches)) x.batch.pieces x.batch.written) idle m.at

  -- and made durable
  pub seal_goes : {T : Type 0} (seen : List LogItem) (k next : Kept D) (r : Result T JournalError) → ServesItems told faults hash found synced before seen k → (k.failures ≡ 0 → HasStaged k.batch.step)
      → ((h : Hash) (history : List Transaction) (batches : List (List Record)) (rs : List Record) → IsInBatch told h history batches rs k → OnOk r (IsInBatch told h history batches rs next × HasSealed next.batch.step))
      → ((h : Hash) (history : List Transaction) (batches : List (List Record)) (rs : List Record) → IsInBatch told h history batches rs k → IsErrOf r Memory
      → IsInBatch told h history batches rs next × HasStaged next.batch.step)
      → ((h : Hash) (history : List Transaction) (batches : List (List Record)) (rs : List Record) → IsInBatch told h history batches rs k → IsErrOf r DiskFault → HoldsDurable told h history batches next)
      → ((h : Hash) (history : List Transaction) (batches : List (List Record)) (rs : List Record) → IsInBatch told h history batches rs k
      → Leaves (StandsBy k.batch.step h history k.durable (length rs)) (told k.disk) (told next.disk))
      → (next.ends ≡ k.ends) × (next.durable ≡ k.durable) → IsCounted (faults k.disk) (faults next.disk) k.failures next.failures r
      → Makes DiskFault Memory (calls_to_seal k.batch.step) (calls_to_seal next.batch.step) (told k.disk) (told next.disk) r → (k.batch.step ≡ Staged → OnOk r (next.batch.step ≡ Sealed))
      → (k.failures ≡ 0 → HasSealed k.batch.step → next ≡ k) → OnErr r (next.batch ≡ k.batch)
      → (0 < k.failures → next ≡ k) → ((n : ℕ) → IsErrOf r (Stopped n) → 0 < k.failures) → Goes told faults hash found synced before seen k next
  seal_goes seen k next r s has sealed again held moments kept counted makes step nothing batch stopped going = elim (cases_lt 0 k.failures) [
    | inl failed ↦ nothing_goes seen k next (stopped failed) s
    | inr none ↦ (
        let sound : k.failures ≡ 0 = omega (arith, none) in
        let mid = batch_in seen k s sound (staged_busy k.batch.step (has sound)) in
        let history = history_of s.items in
        let m = mid.batch in
        batch_goes seen k next r s sound mid
        (record { step = k.batch.step; ok = on-ok _ _ r (λ h. h.0) (sealed hash history s.batches s.last m); again = λ e. (again hash history s.batches s.last m e).0; held = held hash history s.batches s.last m; moments = moments hash history s.batches s.last m })
        (λ calls o h. seal_makes told k next r calls o (has sound) makes kept.0 step (nothing sound) batch h)
        kept.1 counted (λ n e. absurd (omega (arith, none, going n e))))
  ]

  -- and its gate opened
  pub settle_goes : {T : Type 0} (seen : List LogItem) (k next : Kept D) (r : Result T JournalError) → ServesItems told faults hash found synced before seen k → (k.failures ≡ 0 → HasSealed k.batch.step)
      → ((h : Hash) (history : List Transaction) (batches : List (List Record)) (rs : List Record) → IsInBatch told h history batches rs k
      → OnOk r (IsAtRest told h history (batches ++ rs ∷ []) next × (next.durable ≡ k.durable + length rs)))
      → ((h : Hash) (history : List Transaction) (batches : List (List Record)) (rs : List Record) → IsInBatch told h history batches rs k → IsErrOf r Memory
      → IsInBatch told h history batches rs next × HasSealed next.batch.step)
      → ((h : Hash) (history : List Transaction) (batches : List (List Record)) (rs : List Record) → IsInBatch told h history batches rs k → IsErrOf r DiskFault → HoldsDurable told h history batches next)
      → ((h : Hash) (history : List Transaction) (batches : List (List Record)) (rs : List Record) → IsInBatch told h history batches rs k
      → Leaves (StandsBy Gated h history k.durable (length rs)) (told k.disk) (told next.disk))
      → OnErr r ((next.ends ≡ k.ends) × (next.durable ≡ k.durable)) → IsCounted (faults k.disk) (faults next.disk) k.failures next.failures r
      → Makes DiskFault Memory (calls_to_settle k.batch.step k.ends.commits) (calls_to_settle next.batch.step next.ends.commits) (told k.disk) (told next.disk) r → OnOk r (next.batch.step ≡ Idle)
      → (0 < k.failures → next ≡ k) → ((n : ℕ) → IsErrOf r (Stopped n) → 0 < k.failures) → Goes told faults hash found synced before seen k next
  settle_goes {T} seen k next r s has settled again held moments kept counted makes step stopped going = elim (cases_lt 0 k.failures) [
    | inl failed ↦ nothing_goes seen k next (stopped failed) s
    | inr none ↦ (
        let sound : k.failures ≡ 0 = omega (arith, none) in
        let mid = batch_in seen k s sound (sealed_busy k.batch.step (has sound)) in
        let history = history_of s.items in
        let m = mid.batch in
        let left : MakesLeft told k next r = λ calls o h. settle_makes told k next r calls o (has sound) makes step (λ e. (again hash history s.batches s.last m e).1) h in
        by r mid sound (settled hash history s.batches s.last m) (λ e. (again hash history s.batches s.last m e).0) (held hash history s.batches s.last m) (moments hash history s.batches s.last m) left kept counted
        (λ n e. absurd (omega (arith, none, going n e))))
  ]
    where
      by : (r : Result T JournalError) → IsBatchOf told hash s.items s.batches s.last k → k.failures ≡ 0
          → OnOk r (IsAtRest told hash (history_of s.items) (s.batches ++ s.last ∷ []) next × (next.durable ≡ k.durable + length s.last))
          → (IsErrOf r Memory → IsInBatch told hash (history_of s.items) s.batches s.last next) → (IsErrOf r DiskFault → HoldsDurable told hash (history_of s.items) s.batches next)
          → Leaves (StandsBy Gated hash (history_of s.items) k.durable (length s.last)) (told k.disk) (told next.disk) → MakesLeft told k next r
          → OnErr r ((next.ends ≡ k.ends) × (next.durable ≡ k.durable)) → IsCounted (faults k.disk) (faults next.disk) k.failures next.failures r
          → ((n : ℕ) → IsErrOf r (Stopped n) → ⊥) → Goes told faults hash found synced before seen k next
      by (Ok x) mid sound ok again held moments makes kept counted going = settled_goes seen k next x s sound mid ok moments makes counted
      by (Err e) mid sound ok again held moments makes kept counted going =
          batch_goes seen k next (Err e) s sound mid (record { step = Gated; ok = tt; again = again; held = held; moments = moments }) makes kept.1 counted going

  -- what settled is the whole of what is durable
  pub settled_whole : {T : Type 0} (seen : List LogItem) (k next : Kept D) (r : Result T JournalError) → ServesItems told faults hash found synced before seen k → (k.failures ≡ 0 → HasSealed k.batch.step)
      → ((h : Hash) (history : List Transaction) (batches : List (List Record)) (rs : List Record) → IsInBatch told h history batches rs k
      → OnOk r (IsAtRest told h history (batches ++ rs ∷ []) next × (next.durable ≡ k.durable + length rs)))
      → (0 < k.failures → r ≡ Err (Stopped k.failures)) → OnOk r (LeavesNow (λ image. Stands hash image (take next.durable (history_of seen))) (told next.disk))
  settled_whole seen k next (Err e) s has ok stopped = tt
  settled_whole seen k next (Ok x) s has ok stopped = elim (cases_lt 0 k.failures) [
    | inl failed ↦ absurd (ok_isnt x (Stopped k.failures) (stopped failed))
    | inr none ↦ (
        let sound : k.failures ≡ 0 = omega (arith, none) in
        let mid = batch_in seen k s sound (sealed_busy k.batch.step (has sound)) in
        rests_whole seen s.items (s.batches ++ s.last ∷ []) next s.begins (ok hash (history_of s.items) s.batches s.last mid.batch).0)
  ]

  -- a read leaves the batches as they are
  pub read_goes : (seen : List LogItem) (k next : Kept D) → ServesItems told faults hash found synced before seen k → told next.disk ≡ told k.disk
      → (next.ends ≡ k.ends) × (next.durable ≡ k.durable) × (next.batch ≡ k.batch)
      → ((h : Hash) (history : List Transaction) (batches : List (List Record)) → IsAtRest told h history batches k → IsAtRest told h history batches next)
      → ((h : Hash) (history : List Transaction) (batches : List (List Record)) (rs : List Record) → IsInBatch told h history batches rs k → IsInBatch told h history batches rs next)
      → ((h : Hash) (history : List Transaction) (batches : List (List Record)) → HoldsDurable told h history batches k → HoldsDurable told h history batches next)
      → k.failures ≤ next.failures → RoseBy before (faults next.disk) next.failures → (next.failures ≡ 0 → faults next.disk ≡ before) → ServesItems told faults hash found synced before seen next
  read_goes seen k next s same kept rest batch held more rose calm = record {
    items = s.items;
    begins = s.begins;
    batches = s.batches;
    last = s.last;
    holds = holds s.holds;
    refs_are = s.refs_are ∙ ap (λ (n : ℕ). take n (refs_in s.items)) (sym kept.1);
    going = λ none. goes (s.going (omega (arith, none, more)));
    old = omega (arith, s.old, kept.1);
    rose = rose;
    calm = calm;
    made = read_made s.items s.batches s.last k next s.made same kept.0 kept.1 kept.2 more;
    moments = subst (λ (o : Option Told). Leaves (StandsFrom hash (length found) (history_of s.items)) synced o) (sym same) s.moments;
  }
    where
      holds : HoldsBatches told hash (history_of s.items) s.batches k → HoldsBatches told hash (history_of s.items) s.batches next
      holds (inl r) = inl (rest hash (history_of s.items) s.batches r)
      holds (inr (inl m)) = inr (inl (m.0, batch hash (history_of s.items) s.batches m.0 m.1))
      holds (inr (inr h)) = inr (inr (held hash (history_of s.items) s.batches h))

      goes : IsGoing told hash s.items s.batches s.last k → IsGoing told hash s.items s.batches s.last next
      goes (inl r) = inl (rest hash (history_of s.items) s.batches r.0, r.1)
      goes (inr m) = inr (record { batch = batch hash (history_of s.items) s.batches s.last m.batch; refs_are = m.refs_are ∙ ap (λ (n : ℕ). take (length s.last) (drop n (refs_in s.items))) (sym kept.1) })

  -- what is staged is the batch that was begun
  pub batch_same : {T : Type 0} (seen : List LogItem) (k next : Kept D) (r : Result T JournalError) → ServesItems told faults hash found synced before seen k → (k.failures ≡ 0 → k.batch.step ≡ Idle → ⊥)
      → ((h : Hash) (history : List Transaction) (batches : List (List Record)) (rs : List Record) → CanStage told h history batches rs [] k → OnOk r (IsInBatch told h history batches rs next × HasStaged next.batch.step))
      → (next.ends ≡ k.ends) × (next.durable ≡ k.durable) → (0 < k.failures → r ≡ Err (Stopped k.failures))
      → OnOk r ((next.batch.pieces ≡ k.batch.pieces) × (next.batch.ends ≡ k.batch.ends) × (next.batch.count ≡ k.batch.count))
  batch_same seen k next r s busy staged kept stopped =
      let same = (next.batch.pieces ≡ k.batch.pieces) × (next.batch.ends ≡ k.batch.ends) × (next.batch.count ≡ k.batch.count) in
      on_sound k.failures r same (λ sound.
      let mid = (batch_in seen k s sound (busy sound)).batch in
      on-ok (IsInBatch told hash (history_of s.items) s.batches s.last next × HasStaged next.batch.step) same r
      (λ new. (
        new.0.pieces ∙ ap (λ (e : Ends). pieces_of e (next.durable + 1) s.last) kept.0 ∙ ap (λ (n : ℕ). pieces_of k.ends (n + 1) s.last) kept.1 ∙ sym mid.pieces,
        new.0.ends ∙ ap (λ (e : Ends). ends_after e (next.durable + 1) s.last) kept.0 ∙ ap (λ (n : ℕ). ends_after k.ends (n + 1) s.last) kept.1 ∙ sym mid.ends,
        new.0.count ∙ sym mid.count,
      ))
      (staged hash (history_of s.items) s.batches s.last (inr mid)))
      stopped

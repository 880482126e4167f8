-- Calls of the disk that were foretold to fail or not.
use Rattle.std.proofs.Common.{◌≡◌, ◌<◌, ◌≤◌, ◌+◌, ◌∙◌, ℕ, List, [], ◌∷◌, ◌++◌, length, Bool, true, false, refl, sym, ap, subst, arith, inl, Option, Some, None, Result, Ok, Err, length-append}
use Rattle.std.proofs.lemmas.Bool.{false≢true, true≢false}
use Rattle.std.specs.Prelude.{IsErrOf, OnOk}
use Rattle.std.specs.Option.{option_map}
use Rattle.im_octet.proofs.Common.{ok-isnt, some-is}
use Rattle.im_core.specs.Foretold.{IsForetold, IsTheSame}
use Rattle.im_core.specs.Parts.{tells, Answers, IsAsFar, IsGoing, IsUp}
use Rattle.im_core.specs.declared.store.OpenStore.{OpenStore}
use Rattle.im_digest.specs.Digests.{Hash}
use Rattle.im_disk.specs.Disk.{after, Told}
use Rattle.im_disk.specs.Grown.{after_all}
use Rattle.im_disk.specs.Recorded.{told_by, Recorded}
use Rattle.im_disk.specs.declared.calls.Call.{Call}
use Rattle.im_disk.specs.declared.calls.Call.TheVariants.{Synced, Wrote}
use Rattle.im_format.specs.Batches.{gate_of, spans_of}
use Rattle.im_format.specs.declared.records.Record.{Record}
use Rattle.im_format.specs.declared.spans.Span.{Span}
use Rattle.im_journal.specs.Holding.{ends_of}
use Rattle.im_journal.specs.Kept.{HasSealed, IsAtRest, IsAtStep, IsInBatch, Kept}
use Rattle.im_journal.specs.Made.{calls_to_seal, calls_to_settle, failed_call, MadeUpTo, Makes}
use Rattle.im_journal.specs.Pieces.{end_of, pieces_of}
use Rattle.im_journal.specs.declared.batches.Step.{Step}
use Rattle.im_journal.specs.declared.batches.Step.TheVariants.{Idle, Staging, Staged, Sealed, Gated}
use Rattle.im_journal.specs.declared.ends.Ends.{Ends}
use Rattle.im_journal.specs.declared.errors.JournalError.{JournalError}
use Rattle.im_journal.specs.declared.errors.JournalError.TheVariants.{DiskFault, Memory}
use Rattle.im_machine.specs.Kept.{IsDone}
use Rattle.im_machine.specs.Allowed.{Allows, MayCall, MayGate, MaySeal, MaySettle, MayStage}
use Rattle.im_machine.specs.Machines.{further, gate_due, writes_due, Machine, Progress}
use Rattle.im_machine.specs.Steps.{Gates, Seals, Settles}
use Rattle.im_machine.specs.declared.events.Event.TheVariants as on
use Rattle.im_machine.specs.declared.outputs.Output.{Output}
use Rattle.im_model.specs.declared.transactions.Transaction.{Transaction}

-- a batch is in progress behind the same journal, whatever calls of its disk are to fail
pub same-batch : (hash : Hash) (history : List Transaction) (batches : List (List Record)) (rs : List Record) (a b : Kept Recorded) → IsTheSame a b
    → IsInBatch tells hash history batches rs a → IsInBatch tells hash history batches rs b
same-batch hash history batches rs a b same mid =
    let c : Kept Recorded = record { disk = b.disk; ends = a.ends; durable = a.durable; batch = a.batch; failures = a.failures } in
    let moved : IsInBatch tells hash history batches rs c = record {
      first = mid.first;
      next = mid.next;
      pieces = mid.pieces;
      ends = mid.ends;
      count = mid.count;
      at = subst (λ (o : Option Told). IsAtStep a.batch.step o (end_of a.ends) (spans_of batches) (gate_of (length batches)) a.batch.pieces a.batch.written)
          (ap (λ (t : Told). Some t) (sym same.disk)) mid.at;
    } in
    subst (λ (k : Kept Recorded). IsInBatch tells hash history batches rs k) (sym same.parts) moved

-- the writes of the batch are the journal's pieces
pub writes-are : (hash : Hash) (m : Machine) (k : Kept Recorded) (p : Progress) → k.durable ≡ m.durable → IsInBatch tells hash m.placed m.batches p.records k
    → k.batch.pieces ≡ writes_due m p
writes-are hash m k p durable mid =
    mid.pieces ∙ ap (λ (e : Ends). pieces_of e (k.durable + 1) p.records) mid.first.ends_are ∙ ap (λ (n : ℕ). pieces_of (ends_of m.batches) (n + 1) p.records) durable

-- a step of one call made it, or failed at it
pub told-ok : (c : Call) (left : List Call) (k j : Kept Recorded) (x : Unit {0}) → Makes {T = Unit {0}} DiskFault Memory (c ∷ []) left (tells k.disk) (tells j.disk) (Ok x)
    → told_by j.disk ≡ after c (told_by k.disk)
told-ok c left k j x makes = some-is (told_by j.disk) (after c (told_by k.disk)) makes.ok

only-one : (c call : Call) (made behind : List Call) → c ∷ [] ≡ made ++ call ∷ behind → (made ≡ []) × (call ≡ c)
only-one c call [] behind is = (refl, cc)
only-one c call (x ∷ made) behind is =
    absurd (omega (arith, ap (λ (l : List Call). length l) is, length-append made (call ∷ behind)))

pub told-failed : (c : Call) (left : List Call) (k j : Kept Recorded) (e : JournalError) → Makes {T = Unit {0}} DiskFault Memory (c ∷ []) left (tells k.disk) (tells j.disk) (Err e)
    → IsErrOf {T = Unit {0}} (Err e) DiskFault → told_by j.disk ≡ after (failed_call c) (told_by k.disk)
told-failed c left k j e makes fault =
    let f = makes.failed fault in
    let call : Call = f.0 in
    let middle : Option Told = f.2 in
    let made : MadeUpTo (c ∷ []) (call ∷ f.1) (tells k.disk) middle = f.3 in
    let one = only-one c call made.made f.1 made.split in
    let before : middle ≡ Some (told_by k.disk) =
    made.told ∙ ap (λ (l : List Call). option_map (after_all l) (tells k.disk)) one.0 in
    some-is (told_by j.disk) (after (failed_call c) (told_by k.disk))
    (f.4 ∙ ap (λ (o : Option Told). option_map (after (failed_call call)) o) before ∙ ap (λ (x : Call). Some (after (failed_call x) (told_by k.disk))) one.1)

-- the machine behind a call that failed
abbrev pub fallen : Machine → Told → Machine
fallen m t = record m { disk = t; stopped = true }

pub fails-up : (hash : Hash) (s : OpenStore) (m : Machine) (j : Kept Recorded) (t : Told) → IsUp hash s m → told_by j.disk ≡ t → j.durable ≡ m.durable
    → IsUp hash (record { book = s.book; tree = s.tree; index = s.index; journal = j; failures = s.failures; stopped = true }) (fallen m t)
fails-up hash s m j t u disk durable = record {
  up = u.up;
  lists = u.lists;
  order = u.order;
  disk = disk;
  durable = durable;
  failures = u.failures;
  stopped = refl;
  going = λ going. absurd (true≢false going);
}

-- the machine behind one that succeeded, with this batch in progress
abbrev pub gone_on : Machine → Option Progress → Told → Machine
gone_on m progress t = record m { progress = progress; disk = t }

pub goes-up : (hash : Hash) (s : OpenStore) (m : Machine) (j : Kept Recorded) (progress : Option Progress) (t : Told) → IsUp hash s m → m.stopped ≡ false → told_by j.disk ≡ t
    → j.durable ≡ m.durable → j.failures ≡ 0 → IsAsFar hash m.placed m.batches progress j
    → IsUp hash (record { book = s.book; tree = s.tree; index = s.index; journal = j; failures = s.failures; stopped = false }) (gone_on m progress t)
goes-up hash s m j progress t u going disk durable none far = record {
  up = u.up;
  lists = u.lists;
  order = u.order;
  disk = disk;
  durable = durable;
  failures = u.failures;
  stopped = sym going;
  going = λ g. record { none = none; far = far };
}

-- what is known of a journal before a call of its disk, where this is the batch in progress
pub record IsReady (hash : Hash) (m : Machine) (k : Kept Recorded) (p : Progress) : Type 0 where
  pub going : m.stopped ≡ false
  pub is : m.progress ≡ Some p
  pub mid : IsInBatch tells hash m.placed m.batches p.records k
  pub done : IsDone k.batch.step (length k.batch.pieces) k.batch.written p.done
  pub writes : k.batch.pieces ≡ writes_due m p
  pub durable : k.durable ≡ m.durable
  pub none : k.failures ≡ 0
  pub disk : told_by k.disk ≡ m.disk

pub ready-for : (hash : Hash) (s : OpenStore) (m : Machine) (k : Kept Recorded) (p : Progress) → IsUp hash s m → s.stopped ≡ false → m.progress ≡ Some p → IsTheSame s.journal k
    → IsReady hash m k p
ready-for hash s m k p u stopped is same =
    let going : m.stopped ≡ false = sym u.stopped ∙ stopped in
    let g : IsGoing hash m s.journal = u.going going in
    let far : IsAsFar hash m.placed m.batches (Some p) s.journal = subst (λ (o : Option Progress). IsAsFar hash m.placed m.batches o s.journal) is g.far in
    let parts = same.parts in
    let mid : IsInBatch tells hash m.placed m.batches p.records k = same-batch hash m.placed m.batches p.records s.journal k same far.0 in
    let durable : k.durable ≡ m.durable = ap (λ (x : Kept Recorded). x.durable) parts ∙ u.durable in
    record {
      going = going;
      is = is;
      mid = mid;
      done = subst (λ (x : Kept Recorded). IsDone x.batch.step (length x.batch.pieces) x.batch.written p.done) (sym parts) far.1;
      writes = writes-are hash m k p durable mid;
      durable = durable;
      none = ap (λ (x : Kept Recorded). x.failures) parts ∙ g.none;
      disk = same.disk ∙ u.disk;
    }

-- a batch is in progress where the journal isn't idle
pub progress-of : (hash : Hash) (m : Machine) (k : Kept Recorded) (o : Option Progress) → m.progress ≡ o → IsAsFar hash m.placed m.batches o k → (k.batch.step ≡ Idle → ⊥)
    → (p : Progress) × (m.progress ≡ Some p)
progress-of hash m k None is far busy = absurd (busy far.idle)
progress-of hash m k (Some p) is far busy = (p, is)

pub ready : (hash : Hash) (s : OpenStore) (m : Machine) (k : Kept Recorded) (step : Step) → IsUp hash s m → s.stopped ≡ false → s.journal.batch.step ≡ step → (step ≡ Idle → ⊥)
    → IsTheSame s.journal k → (p : Progress) × IsReady hash m k p
ready hash s m k step u stopped at other same =
    let found = progress-of hash m s.journal m.progress refl (u.going (sym u.stopped ∙ stopped)).far (λ idle. other (sym at ∙ idle)) in
    (found.0, ready-for hash s m k found.0 u stopped found.1 same)

pub step-same : (a b : Kept Recorded) (step : Step) → IsTheSame a b → a.batch.step ≡ step → b.batch.step ≡ step
step-same a b step same at = ap (λ (x : Kept Recorded). x.batch.step) same.parts ∙ at

-- the journal behind a call, put into the store
abbrev pub with_journal : OpenStore → Kept Recorded → Bool → OpenStore
with_journal s j stopped = record { book = s.book; tree = s.tree; index = s.index; journal = j; failures = s.failures; stopped = stopped }

pub no-fault : (x : Unit {0}) → IsErrOf {T = Unit {0}} (Ok x) DiskFault → ⊥
no-fault x e = ok-isnt x DiskFault e

-- sealing: the sync behind the pieces
pub sealed-step : (hash : Hash) (s : OpenStore) (m : Machine) (k j : Kept Recorded) (fails : Bool) (r : Result (Unit {0}) JournalError) (output : Output)
    → IsUp hash s m → s.stopped ≡ false → s.journal.batch.step ≡ Staged → IsTheSame s.journal k
    → ((history : List Transaction) (batches : List (List Record)) (rs : List Record) → IsInBatch tells hash history batches rs k → OnOk r (IsInBatch tells hash history batches rs j × HasSealed j.batch.step))
    → (k.batch.step ≡ Staged → OnOk r (j.batch.step ≡ Sealed)) → j.batch.pieces ≡ k.batch.pieces → j.durable ≡ k.durable
    → Makes DiskFault Memory (calls_to_seal k.batch.step) (calls_to_seal j.batch.step) (tells k.disk) (tells j.disk) r
    → ((IsErrOf r DiskFault → ⊥) → j.failures ≡ k.failures) → IsForetold fails r output → Answers hash m (on.Seal fails) output (with_journal s j fails)
sealed-step hash s m k j false (Ok x) output u stopped at same seals steps pieces durable makes failures told =
    let found : (p : Progress) × IsReady hash m k p = ready hash s m k Staged u stopped at (λ e. cc) same in
    let p : Progress = found.0 in
    let b : IsReady hash m k p = found.1 in
    let staged : k.batch.step ≡ Staged = step-same s.journal k Staged same at in
    let done : p.done ≡ length k.batch.pieces = subst (λ (st : Step). IsDone st (length k.batch.pieces) k.batch.written p.done) staged b.done in
    let may : p.done ≡ length (writes_due m p) = done ∙ ap (λ (l : List Span). length l) b.writes in
    let call : Makes {T = Unit {0}} DiskFault Memory (Synced ∷ []) (calls_to_seal j.batch.step) (tells k.disk) (tells j.disk) (Ok x) =
    subst (λ (st : Step). Makes {T = Unit {0}} DiskFault Memory (calls_to_seal st) (calls_to_seal j.batch.step) (tells k.disk) (tells j.disk) (Ok x)) staged makes in
    let t : Told = after Synced m.disk in
    let disk : told_by j.disk ≡ t = told-ok Synced (calls_to_seal j.batch.step) k j x call ∙ ap (after Synced) b.disk in
    let sealed : j.batch.step ≡ Sealed = steps staged in
    let next_done : IsDone j.batch.step (length j.batch.pieces) j.batch.written (p.done + 1) =
    subst (λ (st : Step). IsDone st (length j.batch.pieces) j.batch.written (p.done + 1)) (sym sealed) (ap (λ (n : ℕ). n + 1) (done ∙ ap (λ (l : List Span). length l) (sym pieces))) in
    let next : Machine = gone_on m (Some (further p)) t in (
      next,
      inl (
        (record { up = u.up; going = b.going }, subst (λ (o : Option Progress). MaySeal m o) (sym b.is) may),
        subst (λ (o : Option Progress). Seals m false o output next) (sym b.is) (told.1, refl),
      ),
      goes-up hash s m j (Some (further p)) t u b.going disk (durable ∙ b.durable) (failures (no-fault x) ∙ b.none) ((seals m.placed m.batches p.records b.mid).0, next_done),
    )
sealed-step hash s m k j false (Err e) output u stopped at same seals steps pieces durable makes failures told = absurd (false≢true told.0)
sealed-step hash s m k j true (Ok x) output u stopped at same seals steps pieces durable makes failures told = absurd (ok-isnt x DiskFault told.0)
sealed-step hash s m k j true (Err e) output u stopped at same seals steps pieces durable makes failures told =
    let found : (p : Progress) × IsReady hash m k p = ready hash s m k Staged u stopped at (λ e. cc) same in
    let p : Progress = found.0 in
    let b : IsReady hash m k p = found.1 in
    let staged : k.batch.step ≡ Staged = step-same s.journal k Staged same at in
    let done : p.done ≡ length k.batch.pieces = subst (λ (st : Step). IsDone st (length k.batch.pieces) k.batch.written p.done) staged b.done in
    let may : p.done ≡ length (writes_due m p) = done ∙ ap (λ (l : List Span). length l) b.writes in
    let call : Makes {T = Unit {0}} DiskFault Memory (Synced ∷ []) (calls_to_seal j.batch.step) (tells k.disk) (tells j.disk) (Err e) =
    subst (λ (st : Step). Makes {T = Unit {0}} DiskFault Memory (calls_to_seal st) (calls_to_seal j.batch.step) (tells k.disk) (tells j.disk) (Err e)) staged makes in
    let t : Told = after (failed_call Synced) m.disk in
    let disk : told_by j.disk ≡ t = told-failed Synced (calls_to_seal j.batch.step) k j e call told.0 ∙ ap (after (failed_call Synced)) b.disk in
    let next : Machine = fallen m t in (
      next,
      inl (
        (record { up = u.up; going = b.going }, subst (λ (o : Option Progress). MaySeal m o) (sym b.is) may),
        subst (λ (o : Option Progress). Seals m true o output next) (sym b.is) (told.1, refl),
      ),
      fails-up hash s m j t u disk (durable ∙ b.durable),
    )

-- the gate: the write of its octet
pub gated-step : (hash : Hash) (s : OpenStore) (m : Machine) (k j : Kept Recorded) (fails : Bool) (r : Result (Unit {0}) JournalError) (output : Output)
    → IsUp hash s m → s.stopped ≡ false → s.journal.batch.step ≡ Sealed → IsTheSame s.journal k
    → ((history : List Transaction) (batches : List (List Record)) (rs : List Record) → IsInBatch tells hash history batches rs k → OnOk r (IsInBatch tells hash history batches rs j))
    → OnOk r (j.batch.step ≡ Gated) → j.batch.pieces ≡ k.batch.pieces → j.durable ≡ k.durable
    → Makes DiskFault Memory (Wrote 1 (end_of k.ends 1) (1 ∷ []) ∷ []) (Wrote 1 (end_of k.ends 1) (1 ∷ []) ∷ []) (tells k.disk) (tells j.disk) r
    → ((IsErrOf r DiskFault → ⊥) → j.failures ≡ k.failures) → IsForetold fails r output → Answers hash m (on.Gate fails) output (with_journal s j fails)
gated-step hash s m k j false (Ok x) output u stopped at same opens step pieces durable makes failures told =
    let found : (p : Progress) × IsReady hash m k p = ready hash s m k Sealed u stopped at (λ e. cc) same in
    let p : Progress = found.0 in
    let b : IsReady hash m k p = found.1 in
    let sealed : k.batch.step ≡ Sealed = step-same s.journal k Sealed same at in
    let done : p.done ≡ length k.batch.pieces + 1 = subst (λ (st : Step). IsDone st (length k.batch.pieces) k.batch.written p.done) sealed b.done in
    let may : p.done ≡ length (writes_due m p) + 1 = done ∙ ap (λ (l : List Span). length l + 1) b.writes in
    let gate : end_of k.ends 1 ≡ gate_due m = ap (λ (e : Ends). end_of e 1) b.mid.first.ends_are in
    let write : Call = Wrote 1 (gate_due m) (1 ∷ []) in
    let call : Makes {T = Unit {0}} DiskFault Memory (write ∷ []) (write ∷ []) (tells k.disk) (tells j.disk) (Ok x) =
    subst (λ (g : ℕ). Makes {T = Unit {0}} DiskFault Memory (Wrote 1 g (1 ∷ []) ∷ []) (Wrote 1 g (1 ∷ []) ∷ []) (tells k.disk) (tells j.disk) (Ok x)) gate makes in
    let t : Told = after write m.disk in
    let disk : told_by j.disk ≡ t = told-ok write (write ∷ []) k j x call ∙ ap (after write) b.disk in
    let next_done : IsDone j.batch.step (length j.batch.pieces) j.batch.written (p.done + 1) =
    subst (λ (st : Step). IsDone st (length j.batch.pieces) j.batch.written (p.done + 1)) (sym step) (omega (arith, done, ap (λ (l : List Span). length l) pieces)) in
    let next : Machine = gone_on m (Some (further p)) t in (
      next,
      inl (
        (record { up = u.up; going = b.going }, subst (λ (o : Option Progress). MayGate m o) (sym b.is) may),
        subst (λ (o : Option Progress). Gates m false o output next) (sym b.is) (told.1, refl),
      ),
      goes-up hash s m j (Some (further p)) t u b.going disk (durable ∙ b.durable) (failures (no-fault x) ∙ b.none) (opens m.placed m.batches p.records b.mid, next_done),
    )
gated-step hash s m k j false (Err e) output u stopped at same opens step pieces durable makes failures told = absurd (false≢true told.0)
gated-step hash s m k j true (Ok x) output u stopped at same opens step pieces durable makes failures told = absurd (ok-isnt x DiskFault told.0)
gated-step hash s m k j true (Err e) output u stopped at same opens step pieces durable makes failures told =
    let found : (p : Progress) × IsReady hash m k p = ready hash s m k Sealed u stopped at (λ e. cc) same in
    let p : Progress = found.0 in
    let b : IsReady hash m k p = found.1 in
    let sealed : k.batch.step ≡ Sealed = step-same s.journal k Sealed same at in
    let done : p.done ≡ length k.batch.pieces + 1 = subst (λ (st : Step). IsDone st (length k.batch.pieces) k.batch.written p.done) sealed b.done in
    let may : p.done ≡ length (writes_due m p) + 1 = done ∙ ap (λ (l : List Span). length l + 1) b.writes in
    let gate : end_of k.ends 1 ≡ gate_due m = ap (λ (e : Ends). end_of e 1) b.mid.first.ends_are in
    let write : Call = Wrote 1 (gate_due m) (1 ∷ []) in
    let call : Makes {T = Unit {0}} DiskFault Memory (write ∷ []) (write ∷ []) (tells k.disk) (tells j.disk) (Err e) =
    subst (λ (g : ℕ). Makes {T = Unit {0}} DiskFault Memory (Wrote 1 g (1 ∷ []) ∷ []) (Wrote 1 g (1 ∷ []) ∷ []) (tells k.disk) (tells j.disk) (Err e)) gate makes in
    let t : Told = after (failed_call write) m.disk in
    let disk : told_by j.disk ≡ t = told-failed write (write ∷ []) k j e call told.0 ∙ ap (after (failed_call write)) b.disk in
    let next : Machine = fallen m t in (
      next,
      inl (
        (record { up = u.up; going = b.going }, subst (λ (o : Option Progress). MayGate m o) (sym b.is) may),
        subst (λ (o : Option Progress). Gates m true o output next) (sym b.is) (told.1, refl),
      ),
      fails-up hash s m j t u disk (durable ∙ b.durable),
    )

-- settling: the sync behind it, where it succeeds
settled-up : (hash : Hash) (s : OpenStore) (m : Machine) (j : Kept Recorded) (rs : List Record) (t : Told) → IsUp hash s m → m.stopped ≡ false → told_by j.disk ≡ t
    → j.durable ≡ m.durable + length rs → j.failures ≡ 0 → m.durable + length rs ≤ length m.placed → IsAtRest tells hash m.placed (m.batches ++ rs ∷ []) j
    → IsUp hash (with_journal s j false) (record m { durable = m.durable + length rs; batches = m.batches ++ rs ∷ []; progress = None; disk = t })
settled-up hash s m j rs t u going disk durable none within rests =
    let linked : m.linked ≤ m.durable = u.order.linked_durable in
    let indexed : m.indexed ≤ m.durable = u.order.indexed_durable in
    record {
      up = u.up;
      lists = u.lists;
      order = record { least = u.order.least; linked_durable = omega (arith, linked); indexed_durable = omega (arith, indexed); durable_placed = within };
      disk = disk;
      durable = durable;
      failures = u.failures;
      stopped = sym going;
      going = λ g. record { none = none; far = rests };
    }

pub settled-step : (hash : Hash) (s : OpenStore) (m : Machine) (k j : Kept Recorded) (fails : Bool) (r : Result (Unit {0}) JournalError) (output : Output)
    → IsUp hash s m → s.stopped ≡ false → s.journal.batch.step ≡ Gated → IsTheSame s.journal k
    → ((history : List Transaction) (batches : List (List Record)) (rs : List Record) → IsInBatch tells hash history batches rs k
    → OnOk r (IsAtRest tells hash history (batches ++ rs ∷ []) j × (j.durable ≡ k.durable + length rs)))
    → (IsErrOf r DiskFault → j.durable ≡ k.durable)
    → Makes DiskFault Memory (calls_to_settle k.batch.step (end_of k.ends 1)) (calls_to_settle j.batch.step (end_of j.ends 1)) (tells k.disk) (tells j.disk) r
    → ((IsErrOf r DiskFault → ⊥) → j.failures ≡ k.failures) → IsForetold fails r output → Answers hash m (on.Settle fails) output (with_journal s j fails)
settled-step hash s m k j false (Ok x) output u stopped at same settles stays makes failures told =
    let found : (p : Progress) × IsReady hash m k p = ready hash s m k Gated u stopped at (λ e. cc) same in
    let p : Progress = found.0 in
    let b : IsReady hash m k p = found.1 in
    let rs : List Record = p.records in
    let gated : k.batch.step ≡ Gated = step-same s.journal k Gated same at in
    let done : p.done ≡ length k.batch.pieces + 2 = subst (λ (st : Step). IsDone st (length k.batch.pieces) k.batch.written p.done) gated b.done in
    let may : p.done ≡ length (writes_due m p) + 2 = done ∙ ap (λ (l : List Span). length l + 2) b.writes in
    let left : List Call = calls_to_settle j.batch.step (end_of j.ends 1) in
    let call : Makes {T = Unit {0}} DiskFault Memory (Synced ∷ []) left (tells k.disk) (tells j.disk) (Ok x) =
    subst (λ (st : Step). Makes {T = Unit {0}} DiskFault Memory (calls_to_settle st (end_of k.ends 1)) left (tells k.disk) (tells j.disk) (Ok x)) gated makes in
    let t : Told = after Synced m.disk in
    let disk : told_by j.disk ≡ t = told-ok Synced left k j x call ∙ ap (after Synced) b.disk in
    let rests = settles m.placed m.batches rs b.mid in
    let placed : k.durable + length rs ≤ length m.placed = b.mid.next.placed in
    let next : Machine = record m { durable = m.durable + length rs; batches = m.batches ++ rs ∷ []; progress = None; disk = t } in (
      next,
      inl (
        (record { up = u.up; going = b.going }, subst (λ (o : Option Progress). MaySettle m o) (sym b.is) may),
        subst (λ (o : Option Progress). Settles m false o output next) (sym b.is) (told.1, refl),
      ),
      settled-up hash s m j rs t u b.going disk (rests.1 ∙ ap (λ (n : ℕ). n + length rs) b.durable) (failures (no-fault x) ∙ b.none) (omega (arith, placed, b.durable)) rests.0,
    )
settled-step hash s m k j false (Err e) output u stopped at same settles stays makes failures told = absurd (false≢true told.0)
settled-step hash s m k j true (Ok x) output u stopped at same settles stays makes failures told = absurd (ok-isnt x DiskFault told.0)
settled-step hash s m k j true (Err e) output u stopped at same settles stays makes failures told =
    let found : (p : Progress) × IsReady hash m k p = ready hash s m k Gated u stopped at (λ e. cc) same in
    let p : Progress = found.0 in
    let b : IsReady hash m k p = found.1 in
    let gated : k.batch.step ≡ Gated = step-same s.journal k Gated same at in
    let done : p.done ≡ length k.batch.pieces + 2 = subst (λ (st : Step). IsDone st (length k.batch.pieces) k.batch.written p.done) gated b.done in
    let may : p.done ≡ length (writes_due m p) + 2 = done ∙ ap (λ (l : List Span). length l + 2) b.writes in
    let left : List Call = calls_to_settle j.batch.step (end_of j.ends 1) in
    let call : Makes {T = Unit {0}} DiskFault Memory (Synced ∷ []) left (tells k.disk) (tells j.disk) (Err e) =
    subst (λ (st : Step). Makes {T = Unit {0}} DiskFault Memory (calls_to_settle st (end_of k.ends 1)) left (tells k.disk) (tells j.disk) (Err e)) gated makes in
    let t : Told = after (failed_call Synced) m.disk in
    let disk : told_by j.disk ≡ t = told-failed Synced left k j e call told.0 ∙ ap (after (failed_call Synced)) b.disk in
    let next : Machine = fallen m t in (
      next,
      inl (
        (record { up = u.up; going = b.going }, subst (λ (o : Option Progress). MaySettle m o) (sym b.is) may),
        subst (λ (o : Option Progress). Settles m true o output next) (sym b.is) (told.1, refl),
      ),
      fails-up hash s m j t u disk (stays told.0 ∙ b.durable),
    )

-- where a failure was told, no call of the disk is allowed
pub stopped-no : (hash : Hash) (s : OpenStore) (m : Machine) → IsUp hash s m → s.stopped ≡ true → MayCall m → ⊥
stopped-no hash s m u stopped may = true≢false (sym stopped ∙ u.stopped ∙ may.going)

-- a number of steps that are done says at which step the journal is
staged-done : (step : Step) (writes written done : ℕ) → IsDone step writes written done → done ≡ writes → (step ≡ Staged → ⊥) → ⊥
staged-done Idle writes written done is at other = is
staged-done Staging writes written done is at other = omega (arith, is.0, is.1, at)
staged-done Staged writes written done is at other = other refl
staged-done Sealed writes written done is at other = omega (arith, is, at)
staged-done Gated writes written done is at other = omega (arith, is, at)

sealed-done : (step : Step) (writes written done : ℕ) → IsDone step writes written done → done ≡ writes + 1 → (step ≡ Sealed → ⊥) → ⊥
sealed-done Idle writes written done is at other = is
sealed-done Staging writes written done is at other = omega (arith, is.0, is.1, at)
sealed-done Staged writes written done is at other = omega (arith, is, at)
sealed-done Sealed writes written done is at other = other refl
sealed-done Gated writes written done is at other = omega (arith, is, at)

gated-done : (step : Step) (writes written done : ℕ) → IsDone step writes written done → done ≡ writes + 2 → (step ≡ Gated → ⊥) → ⊥
gated-done Idle writes written done is at other = is
gated-done Staging writes written done is at other = omega (arith, is.0, is.1, at)
gated-done Staged writes written done is at other = omega (arith, is, at)
gated-done Sealed writes written done is at other = omega (arith, is, at)
gated-done Gated writes written done is at other = other refl

staging-done : (step : Step) (writes written done : ℕ) → IsDone step writes written done → done < writes → (step ≡ Staging → ⊥) → ⊥
staging-done Idle writes written done is at other = is
staging-done Staging writes written done is at other = other refl
staging-done Staged writes written done is at other = omega (arith, is, at)
staging-done Sealed writes written done is at other = omega (arith, is, at)
staging-done Gated writes written done is at other = omega (arith, is, at)

module _ (hash : Hash) (s : OpenStore) (m : Machine) (u : IsUp hash s m) where
  -- a batch in progress, where the machine's calls are allowed
  mid-at : MayCall m → (p : Progress) → m.progress ≡ Some p → IsAsFar hash m.placed m.batches (Some p) s.journal
  mid-at may p is = subst (λ (o : Option Progress). IsAsFar hash m.placed m.batches o s.journal) is (u.going may.going).far

  count-at : MayCall m → (p : Progress) → m.progress ≡ Some p → length s.journal.batch.pieces ≡ length (writes_due m p)
  count-at may p is = ap (λ (l : List Span). length l) (writes-are hash m s.journal p u.durable (mid-at may p is).0)

  seal-none : (o : Option Progress) → m.progress ≡ o → MayCall m → MaySeal m o → (s.journal.batch.step ≡ Staged → ⊥) → ⊥
  seal-none None is may seal other = seal
  seal-none (Some p) is may seal other =
      staged-done s.journal.batch.step (length s.journal.batch.pieces) s.journal.batch.written p.done (mid-at may p is).1 (seal ∙ sym (count-at may p is)) other

  pub seal-no : (fails : Bool) → (s.journal.batch.step ≡ Staged → ⊥) → Allows hash m (on.Seal fails) → ⊥
  seal-no fails other may = seal-none m.progress refl may.0 may.1 other

  gate-none : (o : Option Progress) → m.progress ≡ o → MayCall m → MayGate m o → (s.journal.batch.step ≡ Sealed → ⊥) → ⊥
  gate-none None is may gate other = gate
  gate-none (Some p) is may gate other =
      sealed-done s.journal.batch.step (length s.journal.batch.pieces) s.journal.batch.written p.done (mid-at may p is).1 (gate ∙ ap (λ (n : ℕ). n + 1) (sym (count-at may p is))) other

  pub gate-no : (fails : Bool) → (s.journal.batch.step ≡ Sealed → ⊥) → Allows hash m (on.Gate fails) → ⊥
  gate-no fails other may = gate-none m.progress refl may.0 may.1 other

  settle-none : (o : Option Progress) → m.progress ≡ o → MayCall m → MaySettle m o → (s.journal.batch.step ≡ Gated → ⊥) → ⊥
  settle-none None is may settle other = settle
  settle-none (Some p) is may settle other =
      gated-done s.journal.batch.step (length s.journal.batch.pieces) s.journal.batch.written p.done (mid-at may p is).1 (settle ∙ ap (λ (n : ℕ). n + 2) (sym (count-at may p is))) other

  pub settle-no : (fails : Bool) → (s.journal.batch.step ≡ Gated → ⊥) → Allows hash m (on.Settle fails) → ⊥
  settle-no fails other may = settle-none m.progress refl may.0 may.1 other

  stage-none : (last : ℕ) (o : Option Progress) → m.progress ≡ o → MayCall m → MayStage m last o → (s.journal.batch.step ≡ Idle → ⊥) → (s.journal.batch.step ≡ Staging → ⊥) → ⊥
  stage-none last None is may stage idle other = idle (subst (λ (o : Option Progress). IsAsFar hash m.placed m.batches o s.journal) is (u.going may.going).far).idle
  stage-none last (Some p) is may stage idle other =
      staging-done s.journal.batch.step (length s.journal.batch.pieces) s.journal.batch.written p.done (mid-at may p is).1 (omega (arith, stage, count-at may p is)) other

  pub stage-no : (last : ℕ) (fails : Bool) → (s.journal.batch.step ≡ Idle → ⊥) → (s.journal.batch.step ≡ Staging → ⊥) → Allows hash m (on.Stage last fails) → ⊥
  stage-no last fails idle other may = stage-none last m.progress refl may.0 may.1 idle other

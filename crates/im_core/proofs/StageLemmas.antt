-- Staging a batch.
use Rattle.std.proofs.Common.{◌≡◌, ◌<◌, ◌≤◌, ◌+◌, ◌-◌, ◌∙◌, ℕ, List, [], ◌∷◌, length, take, drop, get_or, Bool, true, false, refl, sym, ap, subst, arith, inl, Option, Some, None, Result, Ok, Err, length-drop}
use Rattle.std.proofs.lemmas.Bool.{false≢true}
use Rattle.std.proofs.lemmas.List.{drop_more, length-map, length-take-le}
use Rattle.std.proofs.lemmas.Option.{slice_get-get_or}
use Rattle.std.specs.Prelude.{slice_get, IsErrOf, IsOk, OnOk}
use Rattle.im_octet.proofs.Common.{ok-isnt}
use Rattle.im_core.specs.Foretold.{IsForetold, IsTheSame}
use Rattle.im_core.specs.Parts.{tells, Answers, IsAsFar, IsUp}
use Rattle.im_core.specs.Staged.{AreBehind, WritesNext}
use Rattle.im_core.specs.declared.store.OpenStore.{OpenStore}
use Rattle.im_core.proofs.CallLemmas.{fails-up, fallen, goes-up, gone_on, no-fault, ready-for, step-same, told-failed, told-ok, with_journal, IsReady}
use Rattle.im_digest.specs.Digests.{Hash}
use Rattle.im_disk.specs.Disk.{after, Told}
use Rattle.im_disk.specs.Recorded.{told_by, Recorded}
use Rattle.im_disk.specs.declared.calls.Call.{Call}
use Rattle.im_disk.specs.declared.calls.Call.TheVariants.{Wrote}
use Rattle.im_format.specs.declared.records.Record.{Record}
use Rattle.im_format.specs.declared.spans.Span.{Span}
use Rattle.im_journal.specs.Holding.{AreFirst, AreNext}
use Rattle.im_journal.specs.Kept.{step_behind, IsAtRest, IsInBatch, Kept}
use Rattle.im_journal.specs.Made.{call_to_put, failed_call, writes_of, Makes}
use Rattle.im_journal.specs.declared.batches.Step.{Step}
use Rattle.im_journal.specs.declared.batches.Step.TheVariants.{Idle, Staging}
use Rattle.im_journal.specs.declared.ends.Ends.{Ends}
use Rattle.im_journal.specs.declared.errors.JournalError.{JournalError}
use Rattle.im_journal.specs.declared.errors.JournalError.TheVariants.{DiskFault, Memory}
use Rattle.im_machine.specs.Allowed.{Allows, MayStage}
use Rattle.im_machine.specs.Kept.{IsDone}
use Rattle.im_machine.specs.Machines.{fresh, further, writes_due, Covers, Machine, Progress}
use Rattle.im_machine.specs.Steps.{Stages}
use Rattle.im_machine.specs.declared.events.Event.TheVariants as on
use Rattle.im_machine.specs.declared.outputs.Output.{Output}
use Rattle.im_machine.proofs.StepLemmas.{done-behind, no_span}
use Rattle.im_model.specs.declared.transactions.Transaction.{Transaction}

-- the call of the next piece
put-call : (k : Kept Recorded) → k.batch.written < length k.batch.pieces
    → call_to_put k ≡ (let piece = get_or k.batch.pieces k.batch.written no_span in Wrote piece.file piece.at piece.octets ∷ [])
put-call k less = ap (λ (l : List Span). writes_of (take 1 l)) (drop_more k.batch.pieces k.batch.written no_span less)

-- the machine with the progress that it has
with-progress : (hash : Hash) (s : OpenStore) (m : Machine) (p : Progress) → IsUp hash s m → m.progress ≡ Some p → IsUp hash s (record m { progress = Some p })
with-progress hash s m p u is = record {
  up = u.up;
  lists = u.lists;
  order = u.order;
  disk = u.disk;
  durable = u.durable;
  failures = u.failures;
  stopped = u.stopped;
  going = λ going. let g = u.going going in record { none = g.none; far = subst (λ (o : Option Progress). IsAsFar hash m.placed m.batches o s.journal) is g.far };
}

-- the next piece is written, or its write fails
pub written-step : (hash : Hash) (s : OpenStore) (m : Machine) (k j : Kept Recorded) (p : Progress) (fails : Bool) (r : Result (Unit {0}) JournalError) (output : Output)
    → IsUp hash s m → s.stopped ≡ false → s.journal.batch.step ≡ Staging → m.progress ≡ Some p → IsTheSame s.journal k
    → ((history : List Transaction) (batches : List (List Record)) (rs : List Record) → IsInBatch tells hash history batches rs k → OnOk r (IsInBatch tells hash history batches rs j))
    → OnOk r (j.batch.step ≡ step_behind (k.batch.written + 1) (length k.batch.pieces)) → OnOk r (j.batch.written ≡ k.batch.written + 1)
    → j.batch.pieces ≡ k.batch.pieces → j.durable ≡ k.durable
    → Makes DiskFault Memory (call_to_put k) (call_to_put k) (tells k.disk) (tells j.disk) r
    → ((IsErrOf r DiskFault → ⊥) → j.failures ≡ k.failures) → IsForetold fails r output → WritesNext hash m fails p output (with_journal s j fails)
written-step hash s m k j p false (Ok x) output u stopped at is same puts step written pieces durable makes failures told =
    let b : IsReady hash m k p = ready-for hash s m k p u stopped is same in
    let staging : k.batch.step ≡ Staging = step-same s.journal k Staging same at in
    let done : (p.done ≡ k.batch.written) × (k.batch.written < length k.batch.pieces) =
    subst (λ (st : Step). IsDone st (length k.batch.pieces) k.batch.written p.done) staging b.done in
    let piece : Span = get_or k.batch.pieces k.batch.written no_span in
    let write : Call = Wrote piece.file piece.at piece.octets in
    let call : Makes {T = Unit {0}} DiskFault Memory (write ∷ []) (write ∷ []) (tells k.disk) (tells j.disk) (Ok x) =
    subst (λ (l : List Call). Makes {T = Unit {0}} DiskFault Memory l l (tells k.disk) (tells j.disk) (Ok x)) (put-call k done.1) makes in
    let t : Told = after write m.disk in
    let disk : told_by j.disk ≡ t = told-ok write (write ∷ []) k j x call ∙ ap (after write) b.disk in
    let due : slice_get (writes_due m p) p.done ≡ Some piece =
    ap (λ (l : List Span). slice_get l p.done) (sym b.writes) ∙ ap (λ (n : ℕ). slice_get k.batch.pieces n) done.0 ∙ slice_get-get_or k.batch.pieces k.batch.written no_span done.1 in
    let behind : IsDone (step_behind (k.batch.written + 1) (length k.batch.pieces)) (length k.batch.pieces) (k.batch.written + 1) (p.done + 1) =
    done-behind (length k.batch.pieces) k.batch.written p.done done.0 done.1 in
    let next_done : IsDone j.batch.step (length j.batch.pieces) j.batch.written (p.done + 1) =
    subst (λ (st : Step). IsDone st (length j.batch.pieces) j.batch.written (p.done + 1)) (sym step)
    (subst (λ (n : ℕ). IsDone (step_behind (k.batch.written + 1) (length k.batch.pieces)) (length j.batch.pieces) n (p.done + 1)) (sym written)
    (subst (λ (n : ℕ). IsDone (step_behind (k.batch.written + 1) (length k.batch.pieces)) n (k.batch.written + 1) (p.done + 1)) (ap (λ (l : List Span). length l) (sym pieces)) behind)) in (
      gone_on m (Some (further p)) t,
      (piece, due, (told.1, refl)),
      goes-up hash s m j (Some (further p)) t u b.going disk (durable ∙ b.durable) (failures (no-fault x) ∙ b.none) (puts m.placed m.batches p.records b.mid, next_done),
    )
written-step hash s m k j p false (Err e) output u stopped at is same puts step written pieces durable makes failures told = absurd (false≢true told.0)
written-step hash s m k j p true (Ok x) output u stopped at is same puts step written pieces durable makes failures told = absurd (ok-isnt x DiskFault told.0)
written-step hash s m k j p true (Err e) output u stopped at is same puts step written pieces durable makes failures told =
    let b : IsReady hash m k p = ready-for hash s m k p u stopped is same in
    let staging : k.batch.step ≡ Staging = step-same s.journal k Staging same at in
    let done : (p.done ≡ k.batch.written) × (k.batch.written < length k.batch.pieces) =
    subst (λ (st : Step). IsDone st (length k.batch.pieces) k.batch.written p.done) staging b.done in
    let piece : Span = get_or k.batch.pieces k.batch.written no_span in
    let write : Call = Wrote piece.file piece.at piece.octets in
    let call : Makes {T = Unit {0}} DiskFault Memory (write ∷ []) (write ∷ []) (tells k.disk) (tells j.disk) (Err e) =
    subst (λ (l : List Call). Makes {T = Unit {0}} DiskFault Memory l l (tells k.disk) (tells j.disk) (Err e)) (put-call k done.1) makes in
    let t : Told = after (failed_call write) m.disk in
    let disk : told_by j.disk ≡ t = told-failed write (write ∷ []) k j e call told.0 ∙ ap (after (failed_call write)) b.disk in
    let due : slice_get (writes_due m p) p.done ≡ Some piece =
    ap (λ (l : List Span). slice_get l p.done) (sym b.writes) ∙ ap (λ (n : ℕ). slice_get k.batch.pieces n) done.0 ∙ slice_get-get_or k.batch.pieces k.batch.written no_span done.1 in (
      fallen (record m { progress = Some p }) t,
      (piece, due, (told.1, refl)),
      fails-up hash s (record m { progress = Some p }) j t (with-progress hash s m p u is) disk (durable ∙ b.durable),
    )

-- the machine's records of a batch
pub covers-by : (hash : Hash) (m : Machine) (last : ℕ) (rs : List Record) → AreBehind hash m.placed m.batches m.durable last rs → Covers hash m last rs
covers-by hash m last rs b = record { transactions_are = b.transactions_are; records_are = b.records_are; put = b.put }

-- there are as many as there are transactions
behind-count : (hash : Hash) (placed : List Transaction) (batches : List (List Record)) (durable last : ℕ) (rs : List Record) → last ≤ length placed
    → AreBehind hash placed batches durable last rs → length rs ≡ last - durable
behind-count hash placed batches durable last rs within b =
    sym (length-map rs (λ (r : Record). r.tx)) ∙ ap (λ (l : List Transaction). length l) b.transactions_are
    ∙ length-take-le (last - durable) (drop durable placed) (omega (arith, length-drop durable placed, within))

pub next-by : (hash : Hash) (placed : List Transaction) (batches : List (List Record)) (durable last : ℕ) (rs : List Record) → durable < last → last ≤ length placed
    → AreBehind hash placed batches durable last rs → AreNext hash placed batches durable rs
next-by hash placed batches durable last rs less within b =
    let count : length rs ≡ last - durable = behind-count hash placed batches durable last rs within b in
    record {
      some = omega (arith, count, less);
      placed = omega (arith, count, less, within);
      transactions_are = b.transactions_are ∙ ap (λ (n : ℕ). take n (drop durable placed)) (sym count);
      records_are = b.records_are;
      logs = 1;
      put = b.put;
    }

-- an idle journal is at rest, and no batch is in progress
pub rests-idle : (hash : Hash) (placed : List Transaction) (batches : List (List Record)) (progress : Option Progress) (k : Kept Recorded) → IsAsFar hash placed batches progress k
    → k.batch.step ≡ Idle → (progress ≡ None) × IsAtRest tells hash placed batches k
rests-idle hash placed batches None k far idle = (refl, far)
rests-idle hash placed batches (Some p) k far idle =
    let never : ⊥ = subst (λ (st : Step). IsDone st (length k.batch.pieces) k.batch.written p.done) idle far.1 in
    absurd never

-- a batch is begun
pub begun-up : (hash : Hash) (s : OpenStore) (m : Machine) (j : Kept Recorded) (rs : List Record) → IsUp hash s m → j.disk ≡ s.journal.disk → j.durable ≡ s.journal.durable
    → j.failures ≡ 0 → j.batch.step ≡ Staging → j.batch.written ≡ 0 → 0 < length j.batch.pieces → IsInBatch tells hash m.placed m.batches rs j
    → IsUp hash (with_journal s j s.stopped) (record m { progress = Some (fresh rs) })
begun-up hash s m j rs u disk durable none step written some mid =
    let done : IsDone j.batch.step (length j.batch.pieces) j.batch.written 0 =
    subst (λ (st : Step). IsDone st (length j.batch.pieces) j.batch.written 0) (sym step) (sym written, omega (arith, written, some)) in
    record {
      up = u.up;
      lists = u.lists;
      order = u.order;
      disk = ap told_by disk ∙ u.disk;
      durable = durable ∙ u.durable;
      failures = u.failures;
      stopped = u.stopped;
      going = λ going. record { none = none; far = (mid, done) };
    }

-- a batch that is begun and its first piece
pub first-staged : (hash : Hash) (s now : OpenStore) (m : Machine) (last : ℕ) (fails : Bool) (rs : List Record) (output : Output) → IsUp hash s m → s.stopped ≡ false → m.progress ≡ None
    → m.durable < last → last ≤ length m.placed → Covers hash m last rs → WritesNext hash (record m { progress = Some (fresh rs) }) fails (fresh rs) output now
    → Answers hash m (on.Stage last fails) output now
first-staged hash s now m last fails rs output u stopped none less within covers next = (
  next.0,
  inl (
    (record { up = u.up; going = sym u.stopped ∙ stopped }, subst (λ (o : Option Progress). MayStage m last o) (sym none) (less, within)),
    subst (λ (o : Option Progress). Stages hash m last fails o output next.0) (sym none) (rs, covers, next.1),
  ),
  next.2,
)

-- a later piece
pub next-staged : (hash : Hash) (s now : OpenStore) (m : Machine) (last : ℕ) (fails : Bool) (p : Progress) (output : Output) → IsUp hash s m → s.stopped ≡ false → m.progress ≡ Some p
    → s.journal.batch.step ≡ Staging → WritesNext hash m fails p output now → Answers hash m (on.Stage last fails) output now
next-staged hash s now m last fails p output u stopped is step next =
    let same : IsTheSame s.journal s.journal = record { disk = refl; parts = refl } in
    let b : IsReady hash m s.journal p = ready-for hash s m s.journal p u stopped is same in
    let done : (p.done ≡ s.journal.batch.written) × (s.journal.batch.written < length s.journal.batch.pieces) =
    subst (λ (st : Step). IsDone st (length s.journal.batch.pieces) s.journal.batch.written p.done) step b.done in
    let may : p.done < length (writes_due m p) = omega (arith, done.0, done.1, ap (λ (l : List Span). length l) b.writes) in (
      next.0,
      inl (
        (record { up = u.up; going = b.going }, subst (λ (o : Option Progress). MayStage m last o) (sym is) may),
        subst (λ (o : Option Progress). Stages hash m last fails o output next.0) (sym is) next.1,
      ),
      next.2,
    )

-- a batch that is to end before it begins, or beyond what is placed, isn't begun
pub first-no : (hash : Hash) (s : OpenStore) (m : Machine) (last : ℕ) (fails : Bool) → IsUp hash s m → s.journal.batch.step ≡ Idle
    → ((s.journal.durable < last) × (last ≤ length s.book.transactions) → ⊥) → Allows hash m (on.Stage last fails) → ⊥
first-no hash s m last fails u idle denied may =
    let far = (u.going may.0.going).far in
    let none : m.progress ≡ None = (rests-idle hash m.placed m.batches m.progress s.journal far idle).0 in
    let between : (m.durable < last) × (last ≤ length m.placed) = subst (λ (o : Option Progress). MayStage m last o) none may.1 in
    denied (omega (arith, between.0, u.durable), omega (arith, between.1, ap (λ (l : List Transaction). length l) u.lists.placed_is))

-- what an answer promises holds where it is one
pub ok-then : {T E : Type 0} (r : Result T E) (P : Type 0) → IsOk r → OnOk r P → P
ok-then (Ok x) P is p = p
ok-then (Err e) P is p = absurd (false≢true is)

-- what the files hold, by equal lists and numbers
pub first-as : (hash : Hash) (placed txs : List Transaction) (batches : List (List Record)) (durable d : ℕ) (ends e : Ends) → txs ≡ placed → d ≡ durable → e ≡ ends
    → AreFirst hash placed batches durable ends → AreFirst hash txs batches d e
first-as hash placed txs batches durable d ends e same count place first =
    subst (λ (l : List Transaction). AreFirst hash l batches d e) (sym same)
    (subst (λ (n : ℕ). AreFirst hash placed batches n e) (sym count) (subst (λ (x : Ends). AreFirst hash placed batches durable x) (sym place) first))

pub behind-as : (hash : Hash) (placed txs : List Transaction) (batches : List (List Record)) (durable d last : ℕ) (rs : List Record) → txs ≡ placed → d ≡ durable
    → AreBehind hash txs batches d last rs → AreBehind hash placed batches durable last rs
behind-as hash placed txs batches durable d last rs same count behind =
    subst (λ (n : ℕ). AreBehind hash placed batches n last rs) count (subst (λ (l : List Transaction). AreBehind hash l batches d last rs) same behind)

-- an idle journal of a machine that goes on
pub idle-first : (hash : Hash) (s : OpenStore) (m : Machine) → IsUp hash s m → s.stopped ≡ false → s.journal.batch.step ≡ Idle
    → (m.progress ≡ None) × IsAtRest tells hash m.placed m.batches s.journal
idle-first hash s m u stopped idle = rests-idle hash m.placed m.batches m.progress s.journal (u.going (sym u.stopped ∙ stopped)).far idle

-- The calls of a store's disk as steps of the machine.
use Rattle.std.proofs.Common.{◌≡◌, ◌≤◌, ◌<◌, ◌+◌, ◌++◌, ◌∷◌, [], ◌∙◌, ℕ, zero, suc, List, Option, None, Some, length, map, take, drop, replicate, true, false, Bool, refl, ap, sym, subst, arith, inl, inr, append-nil, append_assoc, drop-drop, length-append, length-take, take-add, take-append-drop}
use Rattle.std.proofs.lemmas.List.{drop-take, length-map, length-take-le, map-append}
use Rattle.std.specs.List.{All}
use Rattle.std.specs.Prelude.{◌⊎◌, slice_get}
use Rattle.std.specs.Option.{option_map}
use Rattle.std.proofs.lemmas.List.Elements.{All-head, All-tail}
use Rattle.im_octet.proofs.Common.{some-is}
use Rattle.im_digest.specs.Digests.{Hash}
use Rattle.im_disk.specs.Disk.{after, Told}
use Rattle.im_disk.specs.Grown.{after_all}
use Rattle.im_disk.specs.declared.calls.Call.{Call}
use Rattle.im_disk.specs.declared.calls.Call.TheVariants.{Wrote, Synced}
use Rattle.im_disk.proofs.Growing.{after_both}
use Rattle.im_format.specs.Batches.{gate_of, joined}
use Rattle.im_format.specs.Places.{refs_of, ArePut}
use Rattle.im_format.specs.Records.{AreRecords}
use Rattle.im_format.specs.declared.records.Record.{Record}
use Rattle.im_format.specs.declared.references.ValueRef.{ValueRef}
use Rattle.im_format.specs.declared.spans.Span.{Span}
use Rattle.im_journal.specs.Holding.{ends_of}
use Rattle.im_journal.specs.Made.{failed_call, writes_of}
use Rattle.im_journal.specs.Pieces.{pieces_of}
use Rattle.im_journal.proofs.Clear.{records_apart}
use Rattle.im_journal.proofs.Longer.{joined_both, records_longer}
use Rattle.im_journal.proofs.Prefixes.{joined_more, records_front, refs_more}
use Rattle.im_journal.proofs.Single.{has_piece}
use Rattle.im_machine.specs.Machines.{Covers, Machine, Progress}
use Rattle.im_machine.specs.Runs.{Run}
use Rattle.im_machine.specs.Steps.{Steps}
use Rattle.im_machine.specs.declared.events.Event.{Event}
use Rattle.im_machine.specs.declared.events.Event.TheVariants as on
use Rattle.im_machine.specs.declared.outputs.Output.{Output}
use Rattle.im_machine.specs.declared.outputs.Output.TheVariants as tells
use Rattle.im_model.specs.declared.transactions.Transaction.{Transaction}
use Rattle.im_seated_journal.specs.Calls.{calls_of_batch, calls_of_batches, IsFilled, MakesBatches, MakesPart}
use Rattle.im_seated_journal.proofs.CallLemmas.{batches_more}
use Rattle.im_store_laws.specs.DiskEvents.{answers_of, events_of, settled, steps_of_batch, AreBatchSteps, AreLastSteps, CallsNothing, DiskStep, MakesSteps, RestsOn}

-- a step whose call fails
record Falls (hash : Hash) (m : Machine) (step : DiskStep) (call : Call) : Type 0 where
  pub end : Machine
  pub steps : Steps hash m (step true) tells.Failed end
  pub disk : end.disk ≡ after (failed_call call) m.disk
  pub stopped : end.stopped ≡ true

-- steps that make these calls, one each, and lead to this machine; and each could fail
abbrev Goes : Hash → Machine → List DiskStep → List Call → Machine → Type 0
Goes hash m [] [] end = end ≡ m
Goes hash m (step ∷ steps) (call ∷ calls) end =
    (next : Machine) × Steps hash m (step false) tells.Done next × (next.disk ≡ after call m.disk) × Falls hash m step call × Goes hash next steps calls end
Goes hash m [] (call ∷ calls) end = ⊥
Goes hash m (step ∷ steps) [] end = ⊥

goes_both : (hash : Hash) (a b : List DiskStep) (x y : List Call) (m middle end : Machine) → Goes hash m a x middle → Goes hash middle b y end → Goes hash m (a ++ b) (x ++ y) end
goes_both hash [] b [] y m middle end first second = subst (λ (s : Machine). Goes hash s b y end) first second
goes_both hash [] b (call ∷ x) y m middle end first second = absurd first
goes_both hash (step ∷ a) b [] y m middle end first second = absurd first
goes_both hash (step ∷ a) b (call ∷ x) y m middle end first second =
    (first.0, first.1, first.2, first.3, goes_both hash a b x y first.0 middle end first.4 second)

-- the first of them, and the others
record Front (hash : Hash) (m : Machine) (steps : List DiskStep) (made left : List Call) (end : Machine) : Type 0 where
  pub front : List DiskStep
  pub rest : List DiskStep
  pub split : steps ≡ front ++ rest
  pub middle : Machine
  pub run : Run hash m (events_of front) (answers_of front) middle
  pub disk : middle.disk ≡ after_all made m.disk
  pub goes : Goes hash middle rest left end

front_of : (hash : Hash) (steps : List DiskStep) (made left : List Call) (m end : Machine) → Goes hash m steps (made ++ left) end → Front hash m steps made left end
front_of hash steps [] left m end goes = record { front = []; rest = steps; split = refl; middle = m; run = refl; disk = refl; goes = goes }
front_of hash [] (call ∷ made) left m end goes = absurd goes
front_of hash (step ∷ steps) (call ∷ made) left m end goes =
    let f : Front hash goes.0 steps made left end = front_of hash steps made left goes.0 end goes.4 in
    record {
      front = step ∷ f.front;
      rest = f.rest;
      split = ap (λ (l : List DiskStep). step ∷ l) f.split;
      middle = f.middle;
      run = (goes.0, goes.1, f.run);
      disk = f.disk ∙ ap (λ (t : Told). after_all made t) goes.2;
      goes = f.goes;
    }

-- all of them
all_run : (hash : Hash) (steps : List DiskStep) (calls : List Call) (m end : Machine) → Goes hash m steps calls end → Run hash m (events_of steps) (answers_of steps) end
all_run hash [] [] m end goes = goes
all_run hash [] (call ∷ calls) m end goes = absurd goes
all_run hash (step ∷ steps) [] m end goes = absurd goes
all_run hash (step ∷ steps) (call ∷ calls) m end goes = (goes.0, goes.1, all_run hash steps calls goes.0 end goes.4)

-- one step more behind a run
run_more : (hash : Hash) (events : List Event) (outputs : List Output) (m middle end : Machine) (event : Event) (output : Output) → Run hash m events outputs middle
    → Steps hash middle event output end → Run hash m (events ++ event ∷ []) (outputs ++ output ∷ []) end
run_more hash [] [] m middle end event output run step = subst (λ (s : Machine). Run hash s (event ∷ []) (output ∷ []) end) run (end, step, refl)
run_more hash [] (o ∷ outputs) m middle end event output run step = absurd run
run_more hash (e ∷ events) [] m middle end event output run step = absurd run
run_more hash (e ∷ events) (o ∷ outputs) m middle end event output run step = (run.0, run.1, run_more hash events outputs run.0 middle end event output run.2 step)

-- a machine whose disk had a call that failed
pub nothing_behind : (hash : Hash) (m : Machine) → m.stopped ≡ true → CallsNothing hash m
nothing_behind hash m stopped = record {
  stage = λ last fails may. absurd (cc (stopped, may.0.going));
  seal = λ fails may. absurd (cc (stopped, may.0.going));
  gate = λ fails may. absurd (cc (stopped, may.0.going));
  settle = λ fails may. absurd (cc (stopped, may.0.going));
}

-- the next of the steps that are left, where its call fails
record Stops (hash : Hash) (m : Machine) (steps : List DiskStep) (call : Call) : Type 0 where
  pub step : DiskStep
  pub rest : List DiskStep
  pub split : steps ≡ step ∷ rest
  pub falls : Falls hash m step call

stops_at : (hash : Hash) (m end : Machine) (steps : List DiskStep) (call : Call) (calls : List Call) → Goes hash m steps (call ∷ calls) end → Stops hash m steps call
stops_at hash m end [] call calls goes = absurd goes
stops_at hash m end (step ∷ steps) call calls goes = record { step = step; rest = steps; split = refl; falls = goes.3 }

-- so far as the calls came
part_made : (hash : Hash) (m end : Machine) (steps : List DiskStep) (calls : List Call) (now : Told) → Goes hash m steps calls end → MakesPart calls (Some m.disk) (Some now)
    → MakesSteps hash m steps now
part_made hash m end steps calls now goes part = by part.3
  where
    f : Front hash m steps part.0 part.1 end
    f = front_of hash steps part.0 part.1 m end (subst (λ (l : List Call). Goes hash m steps l end) part.2 goes)

    by : (Some now ≡ option_map (after_all part.0) (Some m.disk))
        ⊎ ((call : Call) × (rest : List Call) × (part.1 ≡ call ∷ rest) × (Some now ≡ option_map (after (failed_call call)) (option_map (after_all part.0) (Some m.disk))))
        → MakesSteps hash m steps now
    by (inl told) = (f.front, f.rest, f.split, f.middle, f.disk ∙ sym (some-is now (after_all part.0 m.disk) told), inl f.run)
    by (inr failed) =
        let s : Stops hash f.middle f.rest failed.0 = stops_at hash f.middle end f.rest failed.0 failed.1 (subst (λ (l : List Call). Goes hash f.middle f.rest l end) failed.2 f.goes) in
        let fall : Falls hash f.middle s.step failed.0 = s.falls in
        let told : now ≡ after (failed_call failed.0) (after_all part.0 m.disk) = some-is now (after (failed_call failed.0) (after_all part.0 m.disk)) failed.3 in (
          f.front,
          f.rest,
          f.split,
          fall.end,
          fall.disk ∙ ap (after (failed_call failed.0)) f.disk ∙ sym told,
          inr (s.step, s.rest, s.split, run_more hash (events_of f.front) (answers_of f.front) m f.middle fall.end (s.step true) tells.Failed f.run fall.steps, nothing_behind hash fall.end fall.stopped),
        )

-- the first of what is left of a list
dropped : {A : Type 0} (xs : List A) (d : ℕ) (x : A) (left : List A) → drop d xs ≡ x ∷ left → (d < length xs) × (slice_get xs d ≡ Some x) × (drop (suc d) xs ≡ left)
dropped [] zero x left is = absurd (cc is)
dropped [] (suc d) x left is = absurd (cc is)
dropped (y ∷ xs) zero x left is = (omega arith, cc is, cc is)
dropped (y ∷ xs) (suc d) x left is = let r = dropped xs d x left is in (omega (arith, r.0), r.1, r.2)

-- a machine that rests on these batches
abbrev base : Machine → List (List Record) → ℕ → Told → Machine
base m batches n t = record m { durable = n; batches = batches; progress = None; disk = t; up = true; stopped = false }

-- records that follow those of batches in what is placed, their values put over one log
record AreDue (hash : Hash) (placed : List Transaction) (batches : List (List Record)) (rs : List Record) : Type 0 where
  pub within : length (joined batches) + length rs ≤ length placed
  pub transactions : map (λ r. r.tx) rs ≡ take (length rs) (drop (length (joined batches)) placed)
  pub records : AreRecords hash placed (length (joined batches) + 1) rs
  pub put : ArePut 1 (length (joined batches) + 1) (refs_of (joined batches)) rs

-- a batch of them
module _ (hash : Hash) (m : Machine) (batches : List (List Record)) (rs : List Record) (due : AreDue hash m.placed batches rs) (some : 1 ≤ length rs) where
  abbrev n : ℕ
  n = length (joined batches)

  abbrev last : ℕ
  last = n + length rs

  abbrev pieces : List Span
  pieces = pieces_of (ends_of batches) (n + 1) rs

  abbrev stage : DiskStep
  stage = λ fails. on.Stage last fails

  abbrev work : Told → ℕ → Machine
  work t d = record (base m batches n t) { progress = Some (record { records = rs; done = d }) }

  abbrev stopped_at : Machine → Call → Machine
  stopped_at w call = record w { disk = after (failed_call call) w.disk; stopped = true }

  covers : (t : Told) → Covers hash (base m batches n t) last rs
  covers t = record {
    transactions_are = due.transactions ∙ ap (λ (k : ℕ). take k (drop n m.placed)) (omega arith);
    records_are = due.records;
    put = due.put;
  }

  -- its later pieces
  staged : (left : List Span) (t : Told) (d : ℕ) → drop d pieces ≡ left
      → Goes hash (work t d) (replicate (length left) stage) (writes_of left) (work (after_all (writes_of left) t) (d + length left))
  staged [] t d is = ap (λ (k : ℕ). work t k) (omega arith)
  staged (p ∷ left) t d is =
      let call : Call = Wrote p.file p.at p.octets in
      let at = dropped pieces d p left is in
      let next : Machine = work (after call t) (d + 1) in
      let count : d + 1 + length left ≡ d + suc (length left) = omega arith in
      let more : suc d ≡ d + 1 = omega arith in
      let behind : drop (d + 1) pieces ≡ left = subst (λ (k : ℕ). drop k pieces ≡ left) more at.2 in (
        next,
        inl ((record { up = refl; going = refl }, at.0), (p, at.1, (refl, refl))),
        refl,
        record { end = stopped_at (work t d) call; steps = inl ((record { up = refl; going = refl }, at.0), (p, at.1, (refl, refl))); disk = refl; stopped = refl },
        subst (λ (k : ℕ). Goes hash next (replicate (length left) stage) (writes_of left) (work (after_all (writes_of left) (after call t)) k)) count (staged left (after call t) (d + 1) behind),
      )

  -- all of them
  all_staged : (ps : List Span) (t : Told) → pieces ≡ ps → 0 < length ps
      → Goes hash (base m batches n t) (replicate (length ps) stage) (writes_of ps) (work (after_all (writes_of ps) t) (length ps))
  all_staged [] t is has = absurd (omega (arith, has))
  all_staged (p ∷ left) t is has =
      let call : Call = Wrote p.file p.at p.octets in
      let at = dropped pieces 0 p left is in
      let may : (n < last) × (last ≤ length m.placed) = (omega (arith, some), due.within) in
      let count : 1 + length left ≡ suc (length left) = omega arith in (
        work (after call t) 1,
        inl ((record { up = refl; going = refl }, may), (rs, covers t, (p, at.1, (refl, refl)))),
        refl,
        record { end = stopped_at (work t 0) call; steps = inl ((record { up = refl; going = refl }, may), (rs, covers t, (p, at.1, (refl, refl)))); disk = refl; stopped = refl },
        subst (λ (k : ℕ). Goes hash (work (after call t) 1) (replicate (length left) stage) (writes_of left) (work (after_all (writes_of left) (after call t)) k)) count (staged left (after call t) 1 at.2),
      )

  -- the sync behind them, the gate, and the sync behind it
  ended : (t : Told) → Goes hash (work t (length pieces)) ((λ fails. on.Seal fails) ∷ (λ fails. on.Gate fails) ∷ (λ fails. on.Settle fails) ∷ [])
      (Synced ∷ Wrote 1 (gate_of (length batches)) (1 ∷ []) ∷ Synced ∷ [])
      (base m (batches ++ rs ∷ []) last (after_all (Synced ∷ Wrote 1 (gate_of (length batches)) (1 ∷ []) ∷ Synced ∷ []) t))
  ended t =
      let gate : Call = Wrote 1 (gate_of (length batches)) (1 ∷ []) in
      let sealed : Machine = work (after Synced t) (length pieces + 1) in
      let gated : Machine = work (after gate (after Synced t)) (length pieces + 1 + 1) in
      let all : length pieces + 1 + 1 ≡ length pieces + 2 = omega arith in (
        sealed,
        inl ((record { up = refl; going = refl }, refl), (refl, refl)),
        refl,
        record { end = stopped_at (work t (length pieces)) Synced; steps = inl ((record { up = refl; going = refl }, refl), (refl, refl)); disk = refl; stopped = refl },
        (
          gated,
          inl ((record { up = refl; going = refl }, refl), (refl, refl)),
          refl,
          record { end = stopped_at sealed gate; steps = inl ((record { up = refl; going = refl }, refl), (refl, refl)); disk = refl; stopped = refl },
          (
            base m (batches ++ rs ∷ []) last (after Synced (after gate (after Synced t))),
            inl ((record { up = refl; going = refl }, all), (refl, refl)),
            refl,
            record { end = stopped_at gated Synced; steps = inl ((record { up = refl; going = refl }, all), (refl, refl)); disk = refl; stopped = refl },
            refl,
          ),
        ),
      )

  whole : (t : Told) → Goes hash (base m batches n t)
      (replicate (length pieces) stage ++ (λ fails. on.Seal fails) ∷ (λ fails. on.Gate fails) ∷ (λ fails. on.Settle fails) ∷ [])
      (writes_of pieces ++ Synced ∷ Wrote 1 (gate_of (length batches)) (1 ∷ []) ∷ Synced ∷ [])
      (base m (batches ++ rs ∷ []) last (after_all (writes_of pieces ++ Synced ∷ Wrote 1 (gate_of (length batches)) (1 ∷ []) ∷ Synced ∷ []) t))
  whole t =
      let tail : List Call = Synced ∷ Wrote 1 (gate_of (length batches)) (1 ∷ []) ∷ Synced ∷ [] in
      let steps : List DiskStep = (λ fails. on.Seal fails) ∷ (λ fails. on.Gate fails) ∷ (λ fails. on.Settle fails) ∷ [] in
      let told : Told = after_all (writes_of pieces) t in
      subst (λ (x : Told). Goes hash (base m batches n t) (replicate (length pieces) stage ++ steps) (writes_of pieces ++ tail) (base m (batches ++ rs ∷ []) last x)) (sym (after_both (writes_of pieces) tail t))
      (goes_both hash (replicate (length pieces) stage) steps (writes_of pieces) tail (base m batches n t) (work told (length pieces)) (base m (batches ++ rs ∷ []) last (after_all tail told))
      (all_staged pieces t refl (has_piece (ends_of batches) (n + 1) rs)) (ended told))

batch_goes : (hash : Hash) (m : Machine) (batches : List (List Record)) (rs : List Record) (t : Told) → AreDue hash m.placed batches rs → 1 ≤ length rs
    → Goes hash (base m batches (length (joined batches)) t) (steps_of_batch batches rs) (calls_of_batch batches rs)
    (base m (batches ++ rs ∷ []) (length (joined batches) + length rs) (after_all (calls_of_batch batches rs) t))
batch_goes hash m batches [] t due some = absurd (omega (arith, some))
batch_goes hash m batches (r ∷ rs) t due some = whole hash m batches (r ∷ rs) due some t

-- the records of some transactions, and of those behind them
txs_behind : (xs ys : List Record) (zs : List Transaction) (n : ℕ) → n ≡ length xs + length ys → map (λ r. r.tx) (xs ++ ys) ≡ take n zs → map (λ r. r.tx) ys ≡ take (length ys) (drop (length xs) zs)
txs_behind [] ys zs n count is = is ∙ ap (λ (k : ℕ). take k zs) (omega (arith, count))
txs_behind (x ∷ xs) ys zs zero count is = absurd (cc is)
txs_behind (x ∷ xs) ys [] (suc n) count is = absurd (cc is)
txs_behind (x ∷ xs) ys (z ∷ zs) (suc n) count is = txs_behind xs ys zs n (omega (arith, count)) (cc is)

pub txs_before : (xs ys : List Record) (zs : List Transaction) (n : ℕ) → map (λ r. r.tx) (xs ++ ys) ≡ take n zs → map (λ r. r.tx) xs ≡ take (length xs) zs
txs_before [] ys zs n is = refl
txs_before (x ∷ xs) ys zs zero is = absurd (cc is)
txs_before (x ∷ xs) ys [] (suc n) is = absurd (cc is)
txs_before (x ∷ xs) ys (z ∷ zs) (suc n) is = let rest : map (λ r. r.tx) xs ≡ take (length xs) zs = txs_before xs ys zs n (cc is) in cc (is, rest)

put_apart : (w id : ℕ) (before : List ValueRef) (a b : List Record) → ArePut w id before (a ++ b) → ArePut w id before a × ArePut w (id + length a) (before ++ refs_of a) b
put_apart w id before [] b put =
    (tt, subst (λ (k : ℕ). ArePut w k (before ++ []) b) (omega arith) (subst (λ (l : List ValueRef). ArePut w id l b) (sym (append-nil before)) put))
put_apart w id before (r ∷ a) b put =
    let rest = put_apart w (id + 1) (before ++ r.refs) a b put.1 in (
      (put.0, rest.0),
      subst (λ (k : ℕ). ArePut w k (before ++ (r.refs ++ refs_of a)) b) (omega arith)
          (subst (λ (l : List ValueRef). ArePut w (id + 1 + length a) l b) (append_assoc before r.refs (refs_of a)) rest.1),
    )

-- of two batches that are due, one behind the other
module _ (hash : Hash) (placed : List Transaction) (batches : List (List Record)) (a b : List Record) (due : AreDue hash placed batches (a ++ b)) where
  abbrev number : ℕ
  number = length (joined batches)

  count_both : length (a ++ b) ≡ length a + length b
  count_both = length-append a b

  due_first : AreDue hash placed batches a
  due_first = record {
    within = omega (arith, due.within, count_both);
    transactions = txs_before a b (drop number placed) (length (a ++ b)) due.transactions;
    records = (records_apart hash placed (number + 1) a b due.records).0;
    put = (put_apart 1 (number + 1) (refs_of (joined batches)) a b due.put).0;
  }

  due_next : AreDue hash placed (batches ++ a ∷ []) b
  due_next =
      let all : joined (batches ++ a ∷ []) ≡ joined batches ++ a = joined_more batches a in
      let count : length (joined (batches ++ a ∷ [])) ≡ number + length a = ap (λ (l : List Record). length l) all ∙ length-append (joined batches) a in
      let at : number + 1 + length a ≡ length (joined (batches ++ a ∷ [])) + 1 = omega (arith, count) in
      let refs : refs_of (joined batches) ++ refs_of a ≡ refs_of (joined (batches ++ a ∷ [])) = sym (ap refs_of all ∙ refs_more (joined batches) a) in
      let put = (put_apart 1 (number + 1) (refs_of (joined batches)) a b due.put).1 in
      record {
        within = omega (arith, due.within, count_both, count);
        transactions = txs_behind a b (drop number placed) (length (a ++ b)) count_both due.transactions
            ∙ ap (λ (l : List Transaction). take (length b) l) (drop-drop (length a) number placed) ∙ ap (λ (k : ℕ). take (length b) (drop k placed)) (sym count);
        records = subst (λ (k : ℕ). AreRecords hash placed k b) at (records_apart hash placed (number + 1) a b due.records).1;
        put = subst (λ (l : List ValueRef). ArePut 1 (length (joined (batches ++ a ∷ [])) + 1) l b) refs (subst (λ (k : ℕ). ArePut 1 k (refs_of (joined batches) ++ refs_of a) b) at put);
      }

-- of batches that are due, one behind the other, and what is due behind them
due_behind : (hash : Hash) (placed : List Transaction) (first done : List (List Record)) (rest : List Record) → AreDue hash placed first (joined done ++ rest) → AreDue hash placed (first ++ done) rest
due_behind hash placed first [] rest due = subst (λ (b : List (List Record)). AreDue hash placed b rest) (sym (append-nil first)) due
due_behind hash placed first (batch ∷ done) rest due =
    let apart : AreDue hash placed first (batch ++ (joined done ++ rest)) = subst (λ (l : List Record). AreDue hash placed first l) (append_assoc batch (joined done) rest) due in
    subst (λ (b : List (List Record)). AreDue hash placed b rest) (append_assoc first (batch ∷ []) done)
    (due_behind hash placed (first ++ batch ∷ []) done rest (due_next hash placed first batch (joined done ++ rest) apart))

-- what is due of a history is due wherever as much of it is placed
module _ (hash : Hash) (history placed : List Transaction) (batches : List (List Record)) (rs : List Record) (due : AreDue hash history batches rs)
    (same : take (length (joined batches) + length rs) placed ≡ take (length (joined batches) + length rs) history) where
  abbrev start : ℕ
  start = length (joined batches)

  abbrev end : ℕ
  end = start + length rs

  enough : end ≤ length placed
  enough =
      let short : length (take end history) ≡ end = length-take-le end history due.within in
      omega (arith, short, ap (λ (l : List Transaction). length l) same, length-take end placed)

  records_there : AreRecords hash placed (start + 1) rs
  records_there =
      let front : AreRecords hash (take end placed) (start + 1) rs =
      subst (λ (l : List Transaction). AreRecords hash l (start + 1) rs) (sym same) (records_front hash history end (start + 1) rs (omega arith) (omega arith) due.records) in
      let size : length (take end placed) ≡ end = length-take-le end placed enough in
      subst (λ (l : List Transaction). AreRecords hash l (start + 1) rs) (take-append-drop end placed)
      (records_longer hash (take end placed) (drop end placed) (start + 1) rs (omega arith) (omega (arith, size)) front)

  due_there : AreDue hash placed batches rs
  due_there = record {
    within = enough;
    transactions = due.transactions ∙ sym (drop-take start (length rs) history) ∙ ap (λ (l : List Transaction). drop start l) (sym same) ∙ drop-take start (length rs) placed;
    records = records_there;
    put = due.put;
  }

-- each of some batches is filled
filled_at : (done : List (List Record)) (records : List Record) (rest : List (List Record)) → All IsFilled (done ++ records ∷ rest) → 1 ≤ length records
filled_at [] records rest filled = All-head IsFilled records rest filled
filled_at (batch ∷ done) records rest filled = filled_at done records rest (All-tail IsFilled batch (done ++ records ∷ rest) filled)

-- the last batch, as far as its calls came
last_made : (hash : Hash) (m : Machine) (batches : List (List Record)) (last : List Record) (t now : Told) → AreDue hash m.placed batches last
    → MakesPart (calls_of_batch batches last) (Some t) (Some now) → MakesSteps hash (base m batches (length (joined batches)) t) (steps_of_batch batches last) now
last_made hash m batches [] t now due part =
    let at : Machine = base m batches (length (joined batches)) t in
    part_made hash at at [] [] now refl part
last_made hash m batches (r ∷ rs) t now due part =
    let rows : List Record = r ∷ rs in
    part_made hash (base m batches (length (joined batches)) t) (base m (batches ++ rows ∷ []) (length (joined batches) + length rows) (after_all (calls_of_batch batches rows) t))
    (steps_of_batch batches rows) (calls_of_batch batches rows) now (batch_goes hash m batches rows t due (omega arith)) part

-- a machine by its parts
abbrev with_parts : Machine → ℕ → List (List Record) → Option Progress → Told → Bool → Bool → Machine
with_parts m n batches progress t up stopped = record m { durable = n; batches = batches; progress = progress; disk = t; up = up; stopped = stopped }

-- what rests is the machine that rests
module _ (m : Machine) (up : m.up ≡ true) (going : m.stopped ≡ false) (idle : m.progress ≡ None) where
  rested : (batches : List (List Record)) (n : ℕ) (t : Told) → with_parts m n batches m.progress t m.up m.stopped ≡ base m batches n t
  rested batches n t =
      ap (λ (p : Option Progress). with_parts m n batches p t m.up m.stopped) idle ∙ ap (λ (b : Bool). with_parts m n batches None t b m.stopped) up
      ∙ ap (λ (b : Bool). with_parts m n batches None t true b) going

  at_base : (batches : List (List Record)) (t : Told) → m.batches ≡ batches → m.durable ≡ length (joined batches) → m.disk ≡ t → m ≡ base m batches (length (joined batches)) t
  at_base batches t is count disk =
      ap (λ (b : List (List Record)). with_parts m m.durable b m.progress m.disk m.up m.stopped) is
      ∙ ap (λ (k : ℕ). with_parts m k batches m.progress m.disk m.up m.stopped) count
      ∙ ap (λ (x : Told). with_parts m (length (joined batches)) batches m.progress x m.up m.stopped) disk
      ∙ rested batches (length (joined batches)) t

-- the batches whose calls a store's disk got are due in its history
module _ (hash : Hash) (n durable : ℕ) (history : List Transaction) (before now : Told) (made : MakesBatches hash 1 n durable history (Some before) (Some now)) where
  abbrev own : List Record
  own = joined made.more ++ made.last

  whole_are : joined (made.first ++ made.more) ++ made.last ≡ joined made.first ++ own
  whole_are = ap (λ (l : List Record). l ++ made.last) (joined_both made.first made.more) ∙ append_assoc (joined made.first) (joined made.more) made.last

  durable_count : length (joined (made.first ++ made.more)) ≡ durable
  durable_count =
      sym (length-map (joined (made.first ++ made.more)) (λ (r : Record). r.tx)) ∙ ap (λ (l : List Transaction). length l) made.durable_are
      ∙ length-take-le durable history (omega (arith, made.within))

  count_all : length (joined made.first) + length own ≡ durable + length made.last
  count_all =
      sym (length-append (joined made.first) own) ∙ ap (λ (l : List Record). length l) (sym whole_are)
      ∙ length-append (joined (made.first ++ made.more)) made.last ∙ ap (λ (k : ℕ). k + length made.last) durable_count

  pub all_txs : map (λ r. r.tx) (joined made.first ++ own) ≡ take (length (joined made.first) + length own) history
  all_txs =
      let tx : Record → Transaction = λ r. r.tx in
      ap (λ (l : List Record). map tx l) (sym whole_are) ∙ map-append tx (joined (made.first ++ made.more)) made.last
      ∙ ap (λ (l : List Transaction). l ++ map tx made.last) made.durable_are ∙ ap (λ (l : List Transaction). take durable history ++ l) made.last_are
      ∙ sym (take-add durable (length made.last) history) ∙ ap (λ (k : ℕ). take k history) (sym count_all)

  pub all_records : AreRecords hash history 1 (joined made.first ++ own)
  all_records = subst (λ (l : List Record). AreRecords hash history 1 l) whole_are made.records_are

  due_all : AreDue hash history made.first own
  due_all =
      let at : 1 + length (joined made.first) ≡ length (joined made.first) + 1 = omega arith in
      let number : n + 1 ≡ length (joined made.first) + 1 = omega (arith, made.found_are) in
      record {
        within = omega (arith, made.within, count_all);
        transactions = txs_behind (joined made.first) own history (length (joined made.first) + length own) refl all_txs;
        records = subst (λ (k : ℕ). AreRecords hash history k own) at (records_apart hash history 1 (joined made.first) own all_records).1;
        put = subst (λ (k : ℕ). ArePut 1 k (refs_of (joined made.first)) own) number made.put;
      }

-- one of them, in a machine that holds as much and rests on those before it
module _ (hash : Hash) (m : Machine) (first done : List (List Record)) (records : List Record) (before : Told) (holds : m.up ≡ true)
    (rests : RestsOn m (first ++ done) (after_all (calls_of_batches first done) before)) (due : AreDue hash m.placed (first ++ done) records) (some : 1 ≤ length records) where
  abbrev batches : List (List Record)
  batches = first ++ done

  abbrev all : List (List Record)
  all = first ++ (done ++ records ∷ [])

  abbrev told : Told
  told = after_all (calls_of_batches first done) before

  abbrev told_all : Told
  told_all = after_all (calls_of_batches first (done ++ records ∷ [])) before

  abbrev one_end : Machine
  one_end = base m (batches ++ records ∷ []) (length (joined batches) + length records) (after_all (calls_of_batch batches records) told)

  told_are : after_all (calls_of_batch batches records) told ≡ told_all
  told_are =
      sym (after_both (calls_of_batches first done) (calls_of_batch batches records) before) ∙ ap (λ (l : List Call). after_all l before) (sym (batches_more first done records))

  one_end_is : one_end ≡ settled m all told_all
  one_end_is =
      let count : length (joined batches) + length records ≡ length (joined (batches ++ records ∷ [])) =
      sym (ap (λ (l : List Record). length l) (joined_more batches records) ∙ length-append (joined batches) records) in
      ap (λ (k : ℕ). base m (batches ++ records ∷ []) k (after_all (calls_of_batch batches records) told)) count
      ∙ ap (λ (b : List (List Record)). base m b (length (joined b)) (after_all (calls_of_batch batches records) told)) (append_assoc first done (records ∷ []))
      ∙ ap (λ (t : Told). base m all (length (joined all)) t) told_are ∙ sym (rested m holds rests.going rests.idle all (length (joined all)) told_all)

  one_run : Run hash m (events_of (steps_of_batch batches records)) (answers_of (steps_of_batch batches records)) one_end
  one_run =
      let steps : List DiskStep = steps_of_batch batches records in
      let here : m ≡ base m batches (length (joined batches)) told = at_base m holds rests.going rests.idle batches told rests.batches_are rests.durable_are rests.disk_is in
      subst (λ (s : Machine). Run hash s (events_of steps) (answers_of steps) one_end) (sym here)
      (all_run hash steps (calls_of_batch batches records) (base m batches (length (joined batches)) told) one_end (batch_goes hash m batches records told due some))

pub batch_events : (hash : Hash) (n durable : ℕ) (history : List Transaction) (before now : Told) (made : MakesBatches hash 1 n durable history (Some before) (Some now))
    → AreBatchSteps hash history made.first made.more before
batch_events hash n durable history before now made done records rest split m holds rests =
    let first : List (List Record) = made.first in
    let behind : List Record = joined rest ++ made.last in
    let whole : joined made.more ++ made.last ≡ joined done ++ (records ++ behind) =
    ap (λ (l : List (List Record)). joined l ++ made.last) split ∙ ap (λ (l : List Record). l ++ made.last) (joined_both done (records ∷ rest))
    ∙ append_assoc (joined done) (records ++ joined rest) made.last ∙ ap (λ (l : List Record). joined done ++ l) (append_assoc records (joined rest) made.last) in
    let due : AreDue hash history first (joined done ++ (records ++ behind)) =
    subst (λ (l : List Record). AreDue hash history first l) whole (due_all hash n durable history before now made) in
    let one : AreDue hash history (first ++ done) records = due_first hash history (first ++ done) records behind (due_behind hash history first done (records ++ behind) due) in
    let here : AreDue hash m.placed (first ++ done) records = due_there hash history m.placed (first ++ done) records one holds.first in
    let some : 1 ≤ length records = filled_at done records rest (subst (λ (l : List (List Record)). All IsFilled l) split made.filled) in (
      one_end hash m first done records before holds.up rests here some,
      one_end_is hash m first done records before holds.up rests here some,
      one_run hash m first done records before holds.up rests here some,
    )

pub last_events : (hash : Hash) (n durable : ℕ) (history : List Transaction) (before now : Told) (made : MakesBatches hash 1 n durable history (Some before) (Some now))
    → AreLastSteps hash history made.first made.more made.last before now
last_events hash n durable history before now made m holds rests =
    let batches : List (List Record) = made.first ++ made.more in
    let told : Told = after_all (calls_of_batches made.first made.more) before in
    let due : AreDue hash history batches made.last = due_behind hash history made.first made.more made.last (due_all hash n durable history before now made) in
    let here : m ≡ base m batches (length (joined batches)) told = at_base m holds.up rests.going rests.idle batches told rests.batches_are rests.durable_are rests.disk_is in
    subst (λ (s : Machine). MakesSteps hash s (steps_of_batch batches made.last) now) (sym here)
    (last_made hash m batches made.last told now (due_there hash history m.placed batches made.last due holds.first) made.part)

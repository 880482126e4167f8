-- Events that call the disk.
use Rattle.std.proofs.Common.{◌≡◌, ◌≤◌, ◌<◌, ◌+◌, ◌-◌, ◌++◌, ◌∷◌, ◌∙◌, [], ℕ, List, length, take, drop, get_or, true, false, Bool, refl, sym, ap, subst, arith, Option, Some, None, length-drop}
use Rattle.std.proofs.lemmas.Bool.{true≢false}
use Rattle.std.proofs.lemmas.List.{length-map, length-take-le}
use Rattle.std.proofs.lemmas.Option.{slice_get-get_or}
use Rattle.std.specs.Prelude.{slice_get}
use Rattle.im_octet.proofs.Common.{some-is}
use Rattle.im_digest.specs.Digests.{Hash}
use Rattle.im_disk.specs.Disk.{after, Files, Images, Told}
use Rattle.im_disk.specs.Moments.{Leaves}
use Rattle.im_disk.specs.declared.calls.Call.{Call}
use Rattle.im_disk.specs.declared.calls.Call.TheVariants.{Synced, Tore, Wrote}
use Rattle.im_disk.proofs.Leaving.{leaves_more, leaves_nothing}
use Rattle.im_format.specs.Batches.{gate_of, spans_of}
use Rattle.im_format.specs.Standing.{StandsFrom}
use Rattle.im_format.specs.declared.records.Record.{Record}
use Rattle.im_format.specs.declared.spans.Span.{Span}
use Rattle.im_journal.specs.Holding.{ends_of, AreFirst, AreNext, IsResting}
use Rattle.im_journal.specs.Kept.{step_behind, Batch, IsInBatch}
use Rattle.im_journal.specs.Made.{failed_call}
use Rattle.im_journal.specs.Phases.{IsEither, IsGated, IsSealed, IsStaging}
use Rattle.im_journal.specs.Pieces.{end_of, ends_after, pieces_of}
use Rattle.im_journal.specs.declared.batches.Step.{Step}
use Rattle.im_journal.specs.declared.batches.Step.TheVariants.{Idle, Staging, Staged, Sealed, Gated}
use Rattle.im_journal.specs.declared.ends.Ends.{Ends}
use Rattle.im_journal.proofs.Calls.{done_now, gated, next_left, next_taken, sealed, torn_gate, torn_safe, wrote}
use Rattle.im_journal.proofs.Mids.{at_step, begun, done_first, done_rests, first_at, gated_at_last, leaves_either, mid_stands, rest_stands, safe_stands}
use Rattle.im_journal.proofs.Single.{has_piece, put_at}
use Rattle.im_machine.specs.Allowed.{MayGate, MaySeal, MaySettle, MayStage}
use Rattle.im_machine.specs.Kept.{IsDone}
use Rattle.im_machine.specs.Machines.{fresh, further, gate_due, writes_due, Covers, Machine, Progress}
use Rattle.im_machine.specs.Steps.{Calls, Gates, Seals, Settles, Stages, Writes}
use Rattle.im_machine.specs.declared.outputs.Output.{Output}
use Rattle.im_machine.proofs.StepLemmas.{done-behind}
use Rattle.im_machine_laws.proofs.Sound.{kept_as, telling, IsAsFar, IsSound}
use Rattle.im_model.specs.declared.transactions.Transaction.{Transaction}
use Rattle.im_journal.proofs.Held.{from_either}

-- so does each image of a disk that is as far as the batch in progress
pub far-images : (hash : Hash) (m : Machine) (progress : Option Progress) (b : Batch) (image : Files) → IsAsFar hash m progress b → Images m.disk image
    → StandsFrom hash m.durable m.placed image
far-images hash m None b image far now = record {
  count = m.durable;
  no_fewer = omega arith;
  no_more = far.first.placed;
  stands = rest_stands telling hash m.placed m.batches (kept_as m b) far image now;
}
far-images hash m (Some p) b image far now =
    from_either hash m.placed m.durable (length p.records) image far.0.first.placed far.0.next.placed
    (gated_at_last b.step hash m.placed m.durable (length p.records) image (mid_stands telling hash m.placed m.batches p.records (kept_as m b) far.0 image now))

-- the machine behind a call that succeeded, with this batch in progress
abbrev moved : Machine → Progress → Told → Machine
moved m p t = record m { progress = Some p; disk = t }

goes-on : (hash : Hash) (m : Machine) (p : Progress) (t : Told) (b : Batch) → IsSound hash m → m.up ≡ true → IsAsFar hash (moved m p t) (Some p) b → IsSound hash (moved m p t)
goes-on hash m p t b s up far = record {
  history = s.history;
  order = s.order;
  sessions = s.sessions;
  images = λ image now. far-images hash (moved m p t) (Some p) b image far now;
  held = λ opened going. (b, far);
  closed = λ down. absurd (true≢false (sym up ∙ down));
}

-- and behind one that failed
abbrev fallen : Machine → Option Progress → Told → Machine
fallen m progress t = record m { progress = progress; disk = t; stopped = true }

falls : (hash : Hash) (m : Machine) (progress : Option Progress) (t : Told) → IsSound hash m → m.up ≡ true
    → ((image : Files) → Images t image → StandsFrom hash m.durable m.placed image) → IsSound hash (fallen m progress t)
falls hash m progress t s up images = record {
  history = s.history;
  order = s.order;
  sessions = s.sessions;
  images = images;
  held = λ opened going. absurd (true≢false going);
  closed = λ down. absurd (true≢false (sym up ∙ down));
}

-- one call more, behind which each image has P
pub one-more : (P : Files → Type 0) (t : Told) (call : Call) → ((image : Files) → Images (after call t) image → P image) → Leaves P (Some t) (Some (after call t))
one-more P t call now = (leaves_more P (Some t) (Some t) call (leaves_nothing P (Some t)) now, now)

-- how far the batch is, by how much of it is done
is-staging : (step : Step) (writes written done : ℕ) → IsDone step writes written done → done < writes → (step ≡ Staging) × (done ≡ written) × (written < writes)
is-staging Idle writes written done is less = absurd is
is-staging Staging writes written done is less = (refl, is.0, is.1)
is-staging Staged writes written done is less = absurd (omega (arith, is, less))
is-staging Sealed writes written done is less = absurd (omega (arith, is, less))
is-staging Gated writes written done is less = absurd (omega (arith, is, less))

is-staged : (step : Step) (writes written done : ℕ) → IsDone step writes written done → done ≡ writes → step ≡ Staged
is-staged Idle writes written done is all = absurd is
is-staged Staging writes written done is all = absurd (omega (arith, is.0, is.1, all))
is-staged Staged writes written done is all = refl
is-staged Sealed writes written done is all = absurd (omega (arith, is, all))
is-staged Gated writes written done is all = absurd (omega (arith, is, all))

is-sealed : (step : Step) (writes written done : ℕ) → IsDone step writes written done → done ≡ writes + 1 → step ≡ Sealed
is-sealed Idle writes written done is all = absurd is
is-sealed Staging writes written done is all = absurd (omega (arith, is.0, is.1, all))
is-sealed Staged writes written done is all = absurd (omega (arith, is, all))
is-sealed Sealed writes written done is all = refl
is-sealed Gated writes written done is all = absurd (omega (arith, is, all))

is-gated : (step : Step) (writes written done : ℕ) → IsDone step writes written done → done ≡ writes + 2 → step ≡ Gated
is-gated Idle writes written done is all = absurd is
is-gated Staging writes written done is all = absurd (omega (arith, is.0, is.1, all))
is-gated Staged writes written done is all = absurd (omega (arith, is, all))
is-gated Sealed writes written done is all = absurd (omega (arith, is, all))
is-gated Gated writes written done is all = refl

-- with one write more
abbrev put_on : Batch → Batch
put_on b = record { step = step_behind (b.written + 1) (length b.pieces); pieces = b.pieces; written = b.written + 1; ends = b.ends; count = b.count }

-- a batch that is being staged, and its next write
module _ (hash : Hash) (m : Machine) (p : Progress) (b : Batch) (piece : Span) (s : IsSound hash m) (up : m.up ≡ true)
    (mid : IsInBatch telling hash m.placed m.batches p.records (kept_as m b)) (staging : b.step ≡ Staging) (done : p.done ≡ b.written) (less : b.written < length b.pieces)
    (got : slice_get b.pieces b.written ≡ Some piece) where
  abbrev spans : List Span
  spans = spans_of m.batches

  abbrev gate : ℕ
  gate = gate_of (length m.batches)

  abbrev ends : ℕ → ℕ
  ends = end_of (ends_of m.batches)

  abbrev write : Call
  write = Wrote piece.file piece.at piece.octets

  piece-is : piece ≡ get_or b.pieces b.written piece
  piece-is = sym (some-is (get_or b.pieces b.written piece) piece (sym (slice_get-get_or b.pieces b.written piece less) ∙ got))

  staged : IsStaging ends spans gate (take b.written b.pieces) (piece ∷ drop (b.written + 1) b.pieces) m.disk
  staged =
      subst (λ (l : List Span). IsStaging ends spans gate (take b.written b.pieces) l m.disk) (next_left b.pieces b.written piece less piece-is)
      (at_step telling hash m.placed m.batches p.records (kept_as m b) mid Staging staging)

  written : IsStaging ends spans gate (take (b.written + 1) b.pieces) (drop (b.written + 1) b.pieces) (after write m.disk)
  written =
      subst (λ (l : List Span). IsStaging ends spans gate l (drop (b.written + 1) b.pieces) (after write m.disk)) (next_taken b.pieces b.written piece less piece-is)
      (wrote ends spans gate (take b.written b.pieces) piece (drop (b.written + 1) b.pieces) m.disk staged)

  put-batch : IsInBatch telling hash m.placed m.batches p.records (kept_as (moved m (further p) (after write m.disk)) (put_on b))
  put-batch = record {
    first = mid.first;
    next = mid.next;
    pieces = mid.pieces;
    ends = mid.ends;
    count = mid.count;
    at = put_at (Some (after write m.disk)) ends spans gate b.pieces (b.written + 1) written;
  }

  torn-images : (image : Files) → Images (after (failed_call write) m.disk) image → StandsFrom hash m.durable m.placed image
  torn-images image from = record {
    count = m.durable;
    no_fewer = omega arith;
    no_more = mid.first.placed;
    stands =
        safe_stands hash m.placed m.batches m.durable (ends_of m.batches) mid.first image
        (torn_safe ends spans gate (take b.written b.pieces) piece (drop (b.written + 1) b.pieces) m.disk staged from.0 image from.1 from.2);
  }

  pub written-sound : (fails : Bool) (output : Output) (next : Machine) → Calls write fails (record m { progress = Some p }) (record m { progress = Some (further p) }) output next
      → IsSound hash next
  written-sound true output next does = subst (IsSound hash) (sym does.1) (falls hash m (Some p) (after (failed_call write) m.disk) s up torn-images)
  written-sound false output next does =
      subst (IsSound hash) (sym does.1)
      (goes-on hash m (further p) (after write m.disk) (put_on b) s up (put-batch, done-behind (length b.pieces) b.written p.done done less))

-- the next write of a batch in progress
writes-sound : (hash : Hash) (m next : Machine) (p : Progress) (b : Batch) (fails : Bool) (output : Output) → IsSound hash m → m.up ≡ true → IsAsFar hash m (Some p) b
    → p.done < length (writes_due m p) → Writes m fails p output next → IsSound hash next
writes-sound hash m next p b fails output s up far less does =
    let mid = far.0 in
    let pieces : b.pieces ≡ writes_due m p = mid.pieces in
    let many : length b.pieces ≡ length (writes_due m p) = ap (λ (l : List Span). length l) pieces in
    let at = is-staging b.step (length b.pieces) b.written p.done far.1 (omega (arith, less, many)) in
    let got : slice_get b.pieces b.written ≡ Some does.0 = ap (λ (l : List Span). slice_get l b.written) pieces ∙ ap (λ (n : ℕ). slice_get (writes_due m p) n) (sym at.1) ∙ does.1 in
    written-sound hash m p b does.0 s up mid at.0 at.1 at.2 got fails output next does.2

-- the records of the next transactions can be added to what is durable
pub covers-next : (hash : Hash) (m : Machine) (last : ℕ) (rs : List Record) → m.durable < last → last ≤ length m.placed → Covers hash m last rs
    → AreNext hash m.placed m.batches m.durable rs
covers-next hash m last rs less within c =
    let behind : List Transaction = drop m.durable m.placed in
    let count : length rs ≡ last - m.durable =
    sym (length-map rs (λ (r : Record). r.tx)) ∙ ap (λ (l : List Transaction). length l) c.transactions_are
    ∙ length-take-le (last - m.durable) behind (omega (arith, length-drop m.durable m.placed, within)) in
    record {
      some = omega (arith, count, less);
      placed = omega (arith, count, less, within);
      transactions_are = c.transactions_are ∙ ap (λ (n : ℕ). take n behind) (sym count);
      records_are = c.records_are;
      logs = 1;
      put = c.put;
    }

-- a batch of them, of which nothing is done
abbrev batch_begun : Machine → List Record → Batch
batch_begun m rs = record {
  step = Staging;
  pieces = pieces_of (ends_of m.batches) (m.durable + 1) rs;
  written = 0;
  ends = ends_after (ends_of m.batches) (m.durable + 1) rs;
  count = length rs;
}

begun-far : (hash : Hash) (m : Machine) (b : Batch) (rs : List Record) → IsAsFar hash m None b → AreNext hash m.placed m.batches m.durable rs
    → IsAsFar hash m (Some (fresh rs)) (batch_begun m rs)
begun-far hash m b rs rest next =
    let mid : IsInBatch telling hash m.placed m.batches rs (kept_as m (batch_begun m rs)) = record {
      first = rest.first;
      next = next;
      pieces = refl;
      ends = refl;
      count = refl;
      at = begun telling hash m.placed m.batches (kept_as m b) rest rs;
    } in
    (mid, (refl, has_piece (ends_of m.batches) (m.durable + 1) rs))

pub sound-stage : (hash : Hash) (m next : Machine) (last : ℕ) (fails : Bool) (progress : Option Progress) (b : Batch) (output : Output) → IsSound hash m → m.up ≡ true
    → IsAsFar hash m progress b → MayStage m last progress → Stages hash m last fails progress output next → IsSound hash next
sound-stage hash m next last fails None b output s up far may does =
    let rs : List Record = does.0 in
    let begun_now : IsAsFar hash m (Some (fresh rs)) (batch_begun m rs) = begun-far hash m b rs far (covers-next hash m last rs may.0 may.1 does.1) in
    writes-sound hash m next (fresh rs) (batch_begun m rs) fails output s up begun_now (has_piece (ends_of m.batches) (m.durable + 1) rs) does.2
sound-stage hash m next last fails (Some p) b output s up far may does = writes-sound hash m next p b fails output s up far may does

-- the batch at another step
abbrev batch_at : Step → Batch → Batch
batch_at step b = record { step = step; pieces = b.pieces; written = b.written; ends = b.ends; count = b.count }

pub sound-seal : (hash : Hash) (m next : Machine) (fails : Bool) (progress : Option Progress) (b : Batch) (output : Output) → IsSound hash m → m.up ≡ true
    → m.progress ≡ progress → IsAsFar hash m progress b → MaySeal m progress → Seals m fails progress output next → IsSound hash next
sound-seal hash m next fails None b output s up is far may does = absurd may
sound-seal hash m next true (Some p) b output s up is far may does = subst (IsSound hash) (sym does.1) (falls hash m m.progress (after (failed_call Synced) m.disk) s up s.images)
sound-seal hash m next false (Some p) b output s up is far may does =
    let mid = far.0 in
    let spans : List Span = spans_of m.batches in
    let gate : ℕ = gate_of (length m.batches) in
    let many : length b.pieces ≡ length (writes_due m p) = ap (λ (l : List Span). length l) mid.pieces in
    let step : b.step ≡ Staged = is-staged b.step (length b.pieces) b.written p.done far.1 (omega (arith, may, many)) in
    let t : Told = after Synced m.disk in
    let durable : IsSealed (end_of (ends_of m.batches)) spans gate b.pieces t =
    sealed (end_of (ends_of m.batches)) spans gate b.pieces m.disk (at_step telling hash m.placed m.batches p.records (kept_as m b) mid Staged step) in
    let next_mid : IsInBatch telling hash m.placed m.batches p.records (kept_as (moved m (further p) t) (batch_at Sealed b)) =
    record { first = mid.first; next = mid.next; pieces = mid.pieces; ends = mid.ends; count = mid.count; at = durable } in
    subst (IsSound hash) (sym does.1) (goes-on hash m (further p) t (batch_at Sealed b) s up (next_mid, omega (arith, may, many)))

pub sound-gate : (hash : Hash) (m next : Machine) (fails : Bool) (progress : Option Progress) (b : Batch) (output : Output) → IsSound hash m → m.up ≡ true
    → m.progress ≡ progress → IsAsFar hash m progress b → MayGate m progress → Gates m fails progress output next → IsSound hash next
sound-gate hash m next fails None b output s up is far may does = absurd may
sound-gate hash m next fails (Some p) b output s up is far may does =
    let mid = far.0 in
    let spans : List Span = spans_of m.batches in
    let gate : ℕ = gate_of (length m.batches) in
    let ends : ℕ → ℕ = end_of (ends_of m.batches) in
    let many : length b.pieces ≡ length (writes_due m p) = ap (λ (l : List Span). length l) mid.pieces in
    let step : b.step ≡ Sealed = is-sealed b.step (length b.pieces) b.written p.done far.1 (omega (arith, may, many)) in
    let durable : IsSealed ends spans gate b.pieces m.disk = at_step telling hash m.placed m.batches p.records (kept_as m b) mid Sealed step in
    go fails durable (omega (arith, may, many)) does
  where
    go : (fails : Bool) → IsSealed (end_of (ends_of m.batches)) (spans_of m.batches) (gate_of (length m.batches)) b.pieces m.disk → p.done + 1 ≡ length b.pieces + 2
        → Gates m fails (Some p) output next → IsSound hash next
    go true durable done does2 =
        let t : Told = after (Tore 1 (gate_due m) 1) m.disk in
        let ends : ℕ → ℕ = end_of (ends_of m.batches) in
        let either : (image : Files) → Images t image → IsEither ends (spans_of m.batches) (gate_of (length m.batches)) b.pieces image =
        λ image from. torn_gate ends (spans_of m.batches) (gate_of (length m.batches)) b.pieces m.disk durable from.0 image from.1 from.2 in
        let leaves =
        leaves_either telling hash m.placed m.batches p.records (kept_as m b) far.0 (Some m.disk) (Some t)
        (one-more (IsEither ends (spans_of m.batches) (gate_of (length m.batches)) b.pieces) m.disk (Tore 1 (gate_due m) 1) either) in
        subst (IsSound hash) (sym does2.1)
        (falls hash m m.progress t s up (λ image now. from_either hash m.placed m.durable (length p.records) image far.0.first.placed far.0.next.placed (leaves.1 image now)))
    go false durable done does2 =
        let t : Told = after (Wrote 1 (gate_due m) (1 ∷ [])) m.disk in
        let mid = far.0 in
        let opened_now : IsGated (end_of (ends_of m.batches)) (spans_of m.batches) (gate_of (length m.batches)) b.pieces t =
        gated (end_of (ends_of m.batches)) (spans_of m.batches) (gate_of (length m.batches)) b.pieces m.disk durable in
        let next_mid : IsInBatch telling hash m.placed m.batches p.records (kept_as (moved m (further p) t) (batch_at Gated b)) =
        record { first = mid.first; next = mid.next; pieces = mid.pieces; ends = mid.ends; count = mid.count; at = opened_now } in
        subst (IsSound hash) (sym does2.1) (goes-on hash m (further p) t (batch_at Gated b) s up (next_mid, done))

-- the machine with its batch durable
abbrev settled : Machine → Progress → Told → Machine
settled m p t = record m { durable = m.durable + length p.records; batches = m.batches ++ p.records ∷ []; progress = None; disk = t }

abbrev batch_idle : Ends → Batch
batch_idle ends = record { step = Idle; pieces = []; written = 0; ends = ends; count = 0 }

pub sound-settle : (hash : Hash) (m next : Machine) (fails : Bool) (progress : Option Progress) (b : Batch) (output : Output) → IsSound hash m → m.up ≡ true
    → m.progress ≡ progress → IsAsFar hash m progress b → MaySettle m progress → Settles m fails progress output next → IsSound hash next
sound-settle hash m next fails None b output s up is far may does = absurd may
sound-settle hash m next true (Some p) b output s up is far may does = subst (IsSound hash) (sym does.1) (falls hash m m.progress (after (failed_call Synced) m.disk) s up s.images)
sound-settle hash m next false (Some p) b output s up is far may does =
    let mid = far.0 in
    let rs : List Record = p.records in
    let spans : List Span = spans_of m.batches in
    let gate : ℕ = gate_of (length m.batches) in
    let ends : ℕ → ℕ = end_of (ends_of m.batches) in
    let more : List (List Record) = m.batches ++ rs ∷ [] in
    let many : length b.pieces ≡ length (writes_due m p) = ap (λ (l : List Span). length l) mid.pieces in
    let step : b.step ≡ Gated = is-gated b.step (length b.pieces) b.written p.done far.1 (omega (arith, may, many)) in
    let t : Told = after Synced m.disk in
    let done = done_now ends spans gate b.pieces m.disk (at_step telling hash m.placed m.batches rs (kept_as m b) mid Gated step) in
    let first_now : AreFirst hash m.placed more (m.durable + b.count) b.ends = done_first telling hash m.placed m.batches rs (kept_as m b) mid in
    let first : AreFirst hash m.placed more (m.durable + length rs) (ends_of more) =
    subst (λ (n : ℕ). AreFirst hash m.placed more (m.durable + n) (ends_of more)) mid.count (first_at hash m.placed more (m.durable + b.count) b.ends first_now) in
    let resting : IsResting more (ends_of more) t =
    subst (λ (e : Ends). IsResting more e t) first_now.ends_are (done_rests telling hash m.placed m.batches rs (kept_as m b) mid (Some t) done) in
    let now : Machine = settled m p t in
    let idle : Batch = batch_idle (ends_of more) in
    let far_now : IsAsFar hash now None idle = record { idle = refl; first = first; resting = resting } in
    subst (IsSound hash) (sym does.1) (record {
      history = s.history;
      order = record {
        least = s.order.least;
        linked_durable = omega (arith, s.order.linked_durable);
        indexed_durable = omega (arith, s.order.indexed_durable);
        durable_placed = first.placed;
      };
      sessions = λ session. omega (arith, s.sessions session);
      images = λ image left. far-images hash now None idle image far_now left;
      held = λ opened going. (idle, far_now);
      closed = λ down. absurd (true≢false (sym up ∙ down));
    })

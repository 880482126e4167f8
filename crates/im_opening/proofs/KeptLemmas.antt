-- What stays of the batches that were read, where the gate behind them is closed.
use Rattle.std.proofs.Common.{◌≡◌, ℕ, ◌≤◌, List, [], ◌∷◌, length, refl, ap, sym, ◌∙◌, subst, arith, Option, Some, None, Result, Ok, Err}
use Rattle.std.specs.Option.{option_map}
use Rattle.std.specs.Prelude.{IfSome, OnOk}
use Rattle.im_alog.proofs.Outcomes.{keeps_long}
use Rattle.im_disk.proofs.Tearing.{written_torn}
use Rattle.im_alog.proofs.Torn.{keeps_all, same_all, same_reads, written_reads}
use Rattle.im_alog.specs.Holding.{IsDurable}
use Rattle.im_clog.specs.Marks.{IsUncounted}
use Rattle.im_clog.specs.declared.marks.Uncounted.TheVariants.{Closed}
use Rattle.im_disk.specs.Disk.{Files, Told, TornFile, seen, with_file, written}
use Rattle.im_disk.specs.declared.disk.DiskError.{DiskError}
use Rattle.im_format.specs.Batches.{gate_of, spans_of}
use Rattle.im_format.specs.Spans.{octet_span}
use Rattle.im_format.specs.declared.records.Record.{Record}
use Rattle.im_journal.specs.Pieces.{end_of}
use Rattle.im_journal.specs.declared.ends.Ends.{Ends}
use Rattle.im_opening.specs.Cut.{IsHeld, IsHeldThroughout, IsShut, shut_at}
use Rattle.im_opening.specs.Opening.{IsThere}
use Rattle.im_opening.specs.Parts.{batches_in}
use Rattle.im_opening.specs.declared.reading.Opened.{Opened}
use Rattle.im_opening.proofs.GateLemmas.{shut-read, spans-miss}

-- an image of the same octets
held-same : (batches : List (List Record)) (ends : Ends) (old new : Files) → ((k : ℕ) → new k ≡ old k) → IsHeld batches ends old → IsHeld batches ends new
held-same batches ends old new same h = record {
  reads = same_all old new same (spans_of batches) h.reads;
  long = λ k. subst (λ (l : List ℕ). end_of ends k ≤ length l) (sym (same k)) (h.long k);
  shut = record {
    octet = h.shut.octet;
    closed = h.shut.closed;
    reads = same_reads old new same (octet_span 1 (gate_of (length batches)) h.shut.octet) h.shut.reads;
  };
}

-- where the gate was found closed
pub kept-closed : (opened : Opened) (t : Told) (octet : ℕ) → IsDurable t → IsThere (seen t) opened → opened.batches ≡ length (batches_in (seen t))
    → IsUncounted (seen t 1) (gate_of opened.batches) (Closed octet) → IsHeldThroughout (batches_in (seen t)) opened.ends t
kept-closed opened t octet durable there many lacks =
    let batches = batches_in (seen t) in
    let here : IsHeld batches opened.ends (seen t) = record {
      reads = there.batches.reads;
      long = there.long;
      shut = shut-read (seen t) (gate_of (length batches)) octet (subst (λ (n : ℕ). IsUncounted (seen t 1) (gate_of n) (Closed octet)) many lacks);
    } in
    record { each = λ image left. held-same batches opened.ends (seen t) image (durable image left) here; here = here }

-- and where it was closed
pub kept-shut : (opened : Opened) (t : Told) (gate : ℕ) → IsThere (seen t) opened → opened.batches ≡ length (batches_in (seen t))
    → gate ≡ gate_of opened.batches → gate ≤ length (seen t 1) → IsHeldThroughout (batches_in (seen t)) opened.ends (shut_at gate t)
kept-shut opened t gate there many at le =
    let old = seen t in
    let batches = batches_in old in
    let new : Files = with_file old 1 (written (old 1) gate (0 ∷ [])) in
    let torn : TornFile 1 gate 1 old new = written_torn old 1 gate (0 ∷ []) le in
    let place : gate ≡ gate_of (length batches) = at ∙ ap gate_of many in
    let S : ℕ → Type 0 = λ g. IsShut new g in
    let shut : S gate = record { octet = 0; closed = λ e. omega (arith, e); reads = written_reads old 1 gate (0 ∷ []) le } in
    let here : IsHeld batches opened.ends new = record {
      reads = keeps_all 1 gate 1 old new (spans_of batches) torn (spans-miss gate 0 1 0 batches (omega (arith, place))) there.batches.reads;
      long = keeps_long (end_of opened.ends) 1 gate 1 old new torn there.long;
      shut = subst S place shut;
    } in
    record { each = λ image left. held-same batches opened.ends new image left here; here = here }

-- after a repair that was made
pub kept-after : {T : Type 0} (opened : Opened) (t : Told) (gate : ℕ) (o n : Option Told) (r : Result T DiskError) → o ≡ Some t
    → OnOk r (n ≡ option_map (shut_at gate) o) → IsHeldThroughout (batches_in (seen t)) opened.ends (shut_at gate t)
    → OnOk r (IfSome n (IsHeldThroughout (batches_in (seen t)) opened.ends))
kept-after opened t gate o n (Ok x) is made kept =
    let P : Option Told → Type 0 = λ m. IfSome m (IsHeldThroughout (batches_in (seen t)) opened.ends) in
    subst P (sym (made ∙ ap (λ (m : Option Told). option_map (shut_at gate) m) is)) kept
kept-after opened t gate o n (Err e) is made kept = tt

-- nothing was done
pub same-told : (o : Option Told) → o ≡ option_map (λ t. t) o
same-told None = refl
same-told (Some t) = refl

-- one thing and then another
pub map-told : (f h : Told → Told) (o : Option Told) → option_map f (option_map h o) ≡ option_map (λ t. f (h t)) o
map-told f h None = refl
map-told f h (Some t) = refl

-- Which calls the disk got since it was opened, behind a step of its journal.
use Rattle.std.proofs.Common.{◌≡◌, ℕ, ◌+◌, ◌≤◌, ◌∙◌, List, [], ◌∷◌, ◌++◌, length, drop, refl, sym, ap, subst, arith, append-nil, append_assoc, Result, Ok}
use Rattle.std.specs.Prelude.{Option, IfSome, IsErrOf}
use Rattle.std.specs.Option.{option_map}
use Rattle.im_octet.proofs.Common.{on-ok}
use Rattle.im_digest.specs.Digests.{Hash}
use Rattle.im_disk.specs.Disk.{Told, seen}
use Rattle.im_disk.specs.Grown.{after_all}
use Rattle.im_disk.specs.declared.calls.Call.{Call}
use Rattle.im_disk.specs.declared.calls.Call.TheVariants.{Wrote, Synced}
use Rattle.im_disk.proofs.Growing.{told_both, told_none}
use Rattle.im_disk.proofs.Leaving.{if_told}
use Rattle.im_format.specs.Batches.{gate_of, spans_of}
use Rattle.im_format.specs.Standing.{HasBatches}
use Rattle.im_format.specs.declared.records.Record.{Record}
use Rattle.im_format.specs.declared.spans.Span.{Span}
use Rattle.im_model.specs.declared.transactions.Transaction.{Transaction}
use Rattle.im_table.specs.Histories.{history_of}
use Rattle.im_table.specs.Records.{AreRecordsOf}
use Rattle.im_table.specs.declared.items.LogItem.{LogItem}
use Rattle.im_journal.specs.Holding.{IsResting}
use Rattle.im_journal.specs.Kept.{Batch, IsAtRest, Kept}
use Rattle.im_journal.specs.Made.{MadeUpTo, writes_of}
use Rattle.im_journal.specs.Phases.{IsSafe}
use Rattle.im_journal.specs.Pieces.{end_of, pieces_of}
use Rattle.im_journal.specs.declared.batches.Step.{Step}
use Rattle.im_journal.specs.declared.batches.Step.TheVariants.{Idle, Staging, Staged, Sealed, Gated}
use Rattle.im_journal.specs.declared.ends.Ends.{Ends}
use Rattle.im_journal.specs.declared.errors.JournalError.{JournalError}
use Rattle.im_journal.specs.declared.errors.JournalError.TheVariants.{DiskFault, Stopped}
use Rattle.im_journal.proofs.Limits.{first_number}
use Rattle.im_journal.proofs.Making.{all_made, none_made}
use Rattle.im_journal.proofs.Mids.{first_at}
use Rattle.im_journal.proofs.Turns.{stands, stands_batches}
use Rattle.im_seated_journal.specs.Calls.{MakesPart, calls_left, calls_of_batch, calls_of_batches}
use Rattle.im_seated_journal.specs.Seats.{HasMade}
use Rattle.im_seated_journal.proofs.CallLemmas.{StepMakes, batch_calls, batches_more, none_part, part_of}
use Rattle.im_seated_journal.proofs.ServeLemmas.{by_answer}

-- no records are those of no items
none_next : (hash : Hash) (items : List LogItem) (durable : ℕ) → durable ≤ length items → AreRecordsOf hash items durable []
none_next hash items durable le = record { within = omega (arith, le); transactions_are = refl; refs_are = refl; records_are = tt }

-- the calls that are left are told by the batch and the ends
left_of_batch : {D : Type 0} (s : Step) (x y : Kept D) → x.batch ≡ y.batch → x.ends ≡ y.ends → calls_left s x ≡ calls_left s y
left_of_batch Idle x y batch ends = refl
left_of_batch Staging x y batch ends =
    ap (λ (b : Batch). writes_of (drop b.written b.pieces) ++ Synced ∷ Wrote 1 x.ends.commits (1 ∷ []) ∷ Synced ∷ []) batch
    ∙ ap (λ (e : Ends). writes_of (drop y.batch.written y.batch.pieces) ++ Synced ∷ Wrote 1 e.commits (1 ∷ []) ∷ Synced ∷ []) ends
left_of_batch Staged x y batch ends = ap (λ (e : Ends). Synced ∷ Wrote 1 e.commits (1 ∷ []) ∷ Synced ∷ []) ends
left_of_batch Sealed x y batch ends = ap (λ (e : Ends). Wrote 1 e.commits (1 ∷ []) ∷ Synced ∷ []) ends
left_of_batch Gated x y batch ends = refl

-- at rest what reads give has the batches
batches_held : {D : Type 0} (told : D → Option Told) (hash : Hash) (history : List Transaction) (batches : List (List Record)) (k : Kept D) → IsAtRest told hash history batches k
    → IfSome (told k.disk) (λ t. HasBatches (seen t) batches)
batches_held told hash history batches k rest =
    if_told (IsResting batches k.ends) (λ t. HasBatches (seen t) batches)
    (λ t h.
    let first = first_at hash history batches k.durable k.ends rest.first in
    let safe = subst (λ (e : Ends). IsSafe (end_of e) (spans_of batches) (gate_of (length batches)) (seen t)) rest.first.ends_are h.here in
    subst (λ (b : List (List Record)). HasBatches (seen t) b) (stands_batches hash history batches k.durable first (seen t) safe)
    (stands hash history batches k.durable first (seen t) safe).there)
    (told k.disk) rest.resting

-- as it is opened a journal has made none
pub opened_made : {D : Type 0} (told : D → Option Told) (hash : Hash) (items : List LogItem) (batches : List (List Record)) (k : Kept D) → IsAtRest told hash (history_of items) batches k
    → k.durable ≡ length items → HasMade told hash items (told k.disk) items batches [] k
opened_made told hash items batches k rest all =
    let o = told k.disk in
    let middle = option_map (after_all []) o in
    let now : o ≡ middle = told_none o in
    record {
      first = batches;
      more = [];
      batches_are = sym (append-nil batches);
      found_are = first_number hash (history_of items) batches k.durable k.ends rest.first ∙ all;
      held = batches_held told hash (history_of items) batches k rest;
      next = none_next hash items k.durable (omega (arith, all));
      part = none_part middle o now;
      left = λ _. subst (λ (s : Step). MadeUpTo [] (calls_left s k) middle o) (sym rest.idle) (record { made = []; split = refl; told = now ∙ told_none middle });
    }

module _ {D : Type 0} {told : D → Option Told} {hash : Hash} {found : List LogItem} {synced : Option Told} where
  -- a batch is begun: nothing is called, and all its calls are left
  pub begun_made : (old items : List LogItem) (batches : List (List Record)) (last rs : List Record) (k next : Kept D) → HasMade told hash found synced old batches last k → k.failures ≡ 0 → last ≡ []
      → IsAtRest told hash (history_of old) batches k → 1 ≤ length rs → AreRecordsOf hash items k.durable rs
      → next.batch.step ≡ Staging → (next.batch.pieces ≡ pieces_of k.ends (k.durable + 1) rs) × (next.batch.written ≡ 0) → next.disk ≡ k.disk → next.ends ≡ k.ends → next.durable ≡ k.durable
      → HasMade told hash found synced items batches rs next
  begun_made old items batches last rs k next made sound none rest some own step pieces disk ends durable =
      let middle = option_map (after_all (calls_of_batches made.first made.more)) synced in
      let calls = calls_of_batch batches rs in
      let left = calls_left next.batch.step next in
      let all = subst (λ (l : List Record). MadeUpTo (calls_of_batch batches l) (calls_left k.batch.step k) middle (told k.disk)) none (made.left sound) in
      let done = subst (λ (s : Step). MadeUpTo [] (calls_left s k) middle (told k.disk)) rest.idle all in
      let here : told next.disk ≡ middle = ap told disk ∙ all_made [] middle (told k.disk) done ∙ sym (told_none middle) in
      let is : left ≡ calls =
      ap (λ (s : Step). calls_left s next) step
      ∙ ap (λ (n : ℕ). writes_of (drop n next.batch.pieces) ++ Synced ∷ Wrote 1 next.ends.commits (1 ∷ []) ∷ Synced ∷ []) pieces.1
      ∙ ap (λ (ps : List Span). writes_of ps ++ Synced ∷ Wrote 1 next.ends.commits (1 ∷ []) ∷ Synced ∷ []) pieces.0
      ∙ ap (λ (e : Ends). writes_of (pieces_of k.ends (k.durable + 1) rs) ++ Synced ∷ Wrote 1 e.commits (1 ∷ []) ∷ Synced ∷ []) ends
      ∙ sym (batch_calls batches k.ends k.durable rs (λ (e : rs ≡ []). absurd (omega (arith, some, ap (λ (l : List Record). length l) e))) rest.first.ends_are (first_number hash (history_of old) batches k.durable k.ends rest.first)) in
      let begun = subst (λ (l : List Call). MadeUpTo calls l middle (told next.disk)) (sym is) (subst (λ (o : Option Told). MadeUpTo calls calls middle o) (sym here) (none_made calls middle)) in
      record {
        first = made.first;
        more = made.more;
        batches_are = made.batches_are;
        found_are = made.found_are;
        held = made.held;
        next = subst (λ (n : ℕ). AreRecordsOf hash items n rs) (sym durable) own;
        part = part_of calls left middle (told next.disk) begun;
        left = λ _. begun;
      }

  -- a step of a batch in progress
  pub stepped_made : {T : Type 0} (items : List LogItem) (batches : List (List Record)) (last : List Record) (k next : Kept D) (r : Result T JournalError) (made : HasMade told hash found synced items batches last k)
      → StepMakes told (calls_of_batch batches last) (option_map (after_all (calls_of_batches made.first made.more)) synced) next r → next.durable ≡ k.durable
      → (IsErrOf r DiskFault → next.failures ≡ 0 → ⊥) → ((n : ℕ) → IsErrOf r (Stopped n) → ⊥) → HasMade told hash found synced items batches last next
  stepped_made items batches last k next r made makes durable fault going =
      let middle = option_map (after_all (calls_of_batches made.first made.more)) synced in
      let calls = calls_of_batch batches last in
      let left = calls_left next.batch.step next in
      let now = told next.disk in
      record {
        first = made.first;
        more = made.more;
        batches_are = made.batches_are;
        found_are = made.found_are;
        held = made.held;
        next = subst (λ (n : ℕ). AreRecordsOf hash items n last) (sym durable) made.next;
        part = by_answer r (MakesPart calls middle now) (on-ok (MadeUpTo calls left middle now) (MakesPart calls middle now) r (part_of calls left middle now) makes.ok) (λ e. part_of calls left middle now (makes.again e))
            makes.failed (λ n e. absurd (going n e));
        left = λ none. by_answer r (MadeUpTo calls left middle now) makes.ok makes.again (λ e. absurd (fault e none)) (λ n e. absurd (going n e));
      }

  -- the step by which a batch is settled
  pub settled_made : {T : Type 0} (items : List LogItem) (batches : List (List Record)) (last : List Record) (k next : Kept D) (x : T) (made : HasMade told hash found synced items batches last k)
      → StepMakes {T = T} told (calls_of_batch batches last) (option_map (after_all (calls_of_batches made.first made.more)) synced) next (Ok x) → next.batch.step ≡ Idle → next.durable ≤ length items
      → HasMade told hash found synced items (batches ++ last ∷ []) [] next
  settled_made items batches last k next x made makes idle within =
      let first = calls_of_batches made.first made.more in
      let calls = calls_of_batch batches last in
      let more = made.more ++ last ∷ [] in
      let middle = option_map (after_all (calls_of_batches made.first more)) synced in
      let now = told next.disk in
      let done = subst (λ (s : Step). MadeUpTo calls (calls_left s next) (option_map (after_all first) synced) now) idle makes.ok in
      let all : first ++ calls ≡ calls_of_batches made.first more =
      ap (λ (b : List (List Record)). first ++ calls_of_batch b last) made.batches_are ∙ sym (batches_more made.first made.more last) in
      let here : now ≡ middle =
      all_made calls (option_map (after_all first) synced) now done ∙ told_both first calls synced ∙ ap (λ (l : List Call). option_map (after_all l) synced) all in
      record {
        first = made.first;
        more = more;
        batches_are = ap (λ (b : List (List Record)). b ++ last ∷ []) made.batches_are ∙ append_assoc made.first made.more (last ∷ []);
        found_are = made.found_are;
        held = made.held;
        next = none_next hash items next.durable within;
        part = none_part middle now here;
        left = λ _. subst (λ (s : Step). MadeUpTo [] (calls_left s next) middle now) (sym idle) (record { made = []; split = refl; told = here ∙ told_none middle });
      }

  -- a read makes none
  pub read_made : (items : List LogItem) (batches : List (List Record)) (last : List Record) (k next : Kept D) → HasMade told hash found synced items batches last k → told next.disk ≡ told k.disk
      → next.ends ≡ k.ends → next.durable ≡ k.durable → next.batch ≡ k.batch → k.failures ≤ next.failures → HasMade told hash found synced items batches last next
  read_made items batches last k next made same ends durable batch more =
      let middle = option_map (after_all (calls_of_batches made.first made.more)) synced in
      let calls = calls_of_batch batches last in
      let left : calls_left k.batch.step k ≡ calls_left next.batch.step next =
      left_of_batch k.batch.step k next (sym batch) (sym ends) ∙ ap (λ (b : Batch). calls_left b.step next) (sym batch) in
      record {
        first = made.first;
        more = made.more;
        batches_are = made.batches_are;
        found_are = made.found_are;
        held = made.held;
        next = subst (λ (n : ℕ). AreRecordsOf hash items n last) (sym durable) made.next;
        part = subst (λ (o : Option Told). MakesPart calls middle o) (sym same) made.part;
        left = λ none. subst (λ (l : List Call). MadeUpTo calls l middle (told next.disk)) left (subst (λ (o : Option Told). MadeUpTo calls (calls_left k.batch.step k) middle o) (sym same) (made.left (omega (arith, none, more))));
      }

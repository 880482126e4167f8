-- A disk that is opened, and one that isn't.
use Rattle.std.proofs.Common.{◌≡◌, ◌<◌, ℕ, List, length, refl, ap, subst, sym, ◌∙◌, arith, inl, inr, Option, Some, Err}
use Rattle.std.proofs.lemmas.Bool.{cases_lt}
use Rattle.std.specs.Option.{option_map}
use Rattle.std.specs.Prelude.{IsErrOf}
use Rattle.im_digest.specs.Digests.{Hash}
use Rattle.im_disk.specs.Disk.{Files, Told, after, seen}
use Rattle.im_disk.specs.Grown.{Grows}
use Rattle.im_disk.specs.Moments.{Leaves}
use Rattle.im_disk.specs.declared.calls.Call.TheVariants.{Synced}
use Rattle.im_disk.specs.declared.disk.DiskError.{DiskError}
use Rattle.im_disk.specs.declared.disk.DiskError.TheVariants.{Failed, Memory}
use Rattle.im_counts.specs.Counts.{Rose}
use Rattle.im_format.specs.Batches.{gate_of}
use Rattle.im_format.specs.Damages.{image_checks}
use Rattle.im_format.specs.Reading.{history_in}
use Rattle.im_format.specs.Standing.{HasBatches, Stands}
use Rattle.im_format.specs.declared.damages.Damage.{Damage}
use Rattle.im_format.specs.declared.records.Record.{Record}
use Rattle.im_model.specs.declared.transactions.Transaction.{Transaction}
use Rattle.im_mtree.specs.Checks.{first_fail}
use Rattle.im_opening.specs.Answers.{HasOpenCause, Tells}
use Rattle.im_opening.specs.Cut.{IsHalfOpened, IsOpenedBy, StopsAtGate, SyncsAtMost, WasBegun, WasLeft, WasOpened, opened_by}
use Rattle.im_opening.specs.Opening.{IsRead}
use Rattle.im_opening.specs.Opens.{FailsToOpen, AreOpened, Opens}
use Rattle.im_opening.specs.Reach.{txs_of}
use Rattle.im_opening.specs.declared.errors.OpenError.{OpenError}
use Rattle.im_opening.specs.declared.errors.OpenError.TheVariants as opened
use Rattle.im_opening.specs.declared.reading.Opened.{Opened}
use Rattle.im_opening.proofs.GateLemmas.{batches-same, lacks-none}
use Rattle.im_format.proofs.HeldRecords.{Has32}
use Rattle.im_format.proofs.StandReads.{stands-once, stands-read}

-- an image that stands isn't damaged
never-damaged : (hash : Hash) (image : Files) (history : List Transaction) (error : OpenError) (d : Damage) → Has32 hash → Stands hash image history
    → Tells (image_checks hash image) error → error ≡ opened.Damaged d → ⊥
never-damaged hash image history error d long stands tells is =
    let P : OpenError → Type 0 = λ e. Tells (image_checks hash image) e in
    let bad : first_fail (image_checks hash image) ≡ Err d = subst P is tells in
    let fine = (stands-read hash image history long stands).0 in
    cc

-- no more batches count in an image than it has
no-more : (image : Files) (a b : List (List Record)) → HasBatches image a → HasBatches image b → length a < length b → ⊥
no-more image a b has_a has_b less = has_a.last (has_b.counted (length a) less)

pub same-count : (image : Files) (a b : List (List Record)) → HasBatches image a → HasBatches image b → length a ≡ length b
same-count image a b has_a has_b =
    elim (cases_lt (length a) (length b)) [
      | inl less ↦ absurd (no-more image a b has_a has_b less)
      | inr no_less ↦ elim (cases_lt (length b) (length a)) [
        | inl less ↦ absurd (no-more image b a has_b has_a less)
        | inr no_more ↦ omega arith
      ]
    ]

-- the gate behind the batches of one standing is that behind those of another
stopped-begun : (hash : Hash) (error : DiskError) (history : List Transaction) (t : Told) (now : Option Told) (stands : Stands hash (seen t) history)
    → StopsAtGate hash error t now → IsHalfOpened error (gate_of (length stands.batches)) t now
stopped-begun hash error history t now stands half =
    let H : ℕ → Type 0 = λ k. IsHalfOpened error (gate_of k) t now in
    subst H (same-count (seen t) half.1.batches stands.batches half.1.there stands.there) half.3

-- what opening has done where it wasn't opened
left-begun : (hash : Hash) (error : OpenError) (history : List Transaction) (t : Told) (now : Option Told) (stands : Stands hash (seen t) history)
    → WasLeft hash error t now → WasBegun error (gate_of (length stands.batches)) t now
left-begun hash opened.DiskFault history t now stands (inl missed) = inl missed
left-begun hash opened.DiskFault history t now stands (inr (inl synced)) = inr (inl synced)
left-begun hash opened.DiskFault history t now stands (inr (inr half)) = inr (inr (stopped-begun hash Failed history t now stands half))
left-begun hash opened.Memory history t now stands (inl same) = inl same
left-begun hash opened.Memory history t now stands (inr (inl synced)) = inr (inl synced)
left-begun hash opened.Memory history t now stands (inr (inr half)) = inr (inr (inl (stopped-begun hash Memory history t now stands half)))
left-begun hash (opened.Damaged damage) history t now stands synced = synced

-- files that stand for no history were only synced
left-unharmed : (hash : Hash) (error : OpenError) (t : Told) (now : Option Told) → ((history : List Transaction) → Stands hash (seen t) history → ⊥)
    → WasLeft hash error t now → SyncsAtMost t now
left-unharmed hash opened.DiskFault t now none (inl missed) = inr (inl missed)
left-unharmed hash opened.DiskFault t now none (inr (inl synced)) = inr (inr synced)
left-unharmed hash opened.DiskFault t now none (inr (inr stopped)) = absurd (none stopped.0 stopped.1)
left-unharmed hash opened.Memory t now none (inl same) = inl same
left-unharmed hash opened.Memory t now none (inr (inl synced)) = inr (inr synced)
left-unharmed hash opened.Memory t now none (inr (inr stopped)) = absurd (none stopped.0 stopped.1)
left-unharmed hash (opened.Damaged damage) t now none synced = inr (inr synced)

-- the cause of an error
pub fault-by : (T : Type 0) (before now : ℕ) (e : OpenError) → HasOpenCause {T = T} before now (Err e) → e ≡ opened.DiskFault → Rose before now
fault-by T before now e h is =
    let P : OpenError → Type 0 = λ x. IsErrOf {T = T} (Err x) opened.DiskFault in
    h.fault (subst P (sym is) refl)

pub others-by : (T : Type 0) (before now : ℕ) (e : OpenError) → HasOpenCause {T = T} before now (Err e) → (e ≡ opened.DiskFault → ⊥) → now ≡ before
others-by T before now e h other =
    let same : IsErrOf {T = T} (Err e) opened.DiskFault → e ≡ opened.DiskFault = λ is. cc in
    h.others (λ is. other (same is))

-- a disk that isn't opened, by what was done to it
pub fails-by : {D : Type 0} (told : D → Option Told) (faults : D → ℕ) (hash : Hash) (before now : D) (error : OpenError) → Has32 hash
    → ((t : Told) → told before ≡ Some t → Tells (image_checks hash (seen t)) error)
    → ((t : Told) (history : List Transaction) → told before ≡ Some t → Stands hash (seen t) history → WasOpened hash history t (told now))
    → ((t : Told) → told before ≡ Some t → WasLeft hash error t (told now)) → Grows (told before) (told now)
    → (error ≡ opened.DiskFault → Rose (faults before) (faults now)) → ((error ≡ opened.DiskFault → ⊥) → faults now ≡ faults before)
    → FailsToOpen told faults hash before now error
fails-by {D} told faults hash before now error long first off left grows device others = record {
  off = off;
  begun = λ t history is stands. left-begun hash error history t (told now) stands (left t is);
  sound = λ t history damage is stands bad. never-damaged hash (seen t) history error damage long stands (first t is) bad;
  damaged = λ t damage is bad.
      (let T : OpenError → Type 0 = λ e. Tells (image_checks hash (seen t)) e in
      let L : OpenError → Type 0 = λ e. WasLeft hash e t (told now) in
      (subst T bad (first t is), subst L bad (left t is)));
  unharmed = λ t is none. left-unharmed hash error t (told now) none (left t is);
  grows = grows;
  device = device;
  others = others;
}

-- a disk that is opened, by what was read of its files
pub opens-by : {D : Type 0} (told : D → Option Told) (faults : D → ℕ) (hash : Hash) (before now : D) (opened : Opened) → Has32 hash
    → AreOpened hash (told before) (told now) opened → Grows (told before) (told now) → faults now ≡ faults before
    → Opens told faults hash before now (gate_of opened.batches) (txs_of opened.found.records.items)
opens-by {D} told faults hash before now opened long h grows same =
    let txs = txs_of opened.found.records.items in
    let stands : (t : Told) → told before ≡ Some t → Stands hash (seen t) txs = λ t is. (
    let read : IsRead hash (seen t) opened = h.given.read t is in
    subst (λ (l : List Transaction). Stands hash (seen t) l) (sym read.transactions_are) read.stands
    ) in
    record {
      stands = stands;
      one = λ t other is there.
          (let read : IsRead hash (seen t) opened = h.given.read t is in
          read.transactions_are ∙ stands-once hash (seen t) (history_in (seen t)) other long read.stands there);
      moments = λ t is. h.moments t txs is (stands t is);
      calls = λ t is.
          (let read : IsRead hash (seen t) opened = h.given.read t is in
          (opened.behind, read.behind_is, h.calls ∙ ap (λ (m : Option Told). option_map (opened_by opened) m) is));
      gate_is = λ t other is there.
          (let read : IsRead hash (seen t) opened = h.given.read t is in
          ap gate_of (batches-same hash other (seen t) opened.batches there read.batches.batches_are
          (lacks-none (seen t 1) (gate_of opened.batches) opened.behind read.behind_is)));
      grows = grows;
      same = same;
    }

-- a disk that was opened, where memory runs out behind it
pub fails-behind : {D : Type 0} (told : D → Option Told) (faults : D → ℕ) (hash : Hash) (before now : D) (gate : ℕ) (history : List Transaction)
    → Opens told faults hash before now gate history → FailsToOpen told faults hash before now opened.Memory
fails-behind {D} told faults hash before now gate history o = record {
  off = λ t other is stands.
      (let L : List Transaction → Type 0 = λ h. Leaves (λ image. Stands hash image h) (Some (after Synced t)) (told now) in
      inr (inr (subst L (o.one t other is stands) (o.moments t is))));
  begun = λ t other is stands.
      (let G : ℕ → Type 0 = λ n. IsOpenedBy n t (told now) in
      inr (inr (inr (subst G (o.gate_is t other is stands) (o.calls t is)))));
  sound = λ t other damage is stands bad. cc;
  damaged = λ t damage is bad. cc;
  unharmed = λ t is none. absurd (none history (o.stands t is));
  grows = o.grows;
  device = λ bad. cc;
  others = λ other. o.same;
}

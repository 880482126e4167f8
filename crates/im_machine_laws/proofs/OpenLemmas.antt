-- What opening leaves.
use Rattle.std.proofs.Common.{◌≡◌, ◌≢◌, ◌≤◌, ◌<◌, ◌+◌, ◌∷◌, ◌∙◌, [], ℕ, zero, suc, List, length, take, get_or, All, true, false, Bool, refl, sym, ap, subst, arith, inl, inr, None, Some, length-append, if◌then◌else◌, ◌&&◌, ◌||◌}
use Rattle.std.proofs.lemmas.Bool.{and_left, cases_lt, eq-eqb, le-leb, lt-leb, or_left, or_right, true≢false}
use Rattle.std.proofs.lemmas.List.{length-take-le, take_all}
use Rattle.std.specs.Prelude.{nat_eq, nat_le, slice_index_or}
use Rattle.im_alog.proofs.Outcomes.{keeps_long}
use Rattle.im_alog.proofs.Torn.{keeps_all, written_reads}
use Rattle.im_digest.specs.Digests.{Hash, GivesDigests}
use Rattle.im_disk.specs.Disk.{after, seen, Files, Images, Told, TornFile}
use Rattle.im_disk.specs.Moments.{Leaves}
use Rattle.im_disk.specs.Records.{files_of, told_of}
use Rattle.im_disk.specs.declared.calls.Call.TheVariants.{Synced, Wrote}
use Rattle.im_disk.proofs.Leaving.{leaves_both, leaves_weaker}
use Rattle.im_disk.proofs.Tearing.{written_torn}
use Rattle.im_format.specs.Batches.{batch_spans, gate_of, joined, spans_from, spans_of, Counts}
use Rattle.im_format.specs.Places.{refs_of}
use Rattle.im_format.specs.Records.{records_octets}
use Rattle.im_format.specs.Spans.{Reads}
use Rattle.im_format.specs.Standing.{Stands, StandsFrom}
use Rattle.im_format.specs.declared.records.Record.{Record}
use Rattle.im_format.specs.declared.spans.Span.{Span}
use Rattle.im_format.proofs.StandReads.{stands-once}
use Rattle.im_journal.specs.Holding.{ends_of, AreFirst, IsResting}
use Rattle.im_journal.specs.Kept.{Batch}
use Rattle.im_journal.specs.Phases.{IsSafe}
use Rattle.im_journal.specs.Pieces.{end_of}
use Rattle.im_journal.specs.declared.batches.Step.TheVariants.{Idle}
use Rattle.im_journal.proofs.Parts.{reads_long}
use Rattle.im_journal.proofs.Prefixes.{octets_more}
use Rattle.im_journal.proofs.Torn.{same_safe}
use Rattle.im_machine.specs.Machines.{blank, disk_opened, is_cut, opened, start, Machine}
use Rattle.im_machine.proofs.StartLemmas.{stands-none}
use Rattle.im_machine_laws.proofs.DeviceLemmas.{far-images, one-more}
use Rattle.im_machine_laws.proofs.Sound.{IsAsFar, IsSound}
use Rattle.im_model.specs.declared.transactions.Transaction.{Transaction}
use Rattle.im_model.proofs.HistoryLemmas.{linked-all}
use Rattle.im_opening.specs.Cut.{shut_at, IsCutOff, IsShut}
use Rattle.im_opening.proofs.GateLemmas.{cut-kept, shut-read, spans-miss, stands-same}
use Rattle.im_octet.proofs.Common.{all-right}
use Rattle.im_opening.proofs.PlaceLemmas.{ends-lie}

-- the transaction log reaches to the end of the records
records-long : (image : Files) (gate id end : ℕ) (batches : List (List Record)) → All (Reads image) (spans_from gate id end batches) → end ≤ length (image 0)
    → end + length (records_octets id (joined batches)) ≤ length (image 0)
records-long image gate id end [] reads le = omega (arith, le)
records-long image gate id end (b ∷ bs) reads le =
    let here : Span = record { file = 0; at = end; octets = records_octets id b } in
    let long : end + length (records_octets id b) ≤ length (image 0) = reads_long image 0 end (records_octets id b) (reads 2 here (omega arith)) le in
    let behind : List Span = spans_from (gate + 25) (id + length b) (end + length (records_octets id b)) bs in
    omega (
      arith,
      records-long image (gate + 25) (id + length b) (end + length (records_octets id b)) bs (all-right (Reads image) (batch_spans gate id end b) behind reads) long,
      ap (λ (l : List ℕ). length l) (octets_more id b (joined bs)),
      length-append (records_octets id b) (records_octets (id + length b) (joined bs)),
    )

-- the commit log to the gate behind the batches
gates-long : (image : Files) (batches : List (List Record)) → ((b : ℕ) → b < length batches → Counts (image 1) (gate_of b)) → gate_of (length batches) ≤ length (image 1)
gates-long image [] counted = omega arith
gates-long image (b ∷ bs) counted =
    let whole : gate_of (length bs) + 25 < length (image 1) = (counted (length bs) (omega arith)).whole in
    omega (arith, whole)

-- no file of an image that stands is shorter than its end
ends-long : (hash : Hash) (image : Files) (history : List Transaction) (s : Stands hash image history) → (k : ℕ) → end_of (ends_of s.batches) k ≤ length (image k)
ends-long hash image history s zero = omega (arith, records-long image 0 1 0 s.batches s.there.reads (omega arith))
ends-long hash image history s (suc zero) = gates-long image s.batches s.there.counted
ends-long hash image history s (suc (suc zero)) = ends-lie image 0 (refs_of (joined s.batches)) s.there.lie
ends-long hash image history s (suc (suc (suc zero))) = ends-lie image 1 (refs_of (joined s.batches)) s.there.lie
ends-long hash image history s (suc (suc (suc (suc zero)))) = ends-lie image 2 (refs_of (joined s.batches)) s.there.lie
ends-long hash image history s (suc (suc (suc (suc (suc zero))))) = ends-lie image 3 (refs_of (joined s.batches)) s.there.lie
ends-long hash image history s (suc (suc (suc (suc (suc (suc k)))))) = omega arith

-- where the log isn't cut at the gate, an octet stands there
not-cut-long : (log : List ℕ) (gate : ℕ) → is_cut log gate ≡ false → gate < length log
not-cut-long log gate whole = elim (cases_lt gate (length log)) [
  | inl less ↦ less
  | inr le ↦ absurd (
      let low : nat_le (length log) (gate + 25) ≡ true = le-leb (length log) (gate + 25) (omega (arith, le)) in
      let none : nat_le (length log) gate ≡ true = le-leb (length log) gate le in
      let cut : is_cut log gate ≡ true =
      ap (λ (b : Bool). b && (nat_le (length log) gate || nat_eq (slice_index_or log gate 0) 1)) low ∙ or_left (nat_le (length log) gate) (nat_eq (slice_index_or log gate 0) 1) none in
      true≢false (sym cut ∙ whole))
]

-- and it isn't 01, where no batch counts there
not-cut-shut : (log : List ℕ) (gate : ℕ) → is_cut log gate ≡ false → (Counts log gate → ⊥) → get_or log gate 0 ≢ 1
not-cut-shut log gate whole none = λ one. elim (cases_lt (gate + 25) (length log)) [
  | inl less ↦ none (record { opened = one; whole = less })
  | inr le ↦ (
      let low : nat_le (length log) (gate + 25) ≡ true = le-leb (length log) (gate + 25) le in
      let open_gate : nat_eq (slice_index_or log gate 0) 1 ≡ true = eq-eqb (slice_index_or log gate 0) 1 one in
      let cut : is_cut log gate ≡ true =
      ap (λ (b : Bool). b && (nat_le (length log) gate || nat_eq (slice_index_or log gate 0) 1)) low ∙ or_right (nat_le (length log) gate) (nat_eq (slice_index_or log gate 0) 1) open_gate in
      true≢false (sym cut ∙ whole))
]

-- where it is cut there, it ends at or before the next gate
cut-short : (log : List ℕ) (gate : ℕ) → is_cut log gate ≡ true → length log ≤ gate + 25
cut-short log gate cut = elim (cases_lt (gate + 25) (length log)) [
  | inr le ↦ le
  | inl less ↦ absurd (
      let long : nat_le (length log) (gate + 25) ≡ false = lt-leb (length log) (gate + 25) less in
      let whole : is_cut log gate ≡ false = and_left (nat_le (length log) (gate + 25)) (nat_le (length log) gate || nat_eq (slice_index_or log gate 0) 1) long in
      true≢false (sym cut ∙ whole))
]

-- files that stand for a history
module _ (hash : Hash) (files : List (List ℕ)) (history : List Transaction) (s : Stands hash (files_of files) history) where
  abbrev old : Files
  old = files_of files

  abbrev t : Told
  t = told_of files []

  abbrev gate : ℕ
  gate = gate_of (length s.batches)

  abbrev ends : ℕ → ℕ
  ends = end_of (ends_of s.batches)

  abbrev synced : Told
  synced = after Synced t

  abbrev shut : Told
  shut = after (Wrote 1 gate (0 ∷ [])) synced

  gate-there : gate ≤ length (old 1)
  gate-there = gates-long old s.batches s.there.counted

  shut-torn : TornFile 1 gate 1 old (seen shut)
  shut-torn = written_torn old 1 gate (0 ∷ []) gate-there

  shut-safe : IsSafe ends (spans_of s.batches) gate (seen shut)
  shut-safe = record {
    reads = keeps_all 1 gate 1 old (seen shut) (spans_of s.batches) shut-torn (spans-miss gate 0 1 0 s.batches (omega arith)) s.there.reads;
    long = record { long = keeps_long ends 1 gate 1 old (seen shut) shut-torn (ends-long hash old history s) };
    closed = record { octet = 0; shut = λ e. omega (arith, e); reads = written_reads old 1 gate (0 ∷ []) gate-there };
  }

  whole-safe : is_cut (old 1) gate ≡ false → IsSafe ends (spans_of s.batches) gate old
  whole-safe whole =
      let closed : IsShut old gate =
      shut-read old gate (get_or (old 1) gate 0) (not-cut-long (old 1) gate whole, refl, not-cut-shut (old 1) gate whole s.there.last) in
      record {
        reads = s.there.reads;
        long = record { long = ends-long hash old history s };
        closed = record { octet = closed.octet; shut = closed.closed; reads = closed.reads };
      }

  rests-if : (cut : Bool) → is_cut (old 1) gate ≡ cut → IsResting s.batches (ends_of s.batches) (if cut then shut_at gate synced else synced)
  rests-if true is = record { safe = λ image same. same_safe ends (spans_of s.batches) gate (seen shut) image same shut-safe; here = shut-safe }
  rests-if false is =
      let safe : IsSafe ends (spans_of s.batches) gate old = whole-safe is in
      record { safe = λ image same. same_safe ends (spans_of s.batches) gate old image same safe; here = safe }

  -- behind opening they rest with the batches by which they stood
  pub opened-rests : IsResting s.batches (ends_of s.batches) (disk_opened gate t)
  opened-rests = rests-if (is_cut (old 1) gate) refl

  abbrev P : Files → Type 0
  P image = Stands hash image history

  synced-leaves : Leaves P (Some t) (Some synced)
  synced-leaves = one-more P t Synced (λ image same. stands-same hash history old image same s)

  shut-images : is_cut (old 1) gate ≡ true → (image : Files) → Images shut image → P image
  shut-images cut image from =
      let cut_off : IsCutOff hash history gate old = record { stands = s; gate_is = refl; short = cut-short (old 1) gate cut } in
      let torn : TornFile 1 gate 1 old image = subst (λ (before : Files). TornFile 1 gate 1 before image) (λ i k. from.1 k i) from.2 in
      (cut-kept hash history gate old image torn cut_off).stands

  shut-seen : is_cut (old 1) gate ≡ true → P (seen shut)
  shut-seen cut = shut-images cut (seen shut) (old, (λ k. refl), shut-torn)

  leaves-if : (cut : Bool) → is_cut (old 1) gate ≡ cut → Leaves P (Some t) (Some (if cut then shut_at gate synced else synced))
  leaves-if true is =
      leaves_both P (Some t) (Some synced) (Some (shut_at gate synced)) synced-leaves
      (leaves_both P (Some synced) (Some shut) (Some (shut_at gate synced)) (one-more P synced (Wrote 1 gate (0 ∷ [])) (shut-images is))
      (one-more P shut Synced (λ image same. stands-same hash history (seen shut) image same (shut-seen is))))
  leaves-if false is = synced-leaves

  -- at every moment of opening each image stands for the history
  pub opened-leaves : Leaves P (Some t) (Some (disk_opened gate t))
  opened-leaves = leaves-if (is_cut (old 1) gate) refl

-- the files of a machine that isn't open stand for a front part of what was placed, which holds what was durable
pub record IsFront (m : Machine) (history : List Transaction) : Type 0 where
  pub count : ℕ
  pub no_fewer : m.durable ≤ count
  pub no_more : count ≤ length m.placed
  pub front : history ≡ take count m.placed
  pub size : length history ≡ count

pub front-of : (hash : Hash) (m : Machine) → GivesDigests hash → IsSound hash m → m.up ≡ false → StandsFrom hash m.durable m.placed (seen m.disk)
front-of hash m gives s down =
    let files = s.closed down in
    let Q : Told → Type 0 = λ t. Images t (seen t) in
    s.images (seen m.disk) (subst Q (sym files.1) (λ k. refl))

pub front-is : (hash : Hash) (m : Machine) (history : List Transaction) → GivesDigests hash → IsSound hash m → m.up ≡ false → Stands hash (seen m.disk) history → IsFront m history
front-is hash m history gives s down stands =
    let from : StandsFrom hash m.durable m.placed (seen m.disk) = front-of hash m gives s down in
    let same : history ≡ take from.count m.placed = stands-once hash (seen m.disk) history (take from.count m.placed) (record { long = gives }) stands from.stands in
    record {
      count = from.count;
      no_fewer = from.no_fewer;
      no_more = from.no_more;
      front = same;
      size = ap (λ (l : List Transaction). length l) same ∙ length-take-le from.count m.placed from.no_more;
    }

abbrev batch_none : List (List Record) → Batch
batch_none batches = record { step = Idle; pieces = []; written = 0; ends = ends_of batches; count = 0 }

-- opening
pub sound-open : (hash : Hash) (m : Machine) (history : List Transaction) → GivesDigests hash → IsSound hash m → m.up ≡ false → (stands : Stands hash (seen m.disk) history)
    → IsSound hash (opened m history stands.batches)
sound-open hash m history gives s down stands =
    let files = s.closed down in
    let R : Told → Type 0 = λ t. (f : Stands hash (seen t) history) → IsResting f.batches (ends_of f.batches) (disk_opened (gate_of (length f.batches)) t) in
    let resting : IsResting stands.batches (ends_of stands.batches) (disk_opened (gate_of (length stands.batches)) m.disk) =
    subst R (sym files.1) (λ f. opened-rests hash files.0 history f) stands in
    let found : IsFront m history = front-is hash m history gives s down stands in
    let first : AreFirst hash history stands.batches (length history) (ends_of stands.batches) = record {
      digests = gives;
      history_is = stands.history_is;
      placed = omega arith;
      transactions_are = stands.transactions_are ∙ sym (take_all (length history) history (omega arith));
      records_are = stands.records_are;
      filled = stands.there.filled;
      ends_are = refl;
    } in
    let now : Machine = opened m history stands.batches in
    let idle : Batch = batch_none stands.batches in
    let far : IsAsFar hash now None idle = record { idle = refl; first = first; resting = resting } in
    record {
      history = stands.history_is;
      order = record { least = linked-all history stands.history_is; linked_durable = omega arith; indexed_durable = omega arith; durable_placed = omega arith };
      sessions = λ session. omega (arith, s.sessions session, found.no_fewer, found.size);
      images = λ image left. far-images hash now None idle image far left;
      held = λ open_now going. (idle, far);
      closed = λ closed. absurd (true≢false closed);
    }

-- at every moment of it each image stands for what is opened
pub open-leaves : (hash : Hash) (m : Machine) (history : List Transaction) → IsSound hash m → m.up ≡ false → (stands : Stands hash (seen m.disk) history)
    → Leaves (λ image. Stands hash image history) (Some m.disk) (Some (disk_opened (gate_of (length stands.batches)) m.disk))
open-leaves hash m history s down stands =
    let files = s.closed down in
    let L : Told → Type 0 = λ t. (f : Stands hash (seen t) history) → Leaves (λ image. Stands hash image history) (Some t) (Some (disk_opened (gate_of (length f.batches)) t)) in
    subst L (sym files.1) (λ f. opened-leaves hash files.0 history f) stands

-- which holds all that was durable
pub open-holds : (hash : Hash) (m : Machine) (history : List Transaction) → GivesDigests hash → IsSound hash m → m.up ≡ false → (stands : Stands hash (seen m.disk) history)
    → Leaves (StandsFrom hash m.durable history) (Some m.disk) (Some (disk_opened (gate_of (length stands.batches)) m.disk))
open-holds hash m history gives s down stands =
    let found : IsFront m history = front-is hash m history gives s down stands in
    leaves_weaker (λ image. Stands hash image history) (StandsFrom hash m.durable history)
    (λ image stood. record {
      count = length history;
      no_fewer = omega (arith, found.no_fewer, found.size);
      no_more = omega arith;
      stands = subst (λ (l : List Transaction). Stands hash image l) (sym (take_all (length history) history (omega arith))) stood;
    })
    (Some m.disk) (Some (disk_opened (gate_of (length stands.batches)) m.disk)) (open-leaves hash m history s down stands)

-- nothing was ever done
sound-blank : (hash : Hash) → IsSound hash blank
sound-blank hash = record {
  history = (stands-none hash).history_is;
  order = record { least = λ i d less. absurd (omega (arith, less)); linked_durable = omega arith; indexed_durable = omega arith; durable_placed = omega arith };
  sessions = λ session. omega arith;
  images = λ image same. record { count = 0; no_fewer = omega arith; no_more = omega arith; stands = stands-same hash [] (seen blank.disk) image same (stands-none hash) };
  held = λ up going. absurd (true≢false (sym up));
  closed = λ down. ([], refl);
}

-- every run begins so
pub sound-start : (hash : Hash) → GivesDigests hash → IsSound hash start
sound-start hash gives = sound-open hash blank [] gives (sound-blank hash) refl (stands-none hash)

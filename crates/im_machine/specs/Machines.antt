-- The machine: a store of which every step is an event. Its state, and what is read off it.
use Rattle.std.specs.Prelude.{◌≡◌, ◌+◌, ◌-◌, ◌==◌, ◌&&◌, ◌||◌, ℕ, max, List, [], length, map, take, drop, slice_index_or, nat_le, nat_eq, Bool, true, false, if◌then◌else◌, Option, None}
use Rattle.im_digest.specs.Digests.{Hash}
use Rattle.im_disk.specs.Disk.{Told, after, seen}
use Rattle.im_disk.specs.Records.{told_of}
use Rattle.im_disk.specs.declared.calls.Call.TheVariants.{Synced}
use Rattle.im_format.specs.Batches.{gate_of, joined}
use Rattle.im_format.specs.Places.{ArePut, refs_of}
use Rattle.im_format.specs.Records.{AreRecords}
use Rattle.im_format.specs.declared.records.Record.{Record}
use Rattle.im_format.specs.declared.spans.Span.{Span}
use Rattle.im_journal.specs.Holding.{ends_of}
use Rattle.im_journal.specs.Pieces.{pieces_of}
use Rattle.im_model.specs.declared.transactions.Transaction.{Transaction}
use Rattle.im_opening.specs.Cut.{shut_at}

-- the batch in progress: its records, and how many of its steps are done, which are its writes, one by one, then the sync behind
-- them, and then the write of its gate
pub record Progress : Type 0 where
  pub records : List Record
  pub done : ℕ

-- the state: the transactions placed; how many of them are durable; the batches that hold these on the disk; the batch in
-- progress; the disk; how many transactions are linked; how many are indexed; how many failures were told since opening; the
-- greatest number of durable transactions that each session was told; whether the store is open; whether, since it was
-- opened, a call of the disk has failed or a failure was told
pub record Machine : Type 0 where
  pub placed : List Transaction
  pub durable : ℕ
  pub batches : List (List Record)
  pub progress : Option Progress
  pub disk : Told
  pub linked : ℕ
  pub indexed : ℕ
  pub failures : ℕ
  pub sessions : ℕ → ℕ
  pub up : Bool
  pub stopped : Bool

-- the writes of a batch, in order, but for the gate's: one for the value log where it gets octets, the records, and the
-- octets behind the gate
abbrev pub writes_due : Machine → Progress → List Span
writes_due m p = pieces_of (ends_of m.batches) (m.durable + 1) p.records

-- where the gate of a batch in progress stands in the commit log
abbrev pub gate_due : Machine → ℕ
gate_due m = gate_of (length m.batches)

-- these are the records of the transactions behind the durable ones up to this number: each value is put at the end of the
-- one value log, behind all before it
pub record Covers (hash : Hash) (m : Machine) (last : ℕ) (rs : List Record) : Type 0 where
  pub transactions_are : map (λ r. r.tx) rs ≡ take (last - m.durable) (drop m.durable m.placed)
  pub records_are : AreRecords hash m.placed (m.durable + 1) rs
  pub put : ArePut 1 (m.durable + 1) (refs_of (joined m.batches)) rs

-- nothing is done yet of a batch of these records
abbrev pub fresh : List Record → Progress
fresh rs = record { records = rs; done = 0 }

-- one step more is done of it
abbrev pub further : Progress → Progress
further p = record { records = p.records; done = p.done + 1 }

-- a session was told a number of durable transactions
abbrev pub raised : (ℕ → ℕ) → ℕ → ℕ → ℕ → ℕ
raised sessions session n other = if other == session then max (sessions other) n else sessions other

-- the commit log ends at or before the gate behind this one, and here stands 01 or nothing: opening closes this gate
abbrev pub is_cut : List ℕ → ℕ → Bool
is_cut log gate = nat_le (length log) (gate + 25) && (nat_le (length log) gate || nat_eq (slice_index_or log gate 0) 1)

-- what opening leaves of a disk on which this is the gate behind the batches that count: a sync, and where the log is cut
-- there the octet 00 at the gate and a sync
abbrev pub disk_opened : ℕ → Told → Told
disk_opened gate t =
    if is_cut (seen t 1) gate then shut_at gate (after Synced t) else after Synced t

-- the machine behind opening, where its disk stands for this history by these batches
abbrev pub opened : Machine → List Transaction → List (List Record) → Machine
opened m history batches = record {
  placed = history;
  durable = length history;
  batches = batches;
  progress = None;
  disk = disk_opened (gate_of (length batches)) m.disk;
  linked = length history;
  indexed = length history;
  failures = 0;
  sessions = m.sessions;
  up = true;
  stopped = false;
}

-- nothing was ever placed, the files are empty, and the store isn't open
abbrev pub blank : Machine
blank = record {
  placed = [];
  durable = 0;
  batches = [];
  progress = None;
  disk = told_of [] [];
  linked = 0;
  indexed = 0;
  failures = 0;
  sessions = λ _. 0;
  up = false;
  stopped = false;
}

-- where every run begins: behind opening the empty files
abbrev pub start : Machine
start = opened blank [] []

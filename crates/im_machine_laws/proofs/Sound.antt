-- What holds of every machine that events lead to.
use Rattle.std.proofs.Common.{◌≡◌, ◌≤◌, [], ℕ, List, length, true, false, Option, Some, None}
use Rattle.im_digest.specs.Digests.{Hash}
use Rattle.im_disk.specs.Disk.{Files, Images, Told}
use Rattle.im_disk.specs.Records.{told_of}
use Rattle.im_format.specs.Standing.{StandsFrom}
use Rattle.im_journal.specs.Holding.{ends_of}
use Rattle.im_journal.specs.Kept.{Batch, IsAtRest, IsInBatch, Kept}
use Rattle.im_machine.specs.Kept.{AreInOrder, IsDone}
use Rattle.im_machine.specs.Machines.{Machine, Progress}
use Rattle.im_model.specs.History.{IsHistory}

-- the disk tells what it is
abbrev pub telling : Told → Option Told
telling t = Some t

-- the machine's disk, as a journal that is at this step of a batch has it
abbrev pub kept_as : Machine → Batch → Kept Told
kept_as m b = record { disk = m.disk; ends = ends_of m.batches; durable = m.durable; batch = b; failures = 0 }

-- such a journal is as far as the batch in progress
abbrev pub IsAsFar : Hash → Machine → Option Progress → Batch → Type 0
IsAsFar hash m None b = IsAtRest telling hash m.placed m.batches (kept_as m b)
IsAsFar hash m (Some p) b = IsInBatch telling hash m.placed m.batches p.records (kept_as m b) × IsDone b.step (length b.pieces) b.written p.done

-- there is one
abbrev pub IsHeld : Hash → Machine → Type 0
IsHeld hash m = (b : Batch) × IsAsFar hash m m.progress b

-- What is placed is a history; the numbers are in order; no session was told more than is durable; each image stands for a front
-- part of what is placed that holds all that is durable; while the disk may be called, it is as far as the batch in progress; and
-- while the store isn't open, the disk is its files alone.
pub record IsSound (hash : Hash) (m : Machine) : Type 0 where
  pub history : IsHistory m.placed
  pub order : AreInOrder m.placed m.durable m.linked m.indexed
  pub sessions : (session : ℕ) → m.sessions session ≤ m.durable
  pub images : (image : Files) → Images m.disk image → StandsFrom hash m.durable m.placed image
  pub held : m.up ≡ true → m.stopped ≡ false → IsHeld hash m
  pub closed : m.up ≡ false → (files : List (List ℕ)) × (m.disk ≡ told_of files [])

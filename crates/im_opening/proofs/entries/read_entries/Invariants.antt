use Rattle.std.proofs.Common.{◌≡◌, ◌≤◌, ◌+◌, ◌-◌, [], length, map, Some, All}
use Rattle.im_disk.specs.Disk.{Told, seen}
use Rattle.im_format.specs.Records.{AreReferences, entries_octets}
use Rattle.im_model.specs.Entries.{entry_digest}
use Rattle.im_model.specs.History.{IsEntry}
use Rattle.im_opening.proofs.EntriesLeft.{EntriesLeft}
use Rattle.im_format.proofs.KeyLemmas.{AreApart}
use Rattle.im_opening.proofs.entries.read_entries.Given as goal

abbrev pub invariant-loop-alloc : goal.invariant-loop-alloc
invariant-loop-alloc g l = record {
  told : g.D.Disk.told l.disk ≡ g.D.Disk.told l.initial.disk;
  faults : g.D.Disk.faults l.disk ≡ g.D.Disk.faults l.initial.disk;
  place : l.read.end ≤ length l.source.log.now;
  few : length l.read.entries.items ≤ l.count;
  keys : l.keys ≡ map (λ e. e.key) l.read.entries.items;
  digests : l.read.digests.items ≡ map (entry_digest (g.H.Hash32.digest l.hash)) l.read.entries.items;
  are : All IsEntry l.read.entries.items;
  apart : AreApart [] l.read.entries.items;
  refer : AreReferences (g.H.Hash32.digest l.hash) l.id l.read.entries.items l.read.refs.items;
  whole : l.read.end ≡ l.fn.at + length (entries_octets l.read.entries.items l.read.refs.items);
  left : (t : Told) → g.D.Disk.told l.initial.disk ≡ Some t
      → EntriesLeft (g.H.Hash32.digest l.hash) (seen t) l.id l.fn.at l.count l.read.entries.items l.read.refs.items l.read.end;
}

abbrev pub decreases-loop-alloc : goal.decreases-loop-alloc
decreases-loop-alloc g l = l.count - length l.read.entries.items

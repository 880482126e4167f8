use Rattle.std.proofs.Common.{◌≡◌, ◌<◌, ◌≤◌, ◌+◌, ◌-◌, ◌*◌, ◌^◌, ◌++◌, ℕ, List, length, take, get_or}
use Rattle.im_format.specs.Places.{AreAppended}
use Rattle.im_format.specs.Records.{AreReferences}
use Rattle.im_format.specs.declared.references.ValueRef.{ValueRef}
use Rattle.im_vlog.specs.Ends.{AreEnds}
use Rattle.im_vlog.proofs.placing.append_values.Given as goal

abbrev pub invariant-loop-i : goal.invariant-loop-i
invariant-loop-i g l = record {
  count : length l.refs.items ≡ l.i;
  appended : (before : List ValueRef) → AreEnds l.ends before → AreAppended l.logs l.id 0 before l.refs.items;
  references : AreReferences (g.H.Hash32.digest l.hash) l.id (take l.i l.entries) l.refs.items;
  now : (before : List ValueRef) → AreEnds l.ends before → AreEnds l.next (before ++ l.refs.items);
  room : (number : ℕ) → number < 4 → get_or l.next number 0 ≤ (l.id - 1) * 2 ^ 22 + 4096 * l.i;
  size : length l.next ≡ 4;
}

-- What is read of the pass's list.
use Rattle.std.proofs.Common.{◌≡◌, ◌≤◌, ◌+◌, ◌-◌, ◌^◌, ℕ, ◌∙◌, List, ap, sym, subst, arith, inl, inr, Result, Ok, Err}
use Rattle.std.proofs.lemmas.Bool.{cases_lt}
use Rattle.std.proofs.lemmas.List.{append-nil}
use mathlib.Core.List.{IsPrefix}
use Rattle.std.specs.Prelude.{IfErr, IsErrOf, None, Option}
use Rattle.im_digest.specs.Digests.{Hash}
use Rattle.im_disk.specs.Disk.{Told}
use Rattle.im_format.specs.declared.references.ValueRef.{ValueRef}
use Rattle.im_journal.specs.Faults.{IsReadCounted}
use Rattle.im_table.specs.Known.{KnownPass}
use Rattle.im_table.specs.Passes.{AddsFaults}
use Rattle.im_table.specs.Views.{looked_failed, looked_placed}
use Rattle.im_table.specs.declared.items.LogItem.{LogItem}
use Rattle.im_table.specs.declared.view.AllLooks.{AllLooks}
use Rattle.im_table.specs.declared.view.View.{View}
use Rattle.im_vlog.specs.Showing.{IsCorrupt}
use Rattle.im_vlog.specs.declared.showing.ValueError.{ValueError}
use Rattle.im_vlog.specs.declared.showing.ValueError.TheVariants as Read
use Rattle.im_store.specs.Gains.{HasStepped}
use Rattle.im_store.specs.Reading.{IsReadFault}
use Rattle.im_table.proofs.FrontLemmas.{prefix_self}
use Rattle.im_store.proofs.GainLemmas.{looks_placed}

-- a load of the word placed
pub load_placed_follows : (old new : KnownPass) (n : ℕ) → new.table ≡ old.table → new.view ≡ looked_placed old.view n → HasStepped 0 old new
load_placed_follows old new n table view = record {
  later = record {
    table = table;
    roles = ap (λ (v : View). v.roles) view;
    weight = ap (λ (v : View). v.weight) view;
    seen = subst (λ (l : List LogItem). IsPrefix old.view.seen l) (sym (ap (λ (v : View). v.seen) view)) (prefix_self old.view.seen);
    durable = (let x : new.view.least.durable ≡ old.view.least.durable = ap (λ (v : View). v.least.durable) view in omega (arith, x));
    linked = (let x : new.view.least.linked ≡ old.view.least.linked = ap (λ (v : View). v.least.linked) view in omega (arith, x));
    indexed = (let x : new.view.least.indexed ≡ old.view.least.indexed = ap (λ (v : View). v.least.indexed) view in omega (arith, x));
    failed = (let x : new.view.least.failed ≡ old.view.least.failed = ap (λ (v : View). v.least.failed) view in omega (arith, x));
  };
  gains = record {
    own = ap (λ (v : View). v.own) view ∙ sym (append-nil old.view.own);
    leaves = (let x : new.view.leaves ≡ old.view.leaves = ap (λ (v : View). v.leaves) view in omega (arith, x));
    faults = (let x : new.view.faults ≡ old.view.faults = ap (λ (v : View). v.faults) view in omega (arith, x));
  };
  looks = looks_placed old.view new.view.looks n (ap (λ (v : View). v.looks) view);
}

-- an octet string of another digest is one, whatever the disk told
pub corrupt_untold : {T : Type 0} (hash : Hash) (told : Option Told) (value : ValueRef) (r : Result T ValueError)
    → IfErr r (λ error. IsCorrupt hash told value error) → IfErr r (λ error. IsCorrupt hash None value error)
corrupt_untold hash told value (Ok x) c = tt
corrupt_untold hash told value (Err Read.DiskFault) c = tt
corrupt_untold hash told value (Err (Read.Corrupt want got)) c = (c.0, c.1, (c.2.0, c.2.1, c.2.2, tt))
corrupt_untold hash told value (Err Read.Memory) c = tt

-- a read that failed was told, or as many were counted as a count holds, which the word failed tells
pub read_fault : {T : Type 0} (old mid new : KnownPass) (was now before after loaded : ℕ) (r : Result T ValueError) → IsReadCounted was now before after r
    → AddsFaults (after - before) old mid → mid.view.looks ≡ old.view.looks → mid.view.least.failed ≡ after → new.view ≡ looked_failed mid.view loaded → after ≤ loaded
    → loaded ≤ 2 ^ 64 - 1 → IsErrOf r Read.DiskFault → IsReadFault old new
read_fault old mid new was now before after loaded r counted adds looks known view least most fault =
    let faults : new.view.faults ≡ mid.view.faults = ap (λ (v : View). v.faults) view in
    let count : new.view.looks.failed.count ≡ mid.view.looks.failed.count + 1 = ap (λ (v : View). v.looks.failed.count) view in
    let same : mid.view.looks.failed.count ≡ old.view.looks.failed.count = ap (λ (l : AllLooks). l.failed.count) looks in
    record {
      known = (let knows : new.view.least.failed ≡ loaded = ap (λ (v : View). v.least.failed) view in omega (arith, knows, counted.more fault, least));
      told = elim (cases_lt before (2 ^ 64 - 1)) [
        | inl below ↦ inl (omega (arith, faults, adds.faults, counted.more fault, below))
        | inr full ↦ (
            let whole : loaded ≡ 2 ^ 64 - 1 = omega (arith, counted.more fault, full, least, most) in
            inr (
              omega (arith, faults, adds.faults, counted.more fault, full),
              record { more = omega (arith, count, same); last = ap (λ (v : View). v.looks.failed.last) view ∙ whole },
            ))
      ];
    }

-- any other answer tells none
pub read_other : {T : Type 0} (old mid new : KnownPass) (was now before after loaded : ℕ) (r : Result T ValueError) → IsReadCounted was now before after r
    → AddsFaults (after - before) old mid → new.view ≡ looked_failed mid.view loaded → (IsErrOf r Read.DiskFault → ⊥) → new.view.faults ≡ old.view.faults
read_other old mid new was now before after loaded r counted adds view other =
    let faults : new.view.faults ≡ mid.view.faults = ap (λ (v : View). v.faults) view in
    omega (arith, faults, adds.faults, counted.failures other)

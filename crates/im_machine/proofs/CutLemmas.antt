-- What the machine's opening leaves of a disk is what the repair leaves.
use Rattle.std.proofs.Common.{◌≡◌, ◌+◌, ◌∙◌, ℕ, List, length, true, false, Bool, ap, sym, arith, if◌then◌else◌, ◌&&◌, ◌||◌}
use Rattle.std.proofs.lemmas.Bool.{and_right, eq-eqb, le-leb, lt-leb, ne_eqb, or_left, or_right}
use Rattle.std.specs.Prelude.{nat_eq, nat_le, slice_index_or}
use Rattle.im_clog.specs.Marks.{IsUncounted}
use Rattle.im_clog.specs.declared.marks.Uncounted.{Uncounted}
use Rattle.im_clog.specs.declared.marks.Uncounted.TheVariants.{Missing, Closed, Short}
use Rattle.im_disk.specs.Disk.{after, seen, Told}
use Rattle.im_disk.specs.declared.calls.Call.TheVariants.{Synced}
use Rattle.im_machine.specs.Machines.{disk_opened, is_cut}
use Rattle.im_opening.specs.Cut.{repaired, shut_at}

-- what the machine's opening leaves of a disk, by whether the log is cut at the gate
cut_if : (t : Told) (gate : ℕ) (cut : Bool) → is_cut (seen t 1) gate ≡ cut → disk_opened gate t ≡ (if cut then shut_at gate (after Synced t) else after Synced t)
cut_if t gate cut is = ap (λ (b : Bool). if b then shut_at gate (after Synced t) else after Synced t) is

-- it is what the repair leaves that the reason asks for, why no batch counts there
pub disk_by : (t : Told) (gate : ℕ) (behind : Uncounted) → IsUncounted (seen t 1) gate behind → repaired behind gate (after Synced t) ≡ disk_opened gate t
disk_by t gate Missing is =
    let log : List ℕ = seen t 1 in
    let low : nat_le (length log) (gate + 25) ≡ true = le-leb (length log) (gate + 25) (omega (arith, is)) in
    let none : nat_le (length log) gate ≡ true = le-leb (length log) gate is in
    let cut : is_cut log gate ≡ true =
    ap (λ (b : Bool). b && (nat_le (length log) gate || nat_eq (slice_index_or log gate 0) 1)) low ∙ or_left (nat_le (length log) gate) (nat_eq (slice_index_or log gate 0) 1) none in
    sym (cut_if t gate true cut)
disk_by t gate (Closed octet) is =
    let log : List ℕ = seen t 1 in
    let there : nat_le (length log) gate ≡ false = lt-leb (length log) gate is.0 in
    let shut : nat_eq (slice_index_or log gate 0) 1 ≡ false = ne_eqb (slice_index_or log gate 0) 1 (λ e. is.2 (is.1 ∙ e)) in
    let neither : (nat_le (length log) gate || nat_eq (slice_index_or log gate 0) 1) ≡ false =
    ap (λ (b : Bool). b || nat_eq (slice_index_or log gate 0) 1) there ∙ shut in
    sym (cut_if t gate false (and_right (nat_le (length log) (gate + 25)) (nat_le (length log) gate || nat_eq (slice_index_or log gate 0) 1) neither))
disk_by t gate (Short len) is =
    let log : List ℕ = seen t 1 in
    let low : nat_le (length log) (gate + 25) ≡ true = le-leb (length log) (gate + 25) is.2 in
    let open_gate : nat_eq (slice_index_or log gate 0) 1 ≡ true = eq-eqb (slice_index_or log gate 0) 1 is.0 in
    let cut : is_cut log gate ≡ true =
    ap (λ (b : Bool). b && (nat_le (length log) gate || nat_eq (slice_index_or log gate 0) 1)) low ∙ or_right (nat_le (length log) gate) (nat_eq (slice_index_or log gate 0) 1) open_gate in
    sym (cut_if t gate true cut)

use Rattle.std.proofs.Common.{arith, ◌≡◌, ◌+◌, ◌≤◌, ℕ, List, length, sym, subst, ⊎_elim, Option, Some}
use Rattle.std.specs.Prelude.{IfErr, IfSome, OnOk}
use Rattle.im_disk.specs.Disk.{Files, Told, Images, seen}
use Rattle.im_disk.specs.Moments.{Leaves, LeavesNow}
use Rattle.im_disk.specs.declared.disk.DiskError.{DiskError}
use Rattle.im_disk.proofs.Growing.{grows_none}
use Rattle.im_disk.proofs.Leaving.{leaves_nothing}
use Rattle.im_alog.specs.Holding.{IsDurable}
use Rattle.im_digest.specs.Digests.{Hash}
use Rattle.im_format.specs.Batches.{gate_of}
use Rattle.im_format.specs.Reading.{history_in}
use Rattle.im_format.specs.Standing.{Stands}
use Rattle.im_clog.specs.Marks.{IsUncounted}
use Rattle.im_clog.specs.declared.marks.Uncounted.{Uncounted}
use Rattle.im_clog.specs.declared.marks.Uncounted.TheVariants.{Missing, Closed, Short}
use Rattle.im_opening.specs.Cut.{IsCutOff, IsHalfRepaired, IsHalfShut, IsHeldThroughout, IsShut, repaired, shut_at}
use Rattle.im_opening.specs.Opening.{IsRead}
use Rattle.im_opening.specs.declared.reading.Opened.{Opened}
use Rattle.im_opening.proofs.GateLemmas.{batches-same, cut-kept, lacks-none, same-torn, shut-read, stands-same}
use Rattle.im_opening.specs.Parts.{batches_in}
use Rattle.im_opening.proofs.KeptLemmas.{kept-after, kept-closed, kept-shut, same-told}
use Rattle.std.specs.Option.{option_map}
use Rattle.im_opening.proofs.repair.repair.Goals as goal

-- what holds of what was told
of-told : (P : Told → Type 0) (o : Option Told) (t : Told) → o ≡ Some t → P t → IfSome o P
of-told P o t is h = subst (λ (x : Option Told). IfSome x P) (sym is) h

cut-of : (hash : Hash) (image : Files) (opened : Opened) (gate : ℕ) → IsRead hash image opened → gate ≡ gate_of opened.batches
    → length (image 1) ≤ gate + 25 → IsCutOff hash (history_in image) gate image
cut-of hash image opened gate read at short =
    let n = opened.batches in
    let same : n ≡ length read.stands.batches =
    batches-same hash (history_in image) image n read.stands read.batches.batches_are (lacks-none (image 1) (gate_of n) opened.behind read.behind_is) in
    record { stands = read.stands; gate_is = omega (arith, at, same); short = short }

pub returns-in-Closed-clause-leaves : goal.returns-in-Closed-clause-leaves
returns-in-Closed-clause-leaves g c hash t is durable read =
    let P : Files → Type 0 = λ image. Stands hash image (history_in (seen t)) in
    let o = g.D.Disk.told c.args.disk.now in (
      leaves_nothing P o,
      of-told (λ t. (image : Files) → Images t image → P image) o t is
          (λ image now. stands-same hash (history_in (seen t)) (seen t) image (durable image now) read.stands),
    )

abbrev IsNotClosed : Uncounted → Type 0
IsNotClosed Missing = Unit {0}
IsNotClosed (Closed octet) = ⊥
IsNotClosed (Short len) = Unit {0}

-- where the commit log is cut short
shut-leaves : (hash : Hash) (opened : Opened) (gate : ℕ) (o n : Option Told) (t : Told) → o ≡ Some t → IsDurable t → IsRead hash (seen t) opened
    → gate ≡ gate_of opened.batches → length (seen t 1) ≤ gate + 25
    → (LeavesNow (IsCutOff hash (history_in (seen t)) gate) o → IfSome o (λ s. IsCutOff hash (history_in (seen t)) gate (seen s))
    → Leaves (λ image. Stands hash image (history_in (seen t))) o n)
    → Leaves (λ image. Stands hash image (history_in (seen t))) o n
shut-leaves hash opened gate o n t is durable read at short leaves =
    let P : Files → Type 0 = IsCutOff hash (history_in (seen t)) gate in
    let cut = cut-of hash (seen t) opened gate read at short in
    leaves
    (of-told (λ s. (image : Files) → Images s image → P image) o t is
    (λ image now. cut-kept hash (history_in (seen t)) gate (seen t) image (same-torn 1 gate 1 (seen t) image (durable image now)) cut))
    (of-told (λ s. P (seen s)) o t is cut)

-- why it is short
short-of : (log : List ℕ) (gate : ℕ) (reason : Uncounted) → IsUncounted log gate reason → IsNotClosed reason → length log ≤ gate + 25
short-of log gate Missing h open_is = omega (arith, h)
short-of log gate (Closed octet) h open_is = absurd open_is
short-of log gate (Short len) h open_is = h.2

pub returns-in-Missing-clause-leaves : goal.returns-in-Missing-clause-leaves
returns-in-Missing-clause-leaves g c hash t is durable read =
    let opened = c.args.opened.now in
    let gate = opened.ends.commits in
    let at : gate ≡ gate_of opened.batches = c.requires.ends.gate in
    let open_is : IsNotClosed opened.behind =
    ⊎_elim (λ e. subst IsNotClosed (sym e) tt) (λ p. subst IsNotClosed (sym p.1) tt) c.in-Missing.is in
    let short : length (seen t 1) ≤ gate_of opened.batches + 25 = short-of (seen t 1) (gate_of opened.batches) opened.behind read.behind_is open_is in
    shut-leaves hash opened gate (g.D.Disk.told c.args.disk.now) (g.D.Disk.told c.shut_gate.new.disk) t is durable read at (omega (arith, short, at))
    (c.shut_gate.ensures.leaves hash (history_in (seen t)))

pub returns-in-Closed-clause-shut : goal.returns-in-Closed-clause-shut
returns-in-Closed-clause-shut g c hash t is read =
    let opened = c.args.opened.now in
    let L : Uncounted → Type 0 = λ r. IsUncounted (seen t 1) (gate_of opened.batches) r in
    of-told (λ s. IsShut (seen s) (gate_of opened.batches)) (g.D.Disk.told c.args.disk.now) t is
    (shut-read (seen t) (gate_of opened.batches) _ (subst L c.in-Closed.is read.behind_is))

pub returns-in-Missing-clause-shut : goal.returns-in-Missing-clause-shut
returns-in-Missing-clause-shut g c hash t is read =
    let opened = c.args.opened.now in
    let P : ℕ → Type 0 = λ k. OnOk c.shut_gate.result (IfSome (g.D.Disk.told c.shut_gate.new.disk) (λ s. IsShut (seen s) k)) in
    subst P c.requires.ends.gate c.shut_gate.ensures.shut

pub returns-in-Closed-clause-kept : goal.returns-in-Closed-clause-kept
returns-in-Closed-clause-kept g c hash t is durable read there =
    let opened = c.args.opened.now in
    let L : Uncounted → Type 0 = λ r. IsUncounted (seen t 1) (gate_of opened.batches) r in
    of-told (IsHeldThroughout (batches_in (seen t)) opened.ends) (g.D.Disk.told c.args.disk.now) t is
    (kept-closed opened t _ durable there read.batches.batches_are (subst L c.in-Closed.is read.behind_is))

pub returns-in-Missing-clause-kept : goal.returns-in-Missing-clause-kept
returns-in-Missing-clause-kept g c hash t is durable read there =
    let opened = c.args.opened.now in
    let gate = opened.ends.commits in
    let at : gate ≡ gate_of opened.batches = c.requires.ends.gate in
    let within : gate_of opened.batches ≤ length (seen t 1) = read.within in
    kept-after opened t gate (g.D.Disk.told c.args.disk.now) (g.D.Disk.told c.shut_gate.new.disk) c.shut_gate.result is c.shut_gate.ensures.written
    (kept-shut opened t gate there read.batches.batches_are at (omega (arith, at, within)))

pub returns-in-Closed-clause-calls : goal.returns-in-Closed-clause-calls
returns-in-Closed-clause-calls g c =
    let opened = c.args.opened.now in
    let o = g.D.Disk.told c.args.disk.now in
    let A : Uncounted → Type 0 = λ r. o ≡ option_map (repaired r (gate_of opened.batches)) o in
    subst A (sym c.in-Closed.is) (same-told o)

pub returns-in-Missing-clause-calls : goal.returns-in-Missing-clause-calls
returns-in-Missing-clause-calls g c =
    let opened = c.args.opened.now in
    let o = g.D.Disk.told c.args.disk.now in
    let n = g.D.Disk.told c.shut_gate.new.disk in
    let gate = gate_of opened.batches in
    let P : ℕ → Type 0 = λ k. OnOk c.shut_gate.result (n ≡ option_map (shut_at k) o) in
    let here : P gate = subst P c.requires.ends.gate c.shut_gate.ensures.written in
    let A : Uncounted → Type 0 = λ r. OnOk c.shut_gate.result (n ≡ option_map (repaired r gate) o) in
    ⊎_elim (λ e. subst A (sym e) here) (λ p. subst A (sym p.1) here) c.in-Missing.is

pub returns-in-Closed-clause-grows : goal.returns-in-Closed-clause-grows
returns-in-Closed-clause-grows g c = grows_none (g.D.Disk.told c.args.disk.now)

pub returns-in-Missing-clause-half : goal.returns-in-Missing-clause-half
returns-in-Missing-clause-half g c t is =
    let opened = c.args.opened.now in
    let n = g.D.Disk.told c.shut_gate.new.disk in
    let gate = gate_of opened.batches in
    let P : ℕ → Type 0 = λ k. IfErr c.shut_gate.result (λ (e : DiskError). IsHalfShut e k t n) in
    let here : P gate = subst P c.requires.ends.gate (c.shut_gate.ensures.half t is) in
    let A : Uncounted → Type 0 = λ r. IfErr c.shut_gate.result (λ (e : DiskError). IsHalfRepaired r e gate t n) in
    ⊎_elim (λ e. subst A (sym e) here) (λ p. subst A (sym p.1) here) c.in-Missing.is

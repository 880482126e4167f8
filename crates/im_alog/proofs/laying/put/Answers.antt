use Rattle.std.proofs.Common.{◌≡◌, ℕ, ◌≤◌, List, length, subst}
use Rattle.std.specs.Prelude.{IfSome, Option, Result}
use Rattle.im_disk.specs.Disk.{Told, seen}
use Rattle.im_disk.specs.declared.calls.Call.TheVariants.{Wrote, Tore}
use Rattle.im_disk.specs.declared.disk.DiskError.{DiskError}
use Rattle.im_disk.proofs.Leaving.{if_told, on_ok_after}
use Rattle.im_disk.specs.Fused.{TellsCall}
use Rattle.im_format.specs.Spans.{Reads}
use Rattle.im_format.specs.declared.spans.Span.{Span}
use Rattle.im_alog.specs.Holding.{Holds, IsLong}
use Rattle.im_alog.proofs.Torn.{keeps_all}
use Rattle.im_alog.proofs.Outcomes.{keeps_long, leaves_of_write, reads_of_write, seen_of_write}
use Rattle.im_alog.proofs.laying.put.Goals as goal

-- what the write answered, with the span's own octets
answer : (s : Span) (octets : List ℕ) (o n : Option Told) (r : Result (Unit {0}) DiskError) → octets ≡ s.octets
    → TellsCall (Wrote s.file s.at octets) (Tore s.file s.at (length octets)) o n r
    → TellsCall (Wrote s.file s.at s.octets) (Tore s.file s.at (length s.octets)) o n r
answer s octets o n r is a = subst (λ (l : List ℕ). TellsCall (Wrote s.file s.at l) (Tore s.file s.at (length l)) o n r) is a

pub returns-clause-reads : goal.returns-clause-reads
returns-clause-reads g c =
    let s = c.args.span.now in
    let a = answer s c.as_slice.result.now (g.D.Disk.told c.args.disk.now) (g.D.Disk.told c.write_at.new.self) c.write_at.result c.as_slice.ensures
    (record { ok = c.write_at.ensures.ok; failed = c.write_at.ensures.failed; memory = c.write_at.ensures.memory })
    in
    on_ok_after (λ m. IfSome m (λ t. Reads (seen t) s)) _ _ c.write_at.result a.ok (reads_of_write s.file s.at s.octets (g.D.Disk.told c.args.disk.now) c.requires.within)

pub returns-clause-stays : goal.returns-clause-stays
returns-clause-stays g c spans misses here =
    let s = c.args.span.now in
    let a = answer s c.as_slice.result.now (g.D.Disk.told c.args.disk.now) (g.D.Disk.told c.write_at.new.self) c.write_at.result c.as_slice.ensures
    (record { ok = c.write_at.ensures.ok; failed = c.write_at.ensures.failed; memory = c.write_at.ensures.memory })
    in
    seen_of_write (Holds spans) s.file s.at s.octets _ _ c.write_at.result a c.requires.within
    (λ old new torn. keeps_all s.file s.at (length s.octets) old new spans torn misses) here

pub returns-clause-leaves : goal.returns-clause-leaves
returns-clause-leaves g c spans misses before =
    let s = c.args.span.now in
    let a = answer s c.as_slice.result.now (g.D.Disk.told c.args.disk.now) (g.D.Disk.told c.write_at.new.self) c.write_at.result c.as_slice.ensures
    (record { ok = c.write_at.ensures.ok; failed = c.write_at.ensures.failed; memory = c.write_at.ensures.memory })
    in
    leaves_of_write (Holds spans) s.file s.at s.octets _ _ c.write_at.result a
    (λ old new torn. keeps_all s.file s.at (length s.octets) old new spans torn misses) before

pub returns-clause-longer : goal.returns-clause-longer
returns-clause-longer g c ends long =
    let s = c.args.span.now in
    let a = answer s c.as_slice.result.now (g.D.Disk.told c.args.disk.now) (g.D.Disk.told c.write_at.new.self) c.write_at.result c.as_slice.ensures
    (record { ok = c.write_at.ensures.ok; failed = c.write_at.ensures.failed; memory = c.write_at.ensures.memory })
    in
    if_told (λ t. (k : ℕ) → ends k ≤ length (seen t k)) (IsLong ends) (λ t h. record { long = h }) _
    (seen_of_write (λ image. (k : ℕ) → ends k ≤ length (image k)) s.file s.at s.octets _ _ c.write_at.result a c.requires.within
    (λ old new torn. keeps_long ends s.file s.at (length s.octets) old new torn)
    (if_told (IsLong ends) (λ t. (k : ℕ) → ends k ≤ length (seen t k)) (λ t h. h.long) _ long))

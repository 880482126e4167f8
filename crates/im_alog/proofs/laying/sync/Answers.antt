use Rattle.std.proofs.Common.{◌≡◌, ℕ, ◌≤◌, length, inl, inr}
use Rattle.std.specs.Prelude.{IfSome, Option, Some, None}
use Rattle.im_disk.specs.Disk.{Files, Told, after, seen}
use Rattle.im_disk.specs.Moments.{LeavesNow}
use Rattle.im_disk.specs.declared.calls.Call.TheVariants.{Synced}
use Rattle.im_disk.proofs.Leaving.{if_told, on_ok_after}
use Rattle.im_alog.specs.Holding.{Holds, IsDurable, IsLong, IsOldOrSeen}
use Rattle.im_alog.proofs.Torn.{same_all}
use Rattle.im_alog.proofs.Outcomes.{if_any, if_mapped, leaves_of_sync, seen_of_sync}
use Rattle.im_alog.proofs.laying.sync.Goals as goal

old_now : (o : Option Told) → LeavesNow (IsOldOrSeen o) o
old_now None = tt
old_now (Some t) = λ image now. inl now

seen_now : (o : Option Told) → IfSome o (λ t. (image : Files) → ((k : ℕ) → image k ≡ seen t k) → IsOldOrSeen o image)
seen_now None = tt
seen_now (Some t) = λ image same. inr same

pub returns-clause-durable : goal.returns-clause-durable
returns-clause-durable g c =
    on_ok_after (λ m. IfSome m IsDurable) _ _ c.sync.result c.sync.ensures.ok
    (if_any IsDurable (after Synced) (λ t image now. now) (g.D.Disk.told c.args.disk.now))

pub returns-clause-holds : goal.returns-clause-holds
returns-clause-holds g c spans here =
    on_ok_after (LeavesNow (Holds spans)) _ _ c.sync.result c.sync.ensures.ok
    (if_mapped _ _ (after Synced) (λ t h image same. same_all (seen t) image same spans h) (g.D.Disk.told c.args.disk.now) here)

pub returns-clause-stays : goal.returns-clause-stays
returns-clause-stays g c spans here =
    seen_of_sync (Holds spans) _ _ c.sync.result
    (record { ok = c.sync.ensures.ok; failed = c.sync.ensures.failed; memory = c.sync.ensures.memory }) here

pub returns-clause-leaves : goal.returns-clause-leaves
returns-clause-leaves g c =
    let o = g.D.Disk.told c.args.disk.now in
    leaves_of_sync (IsOldOrSeen o) o _ c.sync.result
    (record { ok = c.sync.ensures.ok; failed = c.sync.ensures.failed; memory = c.sync.ensures.memory }) (old_now o) (seen_now o)

pub returns-clause-longer : goal.returns-clause-longer
returns-clause-longer g c ends long =
    if_told (λ t. (k : ℕ) → ends k ≤ length (seen t k)) (IsLong ends) (λ t h. record { long = h }) _
    (seen_of_sync (λ image. (k : ℕ) → ends k ≤ length (image k)) _ _ c.sync.result
    (record { ok = c.sync.ensures.ok; failed = c.sync.ensures.failed; memory = c.sync.ensures.memory })
    (if_told (IsLong ends) (λ t. (k : ℕ) → ends k ≤ length (seen t k)) (λ t h. h.long) _ long))

use Rattle.std.proofs.Common.{length}
use Rattle.im_disk.specs.declared.calls.Call.TheVariants.{Wrote, Tore, Synced, Missed}
use Rattle.im_disk.proofs.Recording.{tells_ok, tells_failed, tells_memory}
use Rattle.im_disk.proofs.memory.MemDiskDisk.TheImpl.Goals as goal

pub write_at-tells : goal.write_at-tells
write_at-tells x c =
    let good = Wrote c.args.file c.args.at c.args.piece.now in
    let bad = Tore c.args.file c.args.at (length c.args.piece.now) in
    record {
      ok = tells_ok good bad _ _ c.result c.ensures.exact;
      failed = tells_failed good bad _ _ c.result c.ensures.exact;
      memory = tells_memory good bad _ _ c.result c.ensures.exact;
      cause = c.ensures.cause;
    }

pub sync-tells : goal.sync-tells
sync-tells x c = record {
  ok = tells_ok Synced Missed _ _ c.result c.ensures.exact;
  failed = tells_failed Synced Missed _ _ c.result c.ensures.exact;
  memory = tells_memory Synced Missed _ _ c.result c.ensures.exact;
  cause = c.ensures.cause;
}

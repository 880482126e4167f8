use Rattle.std.proofs.Common.{refl}
use Rattle.im_folder.proofs.Silent.{on_ok, if_ok}
use Rattle.im_folder.proofs.locked_folder.LockedFolderDisk.TheImpl.Goals as goal

pub write_at-tells : goal.write_at-tells
write_at-tells g x c =
    record { ok = on_ok c.result refl; failed = λ _. refl; memory = λ _. refl; cause = c.ensures.cause }

pub sync-tells : goal.sync-tells
sync-tells g x c =
    record { ok = on_ok c.result refl; failed = λ _. refl; memory = λ _. refl; cause = c.ensures.cause }

pub len-tells : goal.len-tells
len-tells g x c = record { length = if_ok (λ _. Unit {0}) c.result (λ _. tt); told = refl; cause = c.ensures.cause }

pub read-tells : goal.read-tells
read-tells g x c = record { octets = on_ok c.result tt; told = refl; cause = c.ensures.cause }

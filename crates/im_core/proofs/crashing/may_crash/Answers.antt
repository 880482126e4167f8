use Rattle.std.proofs.Common.{◌≡◌, List, ℕ, length, sym, subst}
use Rattle.std.proofs.lemmas.Bool.{false≢true}
use Rattle.std.specs.Prelude.{◌↔◌, false, IsTrue}
use Rattle.im_core.specs.Cores.{MayCrash}
use Rattle.im_core.specs.declared.cores.Core.{Core}
use Rattle.im_disk.specs.Disk.{Images}
use Rattle.im_disk.specs.Recorded.{told_by, Recorded}
use Rattle.im_disk.specs.Records.{files_of}
use Rattle.im_core.proofs.crashing.may_crash.Goals as goal

pub returns-in-Up : goal.returns-in-Up
returns-in-Up c =
    let image : List (List ℕ) = c.args.image.now in
    subst (λ (x : Core). IsTrue c.leaves.result ↔ MayCrash x image) (sym c.in-Up.is)
    (subst (λ (d : Recorded). IsTrue c.leaves.result ↔ ((length image ≡ 16) × Images (told_by d) (files_of image))) c.disk.ensures c.leaves.ensures)

pub returns-in-Down : goal.returns-in-Down
returns-in-Down c =
    subst (λ (x : Core). IsTrue false ↔ MayCrash x c.args.image.now) (sym c.in-Down.is) (λ granted. absurd (false≢true granted), λ may. absurd may)

use Rattle.std.proofs.Common.{◌≡◌, ◌∙◌, ℕ, List, length, ap, arith}
use Rattle.std.proofs.lemmas.Result.{IfOk-weaker}
use Rattle.im_disk.specs.Recorded.{unchanged}
use Rattle.im_core.proofs.opening.disk_of.Goals as goal

pub from_files-requires : goal.from_files-requires
from_files-requires c =
    let same : c.into_vec.result.items ≡ c.args.image.now = c.into_vec.ensures ∙ c.in_ok-files.ensures in
    omega (arith, ap (λ (l : List (List ℕ)). length l) same, c.requires)

pub returns : goal.returns
returns c =
    let same : c.into_vec.result.items ≡ c.args.image.now = c.into_vec.ensures ∙ c.in_ok-files.ensures in
    IfOk-weaker c.from_files.result _ _
    (λ disk is. is ∙ ap (λ (l : List (List ℕ)). unchanged l c.new.result.items) same ∙ ap (λ (l : List ℕ). unchanged c.args.image.now l) c.new.ensures.items)
    c.from_files.ensures

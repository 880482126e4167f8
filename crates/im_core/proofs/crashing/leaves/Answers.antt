use Rattle.std.proofs.Common.{◌≡◌, ◌∙◌, ℕ, List, length, reverse, sym, ap, subst, arith}
use Rattle.im_disk.specs.Disk.{Images, Told}
use Rattle.im_disk.specs.Records.{files_of, told_of, AreWithin}
use Rattle.im_disk.specs.Recorded.{told_by}
use Rattle.im_disk.specs.declared.calls.Call.{Call}
use Rattle.im_core.proofs.crashing.leaves.Goals as goal

pub may_leave-requires-clause-within : goal.may_leave-requires-clause-within
may_leave-requires-clause-within c =
    subst (λ (l : List (List ℕ)). AreWithin (files_of l) (reverse c.calls.result.now)) (sym c.first.ensures.value)
    (subst (λ (l : List Call). AreWithin (files_of c.args.disk.now.first) (reverse l)) (sym c.calls.ensures.calls) c.calls.ensures.within)

pub returns : goal.returns
returns c =
    let same : told_of c.first.result.now c.calls.result.now ≡ told_by c.args.disk.now =
    ap (λ (l : List (List ℕ)). told_of l c.calls.result.now) c.first.ensures.value ∙ ap (λ (l : List Call). told_of c.args.disk.now.first l) c.calls.ensures.calls in
    let count : length c.args.image.now ≡ 16 = omega arith in (
      λ granted. (count, subst (λ (t : Told). Images t (files_of c.args.image.now)) same (c.may_leave.ensures.0 granted)),
      λ both. c.may_leave.ensures.1 (subst (λ (t : Told). Images t (files_of c.args.image.now)) (sym same) both.1),
    )

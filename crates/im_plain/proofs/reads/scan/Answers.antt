use Rattle.std.proofs.Common.{ap, map, subst, sym, ◌∙◌}
use Rattle.std.proofs.lemmas.Result.{IfOk-weaker}
use Rattle.im_versions.specs.Versions.{IsScan}
use Rattle.im_index.specs.Newest.{HasNewest}
use Rattle.im_index.proofs.ScanLemmas.{scan-newest}
use Rattle.im_plain.proofs.reads.scan.Goals as goal

pub returns : goal.returns
returns c = λ history is.
    let newest = c.in_ok-newest.newest in
    let live = c.in_ok-live.ensures in
    IfOk-weaker c.copies_of.result _ _ (λ copies same. subst (IsScan history c.args.prefix.now) (sym (same ∙ ap (map (λ v. v.now)) c.as_slice.ensures.value))
    (scan-newest history c.args.prefix.now newest (map (λ v. v.now) c.in_ok-live.live.items) live.ordered
    (subst (λ vs. HasNewest vs c.args.prefix.now newest) is c.in_ok-newest.ensures) live.live))
    c.copies_of.ensures

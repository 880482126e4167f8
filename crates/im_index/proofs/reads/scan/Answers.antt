use Rattle.std.proofs.Common.{ap, map, subst, sym, take, ◌∙◌}
use Rattle.std.proofs.lemmas.Result.{IfOk-weaker}
use Rattle.im_versions.specs.Versions.{IsScan}
use Rattle.im_index.proofs.reads.scan.Goals as goal

pub returns : goal.returns
returns c = λ history are.
    IfOk-weaker c.copies_of.result _ _ (λ copies same. subst (IsScan (take c.args.n history) c.args.prefix.now) (sym (same ∙ ap (map (λ v. v.now)) c.as_slice.ensures.value)) (c.in_ok-scan_lent.ensures history are))
    c.copies_of.ensures

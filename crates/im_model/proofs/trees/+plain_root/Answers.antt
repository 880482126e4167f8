use Rattle.std.proofs.Common.{length, ◌<◌, arith, ◌∙◌, sym}
use Rattle.im_model.proofs.TreeLemmas.{root-one, root-split}
use Rattle.im_model.proofs.trees.+plain_root.Goals as goal

pub returns-then-digests-eq1 : goal.returns-then-digests-eq1
returns-then-digests-eq1 g t c =
    c.leaf_digest.ensures ∙ sym (root-one (g.H.Hash32.digest c.args.hash.now) c.args.digests.now (omega arith) (omega arith))

pub returns : goal.returns
returns g t c =
    let many : 1 < length c.args.digests.now = omega arith in
    let whole = root-split (g.H.Hash32.digest c.args.hash.now) c.args.digests.now c.split.result many c.split.ensures.value in
    cc

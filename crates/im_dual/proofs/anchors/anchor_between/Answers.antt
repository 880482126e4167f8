use Rattle.std.proofs.Common.{arith, ◌∙◌}
use Rattle.std.proofs.lemmas.Result.{IfOk-weaker}
use Rattle.im_dual.proofs.AnchorLemmas.{anchor-same}
use Rattle.im_dual.proofs.KeptLemmas.{kept-rises}
use Rattle.im_dual.proofs.anchors.anchor_between.Goals as goal

pub anchor_from-requires-clause-tree : goal.anchor_from-requires-clause-tree
anchor_from-requires-clause-tree g c =
    let r = c.requires in
    let rises = kept-rises (g.H.Hash32.digest c.args.hash.now) r.history.0 c.args.headers.now c.args.s c.args.t r.history.1 r.history.2 r.some r.order r.within in
    omega (arith, rises, r.tree)

pub returns : goal.returns
returns g c =
    let r = c.requires in
    record {
      value = IfOk-weaker c.anchor_from.result _ _
          (λ anchor built history is kept. built history is kept
          ∙ anchor-same (g.H.Hash32.digest c.args.hash.now) history c.args.headers.now c.args.s c.args.t kept r.some r.order r.within c.size_at-old.result c.size_at-size.result c.size_at-old.ensures c.size_at-size.ensures)
          c.anchor_from.ensures.value;
    }

use Rattle.std.proofs.Common.{arith, ap, sym, ◌∙◌, ◌++◌}
use Rattle.std.proofs.lemmas.List.{append-nil}
use Rattle.im_mtree.proofs.InclusionLemmas.{inclusion-few}
use Rattle.im_mtree.proofs.paths.terms_down.Goals as goal

pub returns : goal.returns
returns g c =
    sym (append-nil c.loop-part.terms.items)
    ∙ ap (λ l. c.loop-part.terms.items ++ l) (sym (inclusion-few (g.H.Hash32.digest c.args.hash.now) c.loop-part.part.now c.loop-part.index (omega arith)))
    ∙ c.loop-part.invariant.path

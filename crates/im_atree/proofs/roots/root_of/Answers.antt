use Rattle.std.proofs.Common.{◌≡◌, ℕ, length, take, ap, ◌∙◌, arith}
use Rattle.im_model.specs.Trees.{root}
use Rattle.im_atree.proofs.roots.root_of.Goals as goal
use Rattle.im_model.proofs.HistoryLemmas.{root-of-some}

pub returns : goal.returns
returns g c leaves f =
    let hash = g.H.Hash32.digest c.args.hash.now in
    let size : c.size-size.result ≡ length leaves = c.size-size.ensures ∙ f.counted in
    root-of-some hash leaves (length leaves) c.root_at.result (omega arith)
    (c.root_at.ensures leaves f ∙ ap (λ (n : ℕ). root hash (take n leaves)) size)

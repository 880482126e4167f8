use Rattle.std.proofs.Common.{ℕ, List, sym, subst, take, ap, ◌∙◌, arith}
use Rattle.std.proofs.lemmas.List.{take-take}
use Rattle.im_levels.specs.Leveled.{IsLeveled}
use Rattle.im_model.specs.Trees.{root}
use Rattle.im_octet.proofs.Common.{take-up}
use Rattle.im_opening.proofs.records.grow.Goals as goal
use Rattle.im_model.proofs.HistoryLemmas.{root-of-some}

pub returns-clause-tree : goal.returns-clause-tree
returns-clause-tree g c =
    let hash = g.H.Hash32.digest c.args.hash.now in
    let alhs = c.args.alhs.now in
    let size = c.size-size.result in
    let S : ℕ → Type 0 = λ n. IsLeveled hash (take n alhs) c.args.tree.now in
    let before = subst S (sym c.size-size.ensures) c.requires.tree in
    let T : List (List ℕ) → Type 0 = λ l. IsLeveled hash l c.extend.new.self in
    subst T (take-up alhs size c.args.bl (omega arith)) (c.in_ok-extend.ensures.leaves (take size alhs) before)

pub returns-clause-root : goal.returns-clause-root
returns-clause-root g c =
    let hash = g.H.Hash32.digest c.args.hash.now in
    let alhs = c.args.alhs.now in
    let bl = c.args.bl in
    root-of-some hash alhs bl c.root_at.result (omega arith)
    (c.root_at.ensures (take bl alhs) (returns-clause-tree g c) ∙ ap (λ (l : List (List ℕ)). root hash l) (take-take bl bl alhs (omega arith)))

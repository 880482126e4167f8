use Rattle.std.proofs.Common.{◌≡◌, ◌-◌, ◌++◌, ℕ, List, take, drop, arith, ap, ◌∙◌, subst, sym}
use Rattle.std.proofs.lemmas.List.{length-take-le}
use Rattle.im_digest.specs.Digests.{Hash}
use Rattle.im_levels.specs.Leveled.{IsLeveled}
use Rattle.im_octet.proofs.Common.{take-up}
use Rattle.im_store_opening.proofs.parts.raise.Goals as goal

pub returns-clause-leaves : goal.returns-clause-leaves
returns-clause-leaves g c =
    let hash : Hash = g.H.Hash32.digest c.args.hash.now in
    let alhs : List (List ℕ) = c.args.alhs.now in
    let start : ℕ = c.size-start.result in
    let size : start ≡ c.args.tree.now.size = c.size-start.ensures in
    let seam : take c.args.tree.now.size alhs ++ take (c.args.end - start) (drop start alhs) ≡ take c.args.end alhs =
    ap (λ (n : ℕ). take n alhs ++ take (c.args.end - start) (drop start alhs)) (sym size) ∙ take-up alhs start c.args.end (omega (arith, size, c.requires.up)) in
    subst (λ (ds : List (List ℕ)). IsLeveled hash ds c.extend.new.self) seam (c.in_ok-extend.ensures.leaves (take c.args.tree.now.size alhs) c.requires.tree)

pub returns-clause-size : goal.returns-clause-size
returns-clause-size g c = (returns-clause-leaves g c).counted ∙ length-take-le c.args.end c.args.alhs.now c.requires.within

use Rattle.std.proofs.Common.{◌≡◌, ◌-◌, ◌++◌, ℕ, List, take, drop, arith, ap, ◌∙◌, subst, sym}
use Rattle.im_digest.specs.Digests.{Hash}
use Rattle.im_mtree.specs.Kept.{IsFrontier}
use Rattle.im_octet.proofs.Common.{take-up}
use Rattle.im_book.proofs.roots.extend_to.Goals as goal

pub returns : goal.returns
returns g c =
    let hash : Hash = g.H.Hash32.digest c.args.hash.now in
    let alhs : List (List ℕ) = c.args.alhs.now in
    let start : ℕ = c.size-start.result in
    let size : start ≡ c.args.frontier.now.size = c.size-start.ensures in
    let seam : take c.args.frontier.now.size alhs ++ take (c.args.end - start) (drop start alhs) ≡ take c.args.end alhs =
    ap (λ (n : ℕ). take n alhs ++ take (c.args.end - start) (drop start alhs)) (sym size) ∙ take-up alhs start c.args.end (omega (arith, size, c.requires.up)) in
    subst (λ (ds : List (List ℕ)). IsFrontier hash ds c.extend.new.self) seam (c.extend.ensures.leaves (take c.args.frontier.now.size alhs) c.requires.kept)

use Rattle.std.proofs.Common.{◌≡◌, ◌-◌, ◌++◌, ◌∙◌, ℕ, List, length, take, drop, ap, subst, sym, take-append-drop}
use Rattle.std.proofs.lemmas.List.{take_rest}
use Rattle.im_digest.specs.Digests.{Hash}
use Rattle.im_levels.specs.Leveled.{IsLeveled}
use Rattle.im_core.proofs.opening.raise.Goals as goal

pub returns : goal.returns
returns g c =
    let hash : Hash = g.H.Hash32.digest c.args.hash.now in
    let alhs : List (List ℕ) = c.args.alhs.now in
    let start : ℕ = c.size-start.result in
    let rest : List (List ℕ) = take (length alhs - start) (drop start alhs) in
    let seam : take c.args.tree.now.size alhs ++ rest ≡ alhs =
    ap (λ (n : ℕ). take n alhs ++ rest) (sym c.size-start.ensures)
    ∙ ap (λ (l : List (List ℕ)). take start alhs ++ l) (take_rest alhs start)
    ∙ take-append-drop start alhs in
    subst (λ (l : List (List ℕ)). IsLeveled hash l c.extend.new.self) seam (c.in_ok-extend.ensures.leaves (take c.args.tree.now.size alhs) c.requires.tree)

-- A root that was kept is the root over its part.
use Rattle.std.proofs.Common.{◌≡◌, ◌<◌, ◌≤◌, ◌+◌, ◌&&◌, ℕ, true, List, length, nat_eq, arith, ap, ◌∙◌}
use Rattle.std.proofs.lemmas.Bool.{and_parts, eqb-true}
use Rattle.im_digest.specs.Digests.{Hash}
use Rattle.im_model.specs.Trees.{root}
use Rattle.im_levels.specs.Edges.{IsEdgeOf}
use Rattle.im_levels.specs.Leveled.{leaves_of, AreStored}
use Rattle.im_levels.specs.declared.edges.Edge.{Edge}

pub edge-over : (hash : Hash) (digests : List (List ℕ)) (edge : Edge) (at width : ℕ) → IsEdgeOf hash digests edge → 0 < width
    → nat_eq edge.at at && nat_eq edge.width width ≡ true → (leaves : List (List ℕ)) → at + width ≤ length leaves → AreStored hash leaves digests
    → edge.root ≡ root hash (leaves_of leaves at width)
edge-over hash digests edge at width made some over leaves inside stored =
    let both : (nat_eq edge.at at ≡ true) × (nat_eq edge.width width ≡ true) = and_parts (nat_eq edge.at at) (nat_eq edge.width width) over in
    let first : edge.at ≡ at = eqb-true edge.at at both.0 in
    let long : edge.width ≡ width = eqb-true edge.width width both.1 in
    made (omega (arith, long, some)) leaves (omega (arith, first, long, inside)) stored
    ∙ ap (λ (a : ℕ). root hash (leaves_of leaves a edge.width)) first
    ∙ ap (λ (w : ℕ). root hash (leaves_of leaves at w)) long

use Rattle.std.proofs.Common.{◌∷◌, [], ◌++◌, List, ℕ, ap, sym, ◌∙◌}
use Rattle.std.proofs.lemmas.List.{map_push}
use Rattle.im_draft.specs.declared.preconditions.Pre.{Pre}
use Rattle.im_draft.specs.declared.preconditions.Pre.TheVariants.{Since}
use Rattle.im_sql.proofs.placing.pres_of.Goals as goal

pub loop-key-preserved : goal.loop-key-preserved
loop-key-preserved c =
    let n = c.args.n in
    let key = c.in-Some.key in
    c.in_ok-push.ensures.items
    ∙ ap (λ (pres : List Pre). pres ++ Since key n ∷ []) c.loop-key.invariant
    ∙ sym (map_push (λ (k : List ℕ). Since k n) c.loop-key.yielded key)

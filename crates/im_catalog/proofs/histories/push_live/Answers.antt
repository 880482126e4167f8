use Rattle.std.proofs.Common.{◌++◌, ◌∷◌, [], Bool, cond, not, sym, ap, ◌∙◌}
use Rattle.std.proofs.lemmas.List.{append-nil, map_push}
use Rattle.im_catalog.specs.Numbered.{pair_of, pairs_of}
use Rattle.im_catalog.proofs.histories.push_live.Goals as goal

pub returns-then-version : goal.returns-then-version
returns-then-version c =
    let live = pairs_of c.args.live.now.items in
    sym (ap (λ (b : Bool). live ++ cond (not b) ((c.args.number, c.args.version.now) ∷ []) []) c.if-version.true ∙ append-nil live)

pub returns : goal.returns
returns c =
    let live = pairs_of c.args.live.now.items in
    ap pairs_of c.in_ok-push.ensures.items
    ∙ map_push pair_of c.args.live.now.items _
    ∙ ap (λ (b : Bool). live ++ cond (not b) ((c.args.number, c.args.version.now) ∷ []) []) (sym c.if-version.false)

use Rattle.std.proofs.Common.{◌∷◌, [], ◌++◌, List, map, ap, sym, ◌∙◌}
use Rattle.std.proofs.lemmas.List.{map_push}
use Rattle.im_draft.specs.declared.drafts.Draft.{Draft}
use Rattle.im_sqlmodel.specs.Creations.{draft_written}
use Rattle.im_sql.proofs.placing.drafts_of.Goals as goal

pub loop-one-preserved : goal.loop-one-preserved
loop-one-preserved c =
    c.in_ok-push.ensures.items
    ∙ ap (λ (drafts : List Draft). drafts ++ c.draft_written.result ∷ []) c.loop-one.invariant
    ∙ ap (λ (last : Draft). map draft_written c.loop-one.yielded ++ last ∷ []) c.draft_written.ensures
    ∙ sym (map_push draft_written c.loop-one.yielded c.in-Some.one)

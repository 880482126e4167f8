use Rattle.std.proofs.Common.{inr, Ok, map, ap, ◌∙◌}
use Rattle.im_draft.specs.Drafts.{entry_of}
use Rattle.im_sqlmodel.specs.declared.answers.SqlOut.TheVariants as out
use Rattle.im_sql.proofs.ShortLemmas.{entries-of-drafts}
use Rattle.im_sql.proofs.placing.ask_since.Goals as goal

pub returns-in-Ok : goal.returns-in-Ok
returns-in-Ok c =
    let entries = c.in-Ok.ensures.ok ∙ ap (map entry_of) c.in_ok-drafts.ensures ∙ entries-of-drafts c.args.written.items in
    let pres = c.in-Ok.ensures.pres ∙ c.in_ok-pres.ensures in
    inr (λ i. Ok (out.Write (record { entries = entries i; pres = pres i })))

use Rattle.std.proofs.Common.{◌≡◌, ◌∙◌, List, length, ap, arith, subst}
use Rattle.std.proofs.lemmas.List.{length-map}
use Rattle.im_format.specs.declared.records.Record.{Record}
use Rattle.im_index.specs.Indexed.{IsIndexOf}
use Rattle.im_model.specs.declared.transactions.Transaction.{Transaction}
use Rattle.im_opening.specs.Reach.{txs_of}
use Rattle.im_core.proofs.opening.indexed.Goals as goal

pub of-requires : goal.of-requires
of-requires c =
    let same : c.as_slice.result.now ≡ txs_of c.args.records.items = c.as_slice.ensures.value ∙ c.in_ok-transactions.ensures in
    omega (arith, ap (λ (l : List Transaction). length l) same, length-map c.args.records.items (λ (r : Record). r.tx), c.requires)

pub returns-in-Ok-clause-index : goal.returns-in-Ok-clause-index
returns-in-Ok-clause-index c =
    subst (λ (l : List Transaction). IsIndexOf c.in-Ok.index l) (c.as_slice.ensures.value ∙ c.in_ok-transactions.ensures) c.in-Ok.ensures

use Rattle.std.proofs.Common.{◌≡◌, ◌∙◌, List, length, ap, arith, subst}
use Rattle.im_index.specs.Indexed.{IsIndexOf}
use Rattle.im_model.specs.declared.transactions.Transaction.{Transaction}
use Rattle.im_table.specs.Histories.{history_of}
use Rattle.im_table.proofs.HistoryLemmas.{history_length}
use Rattle.im_store_opening.proofs.parts.columns_of.Goals as goal

pub of-requires : goal.of-requires
of-requires c =
    let same : c.as_slice.result.now ≡ history_of c.args.items.items = c.as_slice.ensures.value ∙ c.in_ok-transactions.ensures.transactions in
    omega (arith, ap (λ (l : List Transaction). length l) same, history_length c.args.items.items, c.requires)

pub returns-in-Ok-clause-index : goal.returns-in-Ok-clause-index
returns-in-Ok-clause-index c =
    subst (λ (l : List Transaction). IsIndexOf c.in-Ok.index l) (c.as_slice.ensures.value ∙ c.in_ok-transactions.ensures.transactions) c.in-Ok.ensures

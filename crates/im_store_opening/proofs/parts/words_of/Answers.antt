use Rattle.std.proofs.Common.{◌∙◌, List, length, ap, arith, subst}
use Rattle.im_index.specs.Indexed.{IsIndexOf}
use Rattle.im_seated_journal.specs.Seats.{refs_in}
use Rattle.im_table.specs.Histories.{history_of}
use Rattle.im_table.specs.declared.items.LogItem.{LogItem}
use Rattle.im_store.proofs.OpenLemmas.{found_count}
use Rattle.im_store_opening.proofs.parts.words_of.Goals as goal

pub columns_of-requires : goal.columns_of-requires
columns_of-requires g c =
    omega (arith, ap (λ (l : List LogItem). length l) c.in_ok-tip.ensures.items, found_count c.args.records.items, c.requires.few)

pub returns-in-Ok-clause-index : goal.returns-in-Ok-clause-index
returns-in-Ok-clause-index g c =
    subst (λ (l : List LogItem). IsIndexOf c.in-Ok.index (history_of l)) c.in_ok-tip.ensures.items c.in-Ok.ensures.index

pub returns-in-Ok-clause-transactions : goal.returns-in-Ok-clause-transactions
returns-in-Ok-clause-transactions g c = c.in-Ok.ensures.transactions ∙ ap (λ (l : List LogItem). history_of l) c.in_ok-tip.ensures.items

pub returns-in-Ok-clause-refs : goal.returns-in-Ok-clause-refs
returns-in-Ok-clause-refs g c = c.in-Ok.ensures.refs ∙ ap (λ (l : List LogItem). refs_in l) c.in_ok-tip.ensures.items

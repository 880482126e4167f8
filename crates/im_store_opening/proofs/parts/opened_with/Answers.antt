use Rattle.std.proofs.Common.{◌≡◌, ◌∙◌, List, true, ap, subst, sym}
use Rattle.std.specs.List.{All}
use Rattle.im_table.specs.Views.{opener}
use Rattle.im_table.specs.declared.items.LogItem.{LogItem}
use Rattle.im_store_opening.proofs.OpenLemmas.{found_marked}
use Rattle.im_store_opening.proofs.parts.opened_with.Goals as goal

-- each item is marked as found
pub open-requires-clause-found : goal.open-requires-clause-found
open-requires-clause-found g c =
    subst (λ (l : List LogItem). All (λ x. x.found ≡ true) l) (sym c.in_ok-found_items.ensures) (found_marked c.args.records.items)

pub returns-in-Ok-clause-tip : goal.returns-in-Ok-clause-tip
returns-in-Ok-clause-tip g c = (c.in-Ok.ensures.0 ∙ c.in_ok-found_items.ensures, c.in-Ok.ensures.1)

pub returns-in-Ok-clause-pass : goal.returns-in-Ok-clause-pass
returns-in-Ok-clause-pass g c = (c.in-Ok.ensures.2, c.in-Ok.ensures.3 ∙ ap (λ (l : List LogItem). opener l) c.in_ok-found_items.ensures)

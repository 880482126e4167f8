-- What holds of a list that the book has shown.
use Rattle.std.proofs.Common.{◌≡◌, ℕ, List, sym, subst}
use Rattle.im_digest.specs.Digests.{Hash}
use Rattle.im_model.specs.History.{IsHistory}
use Rattle.im_seated_book.specs.Seats.{HaveReferences}
use Rattle.im_table.specs.Histories.{history_of, GoesOn}
use Rattle.im_table.specs.References.{IsLawful}
use Rattle.im_table.specs.declared.items.LogItem.{LogItem}
use Rattle.im_store.specs.Lists.{IsListOf}

-- a pass that was shown the book's list has seen one of which this holds, over as many value logs as the tip says
pub list_shown : (allows : List LogItem → Type 0) (hash : Hash) (logs told : ℕ) (found items seen : List LogItem) → seen ≡ items → told ≡ logs → GoesOn found items → IsHistory (history_of items)
    → IsLawful allows told items → HaveReferences hash 1 items → IsListOf allows hash logs found seen
list_shown allows hash logs told found items seen here many goes history meets referred = subst (λ (l : List LogItem). IsListOf allows hash logs found l) (sym here) record {
  goes_on = goes;
  history = history;
  meets = subst (λ (n : ℕ). IsLawful allows n items) many meets;
  referred = referred;
}

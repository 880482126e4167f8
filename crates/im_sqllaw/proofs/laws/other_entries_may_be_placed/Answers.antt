use Rattle.std.proofs.Common.{◌≢◌, ◌∷◌, [], ℕ, List, All, subst, sym}
use Rattle.im_model.specs.declared.entries.Entry.{Entry}
use Rattle.im_sqllaw.specs.Law.{found_in}
use Rattle.im_sqllaw.proofs.LawLemmas.{found-within, law-push}
use Rattle.im_sqlmodel.proofs.CarriedLemmas.{free-kept, taken-front}
use Rattle.im_sqlmodel.specs.Kept.{IsSqlKept}
use Rattle.im_sqllaw.proofs.laws.other_entries_may_be_placed.Goals as goal
use Rattle.im_table.specs.Histories.{history_of}

pub returns : goal.returns
returns c seen asked free items begins met none item fresh entries =
    law-push items item fresh
    (λ is keeps opened. free-kept (history_of items) item.tx (keeps (subst IsSqlKept (taken-front (found_in items) (history_of items) (item.tx ∷ []) (found-within items)) opened))
    (subst (λ (l : List Entry). All (λ e. (rest : List ℕ) → e.key ≢ 0 ∷ rest) l) (sym entries) free))
    met

use Rattle.std.proofs.Common.{◌≡◌, ◌+◌, ◌∙◌, ◌++◌, List, ap, length, subst}
use Rattle.std.specs.Prelude.{OnOk}
use Rattle.im_model.specs.declared.transactions.Transaction.{Transaction}
use Rattle.im_versions.specs.Versions.{versions_from}
use Rattle.im_versions.specs.declared.versions.Version.{Version}
use Rattle.im_index.specs.Indexed.{IsIndexOf}
use Rattle.im_index.specs.Runs.{lengths, taken_in}
use Rattle.im_index.proofs.TakenLemmas.{versions-one}
use Rattle.im_index.proofs.index.Index.take.Goals as goal

pub returns-clause-taken : goal.returns-clause-taken
returns-clause-taken c = λ history is.
    let P : List Transaction → Type 0 = λ txs. OnOk c.take_all.result (IsIndexOf c.take_all.new.self (history ++ txs)) in
    subst P c.from_ref.ensures.value (c.take_all.ensures.taken history is)

pub returns-clause-lengths : goal.returns-clause-lengths
returns-clause-lengths c =
    let k = c.args.self.now.taken + 1 in
    let P : List Version → Type 0 = λ vs. OnOk c.take_all.result (lengths c.take_all.new.self.runs ≡ taken_in (length vs) (lengths c.args.self.now.runs)) in
    subst P (ap (versions_from k) c.from_ref.ensures.value ∙ versions-one k c.args.tx.now) c.take_all.ensures.lengths

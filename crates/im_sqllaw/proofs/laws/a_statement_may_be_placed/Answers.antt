use Rattle.std.proofs.Common.{◌≡◌, ◌≤◌, ◌∷◌, [], List, Ok, length, take, subst, arith}
use Rattle.im_model.specs.declared.transactions.Transaction.{Transaction}
use Rattle.im_sqllaw.specs.Law.{found_in}
use Rattle.im_sqllaw.proofs.LawLemmas.{found-within, law-push, placed-admits}
use Rattle.im_sqllaw.proofs.laws.a_statement_may_be_placed.Goals as goal
use Rattle.im_sqlmodel.proofs.CarriedLemmas.{taken-front}
use Rattle.im_sqlmodel.specs.Answers.{AnswerIs}
use Rattle.im_sqlmodel.specs.Kept.{IsSqlKept}
use Rattle.im_sqlmodel.specs.declared.answers.SqlOut.TheVariants as out
use Rattle.im_table.specs.Histories.{history_of}
use Rattle.im_table.proofs.FrontLemmas.{prefix_length}
use Rattle.im_table.proofs.HistoryLemmas.{history_front, history_length, take_front}

pub returns : goal.returns
returns g c seen n said asked within formed answer items begins met none item fresh entries =
    let history : List Transaction = history_of items in
    let same : take n (history_of seen) ≡ take n history = take_front (history_of seen) history n (history_front seen items begins) (omega (arith, within, history_length seen)) in
    let least : n ≤ length history = omega (arith, within, prefix_length seen items begins, history_length items) in
    law-push items item fresh
    (λ is keeps opened. g.met.Q.SqlEngine.keeps history item.tx n said asked is
    (keeps (subst IsSqlKept (taken-front (found_in items) history (item.tx ∷ []) (found-within items)) opened)) least formed
    (subst (λ (h : List Transaction). AnswerIs h said (Ok (out.Write asked))) same answer) (placed-admits history asked.pres none) entries)
    met

use Rattle.im_model.proofs.HistoryLemmas.{last-bl-behind}
use Rattle.im_book.proofs.BookLemmas.{history-behind}
use Rattle.im_book.proofs.laws.placed_is_a_history.Goals as goal
use Rattle.im_versions.proofs.RoomLemmas.{admitted-room}

pub returns-clause-history : goal.returns-clause-history
returns-clause-history c history asked ts bl is fine admitted over within timed =
    history-behind history (record { ts = ts; entries = asked.entries; bl = bl }) is (admitted-room history asked.pres admitted)
    (record { some = fine.some; few = fine.few; entries = fine.each; distinct = fine.distinct; linked = within; timed = timed }) over

pub returns-clause-last : goal.returns-clause-last
returns-clause-last c history tx = last-bl-behind 0 history tx

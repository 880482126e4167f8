use Rattle.im_book.proofs.book.Book.judge.Given as goal

abbrev pub ghosts-judge_for : goal.ghosts-judge_for
ghosts-judge_for a = record { name = a.blank.name; parts = a.blank.parts }

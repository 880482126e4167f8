use Rattle.im_seated_book.proofs.judging.judge_over.Given as goal

abbrev pub ghosts-judge_for : goal.ghosts-judge_for
ghosts-judge_for a = record { name = a.blank.name; parts = a.blank.parts }

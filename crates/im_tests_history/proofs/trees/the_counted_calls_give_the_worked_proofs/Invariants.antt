use Rattle.im_tests_history.proofs.trees.the_counted_calls_give_the_worked_proofs.Given as goal

abbrev pub ghosts-counted_of_seven : goal.ghosts-counted_of_seven
ghosts-counted_of_seven g a = record { name = a.blank.name; parts = a.blank.parts }

use Rattle.im_tests_history.proofs.indexes.counted_agrees_on.Given as goal

abbrev pub ghosts-told_counted : goal.ghosts-told_counted
ghosts-told_counted a = record { name = a.blank.name; parts = a.blank.parts }

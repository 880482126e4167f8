use Rattle.im_tests_history.proofs.refusals.keys_answer.Given as goal

abbrev pub ghosts-judged_counted : goal.ghosts-judged_counted
ghosts-judged_counted a = record { name = a.blank.name; parts = a.blank.parts }

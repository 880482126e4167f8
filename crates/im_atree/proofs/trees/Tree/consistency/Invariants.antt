use Rattle.im_atree.proofs.trees.Tree.consistency.Given as goal

abbrev pub ghosts-consistency_counted : goal.ghosts-consistency_counted
ghosts-consistency_counted g a = record { name = a.blank.name; parts = a.blank.parts }

use Rattle.im_atree.proofs.trees.Tree.consistency_along.Given as goal

abbrev pub ghosts-consistency_along_counted : goal.ghosts-consistency_along_counted
ghosts-consistency_along_counted g a = record { name = a.blank.name; parts = a.blank.parts }

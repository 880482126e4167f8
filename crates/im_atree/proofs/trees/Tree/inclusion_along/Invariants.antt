use Rattle.im_atree.proofs.trees.Tree.inclusion_along.Given as goal

abbrev pub ghosts-inclusion_along_counted : goal.ghosts-inclusion_along_counted
ghosts-inclusion_along_counted g a = record { name = a.blank.name; parts = a.blank.parts }

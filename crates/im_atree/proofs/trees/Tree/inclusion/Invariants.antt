use Rattle.im_atree.proofs.trees.Tree.inclusion.Given as goal

abbrev pub ghosts-inclusion_counted : goal.ghosts-inclusion_counted
ghosts-inclusion_counted g a = record { name = a.blank.name; parts = a.blank.parts }

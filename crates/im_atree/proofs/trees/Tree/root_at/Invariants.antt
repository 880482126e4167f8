use Rattle.im_atree.proofs.trees.Tree.root_at.Given as goal

abbrev pub ghosts-root_counted : goal.ghosts-root_counted
ghosts-root_counted g a = record { name = a.blank.name; parts = a.blank.parts }

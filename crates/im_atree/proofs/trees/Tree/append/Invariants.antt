use Rattle.im_atree.proofs.trees.Tree.append.Given as goal

abbrev pub ghosts-append_counted : goal.ghosts-append_counted
ghosts-append_counted g a = record { name = a.blank.name; parts = a.blank.parts }

use Rattle.im_table.proofs.tip.Tip.split.Given as goal

abbrev pub ghosts-split_as : goal.ghosts-split_as
ghosts-split_as g a = record { roles = a.roles; weight = a.weight }

use Rattle.im_table.proofs.tip.Tip.close.Given as goal

abbrev pub ghosts-close_as : goal.ghosts-close_as
ghosts-close_as g a = record { found = a.self.now.found; logs = a.self.now.logs }

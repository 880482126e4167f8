use Rattle.im_table.proofs.tip.Tip.load_placed.Given as goal

abbrev pub ghosts-load_placed_as : goal.ghosts-load_placed_as
ghosts-load_placed_as g a = record { found = a.self.now.found; logs = a.self.now.logs }

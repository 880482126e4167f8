use Rattle.im_table.proofs.tip.Tip.store_placed.Given as goal

abbrev pub ghosts-store_as : goal.ghosts-store_as
ghosts-store_as g a = record { item = a.item.now }

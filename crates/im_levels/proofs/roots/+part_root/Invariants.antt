use Rattle.im_levels.proofs.roots.+part_root.Given as goal

abbrev pub decreases-part_root : goal.decreases-part_root
decreases-part_root g l = l.part.width

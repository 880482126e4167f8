use Rattle.im_index.proofs.reads.versions.Given as goal

abbrev pub ghosts-versions_counted : goal.ghosts-versions_counted
ghosts-versions_counted a = record { name = a.blank.name; parts = a.blank.parts }
